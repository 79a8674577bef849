-- The three events of a running task keep the invariant, and never trap, if its step is one that the typing allows.
use Rattle.std.proofs.Common.{◌≡◌, ℕ, ◌+◌, ◌<◌, true, List, slice_get, Some, refl, sym, ap, subst, ◌∙◌, arith}
use Rattle.tw_soundness.proofs.MachineNames.{Action, Actor, Cause, Context, CountsHeld, DataInstr, Datum, Err, Frame, Instr, IsAtPosition, IsHeld, Ok, Outcome, Procedure, Result, RightType, RunningInstr, Scalar, State, TypesHeld, Typing, Typings, Went, actor_cmp, actor_cmp-IsAntisymmetric, actor_cmp_total, after_context, at_next_place, balanced_same, call_by, call_event, context_of, data_instr, frame_reads, frame_writes, get, insert, is_write, ok_of, option_flatten, outcome_of, params_of, requires_by_instr, requires_data, right_at, running_instr_of, same_Some, total, typing_at, typing_of, without_args, writes, ◌>>=◌}
use Rattle.tw_code.specs.declared.instr.DataInstr.TheVariants as on_data
use Rattle.tw_code.specs.declared.instr.Instr.TheVariants as instr
use Rattle.tw_soundness.proofs.DataNamed.{HasWriter, data_named}
use Rattle.tw_soundness.proofs.Framed.{types_framed, budgets_framed}
use Rattle.tw_soundness.proofs.Values.{AllYes, passed}
use Rattle.tw_soundness.proofs.Wanted.{wanted_is_there}
use Rattle.tw_soundness.proofs.Registers.{Fits, Settles, At, at_right, holds_undisturbed, rights_kept}
use Rattle.tw_soundness.proofs.Stages.{args_kept, rule_args_kept}
use Rattle.tw_soundness.proofs.Steps.{Goes, Keeps}
use Rattle.tw_soundness.proofs.TaskEvents.{other_reads, other_writes, fits_of, put_goes_on, rule_goes_on}
use Rattle.tw_soundness.proofs.Sums.{sum_apart, sum_replaced}

-- ---- a write that is copied has a holder

writer_found : (typing : Typing) (c : Context) (r w : ℕ → ℕ) (from : ℕ) (q : RightType) → is_write q.mode ≡ true → (h : At typing c r w from q) → (id : ℕ) (x : Datum) → right_at c.rights from ≡ Some id → get c.store.live id ≡ Some x → 0 < x.writes
writer_found typing c r w from q mode h id x at there =
    let id_is : h.id ≡ id = same_Some h.id id (sym (ap option_flatten h.register) ∙ at) in
    let x_is : h.x ≡ x = same_Some h.x x (sym h.live ∙ ap (get c.store.live) id_is ∙ there) in
    let some = h.has_write mode in
    let counts = h.writes in
    let more : 0 < h.x.writes = omega arith in
    subst (λ (y : Datum). 0 < y.writes) x_is more

pub has_writer : (registers : List Scalar) (c : Context) (typing : Typing) (r w : ℕ → ℕ) → Fits typing c r w → (i : DataInstr) → AllYes (requires_data registers i typing) → HasWriter c i
has_writer registers c typing r w fits (on_data.CopyWrite to from) met =
    let q = passed writes (right_at typing from) met.1.0 in
    writer_found typing c r w from q.0 q.2 (at_right from typing c r w q.0 fits q.1)
has_writer registers c typing r w fits (on_data.New write read ty) met = tt
has_writer registers c typing r w fits (on_data.Store datum from) met = tt
has_writer registers c typing r w fits (on_data.Get to datum) met = tt
has_writer registers c typing r w fits (on_data.Insert by container subscript member skip) met = tt
has_writer registers c typing r w fits (on_data.Look by member container subscript skip) met = tt
has_writer registers c typing r w fits (on_data.Size to container) met = tt
has_writer registers c typing r w fits (on_data.SubscriptAt by to container index skip) met = tt
has_writer registers c typing r w fits (on_data.InsertValue map subscript from skip) met = tt
has_writer registers c typing r w fits (on_data.AddValue map subscript from) met = tt
has_writer registers c typing r w fits (on_data.GetValue to map subscript skip) met = tt
has_writer registers c typing r w fits (on_data.CopyRead to from) met = tt
has_writer registers c typing r w fits (on_data.DropRead right) met = tt
has_writer registers c typing r w fits (on_data.DropWrite right) met = tt

-- ---- a task continues

module _ (program : List Procedure) (typings : Typings) (s : State) (held : IsHeld program typings s) (a : Actor) (f : Frame) (is : get s.frames a ≡ Some f) (p : Procedure) (here : slice_get program f.procedure ≡ Some p) where
  -- the result of an instruction on data: the task's position is right, and the rest fits the typing there
  pub record LeftSo (c : Context) : Type 0 where
    pub fits_place : IsAtPosition p (f.spent + 1) c.position
    pub settles : Settles (typing_at typings f.procedure c.position.place) (context_of s f) (other_reads program typings s a) (other_writes program typings s a) c

  -- where a task continues after a RULE or PUT, which are straight
  pub record GoesAfter (action : Action) : Type 0 where
    pub fits_place : IsAtPosition p (f.spent + 1) (at_next_place f.position)
    pub next : typing_at typings f.procedure (f.position.place + 1) ≡ without_args (params_of program action.procedure) action.args (typing_of typings f)

  -- its instruction's turn
  pub record Turn (i : Instr) : Type 0 where
    pub met : AllYes (requires_by_instr program p i (typing_of typings f))
    pub by_data : (d : DataInstr) → i ≡ instr.Data d → Goes (data_instr d (context_of s f)) LeftSo
    pub after_rule : (action : Action) → i ≡ instr.Rule action → GoesAfter action
    pub after_put : (action : Action) → i ≡ instr.Put action → GoesAfter action

  module _ (c : Context) (l : LeftSo c) where
    abbrev next_frame : Frame
    next_frame = record f { position = c.position; rights = c.rights; spent = f.spent + 1 }

    types_stored : TypesHeld program typings (record s { store = c.store; notices = c.notices })
    types_stored = record {
      procedures = record { frames = held.types.procedures.frames; tasks = held.types.procedures.tasks; rules = held.types.procedures.rules };
      store = l.settles.fits.store;
      values = held.types.values;
      rights = λ b g at. rights_kept s.store c.store (typing_of typings g) g.rights (holds_undisturbed s.store c.store l.settles.others) (held.types.rights b g at);
      args = λ m t q at there. args_kept s.store c.store l.settles.others q.params t.args (held.types.args m t q at there);
      rules = λ m t q at there. rule_args_kept s.store c.store l.settles.others q.params t.stages t.args (held.types.rules m t q at there);
    }

    types_left : TypesHeld program typings (after_context s a f c)
    types_left = types_framed program typings (record s { store = c.store; notices = c.notices }) a next_frame p here l.fits_place l.settles.fits.rights types_stored

    counts_left : CountsHeld program typings (after_context s a f c)
    counts_left = record {
      writers = l.settles.fits.writers;
      balanced = balanced_same c.store.live _ _ _ _ l.settles.fits.balanced (λ d.
          let g = sum_apart actor_cmp actor_cmp_total actor_cmp-IsAntisymmetric (frame_reads typings d) s.frames a f is in
          let h = sum_apart actor_cmp actor_cmp_total actor_cmp-IsAntisymmetric (frame_writes typings d) s.frames a f is in
          let j : total (frame_reads typings d) (insert s.frames a next_frame) + frame_reads typings d f ≡ frame_reads typings d next_frame + total (frame_reads typings d) s.frames = sum_replaced actor_cmp actor_cmp_total actor_cmp-IsAntisymmetric (frame_reads typings d) s.frames a f next_frame is in
          let k : total (frame_writes typings d) (insert s.frames a next_frame) + frame_writes typings d f ≡ frame_writes typings d next_frame + total (frame_writes typings d) s.frames = sum_replaced actor_cmp actor_cmp_total actor_cmp-IsAntisymmetric (frame_writes typings d) s.frames a f next_frame is in
          (omega arith, omega arith));
    }

    left_held : (i : DataInstr) → AllYes (requires_data p.registers i (typing_of typings f)) → data_instr i (context_of s f) ≡ Ok c → IsHeld program typings (after_context s a f c)
    left_held i met e = record {
      numbers = record { tasks = held.numbers.tasks; rules = held.numbers.rules };
      types = types_left;
      counts = counts_left;
      notices = ok_of (data_instr i (context_of s f)) _ c
          (data_named s.rules (context_of s f) held.notices (λ d w. wanted_is_there program typings s held.types held.counts d w) held.types.store i
          (has_writer p.registers (context_of s f) (typing_of typings f) (other_reads program typings s a) (other_writes program typings s a) (fits_of program typings s held a f is) i met)) e
          (λ d w. wanted_is_there program typings (after_context s a f c) types_left counts_left d w);
      budgets = budgets_framed program typings (record s { store = c.store; notices = c.notices }) a next_frame p here l.fits_place (record { begun = held.budgets.begun; within = held.budgets.within });
    }

  keeps_data : (i : DataInstr) (o : Result Context Cause) → data_instr i (context_of s f) ≡ o → AllYes (requires_data p.registers i (typing_of typings f)) → Goes o LeftSo → Keeps (outcome_of o >>= λ c. Went (after_context s a f c)) (IsHeld program typings)
  keeps_data i (Ok c) e met l = left_held c l i met e
  keeps_data i (Err cause) e met l = l

  pub call_keeps : (i : Instr) → slice_get p.code f.position.place ≡ Some i → Turn i → Keeps (call_event program a s) (IsHeld program typings)
  call_keeps i at_place turn = subst (λ (o : Outcome RunningInstr). Keeps (o >>= λ at. call_by program s a at at.instr) (IsHeld program typings)) (sym running_instr_is) (by i turn)
    where
      running_instr_is : running_instr_of program a s ≡ Went (record { frame = f; procedure = p; instr = i })
      running_instr_is = rw (is, here, at_place) refl

      by : (i : Instr) → Turn i → Keeps (call_by program s a (record { frame = f; procedure = p; instr = i }) i) (IsHeld program typings)
      by (instr.Local j) t = tt
      by (instr.Data d) t = keeps_data d (data_instr d (context_of s f)) refl t.met (t.by_data d refl)
      by (instr.Rule action) t = rule_goes_on program typings s held a f is p here action (t.after_rule action refl).fits_place (t.after_rule action refl).next (record { frame = f; procedure = p; instr = instr.Rule action }) refl refl t.met
      by (instr.Put action) t = put_goes_on program typings s held a f is p here action (t.after_put action refl).fits_place (t.after_put action refl).next (record { frame = f; procedure = p; instr = instr.Put action }) refl refl t.met
      by instr.Ret t = tt
