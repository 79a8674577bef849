-- No event makes more unmarked write rights, except NEW and DUPW.
use Rattle.tw_copies.proofs.Names.{Action, Actor, ActorCounts, AllYes, AreRight, Bool, Called, Cause, Completed, Context, DataInstr, Frame, IfWent, IsCall, IsHeld, IsProgram, List, Ok, Procedure, Result, Some, State, Task, Typing, Typings, WrongCall, accepts, actor_cmp, actor_cmp-IsAntisymmetric, actor_cmp_total, after_context, ap, arith, ask_event, ask_leaves, asked_at, at_stage, called, context_of, data_instr, deliver_event, deliver_leaves, end_event, end_leaves, false, filled, first_rights, frame_after_call, get, ids_in, if_both, if_enabled, if_only, if_there, is_call, local_event, local_steps, nat_cmp, nat_cmp-IsAntisymmetric, nat_cmp_total, new_rule, not, ok_first, params_in, params_of, position_there, put_call, put_called, refl, release_event, release_leaves, requires_args, requires_callee, requires_priority, same_Some, slice_get, start_typing, steps_leave, subst, sym, take_event, take_leaves, task_from, there_then, true, typed_after, typed_at_start, typing_at, typing_of, values_in, with_frame, with_rule, with_task, without_args, yes_after, ℕ, ◌+◌, ◌==◌, ◌∙◌, ◌≡◌, ◌≤◌}
use Rattle.tw_types.specs.declared.stage.Stage.TheVariants.{Ready, Waiting}
use Rattle.tw_types.specs.declared.actor.Kind.{Kind}
use Rattle.tw_types.specs.declared.notice.Notice.{Notice}
use Rattle.tw_types.proofs.Best.{best_waits}
use Rattle.tw_code.specs.declared.instr.Instr.TheVariants as instr
use Rattle.tw_soundness.proofs.Called.{callee_met}
use Rattle.tw_copies.proofs.Marking.{AreHanded, Marked, Marks, marked_by}
use Rattle.tw_copies.proofs.Along.{steps_marks}
use Rattle.tw_copies.proofs.DataSpare.{DataSpare, data_spare, new_writes}
use Rattle.tw_copies.proofs.Handing.{handed_spare}
use Rattle.tw_copies.proofs.Spare.{spare, spare_args, spare_less, start_spare}
use Rattle.tw_copies.proofs.Summing.{IsCarried, frame_spare, put_less, removed_less, removed_some, replaced_less, rule_spare, spare_of, task_spare}

module _ (program : List Procedure) (typings : Typings) (proper : IsProgram program) (are : AreRight program typings) (s : State) (held : IsHeld program typings s) (marks : Marks) (carried : IsCarried program marks) where
  abbrev pub HasLess : State → Type 0
  HasLess next = (d : ℕ) → spare_of program typings marks d next ≤ spare_of program typings marks d s

  -- ---- tasks start, go on and end

  same_frame : (y z : Frame) → ◌≡◌ {A = Result Frame Cause} (Ok y) (Ok z) → y ≡ z
  same_frame y z e = cc

  pub take_less : (layout : ActorCounts) (a : Actor) → IfWent (take_event program layout a s) HasLess
  take_less layout a = take_leaves program a s layout (λ e frame first begun d.
      let t : Task = e.1 in
      let q = there_then (slice_get program t.procedure) WrongCall _ frame begun in
      let v = ok_first (filled (values_in t.args) q.0.registers) _ frame q.2 in
      let is = same_frame _ frame v.2 in
      let waits = best_waits a s.tasks e first in
      let fit = held.types.args e.0 t q.0 waits q.1 in
      let start = start_spare d (marks t.procedure 0) s.store q.0.params t.args fit in
      let typing : spare d (marks t.procedure 0) (typing_at typings t.procedure 0) (first_rights (ids_in t.args)) ≡ spare d (marks t.procedure 0) (start_typing q.0.params) (first_rights (ids_in t.args)) =
      ap (λ (z : Typing). spare d (marks t.procedure 0) z (first_rights (ids_in t.args))) (typed_at_start program typings proper are t.procedure q.0 q.1) in
      let own : spare d (marks t.procedure 0) (typing_at typings t.procedure 0) (first_rights (ids_in t.args)) ≡ frame_spare program typings marks d frame = ap (frame_spare program typings marks d) is in
      let params : task_spare program typings marks d t ≡ spare_args d (marks t.procedure 0) q.0.params t.args = ap (λ o. spare_args d (marks t.procedure 0) (params_in o) t.args) q.1 in
      let put = put_less actor_cmp actor_cmp_total actor_cmp-IsAntisymmetric (frame_spare program typings marks d) s.frames a frame in
      let gone = removed_less nat_cmp nat_cmp_total nat_cmp-IsAntisymmetric (task_spare program typings marks d) s.tasks e.0 t waits in
      omega (arith, start, typing, own, params, put, gone))

  pub local_less : (a : Actor) (n : ℕ) → IfWent (local_event program a n s) HasLess
  local_less a n = if_only (not (n == 0)) (λ some. if_enabled (get s.frames a) (λ f runs. if_there (slice_get program f.procedure) WrongCall (λ p here. if_both (local_steps n p.code f.position) (λ at went. record {
    is = λ d.
        let typing : typing_at typings f.procedure at.place ≡ typing_of typings f = steps_leave program typings proper are s held a f runs p here n at went in
        let same = ap (λ (z : Typing). spare d (marks f.procedure at.place) z f.rights) typing in
        let less = spare_less d (marks f.procedure f.position.place) (marks f.procedure at.place) (typing_of typings f) f.rights
        (steps_marks program marks carried f.procedure (typings f.procedure) p here (accepts program typings proper are f.procedure p here) n f.spent f.position at (position_there program typings proper are s held a f runs p here) went) in
        let put = replaced_less actor_cmp actor_cmp_total actor_cmp-IsAntisymmetric (frame_spare program typings marks d) s.frames a f (record f { position = at; spent = f.spent + n }) runs in
        omega (arith, same, less, put);
  }))))

  pub end_less : (a : Actor) → IfWent (end_event program a s) HasLess
  end_less a = end_leaves program a s (λ d. let gone = removed_some actor_cmp actor_cmp_total actor_cmp-IsAntisymmetric (frame_spare program typings marks d) s.frames a in omega (arith, gone))

  -- ---- rules and notices

  pub ask_less : (engine number parameter : ℕ) → IfWent (ask_event engine number parameter s) HasLess
  ask_less engine number parameter = ask_leaves s engine number parameter
      (λ rule id x u d. let put = replaced_less nat_cmp nat_cmp_total nat_cmp-IsAntisymmetric (rule_spare program typings marks d) s.rules number rule (at_stage rule parameter Ready) u.pending in omega (arith, put))
      (λ rule id x u d. let put = replaced_less nat_cmp nat_cmp_total nat_cmp-IsAntisymmetric (rule_spare program typings marks d) s.rules number rule (at_stage rule parameter Waiting) u.pending in omega (arith, put))

  pub deliver_less : (layout : ActorCounts) (server : ℕ) (n : Notice) → IfWent (deliver_event layout server n s) HasLess
  deliver_less layout server n = deliver_leaves s layout server n
      (λ has gone d. omega arith)
      (λ rule has pending d. let put = replaced_less nat_cmp nat_cmp_total nat_cmp-IsAntisymmetric (rule_spare program typings marks d) s.rules n.rule rule (at_stage rule n.parameter Ready) pending in omega (arith, put))

  pub release_less : (engine number : ℕ) → IfWent (release_event program engine number s) HasLess
  release_less engine number = release_leaves s program engine number (λ rule p pending settled d.
      let gone = removed_less nat_cmp nat_cmp_total nat_cmp-IsAntisymmetric (rule_spare program typings marks d) s.rules number rule pending in
      let put = put_less nat_cmp nat_cmp_total nat_cmp-IsAntisymmetric (task_spare program typings marks d) s.tasks s.next_task (task_from p.kind rule) in
      omega (arith, gone, put))

  -- ---- an instruction

  module _ (a : Actor) (f : Frame) (runs : get s.frames a ≡ Some f) (p : Procedure) (here : slice_get program f.procedure ≡ Some p) where
    abbrev pub now : Marked
    now = marks f.procedure f.position.place

    pub data_shown : (i : DataInstr) (c : Context) → slice_get p.code f.position.place ≡ Some (instr.Data i) → data_instr i (context_of s f) ≡ Ok c → DataSpare (typing_of typings f) i (context_of s f) c
    data_shown i c at e = data_spare p.registers (typing_of typings f) (context_of s f) i c (asked_at program typings proper are f.procedure p here f.position.place (instr.Data i) at) e

    pub data_less : (i : DataInstr) (c : Context) → slice_get p.code f.position.place ≡ Some (instr.Data i) → (e : data_instr i (context_of s f) ≡ Ok c) → ((r : ℕ) → marked_by i now r ≡ true → marks f.procedure c.position.place r ≡ true)
        → (d : ℕ) → spare_of program typings marks d (after_context s a f c) ≤ spare_of program typings marks d s + new_writes i s.store.next d
    data_less i c at e covers d =
        let shown = data_shown i c at e in
        let less = shown.less d now (marks f.procedure c.position.place) covers in
        let typing = (typed_after program typings proper are f.procedure p here f.position.place c.position.place (instr.Data i) shown.way at shown.goes_on).1 in
        let same = ap (λ (z : Typing). spare d (marks f.procedure c.position.place) z c.rights) typing in
        let put = replaced_less actor_cmp actor_cmp_total actor_cmp-IsAntisymmetric (frame_spare program typings marks d) s.frames a f (record f { position = c.position; rights = c.rights; spent = f.spent + 1 }) runs in
        omega (arith, less, same, put)

    module _ (action : Action) (waits : Bool) (call : Called) (so : IsCall program f action call)
        (met : AllYes (requires_callee waits p.registers (slice_get program action.procedure) action.args (typing_of typings f)))
        (hands : AreHanded now (marks action.procedure 0) (params_of program action.procedure) action.args)
        (later : (r : ℕ) → now r ≡ true → marks f.procedure (f.position.place + 1) r ≡ true)
        (typing_is : typing_at typings f.procedure (f.position.place + 1) ≡ without_args (params_of program action.procedure) action.args (typing_of typings f)) where
      given_less : (d : ℕ) → frame_spare program typings marks d (frame_after_call f call.rights) + spare_args d (marks call.task.procedure 0) (params_of program call.task.procedure) call.task.args ≤ frame_spare program typings marks d f
      given_less d =
          let c = callee_met waits p.registers (slice_get program action.procedure) action.args (typing_of typings f) met in
          let same : c.procedure ≡ so.callee = same_Some c.procedure so.callee (sym c.is ∙ so.is) in
          let params : params_of program action.procedure ≡ so.callee.params = ap params_in so.is in
          let less = handed_spare waits p.registers f.position.values d now so.callee.params action.args (typing_of typings f) f.rights (marks action.procedure 0) so.given
          (subst (λ (q : Procedure). AllYes (requires_args waits p.registers q.params action.args (typing_of typings f))) same c.met)
          (subst (λ ps. AreHanded now (marks action.procedure 0) ps action.args) params hands) so.gives in
          let child : spare_args d (marks call.task.procedure 0) (params_of program call.task.procedure) call.task.args ≡ spare_args d (marks action.procedure 0) so.callee.params so.given.args =
          ap (λ k. spare_args d (marks k 0) (params_of program k) call.task.args) so.procedure ∙ ap (spare_args d (marks action.procedure 0) (params_of program action.procedure)) so.args ∙ ap (λ ps. spare_args d (marks action.procedure 0) ps so.given.args) params in
          let rest : frame_spare program typings marks d (frame_after_call f call.rights) ≡ spare d (marks f.procedure (f.position.place + 1)) (without_args so.callee.params action.args (typing_of typings f)) so.given.rights =
          ap (λ (z : Typing). spare d (marks f.procedure (f.position.place + 1)) z call.rights) (typing_is ∙ ap (λ ps. without_args ps action.args (typing_of typings f)) params)
          ∙ ap (spare d (marks f.procedure (f.position.place + 1)) (without_args so.callee.params action.args (typing_of typings f))) so.rights in
          let on = spare_less d now (marks f.procedure (f.position.place + 1)) (without_args so.callee.params action.args (typing_of typings f)) so.given.rights later in
          omega (arith, less, child, rest, on)

    pub rule_less : (action : Action) (kind : Kind) (engine : ℕ) (call : Called) → slice_get p.code f.position.place ≡ Some (instr.Rule action) → called program kind (context_of s f) action ≡ Ok call
        → HasLess (with_frame (with_rule s (new_rule engine call.params call.task)) a (frame_after_call f call.rights))
    rule_less action kind engine call at e d =
        let given = given_less action true call (is_call program s f kind action call e)
        (yes_after (requires_priority p.registers action.priority) _ (asked_at program typings proper are f.procedure p here f.position.place (instr.Rule action) at).1)
        (carried.rules f.procedure f.position.place p action here at)
        (λ r. carried.later f.procedure f.position.place (f.position.place + 1) r p (instr.Rule action) Completed here at refl refl)
        (typed_after program typings proper are f.procedure p here f.position.place (f.position.place + 1) (instr.Rule action) Completed at refl).1 d in
        let put = replaced_less actor_cmp actor_cmp_total actor_cmp-IsAntisymmetric (frame_spare program typings marks d) s.frames a f (frame_after_call f call.rights) runs in
        let more = put_less nat_cmp nat_cmp_total nat_cmp-IsAntisymmetric (rule_spare program typings marks d) s.rules s.next_rule (new_rule engine call.params call.task) in
        omega (arith, given, put, more)

    pub put_less_by : (action : Action) (kind : Kind) (call : Called) → slice_get p.code f.position.place ≡ Some (instr.Put action) → put_called program kind (context_of s f) action ≡ Ok call
        → HasLess (with_frame (with_task s call.task) a (frame_after_call f call.rights))
    put_less_by action kind call at e d =
        let given = given_less action false call (is_call program s f kind action call (put_call program s f kind action call e))
        (yes_after (requires_priority p.registers action.priority) _ (asked_at program typings proper are f.procedure p here f.position.place (instr.Put action) at).1)
        (carried.puts f.procedure f.position.place p action here at)
        (λ r. carried.later f.procedure f.position.place (f.position.place + 1) r p (instr.Put action) Completed here at refl refl)
        (typed_after program typings proper are f.procedure p here f.position.place (f.position.place + 1) (instr.Put action) Completed at refl).1 d in
        let put = replaced_less actor_cmp actor_cmp_total actor_cmp-IsAntisymmetric (frame_spare program typings marks d) s.frames a f (frame_after_call f call.rights) runs in
        let more = put_less nat_cmp nat_cmp_total nat_cmp-IsAntisymmetric (task_spare program typings marks d) s.tasks s.next_task call.task in
        omega (arith, given, put, more)
