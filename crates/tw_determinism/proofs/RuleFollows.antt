-- The core machine follows RULE and PUT.
use Rattle.std.proofs.Common.{◌≡◌, inl, inr, ℕ, ◌+◌, ◌==◌, Bool, true, false, List, [], ◌∷◌, ◌++◌, length, Option, Some, None, refl, sym, ap, subst, ◌∙◌, slice_get, slice_set, arith, nat_cmp, if◌then◌else◌}
use Rattle.tw_determinism.proofs.MachineNames.{Action, Actor, AllYes, AreRight, ArgumentNotClosed, Called, Cause, Closed, Completed, EmptyRegister, Frame, FreedDatum, Instr, IsHeld, IsProgram, Mode, MovedArgs, Ok, Param, Procedure, Ref, Result, RightArg, RightType, Rights, Rule, Scalar, State, Task, Typing, Typings, Val, Value, ValueArg, Write, WrongCall, WrongRegister, WrongType, actor_cmp, actor_cmp-IsAntisymmetric, actor_cmp_total, all_pass, and_parts, asked_at, at_next_place, called, context_of, frame_after_call, fresh_rule, fresh_task, get, held, insert, insert_other, insert_same, is_closed_if_required, is_closed_mode, is_control, is_live, is_of_type, is_read, is_val, is_write, moved_args, must_then, nat_cmp-IsAntisymmetric, nat_cmp_total, new_rule, ok_first, ok_or, option_and_then, option_map, params_in, params_of, part, passed, passes, priority_at, put_called, put_or_before, requires_args, requires_callee, requires_priority, requires_value, right_at, right_fits_param, same_Some, same_type, suits_mode, there_then, total, total-insert, typed_after, typing_at, typing_of, values_in, values_suit, with_arg, with_frame, with_rule, with_task, without_args, yes_after}
use Rattle.tw_code.specs.declared.instr.Instr.TheVariants as instr
use Rattle.tw_types.specs.declared.actor.Kind.{Kind}
use Rattle.tw_types.specs.Result.{◌>>=◌}
use Rattle.tw_soundness.proofs.Called.{callee_met}
use Rattle.tw_determinism.proofs.Names.{Name, name_cmp, name_cmp_total, name_cmp-same}
use Rattle.tw_determinism.proofs.CoreEffects.{Blind, Handed, Makes, Net, Running, Runs, Thread, Threads, Waiting, Waits, by_instr, cell_at, handed, made, next_name, subject_of, subject_of_instr, with_given, with_moved}
use Rattle.tw_determinism.proofs.CoreMachine.{Steps, Wills}
use Rattle.tw_determinism.proofs.DataFollows.{Goes, instr_is, replaced, there}
use Rattle.tw_determinism.proofs.Growing.{made_kept}
use Rattle.tw_determinism.proofs.Holding.{changed, holder_dec, holder_itself, is_same, joined, other_holder, renamed}
use Rattle.tw_determinism.proofs.Persisting.{new_thread}
use Rattle.tw_determinism.proofs.Showing.{Holder, OfFrame, OfTask, OfRule, Naming, Shows, ShowsCells, ShowsShared, alive, awaits_in, named, named_at, named_one, named_set, one, rights_in, running, thread_in, waiting}

-- ---- the arguments

-- what is handed over, by names
abbrev handed_as : (ℕ → Name) → List Param → List ℕ → Typing → MovedArgs → Handed
handed_as f params registers typing h = record { values = values_in h.args; rights = rights_in f params h.args; awaits = awaits_in f params h.args; left = named f (without_args params registers typing) h.rights }

pub same_handed : (y z : MovedArgs) → ◌≡◌ {A = Result MovedArgs Cause} (Ok y) (Ok z) → y ≡ z
same_handed y z e = cc

-- a right that suits a mode is to write if the mode is
pub suits_write : (waits : Bool) (mode : Mode) (right : RightType) → suits_mode waits mode right ≡ true → is_write right.mode ≡ is_write mode
suits_write waits mode right e = by mode right.mode e
  where
    closed : (b : Bool) (have : Mode) → (if b then is_read have else is_closed_mode have) ≡ true → is_write have ≡ false
    closed true Val e = cc
    closed true Closed e = refl
    closed true Ref e = refl
    closed true Write e = cc
    closed false Val e = cc
    closed false Closed e = refl
    closed false Ref e = cc
    closed false Write e = cc

    by : (mode have : Mode) → suits_mode waits mode (record right { mode = have }) ≡ true → is_write have ≡ is_write mode
    by Val have e = cc
    by Closed have e = closed waits have e
    by Ref Val e = cc
    by Ref Closed e = refl
    by Ref Ref e = refl
    by Ref Write e = cc
    by Write Val e = cc
    by Write Closed e = cc
    by Write Ref e = cc
    by Write Write e = refl

module _ (f : ℕ → Name) (waits : Bool) (declared : List Scalar) (values : List Value) where
  abbrev Same : List Param → List ℕ → Typing → Rights → Type 0
  Same params registers typing ids = (h : MovedArgs) → AllYes (requires_args waits declared params registers typing) → moved_args values ids params registers ≡ Ok h
      → handed values (named f typing ids) params registers ≡ Some (handed_as f params registers typing h)

  abbrev as_if : Bool → Param → List Param → ℕ → List ℕ → Typing → MovedArgs → Handed
  as_if b p params register registers typing h = record {
    values = values_in h.args;
    rights = rights_in f (p ∷ params) h.args;
    awaits = awaits_in f (p ∷ params) h.args;
    left = named f (without_args params registers (if b then typing else slice_set typing register None)) h.rights;
  }

  one_more : (p : Param) (params : List Param) (register : ℕ) (registers : List ℕ) (typing : Typing) (ids : Rights) (h : MovedArgs) (b : Bool)
      → Same params registers typing ids → Same params registers (slice_set typing register None) (slice_set ids register None)
      → AllYes (if b then requires_value declared register p.ty.scalar ++ requires_args waits declared params registers typing else (4, passes (right_fits_param waits p) (right_at typing register)) ∷ requires_args waits declared params registers (slice_set typing register None))
      → (if b
      then (do
        x ← ok_or (slice_get values register) WrongRegister
        others ← moved_args values ids params registers
        Ok (with_arg (ValueArg x) others))
      else (do
        id ← held ids register
        others ← moved_args values (slice_set ids register None) params registers
        Ok (with_arg (RightArg id) others))) ≡ Ok h
      → (if b
      then option_and_then (λ x. option_map (with_given x) (handed values (named f typing ids) params registers)) (slice_get values register)
      else option_and_then (λ right. option_map (with_moved (is_closed_mode p.mode) right) (handed values (slice_set (named f typing ids) register None) params registers)) (right_at (named f typing ids) register))
      ≡ Some (as_if b p params register registers typing h)
  one_more p params register registers typing ids h true same less met e =
      let x = there_then (slice_get values register) WrongRegister _ h e in
      let others = ok_first (moved_args values ids params registers) _ h x.2 in
      let rest = same others.0 met.1.1 others.1 in
      ap (option_and_then (λ x. option_map (with_given x) (handed values (named f typing ids) params registers))) x.1
      ∙ ap (option_map (with_given x.0)) rest ∙ ap (λ z. Some (as_if true p params register registers typing z)) (same_handed (with_arg (ValueArg x.0) others.0) h others.2)
  one_more p params register registers typing ids h false same less met e =
      let id = there_then (right_at ids register) EmptyRegister _ h e in
      let others = ok_first (moved_args values (slice_set ids register None) params registers) _ h id.2 in
      let rest = less others.0 met.1 others.1 in
      let q = passed (right_fits_param waits p) (right_at typing register) met.0 in
      let kind = suits_write waits p.mode q.0 (and_parts (suits_mode waits p.mode q.0) (same_type q.0.ty p.ty) q.2).0 in
      let right_is : right_at (named f typing ids) register ≡ Some (record { write = is_write p.mode; of = f id.0 }) =
      named_at f typing ids register ∙ ap (λ t. named_one f t (right_at ids register)) q.1 ∙ ap (named_one f (Some q.0)) id.1 ∙ ap (λ b. Some (record { write = b; of = f id.0 })) kind in
      ap (option_and_then (λ right. option_map (with_moved (is_closed_mode p.mode) right) (handed values (slice_set (named f typing ids) register None) params registers))) right_is
      ∙ ap (λ z. option_map (with_moved (is_closed_mode p.mode) (record { write = is_write p.mode; of = f id.0 })) (handed values z params registers)) (named_set f typing ids register None None)
      ∙ ap (option_map (with_moved (is_closed_mode p.mode) (record { write = is_write p.mode; of = f id.0 }))) rest
      ∙ ap (λ z. Some (as_if false p params register registers typing z)) (same_handed (with_arg (RightArg id.0) others.0) h others.2)

  handed_named : (params : List Param) (registers : List ℕ) (typing : Typing) (ids : Rights) → Same params registers typing ids
  handed_named [] registers typing ids h met e = ap (λ (z : MovedArgs). Some (handed_as f [] registers typing z)) (same_handed (record { args = []; rights = ids }) h e)
  handed_named (p ∷ params) [] typing ids h met e = ap (λ (z : MovedArgs). Some (handed_as f (p ∷ params) [] typing z)) (same_handed (record { args = []; rights = ids }) h e)
  handed_named (p ∷ params) (register ∷ registers) typing ids h met e =
      one_more p params register registers typing ids h (is_val p.mode) (handed_named params registers typing ids) (handed_named params registers (slice_set typing register None) (slice_set ids register None)) met e

-- ---- the call

-- what a call that succeeds names
pub record IsCall (program : List Procedure) (fr : Frame) (action : Action) (call : Called) : Type 0 where
  pub callee : Procedure
  pub is : slice_get program action.procedure ≡ Some callee
  pub given : MovedArgs
  pub gives : moved_args fr.position.values fr.rights callee.params action.args ≡ Ok given
  pub procedure : call.task.procedure ≡ action.procedure
  pub args : call.task.args ≡ given.args
  pub rights : call.rights ≡ given.rights

same_call : (y z : Called) → ◌≡◌ {A = Result Called Cause} (Ok y) (Ok z) → y ≡ z
same_call y z e = cc

pub is_call : (program : List Procedure) (s : State) (fr : Frame) (kind : Kind) (action : Action) (call : Called) → called program kind (context_of s fr) action ≡ Ok call → IsCall program fr action call
is_call program s fr kind action call e =
    let q = there_then (slice_get program action.procedure) WrongCall _ call e in
    let long = must_then (length action.args == length q.0.params) WrongCall _ call q.2 in
    let control = must_then (is_control kind) WrongCall _ call long.1 in
    let suit = must_then (values_suit fr.position.values q.0.params action.args) WrongRegister _ call control.1 in
    let priority = ok_first (priority_at fr.position action.priority) _ call suit.1 in
    let given = ok_first (moved_args fr.position.values fr.rights q.0.params action.args) _ call priority.2 in
    let lives = must_then (all_pass is_live s.store.live q.0.params given.0.args) FreedDatum _ call given.2 in
    let typed = must_then (all_pass is_of_type s.store.live q.0.params given.0.args) WrongType _ call lives.1 in
    let same = same_call _ call typed.1 in
    record {
      callee = q.0;
      is = q.1;
      given = given.0;
      gives = given.1;
      procedure = ap (λ (z : Called). z.task.procedure) (sym same);
      args = ap (λ (z : Called). z.task.args) (sym same);
      rights = ap (λ (z : Called). z.rights) (sym same);
    }

pub put_call : (program : List Procedure) (s : State) (fr : Frame) (kind : Kind) (action : Action) (call : Called) → put_called program kind (context_of s fr) action ≡ Ok call → called program kind (context_of s fr) action ≡ Ok call
put_call program s fr kind action call e =
    let first = ok_first (called program kind (context_of s fr) action) _ call e in
    let shut = must_then (all_pass is_closed_if_required s.store.live first.0.params first.0.task.args) ArgumentNotClosed _ call first.2 in
    first.1 ∙ shut.1

-- ---- the step

module _ (program : List Procedure) (typings : Typings) (proper : IsProgram program) (are : AreRight program typings) (s : State) (held_so : IsHeld program typings s) (n : Naming) (m : Net) (shows : Shows program typings n s m)
    (a : Actor) (fr : Frame) (runs : get s.frames a ≡ Some fr) (p : Procedure) (here : slice_get program fr.procedure ≡ Some p) where
  abbrev own : Running
  own = running n.datum typings fr

  abbrev name : Name
  name = n.holder (OfFrame a)

  abbrev after_call : Called → Frame
  after_call call = frame_after_call fr call.rights

  -- the state after it: the frame is one instruction further, and one holder is new
  record IsMade1 (call : Called) (g : Holder) (next : State) : Type 0 where
    store : next.store ≡ s.store
    apart : g ≡ OfFrame a → ⊥
    free : thread_in program typings n.datum s g ≡ None
    goes_on : thread_in program typings n.datum next (OfFrame a) ≡ Some (Runs (running n.datum typings (after_call call)))
    new : thread_in program typings n.datum next g ≡ Some (Waits (waiting n.datum program call.task.procedure call.task.args))
    others : (h : Holder) → (h ≡ OfFrame a → ⊥) → (h ≡ g → ⊥) → thread_in program typings n.datum next h ≡ thread_in program typings n.datum s h
    count : total one next.frames + (total one next.tasks + total one next.rules) ≡ total one s.frames + (total one s.tasks + total one s.rules) + 1

  module _ (i : Instr) (at : slice_get p.code fr.position.place ≡ Some i) (action : Action) (waits : Bool) (call : Called) (so : IsCall program fr action call)
      (met : AllYes (requires_callee waits p.registers (slice_get program action.procedure) action.args (typing_of typings fr)))
      (by_is : (cell : _) → by_instr program (next_name name (Runs own)) cell own i ≡ by_instr program (next_name name (Runs own)) cell own (instr.Put action))
      (none : subject_of_instr own (Some i) ≡ Blind)
      (typing_is : typing_at typings fr.procedure (fr.position.place + 1) ≡ without_args (params_of program action.procedure) action.args (typing_of typings fr)) where
    h : Handed
    h = handed_as n.datum so.callee.params action.args (typing_of typings fr) so.given

    hands : handed fr.position.values own.rights so.callee.params action.args ≡ Some h
    unfolding h
    hands =
        let c = callee_met waits p.registers (slice_get program action.procedure) action.args (typing_of typings fr) met in
        let same : c.procedure ≡ so.callee = same_Some c.procedure so.callee (sym c.is ∙ so.is) in
        handed_named n.datum waits p.registers fr.position.values so.callee.params action.args (typing_of typings fr) fr.rights so.given
        (subst (λ (q : Procedure). AllYes (requires_args waits p.registers q.params action.args (typing_of typings fr))) same c.met) so.gives

    abbrev thread : Thread
    thread = Runs (record own { position = at_next_place fr.position; rights = h.left; spent = fr.spent + 1 })

    abbrev wills : Wills program m name
    wills = record {
      thread = Runs own;
      there = there program typings proper are s held_so n m shows a fr runs p here;
      awaited = λ j d is. cc;
      read = λ d is. (let nothing : subject_of program (Runs own) ≡ Blind = ap (subject_of_instr own) (instr_is program typings proper are s held_so n m shows a fr runs p here i at) ∙ none in cc);
      alone = λ d is not. (let nothing : subject_of program (Runs own) ≡ Blind = ap (subject_of_instr own) (instr_is program typings proper are s held_so n m shows a fr runs p here i at) ∙ none in cc);
      effect = record { thread = thread; act = Makes (made action h) };
      is = ap (option_and_then (by_instr program (next_name name (Runs own)) (cell_at m (subject_of program (Runs own))) own)) (instr_is program typings proper are s held_so n m shows a fr runs p here i at)
          ∙ by_is (cell_at m (subject_of program (Runs own)))
          ∙ ap (option_and_then (λ (q : Procedure). option_map (λ z. record { thread = Runs (record own { position = at_next_place own.position; rights = z.left; spent = own.spent + 1 }); act = Makes (made action z) }) (handed own.position.values own.rights q.params action.args))) so.is
          ∙ ap (option_map (λ z. record { thread = Runs (record own { position = at_next_place own.position; rights = z.left; spent = own.spent + 1 }); act = Makes (made action z) })) hands;
      target = tt;
    }

    params_are : params_of program action.procedure ≡ so.callee.params
    params_are = ap params_in so.is

    child_is : waiting n.datum program call.task.procedure call.task.args ≡ made action h
    unfolding h
    child_is =
        ap (λ k. waiting n.datum program k call.task.args) so.procedure ∙ ap (waiting n.datum program action.procedure) so.args
        ∙ ap (λ params. record { procedure = action.procedure; values = values_in so.given.args; rights = rights_in n.datum params so.given.args; awaits = awaits_in n.datum params so.given.args }) params_are

    own_is : running n.datum typings (after_call call) ≡ record own { position = at_next_place fr.position; rights = h.left; spent = fr.spent + 1 }
    unfolding h
    own_is =
        ap (λ t. record { procedure = fr.procedure; position = at_next_place fr.position; rights = named n.datum t call.rights; spent = fr.spent + 1 }) (typing_is ∙ ap (λ params. without_args params action.args (typing_of typings fr)) params_are)
        ∙ ap (λ rs. record { procedure = fr.procedure; position = at_next_place fr.position; rights = named n.datum (without_args so.callee.params action.args (typing_of typings fr)) rs; spent = fr.spent + 1 }) so.rights

    makes_follows : (g : Holder) (next : State) → IsMade1 call g next → Goes program typings n s m next
    makes_follows g next is =
        let new : Name = next_name name (Runs own) in
        let w : Waiting = made action h in
        let threads : Threads = insert (insert m.threads name thread) new (Waits w) in
        let to : Net = record { cells = m.cells; threads = threads; shared = m.shared } in
        let step : Steps program m name to = record { wills = wills; cells = refl; threads = refl; shared = refl } in
        let between : Holder → Option Thread = λ k. if is_same k (OfFrame a) then Some thread else thread_in program typings n.datum s k in
        let own_between : between (OfFrame a) ≡ Some thread = ap (λ b. if b then Some thread else thread_in program typings n.datum s (OfFrame a)) (holder_itself (OfFrame a)) in
        let other_between : (k : Holder) → (k ≡ OfFrame a → ⊥) → between k ≡ thread_in program typings n.datum s k = λ k apart. ap (λ b. if b then Some thread else thread_in program typings n.datum s k) (other_holder k (OfFrame a) apart) in
        let first = changed (thread_in program typings n.datum s) between n.holder m.threads shows.threads (OfFrame a) (Runs own) thread
        (ap (option_map (λ frame. Runs (running n.datum typings frame))) runs) (inl own_between) other_between in (
          1,
          record { datum = n.datum; holder = renamed n.holder g new; copied = n.copied; start = n.start },
          to,
          (name, to, step, refl),
          record {
            cells = subst (λ z. ShowsCells n.datum z m.cells) (sym is.store) shows.cells;
            shared = subst (λ z. ShowsShared n.datum n.copied n.start z m.cells m.shared) (sym is.store) shows.shared;
            threads = joined between (thread_in program typings n.datum next) n.holder (insert m.threads name thread) first g new (Waits w)
                (other_between g is.apart ∙ is.free)
                (λ th there_is. fresh th there_is)
                (is.new ∙ ap (λ z. Some (Waits z)) child_is)
                (λ k apart. after k apart);
            count = (
                let x = is.count in
                let y = total-insert name_cmp name_cmp_total alive m.threads name thread in
                let y_is : part alive (get m.threads name) ≡ 1 = ap (part alive) wills.there in
                let v = total-insert name_cmp name_cmp_total alive (insert m.threads name thread) new (Waits w) in
                let v_is : part alive (get (insert m.threads name thread) new) ≡ 0 = ap (part alive) (absent (get (insert m.threads name thread) new) refl) in
                let z = shows.count in
                omega (arith, x, y, y_is, v, v_is, z));
            made = made_kept program m to shows.made name step;
          },
          λ id less. refl,
          refl,
        )
      where
        fresh : (th : Thread) → get (insert m.threads name thread) (next_name name (Runs own)) ≡ Some th → ⊥
        fresh th there_is = elim (put_or_before name_cmp_total name_cmp-same m.threads name thread (next_name name (Runs own)) th there_is) [
          | inl same ↦ new_thread program m shows.made name wills (Runs own) (ap (get m.threads) same.0 ∙ wills.there)
          | inr old ↦ new_thread program m shows.made name wills th old
        ]

        absent : (o : Option Thread) → get (insert m.threads name thread) (next_name name (Runs own)) ≡ o → get (insert m.threads name thread) (next_name name (Runs own)) ≡ None
        absent None e = e
        absent (Some th) e = absurd (fresh th e)

        after : (k : Holder) → (k ≡ g → ⊥) → thread_in program typings n.datum next k ≡ (if is_same k (OfFrame a) then Some thread else thread_in program typings n.datum s k)
        after k apart = elim (holder_dec k (OfFrame a)) [
          | inl same ↦
              ap (thread_in program typings n.datum next) same ∙ is.goes_on ∙ ap (λ z. Some (Runs z)) own_is
              ∙ sym (ap (λ b. if b then Some thread else thread_in program typings n.datum s (OfFrame a)) (holder_itself (OfFrame a)))
              ∙ ap (λ z. if is_same z (OfFrame a) then Some thread else thread_in program typings n.datum s z) (sym same)
          | inr other ↦ is.others k other apart ∙ sym (ap (λ b. if b then Some thread else thread_in program typings n.datum s k) (other_holder k (OfFrame a) other))
        ]

  frame_goes_on : (call : Called) (frames : _) → frames ≡ insert s.frames a (after_call call) → option_map (λ frame. Runs (running n.datum typings frame)) (get frames a) ≡ Some (Runs (running n.datum typings (after_call call)))
  frame_goes_on call frames e = ap (λ z. option_map (λ frame. Runs (running n.datum typings frame)) (get z a)) e ∙ ap (option_map (λ frame. Runs (running n.datum typings frame))) (insert_same actor_cmp actor_cmp_total s.frames a (after_call call))

  -- a rule more
  ruled : (engine : ℕ) (call : Called) → IsMade1 call (OfRule s.next_rule) (with_frame (with_rule s (new_rule engine call.params call.task)) a (after_call call))
  ruled engine call = record {
    store = refl;
    apart = λ e. cc;
    free = ap (option_map (λ (rule : Rule). Waits (waiting n.datum program rule.procedure rule.args))) (fresh_rule program typings s held_so);
    goes_on = frame_goes_on call (insert s.frames a (after_call call)) refl;
    new = ap (option_map (λ (rule : Rule). Waits (waiting n.datum program rule.procedure rule.args))) (insert_same nat_cmp nat_cmp_total s.rules s.next_rule (new_rule engine call.params call.task));
    others = others;
    count = (
        let x = replaced actor_cmp_total one s.frames a fr (after_call call) runs refl in
        let y = total-insert nat_cmp nat_cmp_total one s.rules s.next_rule (new_rule engine call.params call.task) in
        let y_is : part one (get s.rules s.next_rule) ≡ 0 = ap (part one) (fresh_rule program typings s held_so) in
        omega (arith, x, y, y_is));
  }
    where
      others : (h : Holder) → (h ≡ OfFrame a → ⊥) → (h ≡ OfRule s.next_rule → ⊥)
          → thread_in program typings n.datum (with_frame (with_rule s (new_rule engine call.params call.task)) a (after_call call)) h ≡ thread_in program typings n.datum s h
      others (OfFrame b) apart new = ap (option_map (λ frame. Runs (running n.datum typings frame))) (insert_other actor_cmp actor_cmp_total actor_cmp-IsAntisymmetric s.frames a (after_call call) b (λ e. apart (ap OfFrame e)))
      others (OfTask k) apart new = refl
      others (OfRule k) apart new = ap (option_map (λ (rule : Rule). Waits (waiting n.datum program rule.procedure rule.args))) (insert_other nat_cmp nat_cmp_total nat_cmp-IsAntisymmetric s.rules s.next_rule (new_rule engine call.params call.task) k (λ e. new (ap OfRule e)))

  -- a task more
  tasked : (call : Called) → IsMade1 call (OfTask s.next_task) (with_frame (with_task s call.task) a (after_call call))
  tasked call = record {
    store = refl;
    apart = λ e. cc;
    free = ap (option_map (λ (task : Task). Waits (waiting n.datum program task.procedure task.args))) (fresh_task program typings s held_so);
    goes_on = frame_goes_on call (insert s.frames a (after_call call)) refl;
    new = ap (option_map (λ (task : Task). Waits (waiting n.datum program task.procedure task.args))) (insert_same nat_cmp nat_cmp_total s.tasks s.next_task call.task);
    others = others;
    count = (
        let x = replaced actor_cmp_total one s.frames a fr (after_call call) runs refl in
        let y = total-insert nat_cmp nat_cmp_total one s.tasks s.next_task call.task in
        let y_is : part one (get s.tasks s.next_task) ≡ 0 = ap (part one) (fresh_task program typings s held_so) in
        omega (arith, x, y, y_is));
  }
    where
      others : (h : Holder) → (h ≡ OfFrame a → ⊥) → (h ≡ OfTask s.next_task → ⊥) → thread_in program typings n.datum (with_frame (with_task s call.task) a (after_call call)) h ≡ thread_in program typings n.datum s h
      others (OfFrame b) apart new = ap (option_map (λ frame. Runs (running n.datum typings frame))) (insert_other actor_cmp actor_cmp_total actor_cmp-IsAntisymmetric s.frames a (after_call call) b (λ e. apart (ap OfFrame e)))
      others (OfTask k) apart new = ap (option_map (λ (task : Task). Waits (waiting n.datum program task.procedure task.args))) (insert_other nat_cmp nat_cmp_total nat_cmp-IsAntisymmetric s.tasks s.next_task call.task k (λ e. new (ap OfTask e)))
      others (OfRule k) apart new = refl

  pub rule_follows : (action : Action) (kind : Kind) (engine : ℕ) (call : Called) → slice_get p.code fr.position.place ≡ Some (instr.Rule action) → called program kind (context_of s fr) action ≡ Ok call
      → Goes program typings n s m (with_frame (with_rule s (new_rule engine call.params call.task)) a (frame_after_call fr call.rights))
  rule_follows action kind engine call at e =
      makes_follows (instr.Rule action) at action true call (is_call program s fr kind action call e)
      (yes_after (requires_priority p.registers action.priority) _ (asked_at program typings proper are fr.procedure p here fr.position.place (instr.Rule action) at).1)
      (λ cell. refl) refl (typed_after program typings proper are fr.procedure p here fr.position.place (fr.position.place + 1) (instr.Rule action) Completed at refl).1
      (OfRule s.next_rule) _ (ruled engine call)

  pub put_follows : (action : Action) (kind : Kind) (call : Called) → slice_get p.code fr.position.place ≡ Some (instr.Put action) → put_called program kind (context_of s fr) action ≡ Ok call
      → Goes program typings n s m (with_frame (with_task s call.task) a (frame_after_call fr call.rights))
  put_follows action kind call at e =
      makes_follows (instr.Put action) at action false call (is_call program s fr kind action call (put_call program s fr kind action call e))
      (yes_after (requires_priority p.registers action.priority) _ (asked_at program typings proper are fr.procedure p here fr.position.place (instr.Put action) at).1)
      (λ cell. refl) refl (typed_after program typings proper are fr.procedure p here fr.position.place (fr.position.place + 1) (instr.Put action) Completed at refl).1
      (OfTask s.next_task) _ (tasked call)
