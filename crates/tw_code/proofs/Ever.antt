-- The next instruction of a running task makes an enabled event: it succeeds or traps.
use Rattle.std.proofs.Common.{◌≡◌, ◌≢◌, List, Option, Some, None, slice_get, is_none, refl}
use Rattle.std.specs.Prelude.{Result, Ok, Err}
use Rattle.std.specs.FinMap.{get}
use Rattle.std.specs.List.{list_all}
use Rattle.std.specs.Option.{option_and_then}
use Rattle.tw_types.specs.declared.actor.Actor.{Actor}
use Rattle.tw_types.specs.declared.cause.Cause.{Cause}
use Rattle.tw_types.specs.declared.cause.Cause.TheVariants.{RightLeft}
use Rattle.tw_types.specs.Layout.{ActorCounts}
use Rattle.tw_types.specs.Outcome.{Outcome, Went, NotEnabled, Trap, ◌>>=◌, ◌>>◌, outcome_of}
use Rattle.tw_types.specs.Result.{must}
use Rattle.tw_code.specs.declared.instr.Instr.{Instr}
use Rattle.tw_code.specs.declared.instr.Instr.TheVariants as instr
use Rattle.tw_code.specs.declared.procedure.Procedure.{Procedure}
use Rattle.tw_code.specs.machine.Arguments.{called, put_called}
use Rattle.tw_code.specs.machine.Data.{data_instr}
use Rattle.tw_code.specs.machine.Due.{instr_here, event_of}
use Rattle.tw_code.specs.machine.Local.{local_instr}
use Rattle.tw_code.specs.machine.Machine.{step}
use Rattle.tw_code.specs.machine.State.{Frame, State, context_of}

-- as a type that computes
abbrev pub GoesOrTraps : {A : Type 0} → Outcome A → Type 0
GoesOrTraps (Went x) = Unit {0}
GoesOrTraps NotEnabled = ⊥
GoesOrTraps (Trap cause) = Unit {0}

pub is_enabled : {A : Type 0} (o : Outcome A) → GoesOrTraps o → o ≢ NotEnabled
is_enabled (Went x) h e = cc
is_enabled NotEnabled h e = h
is_enabled (Trap cause) h e = cc

pub went_after : {A B : Type 0} (r : Result A Cause) (f : A → B) → GoesOrTraps (outcome_of r >>= λ x. Went (f x))
went_after (Ok x) f = tt
went_after (Err cause) f = tt

-- one step of several local instructions
went_one : {A B : Type 0} (r : Result A Cause) (f : A → B) → GoesOrTraps ((outcome_of r >>= λ x. Went x) >>= λ x. Went (f x))
went_one (Ok x) f = tt
went_one (Err cause) f = tt

went_then : {B : Type 0} (r : Result (Unit {0}) Cause) (y : B) → GoesOrTraps (outcome_of r >> Went y)
went_then (Ok x) y = tt
went_then (Err cause) y = tt

module _ (program : List Procedure) (layout : ActorCounts) (actor : Actor) (s : State) (frame : Frame) (here : get s.frames actor ≡ Some frame) where
  abbrev Moves : Option Instr → Type 0
  Moves i = GoesOrTraps (step program layout (event_of actor i) s)

  by_instr : (p : Procedure) → slice_get program frame.procedure ≡ Some p → (o : Option Instr) → slice_get p.code frame.position.place ≡ o → Moves o
  unfolding step
  by_instr p is None at = rw (here, is, at) tt
  by_instr p is (Some (instr.Local i)) at = rw (here, is, at) (went_one (local_instr i frame.position) _)
  by_instr p is (Some (instr.Data i)) at = rw (here, is, at) (went_after (data_instr i (context_of s frame)) _)
  by_instr p is (Some (instr.Rule action)) at = rw (here, is, at) (went_after (called program p.kind (context_of s frame) action) _)
  by_instr p is (Some (instr.Put action)) at = rw (here, is, at) (went_after (put_called program p.kind (context_of s frame) action) _)
  by_instr p is (Some instr.Ret) at = rw (here, is, at) (went_then (must (list_all is_none frame.rights) RightLeft) _)

  by_procedure : (o : Option Procedure) → slice_get program frame.procedure ≡ o → Moves (option_and_then (λ p. slice_get p.code frame.position.place) o)
  unfolding step
  by_procedure None is = rw (here, is) tt
  by_procedure (Some p) is = by_instr p is (slice_get p.code frame.position.place) refl

  -- for any program: a task that isn't at an instruction traps
  pub frame_moves : Moves (instr_here program frame)
  frame_moves = by_procedure (slice_get program frame.procedure) refl
