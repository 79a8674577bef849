-- The place of a contested insertion, and the instruction there.
use Rattle.std.proofs.Common.{◌≡◌, ℕ, true, false, List, Option, Some, None, MatchOption, slice_get, refl, sym, subst, nat_cmp}
use Rattle.std.specs.BTreeSet.{BTreeSet, contains}
use Rattle.std.specs.FinMap.{get}
use Rattle.tw_types.specs.declared.actor.Actor.{Actor}
use Rattle.tw_types.specs.declared.event.Event.{Event}
use Rattle.tw_types.specs.declared.event.Event.TheVariants.{Call}
use Rattle.tw_code.specs.declared.instr.DataInstr.TheVariants as on_data
use Rattle.tw_code.specs.declared.instr.Instr.{Instr}
use Rattle.tw_code.specs.declared.instr.Instr.TheVariants as instr
use Rattle.tw_code.specs.declared.procedure.Procedure.{Procedure}
use Rattle.tw_code.specs.machine.Due.{instr_here}
use Rattle.tw_code.specs.machine.State.{Frame, State}
use Rattle.tw_copies.specs.declared.check.CopyInsertion.{CopyInsertion}
use Rattle.tw_determinism.proofs.Options.{some_first}
use Rattle.tw_determinism.specs.Contested.{Copied, contests, is_contest, is_contest_of}
use Rattle.tw_certificate.specs.FirstContest.{CallsAt, IsInsertion}
use Rattle.tw_certificate.specs.Noted.{IsCalm, IsContestedAt, IsPlaceOf, Notes}

module _ (program : List Procedure) (s : State) (c : Copied) where
  inserts_here : (frame : Frame) (i : Option Instr) → instr_here program frame ≡ i → is_contest c s.store frame i ≡ true → IsInsertion program frame.procedure frame.position.place
  inserts_here frame None e is = cc
  inserts_here frame (Some (instr.Local i)) e is = cc
  inserts_here frame (Some (instr.Data (on_data.New write read ty))) e is = cc
  inserts_here frame (Some (instr.Data (on_data.Store datum from))) e is = cc
  inserts_here frame (Some (instr.Data (on_data.Get to datum))) e is = cc
  inserts_here frame (Some (instr.Data (on_data.Insert by container subscript member skip))) e is =
      let f = some_first (slice_get program frame.procedure) (λ p. slice_get p.code frame.position.place) (instr.Data (on_data.Insert by container subscript member skip)) e in
      record { i = instr.Data (on_data.Insert by container subscript member skip); is = (f.0, f.1, f.2); container = container; inserts = refl }
  inserts_here frame (Some (instr.Data (on_data.Look by member container subscript skip))) e is = cc
  inserts_here frame (Some (instr.Data (on_data.Size to container))) e is = cc
  inserts_here frame (Some (instr.Data (on_data.SubscriptAt by to container index skip))) e is = cc
  inserts_here frame (Some (instr.Data (on_data.InsertValue map subscript from skip))) e is =
      let f = some_first (slice_get program frame.procedure) (λ p. slice_get p.code frame.position.place) (instr.Data (on_data.InsertValue map subscript from skip)) e in
      record { i = instr.Data (on_data.InsertValue map subscript from skip); is = (f.0, f.1, f.2); container = map; inserts = refl }
  inserts_here frame (Some (instr.Data (on_data.AddValue map subscript from))) e is = cc
  inserts_here frame (Some (instr.Data (on_data.GetValue to map subscript skip))) e is = cc
  inserts_here frame (Some (instr.Data (on_data.CopyRead to from))) e is = cc
  inserts_here frame (Some (instr.Data (on_data.CopyWrite to from))) e is = cc
  inserts_here frame (Some (instr.Data (on_data.DropRead right))) e is = cc
  inserts_here frame (Some (instr.Data (on_data.DropWrite right))) e is = cc
  inserts_here frame (Some (instr.Rule action)) e is = cc
  inserts_here frame (Some (instr.Put action)) e is = cc
  inserts_here frame (Some instr.Ret) e is = cc

  inserts_at : (o : Option Frame) (procedure place : ℕ) → is_contest_of program c s o ≡ true → IsPlaceOf o procedure place → IsInsertion program procedure place
  inserts_at None procedure place is at = absurd at
  inserts_at (Some frame) procedure place is at =
      subst (IsInsertion program procedure) at.1 (subst (λ (n : ℕ). IsInsertion program n frame.position.place) at.0 (inserts_here frame (instr_here program frame) refl is))

module _ (program : List Procedure) (event : Event) (s : State) (set : BTreeSet ℕ) (actor : Actor) (call : event ≡ Call actor) where
  calls_at : (o : Option Frame) (procedure place : ℕ) → get s.frames actor ≡ o → IsPlaceOf o procedure place → CallsAt event s procedure place
  calls_at None procedure place is at = absurd at
  calls_at (Some frame) procedure place is at = record { actor = actor; call = call; frame = frame; runs = is; in_procedure = at.0; at_place = at.1 }

  -- the data of the set, as what has been copied
  abbrev own : Copied
  own = contains nat_cmp set

  pub contest_here : (found : Option CopyInsertion)
      → ((c : Copied) → Notes set c → MatchOption found (is_contest_of program c s (get s.frames actor) ≡ false) (λ at. (is_contest_of program c s (get s.frames actor) ≡ true) × IsPlaceOf (get s.frames actor) at.procedure at.place))
      → MatchOption found (IsCalm program event s set) (IsContestedAt program event s set)
  contest_here None h = λ c noted. subst (λ (e : Event). contests program c e s ≡ false) (sym call) (h c noted)
  contest_here (Some at) h =
      let here = h own (λ d. refl) in
      record {
        contested = λ c noted. subst (λ (e : Event). contests program c e s ≡ true) (sym call) (h c noted).0;
        calls = calls_at (get s.frames actor) at.procedure at.place refl here.1;
        inserts = inserts_at program s own (get s.frames actor) at.procedure at.place here.0 here.1;
      }
