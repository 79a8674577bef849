-- If all data count as copied, an insertion that is refused is contested; and where no write right is copied, none is contested.
use Rattle.std.proofs.Common.{◌≡◌, ℕ, ◌==◌, true, false, ◌&&◌, List, [], ◌∷◌, Option, Some, None, is_some, refl, sym, ap, subst, ◌∙◌, slice_get}
use Rattle.std.specs.FinMap as fin
use Rattle.tw_determinism.proofs.MachineNames.{ActorCounts, Ask, Call, ContestsNone, Copied, CopiesNone, DataInstr, Deliver, End, Event, Frame, Instr, Local, Procedure, RefusesNone, Release, State, Store, Take, contests, copied_by, copy_in, copy_of, entry_at, is_contest, is_contest_of, is_copied, is_refused, is_refused_of, is_taken, is_value_taken, member_at, option_and_then, refuses, right_at, with_copy}
use Rattle.tw_code.specs.declared.instr.DataInstr.TheVariants as on_data
use Rattle.tw_code.specs.declared.instr.Instr.TheVariants as instr
use Rattle.tw_code.specs.machine.Due.{instr_here}
use Rattle.tw_determinism.proofs.Options.{some_first}
use Rattle.tw_determinism.proofs.Persisting.{or_right}

-- ---- all data count as copied

module _ (c : Copied) (all : (id : ℕ) → c id ≡ true) where
  data_contests : (s : Store) (frame : Frame) (i : DataInstr) → is_contest c s frame (Some (instr.Data i)) ≡ is_refused s frame (Some (instr.Data i))
  data_contests s frame (on_data.New write read ty) = refl
  data_contests s frame (on_data.Store datum from) = refl
  data_contests s frame (on_data.Get to datum) = refl
  data_contests s frame (on_data.Insert by container subscript member skip) = having (right_at frame.rights container)
    where
      having : (o : Option ℕ) → (is_copied c o && is_some (option_and_then (λ id. option_and_then (λ at. member_at s id at) (slice_get frame.position.values subscript)) o))
          ≡ is_some (option_and_then (λ id. option_and_then (λ at. member_at s id at) (slice_get frame.position.values subscript)) o)
      having None = refl
      having (Some id) = ap (λ b. b && is_some (option_and_then (λ at. member_at s id at) (slice_get frame.position.values subscript))) (all id)
  data_contests s frame (on_data.Look by member container subscript skip) = refl
  data_contests s frame (on_data.Size to container) = refl
  data_contests s frame (on_data.SubscriptAt by to container index skip) = refl
  data_contests s frame (on_data.InsertValue map subscript from skip) = having (right_at frame.rights map)
    where
      having : (o : Option ℕ) → (is_copied c o && is_some (option_and_then (λ id. option_and_then (λ at. entry_at s id at) (slice_get frame.position.values subscript)) o))
          ≡ is_some (option_and_then (λ id. option_and_then (λ at. entry_at s id at) (slice_get frame.position.values subscript)) o)
      having None = refl
      having (Some id) = ap (λ b. b && is_some (option_and_then (λ at. entry_at s id at) (slice_get frame.position.values subscript))) (all id)
  data_contests s frame (on_data.AddValue map subscript from) = refl
  data_contests s frame (on_data.GetValue to map subscript skip) = refl
  data_contests s frame (on_data.CopyRead to from) = refl
  data_contests s frame (on_data.CopyWrite to from) = refl
  data_contests s frame (on_data.DropRead right) = refl
  data_contests s frame (on_data.DropWrite right) = refl

  instr_contests : (s : Store) (frame : Frame) (o : Option Instr) → is_contest c s frame o ≡ is_refused s frame o
  instr_contests s frame None = refl
  instr_contests s frame (Some (instr.Local i)) = refl
  instr_contests s frame (Some (instr.Data i)) = data_contests s frame i
  instr_contests s frame (Some (instr.Rule action)) = refl
  instr_contests s frame (Some (instr.Put action)) = refl
  instr_contests s frame (Some instr.Ret) = refl

  frame_contests : (program : List Procedure) (s : State) (o : Option Frame) → is_contest_of program c s o ≡ is_refused_of program s o
  frame_contests program s None = refl
  frame_contests program s (Some frame) = instr_contests s.store frame (instr_here program frame)

  contests_all : (program : List Procedure) (event : Event) (s : State) → contests program c event s ≡ refuses program event s
  contests_all program (Take actor) s = refl
  contests_all program (Local actor n) s = refl
  contests_all program (Call actor) s = frame_contests program s (fin.get s.frames actor)
  contests_all program (End actor) s = refl
  contests_all program (Ask engine rule parameter) s = refl
  contests_all program (Deliver server datum rule parameter) s = refl
  contests_all program (Release engine rule) s = refl

  all_still : (o : Option ℕ) (id : ℕ) → with_copy c o id ≡ true
  all_still None id = all id
  all_still (Some d) id = or_right (id == d) (c id) (all id)

pub uncontested_if : (program : List Procedure) (layout : ActorCounts) (events : List Event) (c : Copied) (s : State) → ((id : ℕ) → c id ≡ true) → RefusesNone program layout events s → ContestsNone program layout c events s
uncontested_if program layout [] c s all none = tt
uncontested_if program layout (event ∷ events) c s all none = (
  contests_all c all program event s ∙ none.0,
  λ next e. uncontested_if program layout events (with_copy c (copied_by program event s)) next (all_still c all (copied_by program event s)) (none.1 next e),
)

pub unrefused_if : (program : List Procedure) (layout : ActorCounts) (events : List Event) (c : Copied) (s : State) → ((id : ℕ) → c id ≡ true) → ContestsNone program layout c events s → RefusesNone program layout events s
unrefused_if program layout [] c s all none = tt
unrefused_if program layout (event ∷ events) c s all none = (
  sym (contests_all c all program event s) ∙ none.0,
  λ next e. unrefused_if program layout events (with_copy c (copied_by program event s)) next (all_still c all (copied_by program event s)) (none.1 next e),
)

-- ---- nothing is copied

module _ (program : List Procedure) (uncopied : CopiesNone program) where
  no_copy : (frame : Frame) (o : Option Instr) → instr_here program frame ≡ o → copy_of frame o ≡ None
  no_copy frame None is = refl
  no_copy frame (Some (instr.Local i)) is = refl
  no_copy frame (Some (instr.Data (on_data.New write read ty))) is = refl
  no_copy frame (Some (instr.Data (on_data.Store datum from))) is = refl
  no_copy frame (Some (instr.Data (on_data.Get to datum))) is = refl
  no_copy frame (Some (instr.Data (on_data.Insert by container subscript member skip))) is = refl
  no_copy frame (Some (instr.Data (on_data.Look by member container subscript skip))) is = refl
  no_copy frame (Some (instr.Data (on_data.Size to container))) is = refl
  no_copy frame (Some (instr.Data (on_data.SubscriptAt by to container index skip))) is = refl
  no_copy frame (Some (instr.Data (on_data.InsertValue map subscript from skip))) is = refl
  no_copy frame (Some (instr.Data (on_data.AddValue map subscript from))) is = refl
  no_copy frame (Some (instr.Data (on_data.GetValue to map subscript skip))) is = refl
  no_copy frame (Some (instr.Data (on_data.CopyRead to from))) is = refl
  no_copy frame (Some (instr.Data (on_data.CopyWrite to from))) is =
      let p = some_first (slice_get program frame.procedure) (λ (p : Procedure). slice_get p.code frame.position.place) _ is in
      absurd (uncopied frame.procedure frame.position.place to from p.0 p.1 p.2)
  no_copy frame (Some (instr.Data (on_data.DropRead right))) is = refl
  no_copy frame (Some (instr.Data (on_data.DropWrite right))) is = refl
  no_copy frame (Some (instr.Rule action)) is = refl
  no_copy frame (Some (instr.Put action)) is = refl
  no_copy frame (Some instr.Ret) is = refl

  none_copied_in : (o : Option Frame) → copy_in program o ≡ None
  none_copied_in None = refl
  none_copied_in (Some frame) = no_copy frame (instr_here program frame) refl

  none_copied_by : (event : Event) (s : State) → copied_by program event s ≡ None
  none_copied_by (Take actor) s = refl
  none_copied_by (Local actor n) s = refl
  none_copied_by (Call actor) s = none_copied_in (fin.get s.frames actor)
  none_copied_by (End actor) s = refl
  none_copied_by (Ask engine rule parameter) s = refl
  none_copied_by (Deliver server datum rule parameter) s = refl
  none_copied_by (Release engine rule) s = refl

  module _ (c : Copied) (none : (id : ℕ) → c id ≡ false) where
    data_calm : (s : Store) (frame : Frame) (i : DataInstr) → is_contest c s frame (Some (instr.Data i)) ≡ false
    data_calm s frame (on_data.New write read ty) = refl
    data_calm s frame (on_data.Store datum from) = refl
    data_calm s frame (on_data.Get to datum) = refl
    data_calm s frame (on_data.Insert by container subscript member skip) = ap (λ b. b && is_taken s frame container subscript) (having (right_at frame.rights container))
      where
        having : (o : Option ℕ) → is_copied c o ≡ false
        having None = refl
        having (Some id) = none id
    data_calm s frame (on_data.Look by member container subscript skip) = refl
    data_calm s frame (on_data.Size to container) = refl
    data_calm s frame (on_data.SubscriptAt by to container index skip) = refl
    data_calm s frame (on_data.InsertValue map subscript from skip) = ap (λ b. b && is_value_taken s frame map subscript) (having (right_at frame.rights map))
      where
        having : (o : Option ℕ) → is_copied c o ≡ false
        having None = refl
        having (Some id) = none id
    data_calm s frame (on_data.AddValue map subscript from) = refl
    data_calm s frame (on_data.GetValue to map subscript skip) = refl
    data_calm s frame (on_data.CopyRead to from) = refl
    data_calm s frame (on_data.CopyWrite to from) = refl
    data_calm s frame (on_data.DropRead right) = refl
    data_calm s frame (on_data.DropWrite right) = refl

    instr_calm : (s : Store) (frame : Frame) (o : Option Instr) → is_contest c s frame o ≡ false
    instr_calm s frame None = refl
    instr_calm s frame (Some (instr.Local i)) = refl
    instr_calm s frame (Some (instr.Data i)) = data_calm s frame i
    instr_calm s frame (Some (instr.Rule action)) = refl
    instr_calm s frame (Some (instr.Put action)) = refl
    instr_calm s frame (Some instr.Ret) = refl

    frame_calm : (s : State) (o : Option Frame) → is_contest_of program c s o ≡ false
    frame_calm s None = refl
    frame_calm s (Some frame) = instr_calm s.store frame (instr_here program frame)

    calm : (event : Event) (s : State) → contests program c event s ≡ false
    calm (Take actor) s = refl
    calm (Local actor n) s = refl
    calm (Call actor) s = frame_calm s (fin.get s.frames actor)
    calm (End actor) s = refl
    calm (Ask engine rule parameter) s = refl
    calm (Deliver server datum rule parameter) s = refl
    calm (Release engine rule) s = refl

  pub uncontested_uncopied : (layout : ActorCounts) (events : List Event) (c : Copied) (s : State) → ((id : ℕ) → c id ≡ false) → ContestsNone program layout c events s
  uncontested_uncopied layout [] c s none = tt
  uncontested_uncopied layout (event ∷ events) c s none = (
    calm c none event s,
    λ next e. subst (λ o. ContestsNone program layout (with_copy c o) events next) (sym (none_copied_by event s)) (uncontested_uncopied layout events c next none),
  )
