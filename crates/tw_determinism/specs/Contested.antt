-- Insertions that are refused at a container or map whose write right has been copied before: another task may have taken the subscript.
use Rattle.std.specs.Prelude.{◌≡◌, ℕ, ◌==◌, Bool, false, ◌&&◌, ◌||◌, List, [], ◌∷◌, Option, Some, None}
use Rattle.std.specs.FinMap as fin
use Rattle.tw_types.specs.declared.event.Event.{Event}
use Rattle.tw_types.specs.declared.event.Event.TheVariants.{Take, Local, Call, End, Ask, Deliver, Release}
use Rattle.tw_types.specs.Layout.{ActorCounts}
use Rattle.tw_types.specs.Outcome.{Went}
use Rattle.tw_types.specs.Store.{Store}
use Rattle.tw_code.specs.declared.instr.DataInstr.TheVariants as on_data
use Rattle.tw_code.specs.declared.instr.Instr.{Instr}
use Rattle.tw_code.specs.declared.instr.Instr.TheVariants as instr
use Rattle.tw_code.specs.declared.procedure.Procedure.{Procedure}
use Rattle.tw_code.specs.machine.Due.{instr_here}
use Rattle.tw_code.specs.machine.Machine.{step}
use Rattle.tw_code.specs.machine.Rights.{right_at}
use Rattle.tw_code.specs.machine.State.{Frame, State}
use Rattle.tw_determinism.specs.Refused.{is_taken, is_value_taken}

-- ---- write rights that have been copied

-- whether the write right of the datum of this id has been copied
abbrev pub Copied : Type 0
Copied = ℕ → Bool

abbrev pub none_copied : Copied
none_copied id = false

abbrev pub with_copy : Copied → Option ℕ → Copied
with_copy copied None = copied
with_copy copied (Some id) = λ d. (d == id) || copied d

-- returns the datum whose write right a frame's instruction copies
abbrev pub copy_of : Frame → Option Instr → Option ℕ
copy_of frame None = None
copy_of frame (Some (instr.Local i)) = None
copy_of frame (Some (instr.Data (on_data.CopyWrite to from))) = right_at frame.rights from
copy_of frame (Some (instr.Data i)) = None
copy_of frame (Some (instr.Rule action)) = None
copy_of frame (Some (instr.Put action)) = None
copy_of frame (Some instr.Ret) = None

abbrev pub copy_in : List Procedure → Option Frame → Option ℕ
copy_in program None = None
copy_in program (Some frame) = copy_of frame (instr_here program frame)

-- returns the datum whose write right the event copies
abbrev pub copied_by : List Procedure → Event → State → Option ℕ
copied_by program (Take actor) s = None
copied_by program (Local actor n) s = None
copied_by program (Call actor) s = copy_in program (fin.get s.frames actor)
copied_by program (End actor) s = None
copied_by program (Ask engine rule parameter) s = None
copied_by program (Deliver server datum rule parameter) s = None
copied_by program (Release engine rule) s = None

-- ---- contested insertions

abbrev pub is_copied : Copied → Option ℕ → Bool
is_copied copied None = false
is_copied copied (Some id) = copied id

-- returns whether a frame's instruction is an insertion that will be refused at such a container or map
abbrev pub is_contest : Copied → Store → Frame → Option Instr → Bool
is_contest copied s frame None = false
is_contest copied s frame (Some (instr.Local i)) = false
is_contest copied s frame (Some (instr.Data (on_data.Insert by container subscript member skip))) = is_copied copied (right_at frame.rights container) && is_taken s frame container subscript
is_contest copied s frame (Some (instr.Data (on_data.InsertValue map subscript from skip))) = is_copied copied (right_at frame.rights map) && is_value_taken s frame map subscript
is_contest copied s frame (Some (instr.Data i)) = false
is_contest copied s frame (Some (instr.Rule action)) = false
is_contest copied s frame (Some (instr.Put action)) = false
is_contest copied s frame (Some instr.Ret) = false

abbrev pub is_contest_of : List Procedure → Copied → State → Option Frame → Bool
is_contest_of program copied s None = false
is_contest_of program copied s (Some frame) = is_contest copied s.store frame (instr_here program frame)

-- returns whether the event is a contested insertion
abbrev pub contests : List Procedure → Copied → Event → State → Bool
contests program copied (Take actor) s = false
contests program copied (Local actor n) s = false
contests program copied (Call actor) s = is_contest_of program copied s (fin.get s.frames actor)
contests program copied (End actor) s = false
contests program copied (Ask engine rule parameter) s = false
contests program copied (Deliver server datum rule parameter) s = false
contests program copied (Release engine rule) s = false

-- holds if no insertion is contested, as far as the events go on
abbrev pub ContestsNone : List Procedure → ActorCounts → Copied → List Event → State → Type 0
ContestsNone program layout copied [] s = Unit {0}
ContestsNone program layout copied (event ∷ events) s =
    (contests program copied event s ≡ false) × ((next : State) → step program layout event s ≡ Went next → ContestsNone program layout (with_copy copied (copied_by program event s)) events next)
