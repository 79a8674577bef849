-- A circle of calls that was found; and the member about the order of events, which has no float.
use Rattle.tw_program_output.proofs.ReplyNames.{CopyInsertion, IfSome, IsCircleOf, List, None, Option, Procedure, Some, codes, false, refl, ◌≡◌}
use Rattle.serde_json.specs.Data as json
use Rattle.serde_json.specs.Written.{members_have_float}
use Rattle.tw_bounds.specs.Bounds.{CallsEnd}
use Rattle.tw_bounds.specs.Circles.{IsCircle}
use Rattle.tw_bounds.specs.declared.circles.Circle.{Circle}
use Rattle.tw_json_output.proofs.Floats.{one_more}
use Rattle.tw_program_output.specs.EventOrder.{order_json}

pub circle_of : (program : List Procedure) (found : Option Circle) → IfSome found (IsCircle program) → (found ≡ None → CallsEnd program 0) → IsCircleOf program found
circle_of program None is none = none refl
circle_of program (Some circle) is none = is

pub order_fine : (found : Option CopyInsertion) (ms : json.Members) → members_have_float ms ≡ false → members_have_float (json.put (codes "order") (order_json found) ms) ≡ false
order_fine None ms before = one_more (codes "order") (order_json None) ms refl before
order_fine (Some at) ms before =
    let place = json.put (codes "place") (json.number (json.unsigned at.place)) json.no_members in
    let one = one_more (codes "place") (json.number (json.unsigned at.place)) json.no_members refl refl in
    one_more (codes "order") (order_json (Some at)) ms (one_more (codes "procedure") (json.number (json.unsigned at.procedure)) place refl one) before
