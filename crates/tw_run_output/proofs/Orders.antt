-- No value of the order has a float.
use Rattle.std.proofs.Common.{◌≡◌, Bool, true, false, if◌then◌else◌, Option, Some, None, codes, refl}
use Rattle.serde_json.specs.Data as json
use Rattle.serde_json.specs.Written.{members_have_float}
use Rattle.tw_copies.specs.declared.check.CopyInsertion.{CopyInsertion}
use Rattle.tw_json_output.proofs.Floats.{one_more}
use Rattle.tw_pool.specs.declared.answer.Closing.{Closing}
use Rattle.tw_program_output.specs.EventOrder.{order_json}
use Rattle.tw_program_output.proofs.CheckObjects.{order_fine}
use Rattle.tw_run_output.specs.EventOrder.{end_order_json, is_cut}

pub end_order_fine : (closing : Closing) (found : Option CopyInsertion) (ms : json.Members) → members_have_float ms ≡ false → members_have_float (json.put (codes "order") (end_order_json closing found) ms) ≡ false
end_order_fine closing None ms before = by (is_cut closing)
  where
    by : (b : Bool) → members_have_float (json.put (codes "order") (if b then json.null else order_json None) ms) ≡ false
    by true = one_more (codes "order") json.null ms refl before
    by false = order_fine None ms before
end_order_fine closing (Some at) ms before = order_fine (Some at) ms before
