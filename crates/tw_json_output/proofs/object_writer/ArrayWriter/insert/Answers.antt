use Rattle.std.proofs.Common.{◌∙◌, List, ap}
use Rattle.serde_json.specs.View.{items_view}
use Rattle.serde_json.specs.Written.{items_have_float}
use Rattle.serde_json.specs.declared.value.Value.{Value}
use Rattle.tw_json_output.proofs.Wholes.{one_item}
use Rattle.tw_json_output.proofs.object_writer.ArrayWriter.insert.Goals as goal

pub invariant_of-self : goal.invariant_of-self
invariant_of-self c =
    record { whole = ap (λ (vs : List Value). items_have_float (items_view vs)) c.in-Ok.ensures.items ∙ one_item c.args.self.now.values.items c.args.value c.args.self.now.whole c.requires }
