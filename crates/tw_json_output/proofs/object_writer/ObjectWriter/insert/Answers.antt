use Rattle.std.proofs.Common.{◌∙◌, ap}
use Rattle.serde_json.specs.View.{members_view, view}
use Rattle.serde_json.specs.Written.{members_have_float}
use Rattle.tw_json_output.proofs.Floats.{one_more}
use Rattle.tw_json_output.proofs.object_writer.ObjectWriter.insert.Goals as goal

pub invariant_of-self : goal.invariant_of-self
invariant_of-self c =
    record { whole = ap members_have_float c.in-Ok.ensures.ok ∙ one_more c.args.name.now (view c.args.value) (members_view c.args.self.now.members.entries) c.requires c.args.self.now.whole }
