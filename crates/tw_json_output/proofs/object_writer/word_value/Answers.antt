use Rattle.std.proofs.Common.{refl}
use Rattle.serde_json.specs.Data as json
use Rattle.tw_json_output.proofs.Wholes.{whole_value}
use Rattle.tw_json_output.proofs.object_writer.word_value.Goals as goal

pub returns : goal.returns
returns c = whole_value c.try_from_str.result (json.string c.args.word.now) refl c.try_from_str.ensures
