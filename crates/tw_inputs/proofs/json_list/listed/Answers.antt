use Rattle.std.proofs.Common.{map}
use Rattle.json.specs.Find.{as_str}
use Rattle.json.specs.Value.{value_view}
use Rattle.tw_inputs.specs.JsonInputs.{int_json}
use Rattle.tw_inputs.proofs.Listed.{not_numbered}
use Rattle.tw_inputs.proofs.json_list.listed.Goals as goal

pub returns-in-None : goal.returns-in-None
returns-in-None c = rw c.in-Int.is (λ given is. not_numbered int_json (map value_view c.args.items.now) is.0 (rw c.in-None.is at c.in_ok-values-in-Int.ensures) is.1)

pub returns-in-None-2 : goal.returns-in-None-2
returns-in-None-2 c = rw c.in-Text.is (λ given is. not_numbered as_str (map value_view c.args.items.now) is.0 (rw c.in-None-2.is at c.in_ok-values-in-Text.ensures) is.1)
