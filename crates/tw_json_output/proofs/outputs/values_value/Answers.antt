use Rattle.std.proofs.Common.{◌∙◌, List, ap, sym, ℕ}
use Rattle.std.specs.FinMap.{entries}
use Rattle.serde_json.proofs.Views.{view-Object}
use Rattle.serde_json.specs.Data as json
use Rattle.serde_json.specs.View.{members_view, view}
use Rattle.tw_types.specs.StoreCalls.{entries_in}
use Rattle.tw_report.proofs.Reports.{count_of_map, value_there}
use Rattle.tw_json_output.specs.Outputs.{key_of}
use Rattle.tw_json_output.proofs.Members.{all_values, one_value_more}
use Rattle.tw_json_output.proofs.outputs.values_value.Goals as goal

pub unreachable-requires : goal.unreachable-requires
unreachable-requires g c =
    value_there (entries_in c.args.map.now.datum.content) c.loop-index.index c.count-index-end.result (c.count-index-end.ensures ∙ count_of_map c.args.map.now.datum.content c.requires) c.loop-index-test.true c.in_default.ensures

pub loop-index-preserved : goal.loop-index-preserved
loop-index-preserved g c =
    let old = members_view c.loop-index.values.entries in
    let value = view c.in_ok-value.value in
    let made = c.in_ok-put.ensures.ok
    ∙ ap (λ (k : List ℕ). json.put k value old) (c.as_str.ensures.value ∙ c.in_ok-key.ensures)
    ∙ ap (λ (d : json.Data). json.put (key_of c.in-Some.entry.now.0) d old) c.in_ok-value.ensures in
    one_value_more (entries (entries_in c.args.map.now.datum.content)) c.loop-index.index c.in-Some.entry.now old _ c.in-Some.ensures c.loop-index.invariant made

pub returns : goal.returns
returns g c =
    let all = c.count-index-end.ensures ∙ count_of_map c.args.map.now.datum.content c.requires in
    view-Object c.loop-index.values
    ∙ ap json.object (all_values (entries_in c.args.map.now.datum.content) c.loop-index.index c.count-index-end.result (members_view c.loop-index.values.entries) all c.loop-index-test.false c.loop-index.invariant)
