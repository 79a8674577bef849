use Rattle.tw_report.proofs.Names.{List, Subscript, Value, ap, append-nil, entries, entries_in, sym, value_lines, ◌++◌, ◌∙◌}
use Rattle.tw_report.proofs.Reports.{all_values, count_of_map, none_without_map, one_value_more, value_there}
use Rattle.tw_report.proofs.outputs.put_value_lines.Goals as goal

pub returns-then-not-is_map : goal.returns-then-not-is_map
returns-then-not-is_map g c =
    let none = none_without_map c.args.map.now.datum.content (sym c.is_map.ensures ∙ c.if-not-is_map.true) in
    sym (append-nil c.args.out.now.items) ∙ ap (λ (es : List (Subscript × Value)). c.args.out.now.items ++ value_lines es) (sym none)

pub unreachable-requires : goal.unreachable-requires
unreachable-requires g c =
    let all = c.count-index-end.ensures ∙ count_of_map c.args.map.now.datum.content (sym c.is_map.ensures ∙ c.if-not-is_map.false) in
    value_there (entries_in c.args.map.now.datum.content) c.loop-index.index c.count-index-end.result all c.loop-index-test.true c.in_default.ensures

pub loop-index-preserved : goal.loop-index-preserved
loop-index-preserved g c =
    one_value_more (entries (entries_in c.args.map.now.datum.content)) c.loop-index.index c.in-Some.entry.now c.args.out.now.items c.loop-index.out.items c.put_value_line.new.out.items c.in-Some.ensures c.loop-index.invariant c.in_ok-put_value_line.ensures

pub returns : goal.returns
returns g c =
    let all = c.count-index-end.ensures ∙ count_of_map c.args.map.now.datum.content (sym c.is_map.ensures ∙ c.if-not-is_map.false) in
    all_values (entries_in c.args.map.now.datum.content) c.loop-index.index c.count-index-end.result c.args.out.now.items c.loop-index.out.items all c.loop-index-test.false c.loop-index.invariant
