use borrow.Author.Tests.{tests}
use Rattle.std.proofs.lemmas.Iterator.Consumers.{YieldsList-from_filter, count_from_yields_List}
use Rattle.tw_symbols.specs.Renamed.{is_written}
use Rattle.tw_symbols.proofs.TextNames.{YieldsList-at, YieldsList-from_lines, eqb-true, filter, length, lines, rules, sym, ◌∙◌, ◌≡◌}
use Rattle.tw_symbols.proofs.expansion.has_all.Goals as goal

pub returns : goal.returns
returns c =
    let one : c.count.result ≡ length (filter is_written (lines c.args.plain.now)) =
    count_from_yields_List c.filter.result _ c.count.ensures.ran
    (YieldsList-from_filter _ is_written (YieldsList-at c.filter.ensures.source (YieldsList-from_lines c.args.plain.now c.lines.ensures.rest)) c.filter.ensures.closure (λ x b q k. search (rules, tests))) in
    let two : c.count-2.result ≡ length (lines c.args.text.now) = count_from_yields_List c.lines-2.result _ c.count-2.ensures.ran (YieldsList-from_lines c.args.text.now c.lines-2.ensures.rest) in
    λ same. sym one ∙ eqb-true c.count.result c.count-2.result same ∙ two
