use borrow.Author.Tests.{tests}
use Rattle.std.proofs.lemmas.Iterator.{YieldsList-from_take}
use Rattle.std.proofs.lemmas.Iterator.Consumers.{YieldsList-from_filter, count_from_yields_List}
use Rattle.tw_symbols.specs.Renamed.{is_written}
use Rattle.tw_symbols.proofs.TextNames.{YieldsList-at, YieldsList-from_lines, rules}
use Rattle.tw_symbols.proofs.hidden.written_line.Goals as goal

pub returns : goal.returns
returns c =
    count_from_yields_List c.filter.result _ c.count.ensures.ran
    (YieldsList-from_filter _ is_written (YieldsList-at c.filter.ensures.source (YieldsList-from_take c.args.number (YieldsList-at c.take-lines.ensures.source (YieldsList-from_lines c.args.plain.now c.lines.ensures.rest)) c.take-lines.ensures.count))
    c.filter.ensures.closure (λ x b q k. search (rules, tests)))
