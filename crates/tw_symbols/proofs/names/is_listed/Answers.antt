use Rattle.tw_symbols.proofs.TextNames.{arith, length, seen_table, sym, ◌∙◌, ◌≤◌}
use Rattle.tw_symbols.proofs.ListedNames.{all_passed, found, passed}
use Rattle.tw_symbols.proofs.names.is_listed.Goals as goal

pub returns-then-lists_at : goal.returns-then-lists_at
returns-then-lists_at c = sym (found c.args.bank c.args.number (seen_table c.args.table.now.entries) c.loop-index.index (sym c.lists_at.ensures ∙ c.if-lists_at.true))

pub loop-index-preserved : goal.loop-index-preserved
loop-index-preserved c = passed c.args.bank c.args.number (seen_table c.args.table.now.entries) c.loop-index.index c.loop-index.invariant (sym c.lists_at.ensures ∙ c.if-lists_at.false)

pub returns : goal.returns
returns c =
    let all : length c.args.table.now.entries ≤ c.loop-index.index = omega (arith, c.loop-index-test.false, c.len-index-end.ensures) in
    sym (all_passed c.args.bank c.args.number c.args.table.now.entries c.loop-index.index all c.loop-index.invariant)
