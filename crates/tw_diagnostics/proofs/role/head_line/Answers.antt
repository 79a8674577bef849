use Rattle.std.proofs.Common.{◌≡◌, ◌++◌, ◌∷◌, [], ℕ, List, Bor, map, sym, subst, ◌∙◌, rules}
use Rattle.tw_diagnostics.proofs.RoleNames.{HaveStatements, at_start, lines, map-append}
use Rattle.std.proofs.lemmas.Iterator.Consumers.{YieldsList-at, YieldsList-end, YieldsList-from_enumerate, YieldsList-so_far, YieldsList-turn}
use Rattle.std.proofs.lemmas.Iterator.Splits.{YieldsList-from_lines}
use Rattle.tw_lexer.proofs.LineLoops.{all_lines, line_turn}
use Rattle.tw_diagnostics.proofs.Heads.{NoHeads, first_head, none_on}
use Rattle.tw_diagnostics.proofs.role.head_line.Goals as goal

pub returns-then-begins : goal.returns-then-begins
returns-then-begins c = λ said say.
    let road = YieldsList-at c.into_iter-index-iterator.ensures.into_iter_gives (YieldsList-from_enumerate (YieldsList-at c.enumerate-index-items.ensures.source (YieldsList-from_lines c.args.text.now c.lines.ensures.rest)) c.enumerate-index-items.ensures.count) in
    let t = YieldsList-turn road c.loop-index.yielded _ c.loop-index.yielded_by _ _ (c.in-Some.index, c.in-Some.line) c.in-Some.is c.next.ensures.steps in
    let at = line_turn (lines c.args.text.now) c.loop-index.yielded c.in-Some.index c.in-Some.line.now (YieldsList-so_far road c.loop-index.yielded _ c.loop-index.yielded_by) t.0 t.1 in
    let ls : List (List ℕ) = map (λ (item : ℕ × Bor (List ℕ)). item.1.now) c.loop-index.yielded in
    first_head c.args.text.now ls c.in-Some.line.now at.others c.in_ok-begins.begins c.in-Some.index said at.parts at.index_is c.loop-index.invariant.none c.in_ok-begins.ensures c.if-begins.true say

pub loop-index-preserved : goal.loop-index-preserved
loop-index-preserved c =
    let road = YieldsList-at c.into_iter-index-iterator.ensures.into_iter_gives (YieldsList-from_enumerate (YieldsList-at c.enumerate-index-items.ensures.source (YieldsList-from_lines c.args.text.now c.lines.ensures.rest)) c.enumerate-index-items.ensures.count) in
    let t = YieldsList-turn road c.loop-index.yielded _ c.loop-index.yielded_by _ _ (c.in-Some.index, c.in-Some.line) c.in-Some.is c.next.ensures.steps in
    let at = line_turn (lines c.args.text.now) c.loop-index.yielded c.in-Some.index c.in-Some.line.now (YieldsList-so_far road c.loop-index.yielded _ c.loop-index.yielded_by) t.0 t.1 in
    let ls : List (List ℕ) = map (λ (item : ℕ × Bor (List ℕ)). item.1.now) c.loop-index.yielded in
    let more : map (λ (item : ℕ × Bor (List ℕ)). item.1.now) (c.loop-index.yielded ++ (c.in-Some.index, c.in-Some.line) ∷ []) ≡ ls ++ (c.in-Some.line.now ∷ []) = map-append (λ (item : ℕ × Bor (List ℕ)). item.1.now) c.loop-index.yielded ((c.in-Some.index, c.in-Some.line) ∷ []) in
    record {
      next = search rules;
      finite = search rules;
      none = subst NoHeads (sym more) (none_on ls c.in-Some.line.now c.in_ok-begins.begins c.loop-index.invariant.none c.in_ok-begins.ensures c.if-begins.false);
    }

pub returns : goal.returns
returns c = λ said say.
    let road = YieldsList-at c.into_iter-index-iterator.ensures.into_iter_gives (YieldsList-from_enumerate (YieldsList-at c.enumerate-index-items.ensures.source (YieldsList-from_lines c.args.text.now c.lines.ensures.rest)) c.enumerate-index-items.ensures.count) in
    let t = YieldsList-end road c.loop-index.yielded _ c.loop-index.yielded_by _ _ c.in-None.is c.next.ensures.steps in
    let ls : List (List ℕ) = map (λ (item : ℕ × Bor (List ℕ)). item.1.now) c.loop-index.yielded in
    let all : ls ≡ lines c.args.text.now = all_lines (lines c.args.text.now) c.loop-index.yielded t.0 in
    c.loop-index.invariant.none said (subst (λ (xs : List (List ℕ)). HaveStatements 1 at_start xs said) (sym all) say)
