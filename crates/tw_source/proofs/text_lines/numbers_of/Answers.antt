use Rattle.std.proofs.Common.{◌≡◌, ◌<◌, ◌==◌, ◌≤◌, ◌++◌, ◌∷◌, ◌∙◌, [], ℕ, Bool, List, ap, arith, cond, false, refl, rules, sym, true}
use denote.Ref.{Bor}
use Rattle.std.proofs.lemmas.Iterator.Consumers.{YieldsList-at, YieldsList-end, YieldsList-from_enumerate, YieldsList-so_far, YieldsList-turn}
use Rattle.std.proofs.lemmas.Iterator.Splits.{YieldsList-from_lines}
use Rattle.std.proofs.lemmas.List.{length-append, length-map}
use Rattle.std.proofs.lemmas.Bool.Decides.{nat_tests}
use Rattle.std.specs.Ordering.{is_lt, nat_cmp, ord_min}
use Rattle.std.specs.Prelude.{nat_lt}
use Rattle.std.specs.Str.Lines.{lines}
use Rattle.std.specs.declared.cmp.Ordering.TheVariants.{Equal, Greater, Less}
use Rattle.tw_lexer.proofs.LineLoops.{all_lines, line_turn}
use Rattle.tw_symbols.proofs.Loops.{lines_in, one_line_in}
use Rattle.tw_source.proofs.Tables.{are_numbers, count_from, count_more, few_more, numbers_from, one_more, step}
use Rattle.tw_source.proofs.text_lines.numbers_of.Goals as goal

-- the smaller number
small_min : (a b : ℕ) → a ≤ b → ord_min nat_cmp a b ≡ a
small_min a b low = by (nat_lt b a) (b == a) refl
  where
    by : (t u : Bool) → nat_lt b a ≡ t → cond (is_lt (cond t Less (cond u Equal Greater))) b a ≡ a
    by true u e = let more : b < a = grind (arith, nat_tests) in absurd (omega (arith, low, more))
    by false true e = refl
    by false false e = refl

pub loop-index-preserved : goal.loop-index-preserved
loop-index-preserved c =
    let road = YieldsList-at c.into_iter-index-iterator.ensures.into_iter_gives (YieldsList-from_enumerate (YieldsList-at c.enumerate-index-items.ensures.source (YieldsList-from_lines c.args.plain.now c.lines.ensures.rest)) c.enumerate-index-items.ensures.count) in
    let t = YieldsList-turn road c.loop-index.yielded _ c.loop-index.yielded_by _ _ (c.in-Some.index, c.in-Some.line) c.in-Some.is c.next.ensures.steps in
    let at = line_turn (lines c.args.plain.now) c.loop-index.yielded c.in-Some.index c.in-Some.line.now (YieldsList-so_far road c.loop-index.yielded _ c.loop-index.yielded_by) t.0 t.1 in
    let line = c.in-Some.line.now in
    let before = lines_in c.loop-index.yielded in
    let item : ℕ × Bor (List ℕ) = (c.in-Some.index, c.in-Some.line) in
    let low : c.loop-index.count ≤ c.in-Some.index = omega (arith, c.loop-index.invariant.few, at.index_is, length-map c.loop-index.yielded (λ (item : ℕ × Bor (List ℕ)). item.1.now)) in
    let count : c.min.result ≡ c.loop-index.count = c.min.ensures ∙ small_min c.loop-index.count c.in-Some.index low in
    let next : c.counted-count.result ≡ step c.loop-index.count line = c.counted-count.ensures ∙ ap (λ (n : ℕ). step n line) count in
    let is : c.counted-count.result ≡ step (count_from 0 before) line = next ∙ ap (λ (n : ℕ). step n line) c.loop-index.invariant.count_is in
    record {
      next = search rules;
      finite = search rules;
      few = omega (arith, next, few_more line, c.loop-index.invariant.few, length-append c.loop-index.yielded (item ∷ []));
      count_is = is ∙ sym (count_more 0 before line) ∙ sym (ap (count_from 0) (one_line_in c.loop-index.yielded item));
      so_far = c.in_ok-push.ensures.items ∙ ap (λ (ns : List ℕ). ns ++ c.counted-count.result ∷ []) c.loop-index.invariant.so_far ∙ ap (λ (n : ℕ). numbers_from 0 before ++ n ∷ []) is ∙ sym (one_more 0 before line)
          ∙ sym (ap (numbers_from 0) (one_line_in c.loop-index.yielded item));
    }

pub returns : goal.returns
returns c =
    let road = YieldsList-at c.into_iter-index-iterator.ensures.into_iter_gives (YieldsList-from_enumerate (YieldsList-at c.enumerate-index-items.ensures.source (YieldsList-from_lines c.args.plain.now c.lines.ensures.rest)) c.enumerate-index-items.ensures.count) in
    let t = YieldsList-end road c.loop-index.yielded _ c.loop-index.yielded_by _ _ c.in-None.is c.next.ensures.steps in
    let all : lines_in c.loop-index.yielded ≡ lines c.args.plain.now = all_lines (lines c.args.plain.now) c.loop-index.yielded t.0 in
    are_numbers c.args.plain.now c.loop-index.numbers.items (c.loop-index.invariant.so_far ∙ ap (numbers_from 0) all)
