use Rattle.tw_symbols.proofs.TextNames.{Bor, List, YieldsList-at, YieldsList-end, YieldsList-from_lines, YieldsList-so_far, YieldsList-turn, [], ap, drop, length, lines, map, map-append, split_at, subst, suc, sym, take, ℕ, ◌++◌, ◌∙◌, ◌∷◌, ◌≡◌}
use Rattle.tw_symbols.proofs.FirstNamed.{named_here, still_blank}
use Rattle.tw_symbols.proofs.Walk.{AreBlank, blank_no_names}
use Rattle.tw_symbols.proofs.expansion.is_named.Goals as goal

pub returns-in-Some-2 : goal.returns-in-Some-2
returns-in-Some-2 c =
    let road = YieldsList-at c.into_iter-line-iterator.ensures.into_iter_gives (YieldsList-from_lines c.args.text.now c.lines-line-items.ensures.rest) in
    let t = YieldsList-turn road c.loop-line.yielded _ c.loop-line.yielded_by _ _ c.in-Some.line c.in-Some.is c.next.ensures.steps in
    let ls : List (List ℕ) = lines c.args.text.now in
    let before : List (List ℕ) = map (λ (line : Bor (List ℕ)). line.now) c.loop-line.yielded in
    let parts : ls ≡ before ++ (c.in-Some.line.now ∷ drop (suc (length c.loop-line.yielded)) ls) =
    split_at ls (length c.loop-line.yielded) c.in-Some.line.now t.0
    ∙ ap (λ (x : List ℕ). take (length c.loop-line.yielded) ls ++ (x ∷ drop (suc (length c.loop-line.yielded)) ls)) (sym t.1)
    ∙ ap (λ (x : List (List ℕ)). x ++ (c.in-Some.line.now ∷ drop (suc (length c.loop-line.yielded)) ls)) (sym (YieldsList-so_far road c.loop-line.yielded _ c.loop-line.yielded_by)) in
    let seen = c.in_ok-named.ensures in
    named_here c.args.text.now before (drop (suc (length c.loop-line.yielded)) ls) c.in-Some.line.now seen.0 c.in-Some-2.named parts c.loop-line.invariant seen.1 (sym seen.2 ∙ c.in-Some-2.is)

pub loop-line-preserved : goal.loop-line-preserved
loop-line-preserved c =
    let seen = c.in_ok-named.ensures in
    subst AreBlank (sym (map-append (λ (line : Bor (List ℕ)). line.now) c.loop-line.yielded (c.in-Some.line ∷ [])))
    (still_blank (map (λ (line : Bor (List ℕ)). line.now) c.loop-line.yielded) c.in-Some.line.now seen.0 c.loop-line.invariant seen.1 (sym seen.2 ∙ c.in_default.is))

pub returns : goal.returns
returns c =
    let road = YieldsList-at c.into_iter-line-iterator.ensures.into_iter_gives (YieldsList-from_lines c.args.text.now c.lines-line-items.ensures.rest) in
    let t = YieldsList-end road c.loop-line.yielded _ c.loop-line.yielded_by _ _ c.in-None.is c.next.ensures.steps in
    blank_no_names (lines c.args.text.now) (subst AreBlank t.0 c.loop-line.invariant)
