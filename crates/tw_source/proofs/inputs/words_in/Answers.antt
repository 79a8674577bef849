use Rattle.std.proofs.Common.{◌≡◌, ◌∙◌, Bor, List, ℕ, ap, codes, length, map, rules, true}
use Rattle.std.specs.Str.{bytes_eq}
use Rattle.std.specs.Str.Lines.{lines}
use Rattle.std.proofs.lemmas.Iterator.Consumers.{YieldsList-at, YieldsList-end, YieldsList-so_far, YieldsList-turn}
use Rattle.std.proofs.lemmas.Iterator.Splits.{YieldsList-from_lines}
use Rattle.tw_source.specs.Inputs.{words_in}
use Rattle.tw_source.proofs.InputLines.{all_words, words_end}
use Rattle.tw_source.proofs.inputs.words_in.Goals as goal

pub returns-then-eq : goal.returns-then-eq
returns-then-eq c =
    let now = map (λ (line : Bor (List ℕ)). line.now) in
    let road = YieldsList-at c.into_iter-line-iterator.ensures.into_iter_gives (YieldsList-from_lines c.args.inputs.now c.lines-line-items.ensures.rest) in
    let so_far = YieldsList-so_far road c.loop-line.yielded _ c.loop-line.yielded_by in
    let turn = YieldsList-turn road c.loop-line.yielded _ c.loop-line.yielded_by _ _ c.in-Some.line c.in-Some.is c.next.ensures.steps in
    let is : bytes_eq c.in-Some.line.now (codes "end") ≡ true = search rules in
    words_end (lines c.args.inputs.now) (now c.loop-line.yielded) (now c.loop-line.words.items) c.in-Some.line.now (length c.loop-line.yielded) c.loop-line.invariant so_far turn.0 turn.1 is

pub returns : goal.returns
returns c =
    let now = map (λ (line : Bor (List ℕ)). line.now) in
    let road = YieldsList-at c.into_iter-line-iterator.ensures.into_iter_gives (YieldsList-from_lines c.args.inputs.now c.lines-line-items.ensures.rest) in
    let t = YieldsList-end road c.loop-line.yielded _ c.loop-line.yielded_by _ _ c.in-None.is c.next.ensures.steps in
    all_words (now c.loop-line.yielded) (now c.loop-line.words.items) c.loop-line.invariant ∙ ap words_in t.0
