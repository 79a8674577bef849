use Rattle.tw_frame.proofs.Names.{ap, arith, length, reverse, sym, take, ℕ, ◌∙◌, ◌≡◌, ◌≤◌}
use Rattle.tw_frame.proofs.Prefixes.{items_at}
use Rattle.tw_frame.proofs.loops.Loops.same.Goals as goal

pub returns-then-not-same_loop : goal.returns-then-not-same_loop
returns-then-not-same_loop c =
    let depth : c.self.inside.depth ≡ c.other.inside.depth = c.if-self-other.false in
    let long : c.self.inside.depth ≤ length c.other.inside.begun = omega (arith, depth, c.other.invariant.0, c.other.invariant.1) in (
      λ e. cc,
      λ e.
          let views : reverse (take c.self.inside.depth c.self.inside.begun) ≡ reverse (take c.self.inside.depth c.other.inside.begun) =
          c.self.view_is ∙ e ∙ sym c.other.view_is ∙ ap (λ (n : ℕ). reverse (take n c.other.inside.begun)) (sym depth) in
          sym c.if-not-same_loop.true ∙ c.same_loop.ensures.1 (sym c.index-self-index.is ∙ items_at c.self.inside.begun c.other.inside.begun c.self.inside.depth c.loop-index.index c.index-self-index.result c.index-other-index.result c.loop-index-test.true long views c.index-self-index.is c.index-other-index.is ∙ c.index-other-index.is),
    )
