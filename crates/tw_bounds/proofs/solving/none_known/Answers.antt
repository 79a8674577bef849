use Rattle.std.proofs.Common.{◌≡◌, ℕ, suc, ◌+◌, ◌++◌, List, [], ◌∷◌, Option, None, replicate, ap, ◌∙◌, arith}
use Rattle.tw_bounds.proofs.Partial.{replicate_more}
use Rattle.tw_bounds.proofs.solving.none_known.Goals as goal

pub loop-preserved : goal.loop-preserved
loop-preserved c =
    let e : suc c.loop.counter ≡ c.loop.counter + 1 = omega arith in
    c.in_ok-push.ensures.items ∙ ap (λ (xs : List (Option ℕ)). xs ++ None ∷ []) c.loop.invariant ∙ replicate_more c.loop.counter None ∙ ap (λ (n : ℕ). replicate {A = Option ℕ} n None) e
