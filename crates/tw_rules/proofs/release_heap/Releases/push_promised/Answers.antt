use Rattle.tw_rules.proofs.Names.{IsPermutation, IsPermutation-map, numbers_in, subst, ◌∷◌}
use Rattle.tw_rules.proofs.release_heap.Releases.push_promised.Goals as goal

pub returns-clause-numbers : goal.returns-clause-numbers
returns-clause-numbers c = subst (λ l. IsPermutation (c.args.number ∷ l.numbers) (numbers_in c.push.new.self)) c.self.view_is (IsPermutation-map (λ r. r.0) _ _ c.in-Ok.ensures.permutation)
