use Rattle.tw_queue.proofs.Names.{IsPermutation, [], heap_items, subst, sym, ◌++◌, ◌∷◌, ◌≡◌}
use Rattle.tw_queue.proofs.Runs.{rest_more, run_more}
use Rattle.tw_queue.proofs.run_queue.RunQueue.push.Goals as goal

pub returns-in_ok-push_back-clause-pushed : goal.returns-in_ok-push_back-clause-pushed
returns-in_ok-push_back-clause-pushed c =
    let run = c.self.inside.run in
    let rest = heap_items c.self.inside.rest in
    let new = c.push_back.new.self in
    let items : new.items ≡ run.items ++ c.args.rank ∷ [] = c.in_ok-push_back.ensures.items in
    subst (λ p. IsPermutation (c.args.rank ∷ p.ranks) (new.items ++ rest)) c.self.view_is
    (subst (λ xs. IsPermutation (c.args.rank ∷ (run.items ++ rest)) (xs ++ rest)) (sym items) (run_more run.items rest c.args.rank))

pub returns-in_ok-push-clause-pushed : goal.returns-in_ok-push-clause-pushed
returns-in_ok-push-clause-pushed c =
    let run = c.self.inside.run in
    let rest = heap_items c.self.inside.rest in
    let new = heap_items c.push.new.self in
    subst (λ p. IsPermutation (c.args.rank ∷ p.ranks) (run.items ++ new)) c.self.view_is
    (rest_more run.items rest c.args.rank new c.in_ok-push.ensures.permutation)
