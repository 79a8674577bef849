use Rattle.tw_handles.proofs.Names.{IsTrue, subst, sym, ℕ, ◌+◌, ◌↔◌, ◌∙◌, ◌≤◌}
use Rattle.tw_handles.proofs.Contents.{count_shown}
use Rattle.tw_handles.proofs.many.has_members.Goals as goal

pub returns-clause-is : goal.returns-clause-is
returns-clause-is c =
    let same = c.count.ensures ∙ sym (count_shown c.args.outcome.now c.args.datum.now.datum.content) in
    subst (λ (n : ℕ). IsTrue c.has_so_many.result ↔ c.args.first + c.args.many ≤ n) same c.has_so_many.ensures.is
