use Rattle.tw_program_output.proofs.ReplyNames.{List, both_added, check_text, finished, from_empty, ℕ, ◌≡◌}
use Rattle.tw_program_output.proofs.check.answer_text.Goals as goal

pub returns : goal.returns
returns c =
    let text = check_text c.args.order.now c.args.answer.now c.args.more.now in
    let lines =
    both_added _ _ _ _ _ c.put_listing.ensures (both_added _ _ _ _ _ c.put.ensures
    (both_added _ _ _ _ _ c.put_budgets.ensures (both_added _ _ _ _ _ c.put_needs.ensures
    (both_added _ _ _ _ _ c.put_searches.ensures c.put_bytes.ensures)))) in
    finished c.finish.result c.put_bytes.new.self (λ (t : List ℕ). t ≡ text) c.finish.ensures.all c.finish.ensures.fine (from_empty _ _ _ c.new-text.ensures.empty lines)
