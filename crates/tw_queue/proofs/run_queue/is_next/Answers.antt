use Rattle.tw_queue.proofs.Names.{arith, is_lt, length, rank_cmp, rules, suc, sym, ◌-◌, ◌∙◌, ◌≡◌}
use Rattle.tw_queue.proofs.Order.{not_back}
use Rattle.tw_queue.proofs.Runs.{in_order_pushed}
use Rattle.tw_queue.proofs.run_queue.is_next.Goals as goal

pub returns-in-Some : goal.returns-in-Some
returns-in-Some c = λ yes.
    let last = c.in-Some.last.now in
    let run = c.args.run.now in
    let lower : c.lt.result ≡ is_lt (rank_cmp c.args.rank last) = search rules in
    let whole = run.ok.0 in
    let item = c.in-Some.ensures.item in
    let some = item.3.0 in
    let count : suc (run.len - 1) ≡ length run.items = omega arith in
    in_order_pushed run.items (run.len - 1) last c.args.rank count item.1 (not_back c.args.rank last (sym lower ∙ yes)) c.requires
