use Rattle.tw_queue.proofs.Names.{heap_items, is_lt, rank_cmp, rules, sym, ◌∙◌, ◌≡◌}
use Rattle.tw_queue.proofs.Order.{not_back, upper_over}
use Rattle.tw_queue.proofs.Runs.{front_over, in_front}
use Rattle.tw_queue.proofs.run_queue.is_in_front.Goals as goal

pub returns-in-Some-Some-clause-yes : goal.returns-in-Some-Some-clause-yes
returns-in-Some-Some-clause-yes c = λ yes.
    let first = c.in-Some-Some.first.now in
    let top = c.in-Some-Some.top.now in
    let lower : c.lt.result ≡ is_lt (rank_cmp top first) = search rules in
    let item = c.in-Some-Some.ensures.item in
    in_front first c.args.run.now.items (heap_items c.args.rest.now) item.3.0 item.1
    (upper_over first top (heap_items c.args.rest.now) (not_back top first (sym lower ∙ yes)) (c.in-Some-Some.ensures'.greatest c.requires.rest))

pub returns-in-Some-Some-clause-no : goal.returns-in-Some-Some-clause-no
returns-in-Some-Some-clause-no c = λ no.
    let first = c.in-Some-Some.first.now in
    let top = c.in-Some-Some.top.now in
    let lower : c.lt.result ≡ is_lt (rank_cmp top first) = search rules in
    let item = c.in-Some-Some.ensures.item in
    let item' = c.in-Some-Some.ensures'.item in
    in_front top (heap_items c.args.rest.now) c.args.run.now.items item'.3.0 item'.1
    (upper_over top first c.args.run.now.items (sym lower ∙ no) (front_over first c.args.run.now.items item.3.0 item.1 c.requires.run))
