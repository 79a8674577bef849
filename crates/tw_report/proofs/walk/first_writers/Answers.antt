use Rattle.tw_report.proofs.Names.{Pending, Some, ap, arith, drop, get, if◌then◌else◌, is_among, length, nat_cmp, suc, sym, writer_of, ◌+◌, ◌-◌, ◌<◌, ◌∙◌, ◌≡◌}
use Rattle.tw_report.proofs.Writers.{put_first}
use Rattle.tw_report.proofs.walk.first_writers.Goals as goal

pub loop-done-preserved : goal.loop-done-preserved
loop-done-preserved c = λ n.
    let rules = c.args.rules.now in
    let i = length rules - 1 - c.loop-done.done in
    let r = c.index-rules-index.result in
    let low : i < length rules = omega arith in
    let next : length rules - c.loop-done.done ≡ suc i = omega arith in
    let here : i ≡ length rules - (c.loop-done.done + 1) = omega arith in
    let put : get nat_cmp c.put_writer.new.found n ≡ (if is_among n r.writes then Some i else get nat_cmp c.loop-done.found n) =
    c.in_ok-put_writer.ensures n ∙ ap (λ ids. if is_among n ids then Some i else get nat_cmp c.loop-done.found n) (c.as_slice.ensures ∙ ap (λ (p : Pending). p.writes) (sym c.index-rules-index.is)) in
    put_first rules i r n (get nat_cmp c.loop-done.found n) (get nat_cmp c.put_writer.new.found n) low c.index-rules-index.is put (c.loop-done.invariant n ∙ ap (λ k. writer_of n (drop k rules)) next)
    ∙ ap (λ k. writer_of n (drop k rules)) here
