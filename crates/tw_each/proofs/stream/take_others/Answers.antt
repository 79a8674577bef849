use Rattle.tw_each.proofs.Names.{Bor, List, NoMemory, ap, err_from_is_err_and, kept, map, subst, way, ℕ, ◌++◌, ◌∙◌, ◌∷◌, ◌≡◌}
use Rattle.tw_each.proofs.Chunks.{last_apart, no_texts, takes_all, takes_lines, takes_none, takes_some}
use Rattle.tw_each.proofs.stream.take_others.Goals as goal

pub returns-in-None : goal.returns-in-None
returns-in-None g c before chunk first parts begun_is =
    takes_none (way c.args.crew.now.run.now) c.args.answered before c.args.begun.now.items chunk first (g.W.Write.contents c.args.writer.now)
    (parts ∙ ap (λ (ps : List (List ℕ)). first ∷ ps) (no_texts c.args.others.now c.in-None.ensures.cases)) begun_is

pub returns-in_err-now-in-Some : goal.returns-in_err-now-in-Some
returns-in_err-now-in-Some g c before chunk first parts begun_is bytes at =
    let apart = last_apart c.args.others.now c.in-Some.ended.now c.in-Some.last.now first chunk parts c.in-Some.ensures.cases.0 in
    let p = err_from_is_err_and c.from_residual.result c.from_residual.ensures.1 in
    rw (p.1, p.2) (takes_some (way c.args.crew.now.run.now) c.args.answered before c.deref.result.now c.args.begun.now.items chunk first c.in-Some.last.now.now
    (map (λ (part : Bor (List ℕ)). part.now) c.in-Some.ended.now) (g.W.Write.contents c.args.writer.now) (g.W.Write.contents c.write_begun.new.writer) _ apart (c.deref.ensures.value ∙ begun_is) c.in_err-now-in-Some.ensures bytes at)

pub returns-in_err-keep-in-Some : goal.returns-in_err-keep-in-Some
returns-in_err-keep-in-Some g c before chunk first parts begun_is bytes at =
    let apart = last_apart c.args.others.now c.in-Some.ended.now c.in-Some.last.now first chunk parts c.in-Some.ensures.cases.0 in
    let p = err_from_is_err_and c.from_residual-in_err-keep-in-Some.result c.from_residual-in_err-keep-in-Some.ensures.1 in
    rw (p.1, p.2) (takes_all (way c.args.crew.now.run.now) c.args.answered c.in_ok-now-in-Some.now before c.deref.result.now c.keep.new.line.items chunk first c.in-Some.last.now.now
    (map (λ (part : Bor (List ℕ)). part.now) c.in-Some.ended.now) (g.W.Write.contents c.args.writer.now) (g.W.Write.contents c.write_begun.new.writer) NoMemory apart (c.deref.ensures.value ∙ begun_is) c.in_ok-now-in-Some.ensures bytes at)

pub returns-in_ok-keep-in-Some : goal.returns-in_ok-keep-in-Some
returns-in_ok-keep-in-Some g c before chunk first parts begun_is =
    let apart = last_apart c.args.others.now c.in-Some.ended.now c.in-Some.last.now first chunk parts c.in-Some.ensures.cases.0 in
    takes_lines (way c.args.crew.now.run.now) c.args.answered c.in_ok-now-in-Some.now before c.deref.result.now c.keep.new.line.items chunk first c.in-Some.last.now.now
    (map (λ (part : Bor (List ℕ)). part.now) c.in-Some.ended.now) (g.W.Write.contents c.args.writer.now) (g.W.Write.contents c.write_begun.new.writer) apart (c.deref.ensures.value ∙ begun_is)
    (subst (λ (b : List ℕ). c.keep.new.line.items ≡ kept (b ++ c.in-Some.last.now.now)) c.clear.ensures.items c.in_ok-keep-in-Some.ensures) c.in_ok-now-in-Some.ensures
