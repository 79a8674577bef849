use Rattle.tw_asm.proofs.AsmNames.{Drafted, FirstUnlinked, IsLinked, IsUnlinked, List, YieldsList-from_vec, YieldsList-so_far, YieldsList-turn, [], arith, drop, err_from_is_err_and, goals_in, inl, inr, length, map, map-append, seen_draft, seen_label, subst, suc, sym, ℕ, ◌+◌, ◌∷◌, ◌≡◌}
use Rattle.tw_asm.proofs.Linked.{linked_length, linked_more, parts_of, seen_parts, unlinked_there}
use Rattle.tw_asm.proofs.link.link_code.Goals as goal

pub loop-line-preserved : goal.loop-line-preserved
loop-line-preserved c =
    let done = linked_length (map seen_label c.args.labels.now.entries) 0 (map seen_draft c.loop-line.yielded) c.loop-line.code.items c.loop-line.invariant.linked in
    let place : 0 + length (map seen_draft c.loop-line.yielded) ≡ c.len.result = omega (arith, done, c.len.ensures, c.loop-line.code.ok) in
    let here = subst (λ (k : ℕ). IsLinked (record { labels = (map seen_label c.args.labels.now.entries); place = k; draft = seen_draft c.in-Some.line }) c.in_ok-instr.instr) (sym place) c.in_ok-instr.ensures in
    record {
      next = tt;
      finite = tt;
      linked = rw (c.in_ok-push.ensures.items, map-append seen_draft c.loop-line.yielded (c.in-Some.line ∷ [])) (linked_more (map seen_label c.args.labels.now.entries) 0 (map seen_draft c.loop-line.yielded) c.loop-line.code.items (seen_draft c.in-Some.line) c.in_ok-instr.instr c.loop-line.invariant.linked here);
    }

pub returns-in_err-instr : goal.returns-in_err-instr
returns-in_err-instr c =
    let road = YieldsList-from_vec {s = c.into_iter-line-iterator.result} c.args.drafts.items c.into_iter-line-iterator.ensures.into_iter_gives.0 (omega (arith, c.into_iter-line-iterator.ensures.into_iter_gives.1, c.args.drafts.ok)) in
    let t = YieldsList-turn road c.loop-line.yielded c.loop-line.line-iterator c.loop-line.yielded_by c.next.result c.next.new.self c.in-Some.line c.in-Some.is c.next.ensures.steps in
    let parts = parts_of c.args.drafts.items c.loop-line.yielded c.in-Some.line (YieldsList-so_far road c.loop-line.yielded c.loop-line.line-iterator c.loop-line.yielded_by) t.0 t.1 in
    let done = linked_length (map seen_label c.args.labels.now.entries) 0 (map seen_draft c.loop-line.yielded) c.loop-line.code.items c.loop-line.invariant.linked in
    let place : 0 + length (map seen_draft c.loop-line.yielded) ≡ c.len.result = omega (arith, done, c.len.ensures, c.loop-line.code.ok) in
    let others = drop (suc (length c.loop-line.yielded)) c.args.drafts.items in
    let p = err_from_is_err_and c.from_residual.result c.from_residual.ensures.1 in
    rw (p.1, p.2)
    (elim (c.in_err-instr.ensures) [
      | inl m ↦ inl m
      | inr u ↦ inr (subst (λ (ds : List Drafted). FirstUnlinked (goals_in (map seen_label c.args.labels.now.entries) 0 ds) c.in_err-instr.field-0.0) (sym (seen_parts seen_draft c.args.drafts.items c.loop-line.yielded c.in-Some.line others parts))
          (unlinked_there (map seen_label c.args.labels.now.entries) 0 (map seen_draft c.loop-line.yielded) c.loop-line.code.items (seen_draft c.in-Some.line) (map seen_draft others) c.in_err-instr.field-0.0 c.loop-line.invariant.linked
          (subst (λ (k : ℕ). IsUnlinked (record { labels = (map seen_label c.args.labels.now.entries); place = k; draft = seen_draft c.in-Some.line }) c.in_err-instr.field-0.0) (sym place) u)))
    ])
