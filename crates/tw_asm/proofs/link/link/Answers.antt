use Rattle.tw_asm.proofs.AsmNames.{AllByRecursion, FirstUnlinked, HasLabelsWithin, List, Section, YieldsList-from_vec, YieldsList-so_far, YieldsList-turn, [], arith, drop, err_from_is_err_and, flat_map, inl, inr, length, map, map-append, section_goals, seen_section, subst, suc, sym, ◌∷◌}
use Rattle.tw_asm.proofs.Linked.{parts_of, procedures_more, section_unlinked, seen_parts, within_there}
use Rattle.tw_asm.proofs.link.link.Goals as goal

pub link_section-requires : goal.link_section-requires
link_section-requires c =
    let road = YieldsList-from_vec {s = c.into_iter-section-iterator.result} c.args.sections.items c.into_iter-section-iterator.ensures.into_iter_gives.0 (omega (arith, c.into_iter-section-iterator.ensures.into_iter_gives.1, c.args.sections.ok)) in
    let t = YieldsList-turn road c.loop-section.yielded c.loop-section.section-iterator c.loop-section.yielded_by c.next.result c.next.new.self c.in-Some.section c.in-Some.is c.next.ensures.steps in
    let parts = parts_of c.args.sections.items c.loop-section.yielded c.in-Some.section (YieldsList-so_far road c.loop-section.yielded c.loop-section.section-iterator c.loop-section.yielded_by) t.0 t.1 in
    let others = drop (suc (length c.loop-section.yielded)) c.args.sections.items in
    let seen = seen_parts seen_section c.args.sections.items c.loop-section.yielded c.in-Some.section others parts in
    within_there (map seen_section c.loop-section.yielded) (seen_section c.in-Some.section) (map seen_section others) (subst (AllByRecursion HasLabelsWithin) seen c.requires)

pub returns-in_err-procedure : goal.returns-in_err-procedure
returns-in_err-procedure c =
    let road = YieldsList-from_vec {s = c.into_iter-section-iterator.result} c.args.sections.items c.into_iter-section-iterator.ensures.into_iter_gives.0 (omega (arith, c.into_iter-section-iterator.ensures.into_iter_gives.1, c.args.sections.ok)) in
    let t = YieldsList-turn road c.loop-section.yielded c.loop-section.section-iterator c.loop-section.yielded_by c.next.result c.next.new.self c.in-Some.section c.in-Some.is c.next.ensures.steps in
    let parts = parts_of c.args.sections.items c.loop-section.yielded c.in-Some.section (YieldsList-so_far road c.loop-section.yielded c.loop-section.section-iterator c.loop-section.yielded_by) t.0 t.1 in
    let others = drop (suc (length c.loop-section.yielded)) c.args.sections.items in
    let seen = seen_parts seen_section c.args.sections.items c.loop-section.yielded c.in-Some.section others parts in
    let p = err_from_is_err_and c.from_residual.result c.from_residual.ensures.1 in
    rw (p.1, p.2)
    (elim (c.in_err-procedure.ensures) [
      | inl m ↦ inl m
      | inr u ↦ inr (subst (λ (ss : List Section). FirstUnlinked (flat_map section_goals ss) c.in_err-procedure.field-0.0) (sym seen)
          (section_unlinked (map seen_section c.loop-section.yielded) c.loop-section.procedures.items (seen_section c.in-Some.section) (map seen_section others) c.in_err-procedure.field-0.0 c.loop-section.invariant.linked u))
    ])

pub loop-section-preserved : goal.loop-section-preserved
loop-section-preserved c = record {
  next = tt;
  finite = tt;
  linked = rw (c.in_ok-push.ensures.items, map-append seen_section c.loop-section.yielded (c.in-Some.section ∷ []))
      (procedures_more (map seen_section c.loop-section.yielded) c.loop-section.procedures.items (seen_section c.in-Some.section) c.in_ok-procedure.procedure c.loop-section.invariant.linked c.in_ok-procedure.ensures);
}
