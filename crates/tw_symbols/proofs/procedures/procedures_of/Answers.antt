use Rattle.tw_symbols.proofs.TextNames.{HasNoHead, List, [], append-nil, false, length, length-map, nat_le, nat_tests, arith, ◌≤◌, YieldsList-at, YieldsList-end, YieldsList-from_enumerate, YieldsList-from_lines, YieldsList-so_far, YieldsList-turn, all_lines, line_turn, lines, rules, seen_procedures, subst, sym, ℕ, ◌+◌, ◌∙◌, ◌∷◌, ◌≡◌}
use Rattle.tw_symbols.specs.Seen.{seen_head}
use Rattle.tw_symbols.proofs.Loops.{AreGathered, gather_more, lines_in, one_line_in, too_many}
use Rattle.tw_symbols.proofs.NoHeads.{no_procedure}
use Rattle.tw_symbols.proofs.procedures.procedures_of.Goals as goal

pub loop-index-preserved-in-Continue-1 : goal.loop-index-preserved-in-Continue-1
loop-index-preserved-in-Continue-1 c =
    let road = YieldsList-at c.into_iter-index-iterator.ensures.into_iter_gives (YieldsList-from_enumerate (YieldsList-at c.enumerate-index-items.ensures.source (YieldsList-from_lines c.args.text.now c.lines.ensures.rest)) c.enumerate-index-items.ensures.count) in
    let t = YieldsList-turn road c.loop-index.yielded _ c.loop-index.yielded_by _ _ (c.in-Some.index, c.in-Some.line) c.in-Some.is c.next.ensures.steps in
    let at = line_turn (lines c.args.text.now) c.loop-index.yielded c.in-Some.index c.in-Some.line.now (YieldsList-so_far road c.loop-index.yielded _ c.loop-index.yielded_by) t.0 t.1 in
    record {
      next = search rules;
      finite = search rules;
      gathered = subst (λ (ls : List (List ℕ)). AreGathered ls (seen_procedures c.add_line.new.procedures)) (sym (one_line_in c.loop-index.yielded (c.in-Some.index, c.in-Some.line)))
          (gather_more (lines_in c.loop-index.yielded) c.in-Some.line.now c.in-Some.index (seen_procedures c.loop-index.procedures) (seen_procedures c.add_line.new.procedures) at.index_is c.loop-index.invariant.gathered c.in_ok-add_line.ensures);
    }

pub loop-index-preserved : goal.loop-index-preserved
loop-index-preserved c =
    let road = YieldsList-at c.into_iter-index-iterator.ensures.into_iter_gives (YieldsList-from_enumerate (YieldsList-at c.enumerate-index-items.ensures.source (YieldsList-from_lines c.args.text.now c.lines.ensures.rest)) c.enumerate-index-items.ensures.count) in
    let t = YieldsList-turn road c.loop-index.yielded _ c.loop-index.yielded_by _ _ (c.in-Some.index, c.in-Some.line) c.in-Some.is c.next.ensures.steps in
    let at = line_turn (lines c.args.text.now) c.loop-index.yielded c.in-Some.index c.in-Some.line.now (YieldsList-so_far road c.loop-index.yielded _ c.loop-index.yielded_by) t.0 t.1 in
    let none : HasNoHead c.in-Some.line.now = c.may_begin_procedure.ensures c.if-may_begin_procedure.false in
    record {
      next = search rules;
      finite = search rules;
      gathered = subst (λ (ls : List (List ℕ)). AreGathered ls (seen_procedures c.loop-index.procedures)) (sym (one_line_in c.loop-index.yielded (c.in-Some.index, c.in-Some.line)))
          (gather_more (lines_in c.loop-index.yielded) c.in-Some.line.now c.in-Some.index (seen_procedures c.loop-index.procedures) (seen_procedures c.loop-index.procedures) at.index_is c.loop-index.invariant.gathered
          (none.0, none.1, no_procedure (seen_procedures c.loop-index.procedures) (c.in-Some.index + 1) none.0 none.2));
    }

pub returns-clause-all : goal.returns-clause-all
returns-clause-all c =
    let road = YieldsList-at c.into_iter-index-iterator.ensures.into_iter_gives (YieldsList-from_enumerate (YieldsList-at c.enumerate-index-items.ensures.source (YieldsList-from_lines c.args.text.now c.lines.ensures.rest)) c.enumerate-index-items.ensures.count) in
    let t = YieldsList-end road c.loop-index.yielded _ c.loop-index.yielded_by _ _ c.in-None.is c.next.ensures.steps in
    let all : lines_in c.loop-index.yielded ≡ lines c.args.text.now = all_lines (lines c.args.text.now) c.loop-index.yielded t.0 in
    λ _. subst (λ (ls : List (List ℕ)). AreGathered ls (seen_procedures c.loop-index.procedures)) all c.loop-index.invariant.gathered

pub returns-clause-many : goal.returns-clause-many
returns-clause-many c =
    let road = YieldsList-at c.into_iter-index-iterator.ensures.into_iter_gives (YieldsList-from_enumerate (YieldsList-at c.enumerate-index-items.ensures.source (YieldsList-from_lines c.args.text.now c.lines.ensures.rest)) c.enumerate-index-items.ensures.count) in
    let t = YieldsList-end road c.loop-index.yielded _ c.loop-index.yielded_by _ _ c.in-None.is c.next.ensures.steps in
    let all : lines_in c.loop-index.yielded ≡ lines c.args.text.now = all_lines (lines c.args.text.now) c.loop-index.yielded t.0 in
    λ many. too_many c.args.text.now (lines_in c.loop-index.yielded) [] (seen_procedures c.loop-index.procedures) (sym all ∙ sym (append-nil (lines_in c.loop-index.yielded))) c.loop-index.invariant.gathered
    (omega (arith, many, length-map c.loop-index.procedures.heads.items seen_head))

pub returns-then-not-reads_heads-clause-all : goal.returns-then-not-reads_heads-clause-all
returns-then-not-reads_heads-clause-all c = λ few. absurd (none_many (length c.loop-index.procedures.heads.items) (sym c.reads_heads.ensures ∙ c.if-not-reads_heads.true) few)
  where
    none_many : (n : ℕ) → nat_le n 64 ≡ false → n ≤ 64 → ⊥
    none_many n e few = grind (arith, nat_tests)

pub returns-then-not-reads_heads-clause-many : goal.returns-then-not-reads_heads-clause-many
returns-then-not-reads_heads-clause-many c =
    let road = YieldsList-at c.into_iter-index-iterator.ensures.into_iter_gives (YieldsList-from_enumerate (YieldsList-at c.enumerate-index-items.ensures.source (YieldsList-from_lines c.args.text.now c.lines.ensures.rest)) c.enumerate-index-items.ensures.count) in
    let t = YieldsList-turn road c.loop-index.yielded _ c.loop-index.yielded_by _ _ (c.in-Some.index, c.in-Some.line) c.in-Some.is c.next.ensures.steps in
    let at = line_turn (lines c.args.text.now) c.loop-index.yielded c.in-Some.index c.in-Some.line.now (YieldsList-so_far road c.loop-index.yielded _ c.loop-index.yielded_by) t.0 t.1 in
    λ many. too_many c.args.text.now (lines_in c.loop-index.yielded) (c.in-Some.line.now ∷ at.others) (seen_procedures c.loop-index.procedures) at.parts c.loop-index.invariant.gathered
    (omega (arith, many, length-map c.loop-index.procedures.heads.items seen_head))
