use Rattle.tw_symbols.proofs.TextNames.{IsRenamedBy, List, Some, ap, take, take_at, YieldsList-at, YieldsList-end, YieldsList-from_enumerate, YieldsList-from_lines, YieldsList-so_far, YieldsList-turn, all_lines, arith, length, length-append, length-map, line_turn, lines, rules, seen_names, seen_procedures, subst, sym, [], ℕ, ◌∙◌, ◌∷◌, ◌≡◌, ◌≢◌, ◌≤◌}
use denote.Ref.{Bor}
use Rattle.tw_symbols.specs.Answers.{IsBeside}
use Rattle.tw_symbols.proofs.Loops.{lines_in, one_line_in}
use Rattle.tw_symbols.proofs.RenamedLines.{HasCome, IsWithin, beside_more, come_all, come_end, come_to, none_come, within_more}
use Rattle.tw_symbols.proofs.renamed.line_apart.Goals as goal

pub loop-index-init : goal.loop-index-init
loop-index-init c = record {
  next = search rules;
  finite = search rules;
  within = λ most is. omega arith;
  so_far = none_come (seen_procedures c.args.procedures.now) c.args.text.now (seen_names c.new-names.result) c.lines-written.result c.new-names.ensures c.lines-written.ensures.rest;
}

pub loop-index-preserved : goal.loop-index-preserved
loop-index-preserved c =
    let road = YieldsList-at c.into_iter-index-iterator.ensures.into_iter_gives (YieldsList-from_enumerate (YieldsList-at c.enumerate-index-items.ensures.source (YieldsList-from_lines c.args.plain.now c.lines.ensures.rest)) c.enumerate-index-items.ensures.count) in
    let t = YieldsList-turn road c.loop-index.yielded _ c.loop-index.yielded_by _ _ (c.in-Some.index, c.in-Some.line) c.in-Some.is c.next.ensures.steps in
    let at = line_turn (lines c.args.plain.now) c.loop-index.yielded c.in-Some.index c.in-Some.line.now (YieldsList-so_far road c.loop-index.yielded _ c.loop-index.yielded_by) t.0 t.1 in
    let p = seen_procedures c.args.procedures.now in
    let before = seen_names c.loop-index.names in
    let after = seen_names c.read_beside.new.names in
    let here : c.in-Some.index ≡ length c.loop-index.yielded = at.index_is ∙ length-map c.loop-index.yielded (λ (item : ℕ × Bor (List ℕ)). item.1.now) in
    let is = c.in_ok-next.ensures c.if-not-is.false in
    record {
      next = search rules;
      finite = search rules;
      within = subst (λ (n : ℕ). IsWithin n c.args.up_to) (omega (arith, length-append c.loop-index.yielded ((c.in-Some.index, c.in-Some.line) ∷ [])))
          (within_more (length c.loop-index.yielded) c.args.up_to (subst (λ (n : ℕ). c.args.up_to ≢ Some n) here (c.are_all.ensures.more c.if-are_all.false)) c.loop-index.invariant.within);
      so_far = subst (λ (ks : List (List ℕ)). HasCome p (lines c.args.text.now) ks after c.in_ok-next.next c.read_beside.new.text) (sym (one_line_in c.loop-index.yielded (c.in-Some.index, c.in-Some.line)))
          (beside_more p (lines c.args.text.now) (lines_in c.loop-index.yielded) c.in-Some.line.now c.loop-index.count c.in_ok-next.next before after c.loop-index.written c.read_beside.new.text c.loop-index.invariant.so_far is);
    }

pub returns-then-are_all : goal.returns-then-are_all
returns-then-are_all c =
    let road = YieldsList-at c.into_iter-index-iterator.ensures.into_iter_gives (YieldsList-from_enumerate (YieldsList-at c.enumerate-index-items.ensures.source (YieldsList-from_lines c.args.plain.now c.lines.ensures.rest)) c.enumerate-index-items.ensures.count) in
    let t = YieldsList-turn road c.loop-index.yielded _ c.loop-index.yielded_by _ _ (c.in-Some.index, c.in-Some.line) c.in-Some.is c.next.ensures.steps in
    let at = line_turn (lines c.args.plain.now) c.loop-index.yielded c.in-Some.index c.in-Some.line.now (YieldsList-so_far road c.loop-index.yielded _ c.loop-index.yielded_by) t.0 t.1 in
    let p = seen_procedures c.args.procedures.now in
    let front : lines_in c.loop-index.yielded ≡ take c.in-Some.index (lines c.args.plain.now) =
    sym (ap (take c.in-Some.index) at.parts ∙ take_at (lines_in c.loop-index.yielded) (c.in-Some.line.now ∷ at.others) c.in-Some.index (sym at.index_is)) in
    λ _. subst (IsRenamedBy p c.args.text.now c.args.plain.now) (sym (c.are_all.ensures.all c.if-are_all.true))
    (come_to c.args.text.now c.args.plain.now p (lines_in c.loop-index.yielded) (seen_names c.loop-index.names) c.loop-index.count c.in-Some.index c.loop-index.written front c.loop-index.invariant.so_far)

pub returns-then-is_some : goal.returns-then-is_some
returns-then-is_some c =
    let road = YieldsList-at c.into_iter-index-iterator.ensures.into_iter_gives (YieldsList-from_enumerate (YieldsList-at c.enumerate-index-items.ensures.source (YieldsList-from_lines c.args.plain.now c.lines.ensures.rest)) c.enumerate-index-items.ensures.count) in
    let t = YieldsList-end road c.loop-index.yielded _ c.loop-index.yielded_by _ _ c.in-None.is c.next.ensures.steps in
    let all : lines_in c.loop-index.yielded ≡ lines c.args.plain.now = all_lines (lines c.args.plain.now) c.loop-index.yielded t.0 in
    let within = subst (λ (n : ℕ). IsWithin n c.args.up_to) (sym (length-map c.loop-index.yielded (λ (item : ℕ × Bor (List ℕ)). item.1.now))) c.loop-index.invariant.within in
    λ _. come_all c.args.text.now c.args.plain.now (seen_procedures c.args.procedures.now) (lines_in c.loop-index.yielded) (seen_names c.loop-index.names) c.loop-index.count c.loop-index.written c.args.up_to all
    c.loop-index.invariant.so_far within (search rules)

pub returns-in-None-more : goal.returns-in-None-more
returns-in-None-more c =
    let road = YieldsList-at c.into_iter-index-iterator.ensures.into_iter_gives (YieldsList-from_enumerate (YieldsList-at c.enumerate-index-items.ensures.source (YieldsList-from_lines c.args.plain.now c.lines.ensures.rest)) c.enumerate-index-items.ensures.count) in
    let t = YieldsList-end road c.loop-index.yielded _ c.loop-index.yielded_by _ _ c.in-None.is c.next.ensures.steps in
    let all : lines_in c.loop-index.yielded ≡ lines c.args.plain.now = all_lines (lines c.args.plain.now) c.loop-index.yielded t.0 in
    λ _. come_end c.args.text.now c.args.plain.now (seen_procedures c.args.procedures.now) (lines_in c.loop-index.yielded) (seen_names c.loop-index.names) c.loop-index.count c.loop-index.written c.next-more.new.self c.next-more.result c.args.up_to all
    c.loop-index.invariant.so_far c.in-None-more.is c.next-more.ensures.steps (search rules) (c.are_done-done.ensures c.if-done.true)
