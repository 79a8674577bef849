use Rattle.tw_report.proofs.Names.{IfOk-weaker, None, Some, ap, arith, contains, false, is_met, length, nat_cmp, since, step_from, suc, sym, true, walk, ◌+◌, ◌-◌, ◌==◌, ◌||◌, ◌∙◌, ◌≡◌}
use Rattle.std.proofs.lemmas.Grind.{common_steps}
use Rattle.std.specs.Option.{option_map}
use Rattle.tw_report.proofs.Walks.{met_more, walk_ends, walk_lost, walk_met, walk_on}
use Rattle.tw_report.proofs.walk.circle_of.Goals as goal

pub loop-step-preserved : goal.loop-step-preserved
loop-step-preserved c =
    let rules = c.args.rules.now in
    let at = c.loop-step.at.now in
    let trail = c.loop-step.trail.items in
    let link = c.in-Some-step_from.link in
    let next = c.in-Some-step_from.next.now in
    let steps = length rules - (c.loop-step._step + 1) in
    let new : is_met at.number trail ≡ false = sym (c.loop-step.invariant.met at.number) ∙ ap (λ n. contains nat_cmp c.loop-step.met n) (sym c.number.ensures) ∙ sym c.contains.ensures ∙ c.if-contains.false in
    let step : step_from rules at ≡ Some (link, next) = sym c.step_from.ensures.is ∙ ap (λ o. option_map (λ s. (s.0, s.1.now)) o) c.in-Some-step_from.is in
    let count : suc steps ≡ length rules - c.loop-step._step = omega arith in
    record {
      same =
          ap (λ t. walk steps rules t next) c.in_ok-push.ensures.items
          ∙ sym (walk_on steps rules trail at next link new step)
          ∙ ap (λ n. walk n rules trail at) count ∙ c.loop-step.invariant.same;
      met = λ n.
          let of : link.rule ≡ at.number = c.in-Some-step_from.ensures.rule in
          let more : is_met n c.push.new.self.items ≡ (is_met n trail || link.rule == n) = ap (is_met n) c.in_ok-push.ensures.items ∙ met_more n trail link in
          grind (arith, common_steps, c.loop-step.invariant.met n, c.number-in-loop-step.ensures);
    }

pub returns-then-contains : goal.returns-then-contains
returns-then-contains c =
    let rules = c.args.rules.now in
    let at = c.loop-step.at.now in
    let trail = c.loop-step.trail.items in
    let met : is_met at.number trail ≡ true = sym (c.loop-step.invariant.met at.number) ∙ ap (λ n. contains nat_cmp c.loop-step.met n) (sym c.number.ensures) ∙ sym c.contains.ensures ∙ c.if-contains.true in
    IfOk-weaker c.closed.result _ _
    (λ found h. h ∙ ap (λ t. Some (since at.number t)) c.deref.ensures.value ∙ sym (walk_met (length rules - c.loop-step._step) rules trail at met) ∙ c.loop-step.invariant.same) c.closed.ensures

pub returns-in_default-step_from : goal.returns-in_default-step_from
returns-in_default-step_from c =
    let rules = c.args.rules.now in
    let at = c.loop-step.at.now in
    let trail = c.loop-step.trail.items in
    let steps = length rules - (c.loop-step._step + 1) in
    let new : is_met at.number trail ≡ false = sym (c.loop-step.invariant.met at.number) ∙ ap (λ n. contains nat_cmp c.loop-step.met n) (sym c.number.ensures) ∙ sym c.contains.ensures ∙ c.if-contains.false in
    let none : step_from rules at ≡ None = sym c.step_from.ensures.is ∙ ap (λ o. option_map (λ s. (s.0, s.1.now)) o) c.in_default-step_from.is in
    let count : suc steps ≡ length rules - c.loop-step._step = omega arith in
    sym (walk_ends steps rules trail at new none) ∙ ap (λ n. walk n rules trail at) count ∙ c.loop-step.invariant.same

pub returns-then-contains-2 : goal.returns-then-contains-2
returns-then-contains-2 c =
    let rules = c.args.rules.now in
    let at = c.loop-step.at.now in
    let trail = c.loop-step.trail.items in
    let met : is_met at.number trail ≡ true = sym (c.loop-step.invariant.met at.number) ∙ ap (λ n. contains nat_cmp c.loop-step.met n) (sym c.number-2.ensures) ∙ sym c.contains-2.ensures ∙ c.if-contains-2.true in
    IfOk-weaker c.closed-then-contains-2.result _ _
    (λ found h. h ∙ ap (λ t. Some (since at.number t)) c.deref-then-contains-2.ensures.value ∙ sym (walk_met (length rules - c.loop-step._step) rules trail at met) ∙ c.loop-step.invariant.same)
    c.closed-then-contains-2.ensures

pub returns : goal.returns
returns c =
    let rules = c.args.rules.now in
    let at = c.loop-step.at.now in
    let trail = c.loop-step.trail.items in
    let new : is_met at.number trail ≡ false = sym (c.loop-step.invariant.met at.number) ∙ ap (λ n. contains nat_cmp c.loop-step.met n) (sym c.number-2.ensures) ∙ sym c.contains-2.ensures ∙ c.if-contains-2.false in
    let count : 0 ≡ length rules - c.loop-step._step = omega arith in
    sym (walk_lost rules trail at new) ∙ ap (λ n. walk n rules trail at) count ∙ c.loop-step.invariant.same
