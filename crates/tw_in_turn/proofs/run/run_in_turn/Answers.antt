use Rattle.tw_in_turn.proofs.Names.{IsLeftIf, Looked, always_no, ap, looks, never_stops, opened, subst, true, ◌∙◌, ◌≡◌}
use Rattle.std.proofs.lemmas.Result.{IfOk-weaker}
use Rattle.tw_in_turn.proofs.run.run_in_turn.Goals as goal

pub returns-clause-left : goal.returns-clause-left
returns-clause-left c = λ may_stop.
    IfOk-weaker _ _ (IsLeftIf may_stop c.args.seed (opened c.args.verified.now c.args.inputs.now c.args.layout c.args.limit))
    (λ left by. let more = by.2 in (
      more.0,
      more.4,
      λ stopped.
          let yes : by.0 ≡ looks more.1 true = more.3 ∙ ap (looks more.1) stopped in
          absurd (never_stops _ _ more.1 (subst (Looked always_no _ _) yes by.1)),
    )) c.run_until.ensures.left
