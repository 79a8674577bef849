use Rattle.std.proofs.Common.{ap, sym, subst, ◌∙◌}
use Rattle.tw_frame.specs.Jobs.{JobView}
use Rattle.tw_host.specs.Sees.{IsAnswerOf, IsDoneOf}
use Rattle.tw_host.proofs.Owning.{is_answer_of}
use Rattle.tw_fuzz.proofs.rounds.turn_one.Goals as goal

pub returns-in-Run-clause-kept : goal.returns-in-Run-clause-kept
returns-in-Run-clause-kept c =
    let old = c.args.pool.now in
    let given = subst (λ done. IsDoneOf old.program done) (sym c.take.ensures.value) c.requires.kept in
    let owned = is_answer_of old c.turn.new.self c.args.actor c.take.result c.turn.result c.turn.ensures given in
    ap (λ (job : JobView). job.program) c.run.ensures ∙ subst (IsAnswerOf old.program) c.in-Run.is owned
