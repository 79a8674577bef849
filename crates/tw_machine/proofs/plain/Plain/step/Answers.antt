use Rattle.tw_machine.proofs.Growth.{changes_below}
use Rattle.tw_machine.proofs.plain.Plain.step.Goals as goal

pub returns-clause-below : goal.returns-clause-below
returns-clause-below c = rw (← c.self.view_is) (λ bound h. changes_below c.procedures.result.now c.self.inside.layout c.args.event c.self.inside.state c.step.new.self bound c.step.result c.step.ensures.steps h)
