use Rattle.tw_workers.proofs.Names.{None, Some, refl, rules, working, ◌++◌}
use Rattle.tw_workers.proofs.Driving.{joined}
use Rattle.tw_workers.proofs.driver.work.Goals as goal

pub returns-then-short-clause-steps : goal.returns-then-short-clause-steps
returns-then-short-clause-steps g c =
    let done = c.in-Some.done in
    let rest = c.retry_and_stop.ensures in (
      working c.args.job (Some done) ++ rest.0,
      joined g.D.DriverCalls.does _ _ _ (working c.args.job (Some done)) rest.0 c.in-Some.ensures.steps rest.1,
      (done, rest.0, c.in-Some.ensures.before, search rules, rest.2, refl),
    )

pub returns-clause-steps : goal.returns-clause-steps
returns-clause-steps g c =
    let done = c.in-Some.done in
    (working c.args.job (Some done), c.in-Some.ensures.steps, (done, c.in-Some.ensures.before, search rules, refl, refl))

pub returns-in_default-clause-steps : goal.returns-in_default-clause-steps
returns-in_default-clause-steps g c = (working c.args.job None, c.in_default.ensures.steps, refl)
