use Rattle.tw_workers.proofs.Names.{rules, step_or_batch, ◌++◌, ◌∷◌}
use Rattle.tw_workers.proofs.Driving.{joined, on, over}
use Rattle.tw_workers.proofs.driver.drive_at.Goals as goal

pub loop-preserved : goal.loop-preserved
loop-preserved g c =
    let so_far = c.loop.invariant.driven in
    let later = c.in-Ok.ensures.steps in
    let given = c.take.result in
    let answer = c.make_steps-answer.result in
    let several = c.make_steps-answer.ensures.does.0 in
    record {
      next = search rules;
      finite = search rules;
      program = c.in-Ok.ensures.program;
      driven = (
        so_far.0 ++ step_or_batch several given answer ∷ later.0,
        joined g.D.DriverCalls.does _ _ _ so_far.0 (step_or_batch several given answer ∷ later.0) so_far.1 (_, c.make_steps-answer.ensures.does.1, later.1),
        on _ given c.take.ensures.value so_far.0 so_far.2 several answer later.0 _ later.2,
      );
    }

pub returns-in-Err : goal.returns-in-Err
returns-in-Err g c =
    let so_far = c.loop.invariant.driven in
    let later = c.in-Err.ensures.steps in
    let given = c.take.result in
    let answer = c.make_steps-answer.result in
    let several = c.make_steps-answer.ensures.does.0 in (
      so_far.0 ++ step_or_batch several given answer ∷ later.0,
      joined g.D.DriverCalls.does _ _ _ so_far.0 (step_or_batch several given answer ∷ later.0) so_far.1 (_, c.make_steps-answer.ensures.does.1, later.1),
      over _ given c.take.ensures.value so_far.0 so_far.2 several answer later.0 _ later.2,
    )
