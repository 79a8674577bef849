use Rattle.tw_bounds.proofs.Names.{IsProgram, List, Procedure, subst}
use Rattle.tw_bounds.proofs.Whole.{bounds_runs}
use Rattle.tw_bounds.proofs.whole_runs.run_bounds.Goals as goal

pub returns-clause-runs : goal.returns-clause-runs
returns-clause-runs c =
    let within = subst (λ (ps : List Procedure). IsProgram ps) c.program-program.ensures.is c.procedures-within.ensures.within in
    bounds_runs c.args.verified.now.program _ within c.program-program.ensures.right _ (record {
      tasks = c.in_ok-bounds_by.ensures {u = tt};
      instructions = c.in_ok-bounds_by-2.ensures {u = tt};
      new_data = c.in_ok-bounds_by-3.ensures {u = tt};
      rules = c.in_ok-bounds_by-4.ensures {u = tt};
      members = c.in_ok-bounds_by-5.ensures {u = tt};
      bytes = c.in_ok-bounds_by-6.ensures {u = tt};
      events = c.in_ok-bounds_by-7.ensures {u = tt};
    })
