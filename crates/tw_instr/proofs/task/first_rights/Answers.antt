use Rattle.tw_instr.proofs.Names.{ap, arith, first_rights, length, sym, ◌∙◌}
use Rattle.tw_instr.proofs.Filling.{rights_more, rights_same}
use Rattle.tw_instr.proofs.task.first_rights.Goals as goal
use Rattle.tw_instr.proofs.task.first_rights.Goals.{in-Right, in_default}

pub loop-arg-preserved : goal.loop-arg-preserved
loop-arg-preserved c =
    let k = c.loop-arg.arg-index in
    elim c.match-arg.branch [
      | in-Right w ↦
          let more = rights_more c.args.args.now k c.loop-arg.count _ _ c.arg-item.result w.in-Right.id c.loop-arg-test.true c.arg-item.is w.in-Right.is (omega arith) c.loop-arg.invariant.rights c.loop-arg.invariant.count w.rights-is in
          record { rights = more.0; count = w.count-is ∙ more.1; few = omega arith }
      | in_default w ↦
          let same = rights_same c.args.args.now k c.arg-item.result w.in_default.field-0 c.loop-arg-test.true c.arg-item.is w.in_default.is in
          record { rights = w.rights-is ∙ c.loop-arg.invariant.rights ∙ ap first_rights (sym same); count = w.count-is ∙ c.loop-arg.invariant.count ∙ ap length (sym same); few = omega arith }
    ]
