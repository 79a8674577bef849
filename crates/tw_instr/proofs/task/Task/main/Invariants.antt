use Rattle.tw_instr.proofs.Names.{arg_of, map, take, ◌≡◌}
use Rattle.tw_types.specs.Task.{RightArg}
use Rattle.tw_instr.proofs.task.Task.main.Given as goal

abbrev pub invariant-loop-id : goal.invariant-loop-id
invariant-loop-id l = map arg_of l.args.items ≡ map RightArg (take l.id-index l.rights)
