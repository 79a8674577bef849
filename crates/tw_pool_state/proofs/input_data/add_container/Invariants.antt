use Rattle.tw_pool_state.proofs.PartNames.{members_by, take}
use Rattle.tw_pool_state.proofs.Filled.{IsFilled}
use Rattle.tw_pool_state.proofs.input_data.add_container.Given as goal

abbrev pub invariant-loop-subscript : goal.invariant-loop-subscript
invariant-loop-subscript g l = IsFilled l.fn.store l.fn.ty (members_by g.K.AsValue.value g.V.AsValue.value (take l.subscript-index l.members)) l.store l.write
