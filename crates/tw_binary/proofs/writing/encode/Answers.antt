use Rattle.tw_binary.proofs.Names.{All-from_recursion, IsProcedure, IsProgram, [], length, procedure_items, ◌∷◌}
use Rattle.tw_binary.proofs.Joined.{wrote_item}
use Rattle.tw_binary.proofs.writing.encode.Goals as goal

pub put_procedure-requires : goal.put_procedure-requires
put_procedure-requires c =
    let fits : IsProgram c.procedures-procedures.result.now = rw c.procedures-procedures.ensures.is c.procedures-procedures.ensures.within in
    rw c.procedure-item.is (All-from_recursion IsProcedure c.procedures-procedures.result.now fits.1 c.loop-procedure.procedure-index _ c.loop-procedure-test.true)

pub loop-procedure-preserved : goal.loop-procedure-preserved
loop-procedure-preserved c =
    wrote_item procedure_items c.procedures-procedures.result.now c.loop-procedure.procedure-index c.procedure-item.result (0x54 ∷ 0x57 ∷ 0x42 ∷ c.number-version.result ∷ length c.procedures-procedures.result.now ∷ []) _ _ c.loop-procedure-test.true c.procedure-item.is c.loop-procedure.invariant
    c.in_ok-put_procedure.ensures
