use Rattle.tw_binary.proofs.Joined.{procedure_written}
use Rattle.tw_binary.proofs.writing.put_procedure.Goals as goal

pub returns : goal.returns
returns c =
    procedure_written c.args.procedure.now c.code_of_kind.result c.as_slice.result.now c.as_slice-2.result.now c.as_slice-3.result.now _ _ _ _ _ c.code_of_kind.ensures c.as_slice.ensures c.as_slice-2.ensures c.as_slice-3.ensures
    (c.in_ok-push.ensures).items c.in_ok-put_params.ensures c.in_ok-put_registers.ensures c.in_ok-put_code.ensures
