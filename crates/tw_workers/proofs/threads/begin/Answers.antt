use denote.Exit.{no}
use denote.Param.{param}
use denote.Param.Send.{arg_send, param_send}
use Rattle.tw_workers.proofs.Crossing.{work}
use Rattle.tw_workers.proofs.threads.begin.Goals as goal

pub spawn_with-requires-send-F : goal.spawn_with-requires-send-F
spawn_with-requires-send-F g c κs within =
    let bounds = c.type_bounds in
    param_send 2 _ (arg_send _ no _ (work _ (param 0 g.row.N) g.N.Named g.N.Ledger _ _ _ _ g.row.G g.row.R bounds.sync-G bounds.sync-R))
