use Rattle.std.proofs.Common.{inl, inr}
use Rattle.tw_handles.proofs.stopping.stop_share.Goals as goal

pub returns-in-Ok : goal.returns-in-Ok
returns-in-Ok c = elim c.put_flag.ensures [
  | inl put ↦ inl (c.in-Ok.copy, c.in-Ok.ensures, put.0, put.1)
  | inr failed ↦ inr failed
]
