use Rattle.tw_soundness.proofs.Ends as ends
use Rattle.tw_soundness.proofs.Safe.{reached_is_held}
use Rattle.tw_soundness.proofs.theorems.ends_well.Goals as goal

pub returns : goal.returns
returns c program typings inputs layout events s is right given e = ends.ends_well program typings s (reached_is_held program typings is right inputs layout events s given e)
