use Rattle.std.specs.Vec.Iter.{into_iter_len}
use Rattle.tw_host.proofs.seat.drop_all.Given as goal

abbrev pub decreases-loop-seat : goal.decreases-loop-seat
decreases-loop-seat g l = into_iter_len l.rest
