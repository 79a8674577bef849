use Rattle.std.specs.Vec.{vec_len}
use Rattle.tw_rights.proofs.bundle.Bundle.shut.Given as goal

abbrev pub decreases-loop-arg : goal.decreases-loop-arg
decreases-loop-arg l = vec_len l.args
