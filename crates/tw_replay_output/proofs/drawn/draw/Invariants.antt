use Rattle.tw_replay_output.proofs.Replays.{IsAt}
use Rattle.tw_replay_output.proofs.drawn.draw.Given as goal

abbrev pub invariant-loop-index : goal.invariant-loop-index
invariant-loop-index l = IsAt l.fn.first l.events l.index l.replaying
