use Rattle.tw_replay_output.proofs.ReplayNames.{IsTally}
use Rattle.tw_replay_output.proofs.Replays.{IsAt}
use Rattle.tw_replay_output.proofs.numbers.count.Given as goal

abbrev pub invariant-loop-index : goal.invariant-loop-index
invariant-loop-index l = record { at : IsAt l.fn.first l.events l.index l.replaying; tally : IsTally l.stats_builder }
