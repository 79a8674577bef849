use Rattle.std.proofs.Common.{subst, sym}
use Rattle.tw_replay_output.specs.Counted.{AreShort}
use Rattle.tw_replay_output.proofs.Playing.{all_short}
use Rattle.tw_replay_output.proofs.replay.replayed_reply.Goals as goal

pub events_reply-requires-clause-sizes : goal.events_reply-requires-clause-sizes
events_reply-requires-clause-sizes c = subst AreShort (sym c.deref.ensures.value) (all_short c.in-Ok.events.items c.in-Ok.ensures.sizes)
