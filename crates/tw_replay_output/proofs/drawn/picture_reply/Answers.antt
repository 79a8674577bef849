use Rattle.std.proofs.Common.{◌∙◌, ap}
use Rattle.tw_replay_output.specs.Replay.{close_of}
use Rattle.tw_replay_output.proofs.drawn.picture_reply.Goals as goal

pub returns : goal.returns
returns c = (c.in_ok-text.ensures.xml, c.in_ok-text.ensures.printed, c.close_of-close.ensures ∙ ap close_of c.ending.ensures)
