use Rattle.tw_handles.proofs.Joined.{joined}
use Rattle.tw_handles.proofs.lists.input_ints.Goals as goal

pub returns : goal.returns
returns c = joined _ _ _ _ _ c.ints.result c.ints.ensures c.add_made.ensures
