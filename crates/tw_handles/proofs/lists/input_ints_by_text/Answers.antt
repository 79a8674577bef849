use Rattle.tw_handles.proofs.Joined.{joined}
use Rattle.tw_handles.proofs.lists.input_ints_by_text.Goals as goal

pub returns : goal.returns
returns c = joined _ _ _ _ _ c.ints_by_text.result c.ints_by_text.ensures c.add_made.ensures
