use Rattle.tw_handles.proofs.Joined.{joined}
use Rattle.tw_handles.proofs.lists.input_texts.Goals as goal

pub returns : goal.returns
returns c = joined _ _ _ _ _ c.texts.result c.texts.ensures c.add_made.ensures
