use Rattle.tw_handles.proofs.Joined.{joined}
use Rattle.tw_handles.proofs.lists.input_texts_by_text.Goals as goal

pub returns : goal.returns
returns c = joined _ _ _ _ _ c.texts_by_text-made.result c.texts_by_text-made.ensures c.add_made.ensures
