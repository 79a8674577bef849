use Rattle.tw_handles.proofs.Names.{ap, capped, ◌∙◌}
use Rattle.tw_handles.proofs.Executed.{all_executed}
use Rattle.tw_handles.proofs.printing.instructions_of.Goals as goal

pub returns : goal.returns
returns c =
    all_executed c.args.left.now _ _ _ (c.capped.ensures ∙ ap capped c.instructions_in.ensures.is) c.cut.ensures c.saturating_add.ensures
