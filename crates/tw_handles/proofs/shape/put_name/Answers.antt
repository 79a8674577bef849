use Rattle.tw_handles.specs.Shape.{IsNameIn}
use Rattle.tw_handles.proofs.MadeTexts.{made_text}
use Rattle.tw_handles.proofs.shape.put_name.Goals as goal

pub returns-in-Ok : goal.returns-in-Ok
returns-in-Ok c = made_text (IsNameIn c.args.source.now c.args.procedure) c.in-Ok.made.items c.args.text.now.held c.keep_text.new.text.held c.keep_text.result c.in-Ok.ensures c.keep_text.ensures
