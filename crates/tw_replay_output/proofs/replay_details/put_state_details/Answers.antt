use Rattle.std.proofs.Common.{Option, subst, sym}
use Rattle.tw_replay_output.proofs.ReplayNames.{AreStateDetails, MayBeSource, on_ok_weaker, text_of}
use Rattle.tw_source.specs.declared.source.SourceText.{SourceText}
use Rattle.tw_replay_output.proofs.Behinds.{Adds}
use Rattle.tw_replay_output.proofs.replay_details.put_state_details.Goals as goal

pub returns-in-Some : goal.returns-in-Some
returns-in-Some c =
    on_ok_weaker c.put_ending_details.result
    (λ printed start events may is.
    let source = subst (λ (o : Option SourceText). MayBeSource o start.program) c.in-Some.is may in
    subst (λ (o : Option SourceText). Adds (AreStateDetails (text_of o) start events c.args.replaying.now.plain.state) c.args.out.now.items c.put_ending_details.new.out.items) (sym c.in-Some.is) (printed start events source is))
    c.put_ending_details.ensures
