use Rattle.std.proofs.Common.{◌≡◌, ◌++◌, List, Option, subst, sym, ℕ}
use Rattle.tw_replay_output.proofs.ReplayNames.{on_ok_weaker, text_of}
use Rattle.tw_source.specs.declared.source.SourceText.{SourceText}
use Rattle.tw_replay_output.specs.Replay.{MayExplain}
use Rattle.tw_replay_output.proofs.Behinds.{Adds}
use Rattle.tw_replay_output.proofs.replay_details.put_reason.Goals as goal

pub returns-in-Some : goal.returns-in-Some
returns-in-Some c =
    on_ok_weaker c.put_why.result (λ added. subst (λ (o : Option SourceText). Adds (MayExplain (text_of o)) c.args.out.now.items c.put_why.new.out.items) (sym c.in-Some.is) added) c.put_why.ensures
