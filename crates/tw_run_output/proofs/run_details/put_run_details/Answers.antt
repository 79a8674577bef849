use Rattle.std.proofs.Common.{◌≤◌, ◌∙◌, List, ap, length, subst, sym}
use Rattle.std.specs.Option.{option_copied}
use Rattle.tw_run_output.proofs.RunNames.{AreShort, Event, on_ok_weaker, run}
use Rattle.tw_replay_output.specs.Stuck.{IsPlayed}
use Rattle.tw_run_output.proofs.Closings.{no_circle, replay_there}
use Rattle.tw_run_output.proofs.RunEvents.{goes_by, goes_there}
use Rattle.tw_run_output.proofs.run_details.put_run_details.Goals as goal

pub returns-in_default : goal.returns-in_default
returns-in_default c = λ s goes. no_circle c.args.verified.program c.args.order.now c.args.history.now.events s c.args.source.now c.args.closing c.args.out.now.items (sym c.stuck_source.ensures ∙ ap option_copied c.in_default.is)

pub play-requires : goal.play-requires
play-requires c =
    let begun = c.in_ok-first.ensures in
    record { below = begun.below; sizes = subst AreShort (sym c.deref.ensures.value) begun.short; few = subst (λ (es : List Event). length es ≤ 16777217) (sym c.deref.ensures.value) begun.few }

pub returns : goal.returns
returns c =
    let program = c.args.verified.program in
    let order = c.args.order.now in
    let events = c.args.history.now.events in
    let first = c.in_ok-first.field-0.first in
    let read = c.deref.result.now in
    let begun = c.in_ok-first.ensures in
    let played = subst (IsPlayed first read) c.in-Ok.is c.in_ok-replaying.ensures in
    let replay = replay_there program order first read events c.in-Ok.replaying begun.first (c.deref.ensures.value ∙ begun.events) played in
    on_ok_weaker c.put_closing_details.result (λ printed s goes. printed program order events s c.requires.source replay goes) c.put_closing_details.ensures

pub unreachable-requires : goal.unreachable-requires
unreachable-requires c =
    let first = c.in_ok-first.field-0.first in
    let read = c.deref.result.now in
    let begun = c.in_ok-first.ensures in
    let run_is = c.requires.finished in
    let stopped = subst (IsPlayed first read) c.in-Err.is c.in_ok-replaying.ensures in
    goes_by (run first.program first.layout read first.state) run_is.state (λ t. ⊥) _
    (goes_there c.args.verified.program c.args.order.now first read c.args.history.now.events run_is.state begun.first (c.deref.ensures.value ∙ begun.events) run_is.reaches) stopped
