use Rattle.std.proofs.Common.{◌≡◌, ◌≤◌, ◌++◌, ◌∙◌, ℕ, List, ap, append_assoc, length, subst, sym}
use Rattle.tw_run_output.proofs.RunNames.{AreShort, Event, on_ok_weaker, run}
use Rattle.tw_replay_output.specs.Counted.{IsCounting}
use Rattle.tw_run_output.proofs.Closings.{replay_there}
use Rattle.tw_run_output.proofs.RunEvents.{goes_by, goes_there}
use Rattle.tw_run_output.proofs.ended.put_run_numbers.Goals as goal

pub count-requires : goal.count-requires
count-requires c =
    let begun = c.in_ok-first.ensures in
    record { below = begun.below; sizes = subst AreShort (sym c.deref.ensures.value) begun.short; few = subst (λ (es : List Event). length es ≤ 16777217) (sym c.deref.ensures.value) begun.few }

pub returns : goal.returns
returns c =
    let program = c.args.verified.program in
    let order = c.args.order.now in
    let events = c.args.history.now.events in
    let first = c.in_ok-first.field-0.first in
    let read = c.deref.result.now in
    let begun = c.in_ok-first.ensures in
    let r = c.in-Ok.counted.replaying in
    let (from, add_up) = subst (IsCounting first read) c.in-Ok.is c.in_ok-counted.ensures in
    let all : read ≡ events = c.deref.ensures.value ∙ begun.events in
    let text = c.in_ok-numbers-in-Ok.numbers.items in
    let added = c.in_ok-put_bytes-in-Ok.ensures ∙ ap (λ (t : List ℕ). c.args.out.now.items ++ t) c.deref-in-Ok-2.ensures.value in
    on_ok_weaker c.put_closing_details.result
    (λ h s goes.
    let (more, are, whole) = h program order events s c.requires.source (replay_there program order first read events r begun.first all from) goes in
    (text, more, are, whole ∙ ap (λ (t : List ℕ). t ++ more) added ∙ append_assoc c.args.out.now.items text more)) c.put_closing_details.ensures

pub unreachable-requires : goal.unreachable-requires
unreachable-requires c =
    let first = c.in_ok-first.field-0.first in
    let read = c.deref.result.now in
    let begun = c.in_ok-first.ensures in
    let run_is = c.requires.finished in
    let stopped = subst (IsCounting first read) c.in-Err.is c.in_ok-counted.ensures in
    goes_by (run first.program first.layout read first.state) run_is.state (λ t. ⊥) _
    (goes_there c.args.verified.program c.args.order.now first read c.args.history.now.events run_is.state begun.first (c.deref.ensures.value ∙ begun.events) run_is.reaches) stopped
