use Rattle.std.proofs.Common.{◌≡◌, ◌≤◌, ◌++◌, ◌∙◌, ℕ, List, ap, length, subst, sym}
use Rattle.tw_run_output.proofs.RunNames.{AreShort, Event, on_ok_weaker, run}
use Rattle.tw_replay_output.specs.Replay.{IsPicture, played_from}
use Rattle.tw_source.specs.Reply.{reply}
use Rattle.tw_run_output.proofs.RunEvents.{goes_by, goes_there}
use Rattle.tw_run_output.proofs.ended.put_run_picture.Goals as goal

pub draw-requires : goal.draw-requires
draw-requires c =
    let begun = c.in_ok-first.ensures in
    record { below = begun.below; sizes = subst AreShort (sym c.deref.ensures.value) begun.short; few = subst (λ (es : List Event). length es ≤ 16777217) (sym c.deref.ensures.value) begun.few }

pub returns : goal.returns
returns c =
    let first = c.in_ok-first.field-0.first in
    let read = c.deref.result.now in
    let begun = c.in_ok-first.ensures in
    let run_is = c.requires in
    let r = reply c.in_ok-drawn.drawn.text.items c.in_ok-drawn.drawn.close in
    let goes = goes_there c.args.verified.program c.args.order.now first read c.args.history.now.events run_is.state begun.first (c.deref.ensures.value ∙ begun.events) run_is.reaches in
    let picture = goes_by (run first.program first.layout read first.state) run_is.state (λ t. IsPicture t r) (r ≡ played_from first read) goes c.in_ok-drawn.ensures in
    on_ok_weaker c.put_bytes.result
    (λ added. (r.text, picture.0, picture.1, added ∙ ap (λ (t : List ℕ). c.args.out.now.items ++ t) c.deref-2.ensures.value)) c.put_bytes.ensures
