use Rattle.std.proofs.Common.{◌≤◌, ◌+◌, ◌*◌, ◌∙◌, MatchOption, Option, arith, refl, subst}
use Rattle.tw_code.specs.machine.Bounds.{opening_bound, size_of}
use Rattle.tw_code.proofs.Growth.{below_more}
use Rattle.tw_copies.specs.declared.check.CopyInsertion.{CopyInsertion}
use Rattle.tw_certificate.specs.Noted.{IsContestedAt, IsNoted}
use Rattle.tw_certificate.proofs.Noting.{event_short, first_noted, found_next, left_none, none_found, noted_next}
use Rattle.tw_certificate.proofs.certificate.first_contest_from.Goals as goal

pub loop-event-init : goal.loop-event-init
loop-event-init c =
    let plain = c.args.plain.now in
    record { program = refl; layout = refl; noted = first_noted plain.program plain.layout c.args.events.now plain.state c.args.copied.now c.requires.none; below = c.requires.below }

pub advance-requires-clause-small : goal.advance-requires-clause-small
advance-requires-clause-small c = below_more (opening_bound + 1000000000 * c.loop-event.event-index) _ _ (omega (arith, c.requires.few, c.loop-event-test.true)) c.loop-event.invariant.below

pub returns-in-Some : goal.returns-in-Some
returns-in-Some c =
    let plain = c.loop-event.plain in
    let event = c.event-item.result in
    let set = c.loop-event.copied in
    let contested =
    subst (λ (o : Option CopyInsertion). MatchOption o (IsNoted plain.program plain.layout event plain.state c.advance.new.plain.state set c.advance.new.copied) (IsContestedAt plain.program event plain.state set)) c.in-Some.is
    c.in_ok-at.ensures.found in
    found_next c.args.plain.now plain c.args.events.now c.loop-event.event-index event set c.in-Some.at c.loop-event.invariant.program c.loop-event-test.true c.event-item.is c.loop-event.invariant.noted contested

pub loop-event-preserved : goal.loop-event-preserved
loop-event-preserved c =
    let first = c.args.plain.now in
    let plain = c.loop-event.plain in
    let next = c.advance.new.plain in
    let events = c.args.events.now in
    let k = c.loop-event.event-index in
    let event = c.event-item.result in
    let set = c.loop-event.copied in
    let kept = c.loop-event.invariant in
    let inside = c.loop-event-test.true in
    let noted =
    left_none c.in_ok-at.field-0 (IsNoted plain.program plain.layout event plain.state next.state set c.advance.new.copied) (IsContestedAt plain.program event plain.state set) c.in_default.not-Some c.in_ok-at.ensures.found in
    let short : size_of event ≤ 1000000000 = event_short events k event c.requires.sizes inside c.event-item.is in
    record {
      program = c.in_ok-at.ensures.program ∙ kept.program;
      layout = c.in_ok-at.ensures.layout ∙ kept.layout;
      noted = noted_next first plain next events k event set c.advance.new.copied kept.program kept.layout inside c.event-item.is kept.noted noted;
      below = below_more _ _ _ (omega (arith, short)) (c.in_ok-at.ensures.below (opening_bound + 1000000000 * k) kept.below);
    }

pub returns : goal.returns
returns c =
    let plain = c.args.plain.now in
    let at = c.loop-event in
    none_found plain.program plain.layout c.args.events.now plain.state at.event-index at.plain.state at.copied c.loop-event-test.false at.invariant.noted
