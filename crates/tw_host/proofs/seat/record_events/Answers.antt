use Rattle.std.proofs.Common.{◌+◌, ◌<◌, length, ◌++◌, ap, ◌∙◌, arith, drop}
use Rattle.tw_host.proofs.Lists.{moved_there, seen_there}
use Rattle.tw_host.proofs.seat.record_events.Goals as goal

pub loop-k-preserved : goal.loop-k-preserved
loop-k-preserved g c =
    let inv = c.loop-k.invariant in
    let pushed = c.push_from.ensures in
    let events = c.args.history.now.events in
    let low : c.loop-k.k < length events = omega (arith, c.loop-k-test.true, c.len-k-end.ensures) in
    let long = ap length pushed.items ∙ seen_there c.loop-k.events.items events c.loop-k.k low in
    record {
      events = ap (λ es. es ++ drop (c.loop-k.k + 1) events) pushed.items ∙ moved_there c.loop-k.events.items events c.loop-k.k low ∙ inv.events;
      room = omega (arith, inv.room, long, pushed.capacity, low);
      total = omega (arith, inv.total, c.add.ensures.total);
      parts = c.add.ensures.parts ∙ inv.parts;
      amount = omega (arith, c.add.ensures.amount, inv.amount, long);
    }
