use Rattle.std.proofs.Common.{[], refl, sym, ◌∙◌, inr, arith, append-nil}
use Rattle.tw_host.proofs.host.Host.run_batch.Goals as goal

pub returns-then-is_err-clause-events : goal.returns-then-is_err-clause-events
returns-then-is_err-clause-events g c = record {
  es = [];
  appended = c.reserve.ensures.items ∙ sym (append-nil c.args.seat.now.events.items);
  few = omega arith;
  own = refl;
  turns = inr (refl, refl);
}
