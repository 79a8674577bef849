use Rattle.std.proofs.Common.{sym}
use Rattle.tw_types.specs.ValueOrder.{named}
use Rattle.tw_datum.proofs.Runs.{entry_within, value_is}
use Rattle.tw_datum.proofs.run.value_at.Goals as goal

pub bounds-run-place : goal.bounds-run-place
bounds-run-place g c = entry_within (named c.args.key) c.args.run.now c.in-Some.place c.in-Some.ensures

pub returns-in-Some : goal.returns-in-Some
returns-in-Some g c = λ sorted. value_is (named c.args.key) c.args.run.now c.in-Some.place c.in-Some.ensures c.index-run-place.result sorted

pub returns-in-None : goal.returns-in-None
returns-in-None g c = λ sorted. sym (c.in-None.ensures sorted)
