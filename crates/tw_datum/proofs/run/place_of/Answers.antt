use Rattle.std.proofs.Common.{sym}
use Rattle.tw_types.specs.ValueOrder.{named}
use Rattle.tw_datum.proofs.Runs.{found, nowhere, to_left, to_right, whole}
use Rattle.tw_datum.proofs.run.place_of.Goals as goal

pub loop-before-init : goal.loop-before-init
loop-before-init g c = whole (named c.args.key) c.args.run.now

pub loop-before-preserved-in-Less : goal.loop-before-preserved-in-Less
loop-before-preserved-in-Less g c = to_left (named c.args.key) c.args.run.now c.loop-before.low c.loop-before.part.now c.loop-before.invariant c.in-Some.before.now c.in-Some.own.now c.in-Some.after.now c.in-Some.ensures (sym c.in-Less.ensures)

pub returns-in-Equal : goal.returns-in-Equal
returns-in-Equal g c = found (named c.args.key) c.args.run.now c.loop-before.low c.loop-before.part.now c.loop-before.invariant c.in-Some.before.now c.in-Some.own.now c.in-Some.after.now c.in-Some.ensures (sym c.in-Equal.ensures)

pub loop-before-preserved : goal.loop-before-preserved
loop-before-preserved g c = to_right (named c.args.key) c.args.run.now c.loop-before.low c.loop-before.part.now c.loop-before.invariant c.in-Some.before.now c.in-Some.own.now c.in-Some.after.now c.in-Some.ensures (sym c.in-Greater.ensures)

pub returns : goal.returns
returns g c = nowhere (named c.args.key) c.args.run.now c.loop-before.low c.loop-before.part.now c.loop-before.invariant c.in_default.ensures
