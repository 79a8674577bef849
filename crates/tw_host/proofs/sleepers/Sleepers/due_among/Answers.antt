use Rattle.std.proofs.Common.{◌<◌, arith}
use Rattle.tw_host.proofs.Waking.{all_considered, more_left, more_one, more_own, one_in}
use Rattle.tw_host.proofs.sleepers.Sleepers.due_among.Goals as goal

pub loop-index-preserved : goal.loop-index-preserved
loop-index-preserved c =
    let inv = c.loop-index.invariant in
    let s = c.args.self.now.asleep in
    let r = c.requires in
    let low : c.loop-index.index < 64 = omega (arith, c.loop-index-test.true, r.to, r.layout.few_engines, r.layout.few_servers, r.layout.few_workers) in
    record {
      own = more_own c.args.pool.now s c.args.from c.loop-index.index c.loop-index.due c.consider.new.due c.loop-index.left c.consider.new.left low c.consider.ensures inv.own;
      left = more_left c.args.pool.now s c.args.from c.loop-index.index c.loop-index.due c.consider.new.due c.loop-index.left c.consider.new.left low c.consider.ensures c.args.task inv.left c.loop-index.auto.index;
      one = more_one c.args.pool.now s c.args.from c.loop-index.index c.loop-index.due c.consider.new.due c.loop-index.left c.consider.new.left low c.consider.ensures inv.one;
    }

pub returns-clause-own : goal.returns-clause-own
returns-clause-own c = λ i above below is isnt. c.loop-index.invariant.own i above (omega (arith, below, c.loop-index-test.false)) is isnt

pub returns-clause-one : goal.returns-clause-one
returns-clause-one c = λ yes i above below is.
    let s = c.args.self.now.asleep in
    let inv = c.loop-index.invariant in
    let end = c.loop-index.auto.index-end (omega (arith, above, below)) in
    all_considered s c.args.from c.args.to c.loop-index.due c.loop-index.left c.args.task (one_in s c.loop-index.due c.args.from c.loop-index.index c.args.to end inv.left)
    (λ left j over under sleeps. inv.one left j over (omega (arith, under, c.loop-index-test.false)) sleeps) yes i above below is
