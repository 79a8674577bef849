use Rattle.tw_report.proofs.Names.{arith, err_from_is_err_and, lines_in, ◌+◌}
use Rattle.tw_report.proofs.Histories.{few_events, events_traced}
use Rattle.tw_report.proofs.HistoryReading.{read_ended, read_fault, read_last, read_more, shorter, went}
use Rattle.tw_report.proofs.history.read_history.Goals as goal

pub returns-in_err-take_line-clause-traced : goal.returns-in_err-take_line-clause-traced
returns-in_err-take_line-clause-traced c =
    let p = err_from_is_err_and c.from_residual.result c.from_residual.ensures.1 in
    rw (p.1, p.2)
    (read_fault c.args.text.now c.loop-events.rest.now c.first_line.result.0.now _ c.loop-events.events.items c.take_line.new.events.items c.loop-events.count c.in_err-take_line.field-0.0 c.loop-events.invariant.read c.first_line.ensures c.in_err-take_line.ensures)

pub returns-then-not-branch-clause-traced : goal.returns-then-not-branch-clause-traced
returns-then-not-branch-clause-traced c =
    read_ended c.args.text.now c.loop-events.rest.now c.first_line.result.0.now _ c.loop-events.events.items c.take_line.new.events.items c.loop-events.count c.in_ok-take_line.field-0 c.if-not-branch.true c.loop-events.invariant.read
    c.first_line.ensures c.in_ok-take_line.ensures

pub returns-in_default-clause-traced : goal.returns-in_default-clause-traced
returns-in_default-clause-traced c =
    let first = rw c.in_default.is at c.first_line.ensures in
    read_last c.args.text.now c.loop-events.rest.now c.first_line.result.0.now c.loop-events.events.items c.take_line.new.events.items c.loop-events.count c.loop-events.invariant.read first
    (went c.loop-events.events.items c.take_line.new.events.items c.first_line.result.0.now (c.loop-events.count + 1) c.in_ok-take_line.field-0 c.if-not-branch.false c.in_ok-take_line.ensures)

pub returns-then-not-branch-clause-sizes : goal.returns-then-not-branch-clause-sizes
returns-then-not-branch-clause-sizes c = (events_traced (lines_in c.args.text.now) c.take_line.new.events.items (returns-then-not-branch-clause-traced c)).0

pub returns-then-not-branch-clause-few : goal.returns-then-not-branch-clause-few
returns-then-not-branch-clause-few c = few_events c.args.text.now c.take_line.new.events.items (returns-then-not-branch-clause-traced c)

pub returns-in_default-clause-sizes : goal.returns-in_default-clause-sizes
returns-in_default-clause-sizes c = (events_traced (lines_in c.args.text.now) c.take_line.new.events.items (returns-in_default-clause-traced c)).0

pub returns-in_default-clause-few : goal.returns-in_default-clause-few
returns-in_default-clause-few c = few_events c.args.text.now c.take_line.new.events.items (returns-in_default-clause-traced c)

pub loop-events-preserved : goal.loop-events-preserved
loop-events-preserved c =
    let first = rw c.in-Some.is at c.first_line.ensures in
    record {
      read =
          read_more c.args.text.now c.loop-events.rest.now c.first_line.result.0.now c.in-Some.others.now c.loop-events.events.items c.take_line.new.events.items c.loop-events.count c.loop-events.invariant.read first
          (went c.loop-events.events.items c.take_line.new.events.items c.first_line.result.0.now (c.loop-events.count + 1) c.in_ok-take_line.field-0 c.if-not-branch.false c.in_ok-take_line.ensures);
      within = omega (arith, c.loop-events.invariant.within, shorter c.loop-events.rest.now c.first_line.result.0.now c.in-Some.others.now first);
    }
