use Rattle.tw_pool.proofs.Turning as turning
use Rattle.tw_pool.proofs.pool.Pool.complete.Goals as goal

pub returns-then-short : goal.returns-then-short
returns-then-short c =
    turning.with_own c.args.self.now _ c.args.actor c.args.done _ c.requires.owed
    (turning.back_short c.args.self.now _ c.args.actor c.args.done _ c.if-short.ensures c.continue_task.ensures)

pub returns-then-is_last : goal.returns-then-is_last
returns-then-is_last c =
    turning.with_own c.args.self.now _ c.args.actor c.args.done _ c.requires.owed
    (turning.back_last c.args.self.now _ c.args.actor c.args.done _ c.if-short.ensures c.if-is_last.ensures c.stop_at_limit.ensures)

pub returns : goal.returns
returns c =
    turning.with_own c.args.self.now _ c.args.actor c.args.done _ c.requires.owed
    (turning.back_past c.args.self.now _ c.args.actor c.args.done _ c.if-short.ensures c.if-is_last.ensures c.execute_next.ensures)
