use Rattle.std.proofs.Common.{inl, inr, arith}
use Rattle.tw_host.proofs.Masks.{none_there}
use Rattle.tw_host.proofs.Settling.{not_both}
use Rattle.tw_host.proofs.Waking.{covers_by}
use Rattle.tw_host.proofs.sleepers.Sleepers.due_of.Goals as goal

pub returns-then-self-of_kind-eq0 : goal.returns-then-self-of_kind-eq0
returns-then-self-of_kind-eq0 c =
    let s = c.args.self.now.asleep in
    let none = none_there s c.bits-of_kind.result c.args.from c.args.to c.bits-of_kind.ensures c.if-self-of_kind-eq0.true in (
      (λ i above below is isnt. not_both s i is (none i (omega (arith, above, c.requires.from)) (omega (arith, below, c.requires.to)))),
      inl (inr (inl (λ i above below. none i (omega (arith, above, c.requires.from)) (omega (arith, below, c.requires.to))))),
    )

pub returns : goal.returns
returns c =
    let s = c.args.self.now.asleep in (
      (λ i above below is isnt. c.due_among.ensures.own i (omega (arith, above, c.requires.from)) (omega (arith, below, c.requires.to)) is isnt),
      covers_by c.args.pool.now s c.args.self.now.out c.due_among.result c.bits-of_kind.result c.args.from c.args.to c.args.kind c.requires.from c.requires.to c.bits-of_kind.ensures c.if-self-of_kind-eq0.false c.lacks-task.result
          c.lacks-task.ensures c.due_among.ensures.one,
    )
