use Rattle.std.proofs.lemmas.Result.{on_ok_weaker}
use Rattle.tw_stats.specs.declared.counts.Counts.{Counts}
use Rattle.tw_stats.proofs.Sums.{sums_added}
use Rattle.tw_stats.proofs.counts.Counts.add.Goals as goal

pub returns-clause-sums : goal.returns-clause-sums
returns-clause-sums c =
    let new : Counts = record { events = c.saturating_add-self.result; steps = c.saturating_add-self-2.result; kinds = c.add.new.self; tasks = c.add-2.new.self; instructions = c.add-3.new.self } in
    on_ok_weaker c.add-3.result
    (λ instructions is before. sums_added c.args.share c.args.procedure c.args.self.now new c.saturating_add-self.ensures c.saturating_add-self-2.ensures c.in_ok-add.ensures c.in_ok-add-2.ensures instructions is before) c.add-3.ensures
