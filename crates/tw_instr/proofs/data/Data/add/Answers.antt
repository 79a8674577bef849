use Rattle.tw_instr.proofs.Names.{ap, with_live, ◌+◌}
use Rattle.tw_instr.proofs.Live.{inserted}
use Rattle.tw_instr.proofs.data.Data.add.Goals as goal

pub returns-clause-made : goal.returns-clause-made
returns-clause-made c =
    let s = c.self.inside in
    rw (← c.self.view_is) (ap (with_live (s.next + 1)) (inserted s.live c.insert.new.self s.next c.args.datum c.in_ok-insert.ensures.updates))
