use Rattle.tw_instr.proofs.Names.{None, Some, ap, bare, data_of, drop_write_live, drop_write_write, insert, none_is, one_write_less, ◌∙◌}
use Rattle.tw_instr.proofs.Live.{found, written}
use Rattle.tw_instr.proofs.Closes.{after_is}
use Rattle.tw_instr.proofs.changes.drop_write_in.Goals as goal

pub unreachable-requires : goal.unreachable-requires
unreachable-requires c = none_is _ (found c.args.live.now c.args.id None c.in_default.ensures.value) (drop_write_live _ c.requires)

pub take_write-requires : goal.take_write-requires
take_write-requires c = drop_write_write _ c.in-Some.datum.now.datum (found c.args.live.now c.args.id (Some c.in-Some.datum.now) c.in-Some.ensures.value) c.requires

pub returns : goal.returns
returns c =
    let there = (found c.args.live.now c.args.id (Some c.in-Some.datum.now) c.in-Some.ensures.value) in
    let changes = written c.args.live.now (c.get_mut.follows.lender c.take_write.new.self) c.args.id c.in-Some.datum.now c.take_write.new.self c.in-Some.ensures.value (c.get_mut.follows.holds c.take_write.new.self) ∙ ap (insert (data_of c.args.live.now.entries) c.args.id) (ap bare c.take_write.ensures) in
    λ s view. after_is s _ _ _ _ c.in-Some.datum.now.datum one_write_less view there changes c.free_unheld.ensures
