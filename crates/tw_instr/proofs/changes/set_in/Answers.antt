use Rattle.tw_instr.proofs.Names.{None, Some, ap, bare, data_of, insert, none_is, set_to, store_live, store_scalar, store_write, ◌∙◌}
use Rattle.tw_instr.proofs.Live.{found, written}
use Rattle.tw_instr.proofs.Closes.{after_is}
use Rattle.tw_instr.proofs.changes.set_in.Goals as goal

pub unreachable-requires : goal.unreachable-requires
unreachable-requires c = none_is _ (found c.args.live.now c.args.id None c.in_default.ensures.value) (store_live c.args.value _ c.requires)

pub set-requires-clause-scalar : goal.set-requires-clause-scalar
set-requires-clause-scalar c = store_scalar c.args.value _ c.in-Some.datum.now.datum (found c.args.live.now c.args.id (Some c.in-Some.datum.now) c.in-Some.ensures.value) c.requires

pub set-requires-clause-write : goal.set-requires-clause-write
set-requires-clause-write c = store_write c.args.value _ c.in-Some.datum.now.datum (found c.args.live.now c.args.id (Some c.in-Some.datum.now) c.in-Some.ensures.value) c.requires

pub returns : goal.returns
returns c =
    let there = (found c.args.live.now c.args.id (Some c.in-Some.datum.now) c.in-Some.ensures.value) in
    let changes = written c.args.live.now (c.get_mut.follows.lender c.set.new.self) c.args.id c.in-Some.datum.now c.set.new.self c.in-Some.ensures.value (c.get_mut.follows.holds c.set.new.self) ∙ ap (insert (data_of c.args.live.now.entries) c.args.id) (ap bare c.set.ensures) in
    λ s view. after_is s _ _ _ _ c.in-Some.datum.now.datum (set_to c.args.value) view there changes c.free_unheld.ensures
