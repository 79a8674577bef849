use Rattle.tw_instr.proofs.Names.{None, Some, absent_is, ap, bare, changed_is, data_of, insert, one_read_more, ◌∙◌}
use Rattle.tw_instr.proofs.Live.{found, written}
use Rattle.tw_instr.proofs.Views.{read_room}
use Rattle.tw_instr.proofs.changes.add_read_in.Goals as goal

pub returns-in_default : goal.returns-in_default
returns-in_default c = λ s view. absent_is s _ _ c.args.id one_read_more view (found c.args.live.now c.args.id None c.in_default.ensures.value) (ap (λ m. data_of m.entries) c.get_mut.follows.holds-at-none)

pub add_read-requires : goal.add_read-requires
add_read-requires c = read_room _ c.in-Some.datum.now.datum (found c.args.live.now c.args.id (Some c.in-Some.datum.now) c.in-Some.ensures.value) c.requires

pub returns : goal.returns
returns c = λ s view. changed_is s _ _ c.args.id c.in-Some.datum.now.datum one_read_more view (found c.args.live.now c.args.id (Some c.in-Some.datum.now) c.in-Some.ensures.value)
    (written c.args.live.now (c.get_mut.follows.lender c.add_read.new.self) c.args.id c.in-Some.datum.now c.add_read.new.self c.in-Some.ensures.value (c.get_mut.follows.holds c.add_read.new.self) ∙ ap (insert (data_of c.args.live.now.entries) c.args.id) (ap bare c.add_read.ensures))
