use Rattle.tw_queue.proofs.Names.{Free, slice_get_within}
use Rattle.tw_queue.proofs.Kept.{changed_set, full_at, left}
use Rattle.tw_queue.proofs.slots.Slots.take.Goals as goal

pub invariant_of-self : goal.invariant_of-self
invariant_of-self c =
    let found = full_at c.self.inside.slots.items c.args.slot (rw (← c.self.view_is) at c.requires) in
    rw c.replace.ensures.after (left _ _ _ c.self.invariant c.args.slot found.0 found.1)

pub returns-clause-rest : goal.returns-clause-rest
returns-clause-rest c =
    let found = full_at c.self.inside.slots.items c.args.slot (rw (← c.self.view_is) at c.requires) in
    let within = slice_get_within c.self.inside.slots.items c.args.slot _ found.1 in
    rw (← c.self.view_is, c.replace.ensures.after) (changed_set _ _ (Free c.self.inside.free) within)
