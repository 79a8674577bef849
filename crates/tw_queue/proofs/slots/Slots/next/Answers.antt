use Rattle.tw_queue.proofs.Names.{ap, slot_at, sym, ◌∙◌}
use Rattle.tw_queue.proofs.Kept.{first_empty}
use Rattle.tw_queue.proofs.slots.Slots.next.Goals as goal

pub returns-clause-free : goal.returns-clause-free
returns-clause-free c =
    ap (λ s. slot_at s.slots c.self.inside.free) (sym c.self.view_is)
    ∙ first_empty c.self.inside.slots.items c.self.inside.len c.self.inside.free c.self.invariant
