use Rattle.std.proofs.Common.{Some, sym, ap, ◌∙◌, arith}
use Rattle.tw_queue.specs.declared.slots.Slot.TheVariants.{Full}
use Rattle.tw_queue.proofs.Kept.{changed_set, filled, first_not_full, first_within, pushed, read_first}
use Rattle.tw_queue.proofs.slots.Slots.fill.Goals as goal

pub invariant_of-self : goal.invariant_of-self
invariant_of-self c = rw c.push_reserved.ensures.items (pushed _ _ _ c.self.invariant c.args.waiting (omega arith))

pub index_mut-requires : goal.index_mut-requires
index_mut-requires c = omega (arith, first_within _ _ _ c.self.invariant (λ e. omega arith))

pub invariant_of-self-in-Free : goal.invariant_of-self-in-Free
invariant_of-self-in-Free c =
    let found = read_first _ _ _ c.self.invariant _ (λ e. omega arith) c.index_mut.ensures.value in
    rw c.replace.ensures.after (filled _ _ _ c.self.invariant c.in-Free.next c.args.waiting (found ∙ ap Some (sym c.replace.ensures.value ∙ c.in-Free.is)))

pub unreachable-requires : goal.unreachable-requires
unreachable-requires c =
    let found = read_first _ _ _ c.self.invariant _ (λ e. omega arith) c.index_mut.ensures.value in
    first_not_full _ _ _ c.self.invariant c.in-Full._waiting (found ∙ ap Some (sym c.replace.ensures.value ∙ c.in-Full.is))

pub returns-in-Free : goal.returns-in-Free
returns-in-Free c =
    let within = first_within _ _ _ c.self.invariant (λ e. omega arith) in
    rw (← c.self.view_is, c.replace.ensures.after) (changed_set _ _ (Full c.args.waiting) (omega arith))
