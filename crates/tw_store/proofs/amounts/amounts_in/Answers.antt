use Rattle.tw_store.proofs.Names.{List, Slot, ap, arith, byte_count, member_count, refl, rules, sum_by, ℕ, ◌∙◌}
use Rattle.tw_store.proofs.Sums.{in_slot, sum_over, sum_step}
use Rattle.tw_store.proofs.amounts.amounts_in.Goals as goal

pub loop-slot-init : goal.loop-slot-init
loop-slot-init c =
    let left = c.into_iter-slot-iterator.ensures.into_iter_gives ∙ c.iter-slot-items.ensures.rest in
    let members = ap (λ (es : List (ℕ × Slot)). sum_by (in_slot member_count) es) left in
    let bytes = ap (λ (es : List (ℕ × Slot)). sum_by (in_slot byte_count) es) left in
    record { next = search rules; finite = search rules; few_members = omega arith; few_bytes = omega arith; members = omega (arith, members); bytes = omega (arith, bytes) }

pub loop-slot-preserved : goal.loop-slot-preserved
loop-slot-preserved c =
    let steps = c.in-Some.ensures.steps in
    record {
      next = search rules;
      finite = search rules;
      few_members = omega (arith, c.saturating_add.ensures);
      few_bytes = omega (arith, c.saturating_add-in-loop-slot.ensures);
      members = sum_step member_count c.loop-slot.amounts.members c.count.result _ c.in-Some.field-0-0 _ c.in-Some.slot.now _ c.next.new.self steps (omega (arith, c.count.ensures, c.count.type_inv)) c.saturating_add.ensures c.loop-slot.invariant.members;
      bytes = sum_step byte_count c.loop-slot.amounts.bytes c.datum_bytes.result _ c.in-Some.field-0-0 _ c.in-Some.slot.now _ c.next.new.self steps c.datum_bytes.ensures c.saturating_add-in-loop-slot.ensures c.loop-slot.invariant.bytes;
    }

pub returns : goal.returns
returns c =
    let none = c.in-None.ensures.steps.0 in
    let members = sum_over member_count c.args.slab.now.slots c.loop-slot.amounts.members c.requires c.loop-slot.invariant.few_members (rw none at c.loop-slot.invariant.members) in
    let bytes = sum_over byte_count c.args.slab.now.slots c.loop-slot.amounts.bytes c.requires c.loop-slot.invariant.few_bytes (rw none at c.loop-slot.invariant.bytes) in
    rw (members, bytes) refl
