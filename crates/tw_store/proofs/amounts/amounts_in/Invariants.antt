use Rattle.tw_store.proofs.Names.{byte_count, capped, entries_from, member_count, sum_by, ◌+◌, ◌<◌, ◌^◌, ◌≡◌}
use Rattle.tw_store.proofs.Sums.{in_slot}
use Rattle.tw_store.proofs.amounts.amounts_in.Given as goal

-- the sums so far, with those of the slots that are left, are those of all slots
abbrev pub invariant-loop-slot : goal.invariant-loop-slot
invariant-loop-slot l = record {
  next : (goal.iterator-loop-slot).can_next l.slot-iterator;
  finite : (goal.iterator-loop-slot).is_finite l.slot-iterator;
  few_members : l.amounts.members < 2 ^ 64;
  few_bytes : l.amounts.bytes < 2 ^ 64;
  members : capped (l.amounts.members + sum_by (in_slot member_count) l.slot-iterator) ≡ capped (sum_by (in_slot member_count) (entries_from 0 l.slab.slots));
  bytes : capped (l.amounts.bytes + sum_by (in_slot byte_count) l.slot-iterator) ≡ capped (sum_by (in_slot byte_count) (entries_from 0 l.slab.slots));
}
