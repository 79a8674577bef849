-- The ranks of each kind, if those of one kind change.
use Rattle.tw_queue.proofs.Names.{Control, IfSome, IsHereOrSame, IsPermutation-sym, IsRankRemoved, Leaf, None, Option, Rank, Ranking, Some, inl, inr, ranks_of, refl, sym, ℕ, ◌≡◌, ◌⊎◌}
use Rattle.tw_queue.specs.QueuesByTarget.{Listed, ranks_at, IsChangedAt, IsTaken}

abbrev both_kinds : Listed → Listed → Ranking
both_kinds control leaf = ranks_of (record { control = control; leaf = leaf })

control_changed : (control leaf new : Listed) (queue : ℕ) → IsChangedAt queue (ranks_at control.queues) (ranks_at new.queues) → IsHereOrSame Control queue (both_kinds control leaf) (both_kinds new leaf)
control_changed control leaf new queue changed Control p = by (changed p)
  where
    by : (p ≡ queue) ⊎ (ranks_at new.queues p ≡ ranks_at control.queues p) → ((Control ≡ Control) × (p ≡ queue)) ⊎ (ranks_at new.queues p ≡ ranks_at control.queues p)
    by (inl e) = inl (refl, e)
    by (inr e) = inr e
control_changed control leaf new queue changed Leaf p = inr refl

leaf_changed : (control leaf new : Listed) (queue : ℕ) → IsChangedAt queue (ranks_at leaf.queues) (ranks_at new.queues) → IsHereOrSame Leaf queue (both_kinds control leaf) (both_kinds control new)
leaf_changed control leaf new queue changed Leaf p = by (changed p)
  where
    by : (p ≡ queue) ⊎ (ranks_at new.queues p ≡ ranks_at leaf.queues p) → ((Leaf ≡ Leaf) × (p ≡ queue)) ⊎ (ranks_at new.queues p ≡ ranks_at leaf.queues p)
    by (inl e) = inl (refl, e)
    by (inr e) = inr e
leaf_changed control leaf new queue changed Control p = inr refl

turned : (queue : ℕ) (old new : Listed) → IsChangedAt queue (ranks_at old.queues) (ranks_at new.queues) → IsChangedAt queue (ranks_at new.queues) (ranks_at old.queues)
turned queue old new changed p = by (changed p)
  where
    by : (p ≡ queue) ⊎ (ranks_at new.queues p ≡ ranks_at old.queues p) → (p ≡ queue) ⊎ (ranks_at old.queues p ≡ ranks_at new.queues p)
    by (inl e) = inl e
    by (inr e) = inr (sym e)

-- ---- of control tasks

pub control_gone : (control leaf new : Listed) (r : Option Rank) → IfSome r (λ rank. IsTaken rank (ranks_at control.queues) (ranks_at new.queues)) → IfSome r (λ rank. IsRankRemoved rank (both_kinds control leaf) (both_kinds new leaf))
control_gone control leaf new None taken = tt
control_gone control leaf new (Some rank) taken = (Control, taken.0, record { here = IsPermutation-sym _ _ taken.1; others = control_changed new leaf control taken.0 (turned taken.0 control new taken.2) })

-- ---- of leaf tasks

pub leaf_gone : (control leaf new : Listed) (r : Option Rank) → IfSome r (λ rank. IsTaken rank (ranks_at leaf.queues) (ranks_at new.queues)) → IfSome r (λ rank. IsRankRemoved rank (both_kinds control leaf) (both_kinds control new))
leaf_gone control leaf new None taken = tt
leaf_gone control leaf new (Some rank) taken = (Leaf, taken.0, record { here = IsPermutation-sym _ _ taken.1; others = leaf_changed control new leaf taken.0 (turned taken.0 leaf new taken.2) })
