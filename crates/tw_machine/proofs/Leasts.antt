-- The first of some ranks.
use Rattle.tw_machine.proofs.Names.{BTreeSet, Bool, IsLeast, IsLowerBound, IsTrue, List, None, Rank, Some, [], ap, arith, btree_set_len, contains, eq_by_cmp, false, is_lt, length, list_any, rank_cmp, refl, true, ◌<◌, ◌||◌, ◌↔◌, ◌∙◌, ◌∷◌, ◌≡◌}
use Rattle.tw_machine.proofs.RankOrder.{not_after, not_before_first, not_before_other}

or_true : (b : Bool) → (b || true) ≡ true
or_true true = refl
or_true false = refl

module _ (has has_other : Rank → Bool) where
  either : (rank : Rank) (P : Type 0) → (has rank ≡ true → P) → (has_other rank ≡ true → P) → (has rank || has_other rank) ≡ true → P
  either rank P left right any = by (has rank) refl any
    where
      by : (b : Bool) → has rank ≡ b → (b || has_other rank) ≡ true → P
      by true e any = left e
      by false e any = right any

  pub other_first : (one other : Rank) → is_lt (rank_cmp other one) ≡ true → IsLeast has (Some one) → IsLeast has_other (Some other) → IsLeast (λ rank. has rank || has_other rank) (Some other)
  other_first one other below first second = (
    ap (λ b. has other || b) second.0 ∙ or_true (has other),
    λ rank any. either rank (is_lt (rank_cmp rank other) ≡ false) (λ there. not_before_first other one rank below (first.1 rank there)) (second.1 rank) any,
  )

  pub one_first : (one other : Rank) → is_lt (rank_cmp other one) ≡ false → IsLeast has (Some one) → IsLeast has_other (Some other) → IsLeast (λ rank. has rank || has_other rank) (Some one)
  one_first one other above first second = (
    ap (λ b. b || has_other one) first.0,
    λ rank any. either rank (is_lt (rank_cmp rank one) ≡ false) (first.1 rank) (λ there. not_before_other one other rank above (second.1 rank there)) any,
  )

  pub only_one : (one : Rank) → IsLeast has (Some one) → IsLeast has_other None → IsLeast (λ rank. has rank || has_other rank) (Some one)
  only_one one first none = (
    ap (λ b. b || has_other one) first.0,
    λ rank any. either rank (is_lt (rank_cmp rank one) ≡ false) (first.1 rank) (λ there. let absent = none rank in cc) any,
  )

  pub only_other : (other : Rank) → IsLeast has None → IsLeast has_other (Some other) → IsLeast (λ rank. has rank || has_other rank) (Some other)
  only_other other none second = (
    ap (λ b. has other || b) second.0 ∙ or_true (has other),
    λ rank any. either rank (is_lt (rank_cmp rank other) ≡ false) (λ there. let absent = none rank in cc) (second.1 rank) any,
  )

  pub neither : IsLeast has None → IsLeast has_other None → IsLeast (λ rank. has rank || has_other rank) None
  neither none no_other rank = ap (λ b. b || has_other rank) (none rank) ∙ no_other rank

-- ---- the first of a set

pub first_least : (set : BTreeSet Rank) (first : Rank) → IsTrue (contains rank_cmp set first) → IsLowerBound rank_cmp set first → IsLeast (contains rank_cmp set) (Some first)
first_least set first has least = (has, λ rank there. not_after first rank (least rank there))

no_keys : (keys : List Rank) (rank : Rank) → (0 < length keys → ⊥) → list_any (eq_by_cmp rank_cmp rank) keys ≡ false
no_keys [] rank none = refl
no_keys (x ∷ keys) rank none = absurd (none (omega arith))

pub none_least : (set : BTreeSet Rank) → (false ≡ true) ↔ (0 < btree_set_len set) → IsLeast (contains rank_cmp set) None
none_least set variant rank = no_keys set.keys rank (λ some. let e : false ≡ true = variant.1 some in cc)
