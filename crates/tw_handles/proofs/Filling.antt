-- Members and values that are read one after another.
use Rattle.tw_handles.proofs.Names.{AreReadTo, AtSubscript, IsReadAt, List, Member, Option, Some, arith, cases_lt, get_set_other, get_set_same, inl, inr, length, set, slice_get, subst, sym, ℕ, ◌+◌, ◌<◌, ◌≡◌, ◌≤◌, ◌⊎◌}

-- one more
pub read_more : (es : List AtSubscript) (first k : ℕ) (room : List Member) (m : Member) → k < length room → AreReadTo es first k room → IsReadAt (slice_get es (first + k)) (Some m) → AreReadTo es first (k + 1) (set room k m)
read_more es first k room m within before here j below = cases (cases_lt j k)
  where
    cases : (j < k) ⊎ (k ≤ j) → IsReadAt (slice_get es (first + j)) (slice_get (set room k m) j)
    cases (inl earlier) =
        let other : j ≡ k → ⊥ = λ same. omega arith in
        subst (λ (read : Option Member). IsReadAt (slice_get es (first + j)) read) (sym (get_set_other room k j m other)) (before j earlier)
    cases (inr later) =
        let same : j ≡ k = omega arith in
        let put = subst (λ (read : Option Member). IsReadAt (slice_get es (first + k)) read) (sym (get_set_same room k m within)) here in
        subst (λ (n : ℕ). IsReadAt (slice_get es (first + n)) (slice_get (set room k m) n)) (sym same) put
