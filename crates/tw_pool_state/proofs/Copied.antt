-- RULE and PUT: the values that are copied.
use Rattle.std.proofs.Common.{map as each, length, arith, ◌≡◌, ◌≢◌, ◌<◌, ◌+◌, ℕ, zero, suc, Bool, true, false, not, ◌||◌, if◌then◌else◌, List, [], ◌∷◌, ◌++◌, take, Option, Some, None, refl, sym, ap, subst, ◌∙◌, slice_get}
use Rattle.tw_pool_state.proofs.PartNames.{Param, Value, and_parts, append-nil, has_type, is_val, map-append, named_values, same_Some, values_suit}

-- ---- as a relation

abbrev pub ValOr : Bool → Option Value → Option Value → Type 0 → Type 0 → Type 0
ValOr true declared val rest same = (declared ≡ val) × rest
ValOr false declared val rest same = same

abbrev pub AreVals : List Value → List Param → List ℕ → List Value → Type 0
AreVals values [] registers vals = Unit {0}
AreVals values (p ∷ params) [] vals = Unit {0}
AreVals values (p ∷ params) (register ∷ registers) [] = (is_val p.mode ≡ false) × AreVals values params registers []
AreVals values (p ∷ params) (register ∷ registers) (x ∷ vals) = ValOr (is_val p.mode) (slice_get values register) (Some x) (AreVals values params registers vals) (AreVals values params registers (x ∷ vals))

same_first : {A : Type 0} {a b : A} {xs ys : List A} → (a ∷ xs) ≡ (b ∷ ys) → a ≡ b
same_first e = cc

same_rest : {A : Type 0} {a b : A} {xs ys : List A} → (a ∷ xs) ≡ (b ∷ ys) → xs ≡ ys
same_rest e = cc

pub are_vals : (values : List Value) (params : List Param) (registers : List ℕ) (vals : List Value) → each Some vals ≡ named_values values params registers → AreVals values params registers vals
are_vals values [] registers vals e = tt
are_vals values (p ∷ params) [] vals e = tt
are_vals values (p ∷ params) (register ∷ registers) [] e = by (is_val p.mode) refl e (are_vals values params registers [])
  where
    by : (b : Bool) → is_val p.mode ≡ b → [] ≡ (if b then slice_get values register ∷ named_values values params registers else named_values values params registers)
        → ([] ≡ named_values values params registers → AreVals values params registers []) → (is_val p.mode ≡ false) × AreVals values params registers []
    by true is e rest = cc
    by false is e rest = (is, rest e)
are_vals values (p ∷ params) (register ∷ registers) (x ∷ vals) e = by (is_val p.mode) e (are_vals values params registers vals) (are_vals values params registers (x ∷ vals))
  where
    by : (b : Bool) → (Some x ∷ each Some vals) ≡ (if b then slice_get values register ∷ named_values values params registers else named_values values params registers)
        → (each Some vals ≡ named_values values params registers → AreVals values params registers vals) → ((Some x ∷ each Some vals) ≡ named_values values params registers → AreVals values params registers (x ∷ vals))
        → ValOr b (slice_get values register) (Some x) (AreVals values params registers vals) (AreVals values params registers (x ∷ vals))
    by true e rest same = (sym (same_first e), rest (same_rest e))
    by false e rest same = same e

-- ---- one more of them

abbrev pub one_value : List Value → Param → ℕ → List (Option Value)
one_value values p register = if is_val p.mode then slice_get values register ∷ [] else []

pub named_more : (values : List Value) (params : List Param) (registers : List ℕ) (k : ℕ) (p : Param) (register : ℕ) → slice_get params k ≡ Some p → slice_get registers k ≡ Some register
    → named_values values (take (suc k) params) (take (suc k) registers) ≡ named_values values (take k params) (take k registers) ++ one_value values p register
named_more values [] registers k p register at named = cc
named_more values (q ∷ params) [] k p register at named = cc
named_more values (q ∷ params) (r ∷ registers) zero p register at named =
    let same : q ≡ p = same_Some q p at in
    let own : r ≡ register = same_Some r register named in
    by (is_val q.mode) ∙ ap (λ (x : Param). one_value values x r) same ∙ ap (one_value values p) own
  where
    by : (b : Bool) → (if b then slice_get values r ∷ [] else []) ≡ (if b then slice_get values r ∷ [] else [])
    by b = refl
named_more values (q ∷ params) (r ∷ registers) (suc k) p register at named = by (is_val q.mode) (named_more values params registers k p register at named)
  where
    by : (b : Bool) → named_values values (take (suc k) params) (take (suc k) registers) ≡ named_values values (take k params) (take k registers) ++ one_value values p register
        → (if b then slice_get values r ∷ named_values values (take (suc k) params) (take (suc k) registers) else named_values values (take (suc k) params) (take (suc k) registers))
        ≡ (if b then slice_get values r ∷ named_values values (take k params) (take k registers) else named_values values (take k params) (take k registers)) ++ one_value values p register
    by true e = ap (λ xs. slice_get values r ∷ xs) e
    by false e = e

-- the register of a value parameter is declared
pub is_declared : (values : List Value) (params : List Param) (registers : List ℕ) (k : ℕ) (p : Param) (register : ℕ) → values_suit values params registers ≡ true → slice_get params k ≡ Some p → slice_get registers k ≡ Some register → is_val p.mode ≡ true
    → register < length values
is_declared values [] registers k p register suit at named val = cc
is_declared values (q ∷ params) [] k p register suit at named val = cc
is_declared values (q ∷ params) (r ∷ registers) zero p register suit at named val =
    let same : q ≡ p = same_Some q p at in
    let own : r ≡ register = same_Some r register named in
    let first = (and_parts (not (is_val q.mode) || has_type (slice_get values r) q) (values_suit values params registers) suit).0 in
    let typed : has_type (slice_get values r) q ≡ true = sym (ap (λ b. not b || has_type (slice_get values r) q) (ap (λ (x : Param). is_val x.mode) same ∙ val)) ∙ first in
    subst (λ n. n < length values) own (within values r (some_there (slice_get values r) q typed))
  where
    some_there : (o : Option Value) (q : Param) → has_type o q ≡ true → o ≢ None
    some_there None q e = cc
    some_there (Some x) q e = λ none. cc

    within : (xs : List Value) (n : ℕ) → slice_get xs n ≢ None → n < length xs
    within [] n some = absurd (some refl)
    within (x ∷ xs) zero some = omega arith
    within (x ∷ xs) (suc n) some = let rest = within xs n some in omega (arith, rest)
is_declared values (q ∷ params) (r ∷ registers) (suc k) p register suit at named val =
    is_declared values params registers k p register (and_parts (not (is_val q.mode) || has_type (slice_get values r) q) (values_suit values params registers) suit).1 at named val

-- the values so far, with one more parameter
module _ (values : List Value) (params : List Param) (registers : List ℕ) (k : ℕ) (p : Param) (register : ℕ) (at : slice_get params k ≡ Some p) (named : slice_get registers k ≡ Some register)
    (vals : List Value) (so_far : each Some vals ≡ named_values values (take k params) (take k registers)) where
  next : suc k ≡ k + 1
  next = omega arith

  pub past : is_val p.mode ≡ false → each Some vals ≡ named_values values (take (k + 1) params) (take (k + 1) registers)
  past val = so_far ∙ sym (append-nil (named_values values (take k params) (take k registers)))
      ∙ ap (λ b. named_values values (take k params) (take k registers) ++ (if b then slice_get values register ∷ [] else [])) (sym val)
      ∙ sym (named_more values params registers k p register at named) ∙ ap (λ n. named_values values (take n params) (take n registers)) next

  pub with_value : is_val p.mode ≡ true → (x : Value) → slice_get values register ≡ Some x → (new : List Value) → new ≡ vals ++ x ∷ [] → each Some new ≡ named_values values (take (k + 1) params) (take (k + 1) registers)
  with_value val x there new is = ap (each Some) is ∙ map-append Some vals (x ∷ []) ∙ ap (λ xs. xs ++ Some x ∷ []) so_far
      ∙ ap (λ o. named_values values (take k params) (take k registers) ++ o ∷ []) (sym there)
      ∙ ap (λ b. named_values values (take k params) (take k registers) ++ (if b then slice_get values register ∷ [] else [])) (sym val)
      ∙ sym (named_more values params registers k p register at named) ∙ ap (λ n. named_values values (take n params) (take n registers)) next
