-- Sums over the slots are sums over the live data.
use Rattle.std.proofs.Common.{[], ◌≡◌, ◌<◌, ◌+◌, ◌-◌, ◌^◌, ℕ, suc, zero, List, ◌∷◌, Option, Some, None, min, refl, sym, ap, ◌∙◌, arith}
use Rattle.tw_store.proofs.Names.{AreApart, Datum, Slot, capped, datum_in, entries_from, from_entries, get, get-from_entries, live_of, nat_cmp, nat_cmp_total, shown, sum_by, sum_by-cons, total-empty, total-insert}
use Rattle.tw_types.specs.Totals.{sum_of, total}
use Rattle.tw_store.proofs.Shown.{find_none}

apart_rest : (a : Option Slot) (slots : List (Option Slot)) → AreApart (a ∷ slots) → AreApart slots
apart_rest a slots apart p q e f there that same = omega (arith, apart (suc p) (suc q) e f there that same)

first_alone : (a : Slot) (slots : List (Option Slot)) (k : ℕ) → AreApart (Some a ∷ slots) → get (from_entries {R = nat_cmp} (shown datum_in k slots)) a.id ≡ None
first_alone a slots k apart =
    get-from_entries nat_cmp_total (shown datum_in k slots) a.id
    ∙ find_none datum_in slots k a.id (λ p e there is. absurd (omega (arith, apart (suc p) zero e a there refl is)))

pub total_shown : (f : Datum → ℕ) (slots : List (Option Slot)) (k : ℕ) → AreApart slots → total f (from_entries {R = nat_cmp} (shown datum_in k slots)) ≡ sum_of f (shown datum_in k slots)
total_shown f [] k apart = total-empty nat_cmp f
total_shown f (None ∷ slots) k apart = total_shown f slots (suc k) (apart_rest None slots apart)
total_shown f (Some a ∷ slots) k apart =
    let rest = from_entries {R = nat_cmp} (shown datum_in (suc k) slots) in
    let more = rw (first_alone a slots (suc k) apart) at (total-insert nat_cmp nat_cmp_total f rest a.id a.datum.datum) in
    omega (arith, more, total_shown f slots (suc k) (apart_rest (Some a) slots apart))

abbrev pub in_slot : (Datum → ℕ) → ℕ × Slot → ℕ
in_slot f e = f e.1.datum.datum

pub sum_entries : (f : Datum → ℕ) (slots : List (Option Slot)) (k j : ℕ) → sum_by (in_slot f) (entries_from k slots) ≡ sum_of f (shown datum_in j slots)
sum_entries f [] k j = refl
sum_entries f (None ∷ slots) k j = sum_entries f slots (k + 1) (suc j)
sum_entries f (Some a ∷ slots) k j = sum_by-cons (in_slot f) (k, a) (entries_from (k + 1) slots) ∙ ap (λ n. f a.datum.datum + n) (sum_entries f slots (k + 1) (suc j))

pub sum_live : (f : Datum → ℕ) (slots : List (Option Slot)) → AreApart slots → sum_by (in_slot f) (entries_from 0 slots) ≡ total f (live_of slots)
sum_live f slots apart = sum_entries f slots 0 0 ∙ sym (total_shown f slots 0 apart)

-- ---- a sum over the slots, so far and to come

pub sum_step : (f : Datum → ℕ) (sum one made place whole : ℕ) (e : Slot) (left rest : List (ℕ × Slot)) → left ≡ (place, e) ∷ rest → one ≡ capped (f e.datum.datum) → made ≡ min (sum + one) (2 ^ 64 - 1)
    → capped (sum + sum_by (in_slot f) left) ≡ whole → capped (made + sum_by (in_slot f) rest) ≡ whole
sum_step f sum one made place whole e left rest first is more before = let all = ap (sum_by (in_slot f)) first ∙ sum_by-cons (in_slot f) (place, e) rest in omega (arith, is, more, all, before)

pub sum_over : (f : Datum → ℕ) (slots : List (Option Slot)) (sum : ℕ) → AreApart slots → sum < 2 ^ 64 → capped (sum + 0) ≡ capped (sum_by (in_slot f) (entries_from 0 slots)) → sum ≡ capped (total f (live_of slots))
sum_over f slots sum apart small whole = let live = sum_live f slots apart in omega (arith, small, whole, live)
