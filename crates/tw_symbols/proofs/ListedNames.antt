-- Whether a register has been listed, entry by entry.
use Rattle.tw_symbols.proofs.TextNames.{Bank, Binding, Bool, Bor, List, Table, [], ap, arith, false, is_listed, length, length-map, lists, lists_entry, refl, seen_entry, seen_table, slice_get, suc, sym, take, take_all, true, zero, ℕ, ◌+◌, ◌||◌, ◌∙◌, ◌∷◌, ◌≡◌, ◌≤◌}

pub or_none : (x : Bool) → (x || false) ≡ x
or_none true = refl
or_none false = refl

pub or_again : (x y z : Bool) → (x || (y || z)) ≡ ((x || y) || z)
or_again true y z = refl
or_again false y z = refl

or_right : (x y : Bool) → y ≡ true → (x || y) ≡ true
or_right true y e = refl
or_right false y e = e

one_more : (b : Bank) (n : ℕ) (table : Table) (i : ℕ) → is_listed b n (take (suc i) table) ≡ (is_listed b n (take i table) || lists_entry b n (slice_get table i))
one_more b n [] zero = refl
one_more b n [] (suc i) = refl
one_more b n (e ∷ table) zero = or_none (lists b n e.1)
one_more b n (e ∷ table) (suc i) = ap (λ (x : Bool). lists b n e.1 || x) (one_more b n table i) ∙ or_again (lists b n e.1) (is_listed b n (take i table)) (lists_entry b n (slice_get table i))

neither : (x y : Bool) → x ≡ false → y ≡ false → (x || y) ≡ false
neither true y e d = absurd cc
neither false y e d = d

pub passed : (b : Bank) (n : ℕ) (table : Table) (i : ℕ) → is_listed b n (take i table) ≡ false → lists_entry b n (slice_get table i) ≡ false → is_listed b n (take (i + 1) table) ≡ false
passed b n table i e d =
    let next : i + 1 ≡ suc i = omega arith in
    ap (λ (k : ℕ). is_listed b n (take k table)) next ∙ one_more b n table i ∙ neither (is_listed b n (take i table)) (lists_entry b n (slice_get table i)) e d

pub found : (b : Bank) (n : ℕ) (table : Table) (i : ℕ) → lists_entry b n (slice_get table i) ≡ true → is_listed b n table ≡ true
found b n [] zero e = absurd cc
found b n [] (suc i) e = absurd cc
found b n (x ∷ table) zero e = ap (λ (t : Bool). t || is_listed b n table) e
found b n (x ∷ table) (suc i) e = or_right (lists b n x.1) (is_listed b n table) (found b n table i e)

pub all_passed : (b : Bank) (n : ℕ) (es : List (Bor (List ℕ) × Binding)) (i : ℕ) → length es ≤ i → is_listed b n (take i (seen_table es)) ≡ false → is_listed b n (seen_table es) ≡ false
all_passed b n es i all e =
    let short : length (seen_table es) ≤ i = omega (arith, all, length-map es seen_entry) in
    sym (ap (is_listed b n) (take_all i (seen_table es) short)) ∙ e
