-- Whether keys make the empty set.
use Rattle.tw_instr.proofs.Names.{Bool, IsTrue, List, Notice, Notices, [], ap, arith, false, is_eq, length, notice_cmp, notice_cmp_total, refl, sym, tied_itself, true, ℕ, ◌==◌, ◌||◌, ◌↔◌, ◌∙◌, ◌∷◌, ◌≡◌}
use Rattle.std.proofs.lemmas.Bool.Decides.{nat_tests}
use Rattle.std.specs.FinSet.{contains, contains-empty, contains-insert, empty_of_len, from_list, insert, len, len-empty}

-- an insertion isn't empty
len_insert : (s : Notices) (n : Notice) → len (insert s n) ≡ 0 → ⊥
len_insert s n e =
    let none : contains (insert s n) n ≡ false = ap (λ (t : Notices). contains t n) (empty_of_len _ e) ∙ contains-empty notice_cmp n in
    let some : contains (insert s n) n ≡ true = contains-insert notice_cmp_total s n n ∙ ap (λ r. is_eq r || contains s n) (tied_itself notice_cmp_total n) in
    cc

is_none : (k : ℕ) → (k ≡ 0 → ⊥) → (k == 0) ≡ false
is_none k h = grind (arith, nat_tests)

pub is_empty_set : (b : Bool) (ns : List Notice) → IsTrue b ↔ (length ns ≡ 0) → b ≡ (len (from_list {R = notice_cmp} ns) == 0)
is_empty_set true [] h = ap (λ n. n == 0) (sym (len-empty notice_cmp))
is_empty_set false [] h = let e : false ≡ true = h.1 refl in cc
is_empty_set true (n ∷ ns) h = absurd (omega (arith, h.0 refl))
is_empty_set false (n ∷ ns) h = sym (is_none (len (insert (from_list ns) n)) (len_insert (from_list ns) n))
