-- The innermost loop, which is the last that was begun.
use Rattle.tw_instr.proofs.Names.{List, Loop, Some, [], after_end, ap, arith, get_or, length, length-append, refl, reverse, reverse-append, set, suc, sym, take, take_at, turned, with_last, zero, ℕ, ◌++◌, ◌+◌, ◌-◌, ◌<◌, ◌∙◌, ◌∷◌, ◌≡◌, ◌≤◌}

-- a list that ends with this
split : {A : Type 0} (xs : List A) (x : A) → 0 < length xs → x ≡ get_or xs (length xs - 1) x → (front : List A) × (xs ≡ front ++ x ∷ [])
split [] x some is = absurd (omega arith)
split {A} (y ∷ []) x some is = let same : y ≡ x = sym is in ([], ap (λ (z : A). z ∷ []) same)
split {A} (y ∷ z ∷ zs) x some is =
    let e : length (y ∷ z ∷ zs) - 1 ≡ suc (length (z ∷ zs) - 1) = omega arith in
    let rest = split (z ∷ zs) x (omega arith) (is ∙ ap (λ (n : ℕ). get_or (y ∷ z ∷ zs) n x) e) in
    (y ∷ rest.0, ap (λ (ys : List A). y ∷ ys) rest.1)

set_last : {A : Type 0} (front : List A) (x y : A) → set (front ++ x ∷ []) (length front) y ≡ front ++ y ∷ []
set_last [] x y = refl
set_last {A} (z ∷ front) x y = ap (λ (ys : List A). z ∷ ys) (set_last front x y)

more : (place first left : ℕ) (outer : List Loop) → 1 < left → turned place first left outer ≡ record { place = first; loops = record { first = first; left = left - 1 } ∷ outer }
more place first zero outer h = absurd (omega arith)
more place first (suc zero) outer h = absurd (omega arith)
more place first (suc (suc left)) outer h = let e : suc left ≡ suc (suc left) - 1 = omega arith in ap (λ (n : ℕ). record { place = first; loops = record { first = first; left = n } ∷ outer }) e

last : (place first left : ℕ) (outer : List Loop) → left ≤ 1 → turned place first left outer ≡ record { place = place + 1; loops = outer }
last place first zero outer h = refl
last place first (suc zero) outer h = refl
last place first (suc (suc left)) outer h = absurd (omega arith)

module _ (place n : ℕ) (loops : List Loop) (l : Loop) (some : 0 < length loops) (is : l ≡ get_or loops (n - 1) l) (count : n ≡ length loops) where
  parts : (front : List Loop) × (loops ≡ front ++ l ∷ [])
  parts = split loops l some (is ∙ ap (λ (k : ℕ). get_or loops (k - 1) l) count)

  inner_is : after_end place (reverse loops) ≡ Some (turned place l.first l.left (reverse parts.0))
  inner_is = ap (λ (ls : List Loop). after_end place (reverse ls)) parts.1 ∙ ap (after_end place) (reverse-append parts.0 (l ∷ []))

  at_last : n - 1 ≡ length parts.0
  at_last = omega (arith, count, ap length parts.1, length-append parts.0 (l ∷ []))

  replaced : (new : Loop) → set loops (n - 1) new ≡ parts.0 ++ new ∷ []
  replaced new = ap (λ (ls : List Loop). set ls (n - 1) new) parts.1 ∙ ap (λ (k : ℕ). set (parts.0 ++ l ∷ []) k new) at_last ∙ set_last parts.0 l new

  pub turn_again : 1 < l.left → Some (record { place = l.first; loops = reverse (set loops (n - 1) (record { first = l.first; left = l.left - 1 })) }) ≡ after_end place (reverse loops)
  turn_again h =
      let left : Loop = record { first = l.first; left = l.left - 1 } in
      ap (λ (ls : List Loop). Some (record { place = l.first; loops = reverse ls })) (replaced left)
      ∙ ap (λ (ls : List Loop). Some (record { place = l.first; loops = ls })) (reverse-append parts.0 (left ∷ []))
      ∙ sym (ap Some (more place l.first l.left (reverse parts.0) h))
      ∙ sym inner_is

  pub turn_over : (now : Loop) (rest : List Loop) → rest ≡ take (n - 1) (set loops (n - 1) now) → l.left ≤ 1 → Some (record { place = place + 1; loops = reverse rest }) ≡ after_end place (reverse loops)
  turn_over now rest left h =
      let front : rest ≡ parts.0 = left ∙ ap (λ (ls : List Loop). take (n - 1) ls) (replaced now) ∙ ap (λ (k : ℕ). take k (parts.0 ++ now ∷ [])) at_last ∙ take_at parts.0 (now ∷ []) _ refl in
      ap (λ (ls : List Loop). Some (record { place = place + 1; loops = reverse ls })) front
      ∙ sym (ap Some (last place l.first l.left (reverse parts.0) h))
      ∙ sym inner_is

  pub turn_last : reverse (set loops (n - 1) (record { first = l.first; left = 1 })) ≡ with_last (reverse loops)
  turn_last =
      let short : Loop = record { first = l.first; left = 1 } in
      ap reverse (replaced short)
      ∙ reverse-append parts.0 (short ∷ [])
      ∙ sym (ap (λ (ls : List Loop). with_last (reverse ls)) parts.1 ∙ ap with_last (reverse-append parts.0 (l ∷ [])))
