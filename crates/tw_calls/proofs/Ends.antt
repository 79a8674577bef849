-- Texts with and without a byte at the end.
use Rattle.std.proofs.Common.{inl, inr, ◌≡◌, ◌∙◌, ◌≢◌, ◌++◌, ◌∷◌, ◌+◌, ◌-◌, ◌==◌, [], List, ℕ, Bool, true, ap, sym, subst, refl, length, take, cond, arith, nat_lt}
use Rattle.std.specs.Prelude.{slice_index, suc}
use Rattle.std.specs.Io.BufRead.{ends_with_byte, strip_last}
use Rattle.std.proofs.Math.Seq.{get_or-append_seam, take-append_seam, take-length, take-suc}
use Rattle.std.proofs.lemmas.Bool.{and_from, and_parts, cases_Bool, eq-eqb, eqb-true, lt-ltb, ltb-true}
use Rattle.std.proofs.lemmas.List.{length-append}

ends : (ending : ℕ) (front : List ℕ) → ends_with_byte ending (front ++ (ending ∷ [])) ≡ true
ends ending front =
    let text = front ++ (ending ∷ []) in
    let long : length text ≡ length front + 1 = length-append front (ending ∷ []) in
    let before : length text - 1 ≡ length front = omega (arith, long) in
    let last : slice_index text (length text - 1) ≡ ending = ap (slice_index text) before ∙ get_or-append_seam front ending [] 0 in
    and_from (nat_lt 0 (length text)) (slice_index text (length text - 1) == ending) (lt-ltb 0 (length text) (omega (arith, long))) (eq-eqb (slice_index text (length text - 1)) ending last)

-- a text without the byte at its end
pub stripped : (ending : ℕ) (front text : List ℕ) → text ≡ front ++ (ending ∷ []) → front ≡ strip_last ending text
stripped ending front text e = subst (λ (t : List ℕ). front ≡ strip_last ending t) (sym e) at_end
  where
    at_end : front ≡ strip_last ending (front ++ (ending ∷ []))
    at_end =
        let text = front ++ (ending ∷ []) in
        let long : length text ≡ length front + 1 = length-append front (ending ∷ []) in
        let before : length text - 1 ≡ length front = omega (arith, long) in
        subst (λ (b : Bool). front ≡ cond b (take (length text - 1) text) text) (sym (ends ending front)) (sym (ap (λ n. take n text) before ∙ take-append_seam front (ending ∷ [])))

-- a text that hasn't the byte at its end is unchanged
pub left_whole : (ending : ℕ) (text : List ℕ) → ((front : List ℕ) → text ≢ front ++ (ending ∷ [])) → text ≡ strip_last ending text
left_whole ending text none = elim (cases_Bool (ends_with_byte ending text)) [
  | inl ends_so ↦ absurd (none (take (length text - 1) text) (parted ends_so))
  | inr other ↦ subst (λ (b : Bool). text ≡ cond b (take (length text - 1) text) text) (sym other) refl
]
  where
    parted : ends_with_byte ending text ≡ true → text ≡ take (length text - 1) text ++ (ending ∷ [])
    parted ends_so =
        let both = and_parts (nat_lt 0 (length text)) (slice_index text (length text - 1) == ending) ends_so in
        let some = ltb-true 0 (length text) both.0 in
        let last = eqb-true (slice_index text (length text - 1)) ending both.1 in
        let n = length text - 1 in
        let all : suc n ≡ length text = omega (arith, some) in
        sym (take-length text) ∙ (ap (λ k. take k text) (sym all) ∙ (take-suc text n 0 (omega (arith, some)) ∙ ap (λ b. take n text ++ (b ∷ [])) last))
