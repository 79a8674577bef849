-- An instruction comes from one line.
use Rattle.tw_asm.proofs.AsmNames.{Code, HasStatement, HaveStatements, Head, Instr, Label, List, None, OfVersion, Option, ParserState, Registers, Some, Statement, [], after_line, ap, arith, at_start, inl, inr, length, lines, refl, situation_from, subst, suc, sym, ℕ, ◌++◌, ◌+◌, ◌<◌, ◌∙◌, ◌∷◌, ◌≡◌, ◌≤◌, ◌⊎◌}
use Rattle.tw_asm.specs.Theorems.{OneLine}
use Rattle.tw_asm.proofs.Twice.{both_alike, others_say}

-- holds if more procedures have begun, or as many, and the last has at least as many instructions
abbrev IsPast : ParserState → ParserState → Type 0
IsPast s t = (s.procedures < t.procedures) ⊎ ((s.procedures ≡ t.procedures) × (s.instructions ≤ t.instructions))

past_after : (number : ℕ) (said : Option Statement) (s : ParserState) → IsPast s (after_line number said s)
past_after number None s = inr (refl, omega arith)
past_after number (Some (OfVersion version)) s = inr (refl, omega arith)
past_after number (Some (Head kind params)) s = inl (omega arith)
past_after number (Some (Registers registers)) s = inr (refl, omega arith)
past_after number (Some (Label name)) s = inr (refl, omega arith)
past_after number (Some (Code i)) s = inr (refl, omega arith)

past_both : (s t u : ParserState) → IsPast s t → IsPast t u → IsPast s u
past_both s t u (inl a) (inl b) = inl (omega (arith, a, b))
past_both s t u (inl a) (inr b) = inl (omega (arith, a, b.0))
past_both s t u (inr a) (inl b) = inl (omega (arith, a.0, b))
past_both s t u (inr a) (inr b) = inr (a.0 ∙ b.0, omega (arith, a.1, b.1))

past_all : (number : ℕ) (s : ParserState) (said : List (Option Statement)) → IsPast s (situation_from number s said)
past_all number s [] = inr (refl, omega arith)
past_all number s (x ∷ said) = past_both s (after_line number x s) (situation_from (number + 1) (after_line number x s) said) (past_after number x s) (past_all (number + 1) (after_line number x s) said)

-- after the line of an instruction no line has its place
never_again : {Z : Type 0} (number : ℕ) (s : ParserState) (line : List ℕ) (i : Instr) (x : Option Statement) (said : List (Option Statement)) → HasStatement s line (Some (Code i)) → HasStatement s line x
    → s.procedures ≡ (situation_from (number + 1) (after_line number x s) said).procedures → s.instructions ≡ (situation_from (number + 1) (after_line number x s) said).instructions → Z
never_again number s line i x said h l p q =
    let t = situation_from (number + 1) (after_line number x s) said in
    let past = subst (λ (u : ParserState). IsPast u t) (sym (both_alike number s line (Some (Code i)) x h l)) (past_all (number + 1) (after_line number x s) said) in
    elim past [ inl more ↦ absurd (omega (arith, more, p)) | inr same ↦ absurd (omega (arith, same.1, q)) ]

same_before : (number : ℕ) (s : ParserState) (ls : List (List ℕ)) (a b c d : List (Option Statement)) (i j : Instr) → HaveStatements number s ls (a ++ (Some (Code i) ∷ c)) → HaveStatements number s ls (b ++ (Some (Code j) ∷ d))
    → (situation_from number s a).procedures ≡ (situation_from number s b).procedures → (situation_from number s a).instructions ≡ (situation_from number s b).instructions → length a ≡ length b
same_before number s [] [] b c d i j h l p q = absurd h
same_before number s [] (x ∷ a) b c d i j h l p q = absurd h
same_before number s (line ∷ more) [] [] c d i j h l p q = refl
same_before number s (line ∷ more) [] (y ∷ b) c d i j h l p q = never_again number s line i y b h.0 l.0 p q
same_before number s (line ∷ more) (x ∷ a) [] c d i j h l p q = never_again number s line j x a l.0 h.0 (sym p) (sym q)
same_before number s (line ∷ more) (x ∷ a) (y ∷ b) c d i j h l p q =
    let alike = sym (both_alike number s line x y h.0 l.0) in
    ap suc
    (same_before (number + 1) (after_line number x s) more a b c d i j h.1 (others_say number s line more x y (b ++ (Some (Code j) ∷ d)) h.0 l.0 l.1)
    (p ∙ ap (λ (t : ParserState). (situation_from (number + 1) t b).procedures) alike) (q ∙ ap (λ (t : ParserState). (situation_from (number + 1) t b).instructions) alike))

pub one_line : OneLine
one_line text procedure place number other f g =
    let same =
    same_before 1 at_start (lines text) f.before g.before f.after g.after f.i g.i (subst (HaveStatements 1 at_start (lines text)) f.parts f.say) (subst (HaveStatements 1 at_start (lines text)) g.parts g.say)
    (f.procedure_is ∙ sym g.procedure_is) (f.place_is ∙ sym g.place_is) in
    f.number_is ∙ ap (λ (n : ℕ). n + 1) same ∙ sym g.number_is
