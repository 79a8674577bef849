-- Reading names and goals.
use Rattle.std.proofs.Common.{◌≡◌, ◌==◌, ℕ, ◌≤◌, Bool, true, false, cond, List, [], ◌∷◌, length, codes, Option, Some, None, inl, inr, Ok, Err, Decides, refl, sym, ap, subst, ◌∙◌, arith}
use Rattle.tw_asm.proofs.AsmNames.{AllByRecursion, Bare, Decides-and, Decides-eqb, Decides-or, EncodesDigits, EncodesWith, Form, IsInName, IsInRange, IsLetter, IsName, IsSkip, Limit, Quoted, Reads, Word, all_in_name, as_is, carried, digits_in, digits_read, eqb-true, is_in_name, is_letter, is_name, is_within, ltb-true, nat_lt, nat_tests, ◌||◌}
use Rattle.tw_lexer.proofs.Decided.{within_decide}
use Rattle.tw_asm.proofs.OperandWords.{apart}
use Rattle.tw_asm.specs.reading.Operands.{at_label, further, goal_in, name_in}

no : false ≡ true → ⊥
no e = cc

letter_decide : (b : ℕ) → Decides (is_letter b) (IsLetter b)
letter_decide b = Decides-or (is_within 65 90 b) (is_within 97 122 b) (within_decide 65 90 b) (within_decide 97 122 b)

in_name_decide : (b : ℕ) → Decides (is_in_name b) (IsInName b)
in_name_decide b = Decides-or (is_letter b) (is_within 48 57 b || (b == 95)) (letter_decide b) (Decides-or (is_within 48 57 b) (b == 95) (within_decide 48 57 b) (Decides-eqb b 95))

all_decide : (text : List ℕ) → Decides (all_in_name text) (AllByRecursion IsInName text)
all_decide [] = (λ _. tt, λ _. refl)
all_decide (b ∷ others) = Decides-and (is_in_name b) (all_in_name others) (in_name_decide b) (all_decide others)

pub name_decide : (text : List ℕ) → Decides (is_name text) (IsName text)
name_decide [] = (λ e. absurd (no e), λ h. absurd h)
name_decide (b ∷ others) = Decides-and (is_letter b) (all_in_name others) (letter_decide b) (all_decide others)

-- holds if the bytes are this name
abbrev pub IsThisName : List ℕ → List ℕ → Type 0
IsThisName text name = IsName name × (text ≡ name)

pub name_read : (text : List ℕ) → Reads (IsThisName text) (λ name. length name ≤ 64) (name_in text)
unfolding name_in
name_read text = by (is_name text) (nat_lt 64 (length text)) refl refl
  where
    by : (n l : Bool) → is_name text ≡ n → nat_lt 64 (length text) ≡ l → Reads (IsThisName text) (λ name. length name ≤ 64) (cond n (cond l (Err Limit) (Ok text)) (Err Form))
    by true true is long = ((text, ((name_decide text).0 is, refl)), λ name h m. absurd (omega (arith, ltb-true 64 (length text) long, subst (λ (t : List ℕ). length t ≤ 64) (sym h.1) m)))
    by true false is short = (((name_decide text).0 is, refl), grind (arith, nat_tests))
    by false l isnt _ = λ name h. no (sym isnt ∙ (name_decide text).1 (subst IsName (sym h.1) h.0))

-- ---- goals

abbrev pub HasGoal : Word → ℕ → Option (List ℕ) → Type 0
HasGoal w skip None = EncodesWith (codes "+") skip (w ∷ [])
HasGoal w skip (Some name) = (skip ≡ 0) × IsName name × (w ≡ Bare name)

abbrev pub MayGoal : ℕ → Option (List ℕ) → Type 0
MayGoal skip None = IsSkip skip
MayGoal skip (Some name) = length name ≤ 64

pub no_letter : (b : ℕ) → IsLetter b → b ≡ 43 → ⊥
no_letter b (inl h) e = omega arith
no_letter b (inr h) e = omega arith

pub goal_read : (w : Word) → Reads (λ g. HasGoal w g.skip g.label) (λ g. MayGoal g.skip g.label) (goal_in w)
goal_read (Quoted text) = λ g h. none g.skip g.label h
  where
    none : (skip : ℕ) (label : Option (List ℕ)) → HasGoal (Quoted text) skip label → ⊥
    none skip None (digits, spells, e) = cc
    none skip (Some name) (z, is, e) = cc
goal_read (Bare []) = λ g h. none g.skip g.label h
  where
    none : (skip : ℕ) (label : Option (List ℕ)) → HasGoal (Bare []) skip label → ⊥
    none skip None (digits, spells, e) = cc
    none skip (Some name) (z, is, e) = empty name is e
      where
        empty : (name : List ℕ) → IsName name → Bare [] ≡ Bare name → ⊥
        empty [] h e = h
        empty (b ∷ others) h e = cc
goal_read (Bare (b ∷ rest)) = by (b == 43) refl
  where
    tail_is : (digits : List ℕ) → Bare (b ∷ rest) ∷ [] ≡ Bare (43 ∷ digits) ∷ [] → digits ≡ rest
    tail_is digits e = cc

    head_is : (digits : List ℕ) → Bare (b ∷ rest) ∷ [] ≡ Bare (43 ∷ digits) ∷ [] → b ≡ 43
    head_is digits e = cc

    name_is : (name : List ℕ) → Bare (b ∷ rest) ≡ Bare name → b ∷ rest ≡ name
    name_is name e = cc

    plus : b ≡ 43 → (skip : ℕ) (label : Option (List ℕ)) → HasGoal (Bare (b ∷ rest)) skip label → (n : ℕ) × EncodesDigits n rest × (record { skip = skip; label = label } ≡ further n)
    plus is skip None (digits, spells, e) = (skip, subst (EncodesDigits skip) (tail_is digits e) spells, refl)
    plus is skip (Some name) (z, is_name, e) = absurd (no_letter b (subst IsName (sym (name_is name e)) is_name).0 is)

    named : (b ≡ 43 → ⊥) → (skip : ℕ) (label : Option (List ℕ)) → HasGoal (Bare (b ∷ rest)) skip label → (name : List ℕ) × IsThisName (b ∷ rest) name × (record { skip = skip; label = label } ≡ at_label name)
    named isnt skip None (digits, spells, e) = absurd (isnt (head_is digits e))
    named isnt skip (Some name) (z, is_name, e) = (name, (is_name, name_is name e), ap (λ (n : ℕ). record { skip = n; label = Some name }) z)

    by : (t : Bool) → (b == 43) ≡ t → Reads (λ g. HasGoal (Bare (b ∷ rest)) g.skip g.label) (λ g. MayGoal g.skip g.label) (cond t (as_is further (digits_in 0 65535 rest)) (as_is at_label (name_in (b ∷ rest))))
    by true is =
        carried further (λ n. EncodesDigits n rest) (IsInRange 0 65535) (λ g. HasGoal (Bare (b ∷ rest)) g.skip g.label) (λ g. MayGoal g.skip g.label)
        (λ n h. (rest, h, ap (λ (c : ℕ). Bare (c ∷ rest) ∷ []) (eqb-true b 43 is))) (λ g h. plus (eqb-true b 43 is) g.skip g.label h)
        (λ n h m. m) (λ n h m. m) (digits_in 0 65535 rest) (digits_read 0 65535 rest)
    by false is =
        carried at_label (IsThisName (b ∷ rest)) (λ name. length name ≤ 64) (λ g. HasGoal (Bare (b ∷ rest)) g.skip g.label) (λ g. MayGoal g.skip g.label)
        (λ name h. (refl, h.0, ap (λ (t : List ℕ). Bare t) h.1)) (λ g h. named (apart b 43 is) g.skip g.label h)
        (λ n h m. m) (λ n h m. m) (name_in (b ∷ rest)) (name_read (b ∷ rest))
