-- The label that an instruction's words name.
use Rattle.tw_asm.proofs.AsmNames.{Bare, Bool, Code, EncodeParts, Encodes, EncodesPart, Goals, Instr, List, NamesLabel, None, Part, Skip, Some, Target, Version, Word, [], ap, append_assoc, false, inl, inr, instr_parts, refl, subst, sym, true, ℕ, ◌++◌, ◌∙◌, ◌∷◌, ◌≡◌}
use Rattle.tw_asm.proofs.Rows.{row, skips_last}
use Rattle.tw_asm.proofs.Spelled.{bare_is}

abbrev NoGoal : Goals
NoGoal skip word = ⊥

-- the words of parts name no label, or the last word names one
data LastNamed (goals : Goals) (parts : List Part) (words : List Word) : Type 0 where
  none_named : EncodeParts NoGoal parts words → LastNamed goals parts words
  named_last : (skip : ℕ) (name : List ℕ) (front : List Word) → goals skip name → words ≡ front ++ (Bare name ∷ []) → LastNamed goals parts words

abbrev is_skip : Part → Bool
is_skip (Skip skip) = true
is_skip part = false

plain : (goals : Goals) (part : Part) (words : List Word) → is_skip part ≡ false → EncodesPart goals part words → EncodesPart NoGoal part words
plain goals (Skip skip) words other h = absurd cc
plain goals (Target None) words other h = h
plain goals (Target (Some number)) words other h = h
plain goals part words other h = h

after_plain : (goals : Goals) (part : Part) (parts : List Part) (first others words : List Word) → is_skip part ≡ false → words ≡ first ++ others → EncodesPart goals part first → LastNamed goals parts others → LastNamed goals (part ∷ parts) words
after_plain goals part parts first others words other is h (none_named hs) = none_named (first, others, is, plain goals part first other h, hs)
after_plain goals part parts first others words other is h (named_last skip name front goal e) =
    named_last skip name (first ++ front) goal (is ∙ ap (λ (x : List Word). first ++ x) e ∙ sym (append_assoc first front (Bare name ∷ [])))

last_named : (goals : Goals) (parts : List Part) (words : List Word) → skips_last parts ≡ true → EncodeParts goals parts words → LastNamed goals parts words
last_named goals [] words last h = none_named h
last_named goals (Skip skip ∷ []) words last (first, others, is, inl h, none) = none_named (first, others, is, inl h, none)
last_named goals (Skip skip ∷ []) words last (first, others, is, inr (name, goal, has), none) =
    named_last skip name [] goal (is ∙ ap (λ (x : List Word). x ++ others) has ∙ ap (λ (x : List Word). Bare name ∷ x) none)
last_named goals (Skip skip ∷ part ∷ parts) words last h = absurd cc
last_named goals (part ∷ parts) words last (first, others, is, h, hs) = after_plain goals part parts first others words refl is h (last_named goals parts others last hs)

-- ---- the last word

abbrev last_or : Word → List Word → Word
last_or word [] = word
last_or word (first ∷ others) = last_or first others

last_push : (word : Word) (front : List Word) (last : Word) → last_or word (front ++ (last ∷ [])) ≡ last
last_push word [] last = refl
last_push word (first ∷ front) last = last_push first front last

last_same : (v w : List ℕ) (words front back : List Word) → words ≡ front ++ (Bare v ∷ []) → words ≡ back ++ (Bare w ∷ []) → v ≡ w
last_same v w words front back e f =
    bare_is v w (sym (last_push (Bare []) front (Bare v)) ∙ ap (last_or (Bare [])) (sym e ∙ f) ∙ last_push (Bare []) back (Bare w))

-- ---- goals

-- words that name a label denote an instruction only by that name
pub named_goal : {version : Version} (goals : Goals) (i : Instr) (name : List ℕ) (words : List Word) → NamesLabel version name words → Encodes version goals (Code i) words → (skip : ℕ) × goals skip name
named_goal goals i name words n s =
    both (last_named (λ skip word. word ≡ name) (instr_parts n.i) words (row n.i).last n.spells.parts) (last_named goals (instr_parts i) words (row i).last s.parts)
  where
    both : LastNamed (λ skip word. word ≡ name) (instr_parts n.i) words → LastNamed goals (instr_parts i) words → (skip : ℕ) × goals skip name
    both (none_named h) k = absurd (n.names n.i (record { form = n.spells.form; parts = h }))
    both (named_last skip word front is e) (none_named k) = absurd (n.names i (record { form = s.form; parts = k }))
    both (named_last skip word front is e) (named_last other_skip other back goal f) = (other_skip, subst (goals other_skip) (last_same other word words back front f e ∙ is) goal)

pub named_once : {version : Version} (name other : List ℕ) (words : List Word) → NamesLabel version name words → NamesLabel version other words → name ≡ other
named_once name other words a b = (named_goal (λ skip word. word ≡ other) b.i name words a b.spells).1
