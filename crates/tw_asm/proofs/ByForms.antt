-- Operands that are read by their forms, one after another.
use Rattle.std.proofs.Common.{arith, ◌≡◌, ◌∙◌, ◌-◌, ◌<◌, ◌≤◌, ℕ, List, [], ◌∷◌, Option, Result, Ok, Err, drop, get_or, length, map, refl, subst, sym, take, ap}
use Rattle.tw_asm.proofs.AsmNames.{ArePlain, Instr, IsOfOneWord, IsPlain, Opcode, Operand, TokenError, Version, Word, a_row, as_is, both, forms_in, forms_of, gathered, gathered_in, holds, instr_in, instr_of, made_again, made_of, natural_in, number_in, of_goal, of_type, plain, register_in, take_all, with_one, word_in}
use Rattle.tw_code.specs.declared.form.Form.{Form}
use Rattle.tw_code.specs.declared.form.Form.TheVariants.{Value, Right, Number, Iterations, TypeOf, Skip}
use Rattle.tw_code.specs.declared.operands.Operands.{Operands}
use Rattle.tw_code.specs.declared.operands.PlainOperand.{PlainOperand}
use Rattle.tw_code.specs.format.Table as table
use Rattle.tw_lexer.specs.declared.numbers.TokenError.TheVariants as error
use Rattle.tw_asm.specs.reading.Lines.{LineContent, contents_of, draft_by, draft_in, goal, label_in, line_in, line_of, row_by, type_in}

module _ {A B X Y Z : Type 0} (m : A → X) (f : B → Y) (h : X × Y → Z) where
  joins : (a : Result A TokenError) (b : Result B TokenError) → as_is (λ x. h (m x.0, f x.1)) (both a b) ≡ as_is h (both (as_is m a) (as_is f b))
  joins a (Err error.Form) = refl
  joins (Ok a) (Ok b) = refl
  joins (Err e) (Ok b) = refl
  joins (Ok a) (Err error.Limit) = refl
  joins (Err e) (Err error.Limit) = refl

module _ (version : Version) (forms : List Form) where
  abbrev as_read : LineContent (line_of version forms) → Operands × Option (List ℕ)
  as_read x = (gathered forms (contents_of version forms x), label_in (line_of version forms) x)

  one_more : (form : Form) (w : Word) (ws : List Word) → IsOfOneWord form → gathered_in version (form ∷ forms) (w ∷ ws) ≡ as_is with_one (both (word_in form w) (gathered_in version forms ws))
  one_more Value w ws one = joins (holds Value) as_read with_one (register_in 118 w) (line_in (line_of version forms) ws)
  one_more Right w ws one = joins (holds Right) as_read with_one (register_in 100 w) (line_in (line_of version forms) ws)
  one_more Number w ws one = joins (holds Number) as_read with_one (number_in w) (line_in (line_of version forms) ws)
  one_more Iterations w ws one = joins (holds Iterations) as_read with_one (natural_in 1 1000 w) (line_in (line_of version forms) ws)
  one_more form w ws one = absurd one

  no_word : (form : Form) → IsOfOneWord form → gathered_in version (form ∷ forms) [] ≡ Err error.Form
  no_word Value one = refl
  no_word Right one = refl
  no_word Number one = refl
  no_word Iterations one = refl
  no_word form one = absurd one

-- a form of one word, if it is no skip and no type
one_word : (form : Form) → IsPlain form → (form ≡ Skip → ⊥) → (form ≡ TypeOf → ⊥) → IsOfOneWord form
one_word Value allowed skip type = tt
one_word Right allowed skip type = tt
one_word Number allowed skip type = tt
one_word Iterations allowed skip type = tt
one_word Skip allowed skip type = absurd (skip refl)
one_word TypeOf allowed skip type = absurd (type refl)
one_word form allowed skip type = absurd allowed

-- ---- words, and what a function sees of them

pub no_word_left : {A : Type 0} (f : A → Word) (xs : List A) → length xs < 1 → map f xs ≡ []
no_word_left f [] few = refl
no_word_left f (x ∷ xs) few = absurd (omega (arith, few))

pub words_split : {A : Type 0} (f : A → Word) (xs : List A) (x : A) → 1 ≤ length xs → x ≡ get_or xs 0 x → map f xs ≡ f x ∷ map f (take (length xs - 1) (drop 1 xs))
words_split f [] x some is = absurd (omega (arith, some))
words_split {A = A} f (y ∷ xs) x some is =
    ap (λ (z : A). f z ∷ map f xs) (sym is) ∙ ap (λ (zs : List A). f x ∷ map f zs) (sym (take_all (length (y ∷ xs) - 1) xs (omega arith)))

-- ---- the first form, and those after it

pub no_forms : (version : Version) (all : List Form) (ws : List Word) → length all < 1 → gathered_in version all ws ≡ gathered_in version [] ws
no_forms version [] ws few = refl
no_forms version (form ∷ forms) ws few = absurd (omega (arith, few))

module _ (version : Version) (form : Form) (forms all : List Form) (is : all ≡ form ∷ forms) (allowed : ArePlain all) where
  pub goal_last : (ws : List Word) → form ≡ Skip → gathered_in version all ws ≡ as_is of_goal (line_in goal ws)
  goal_last ws skip =
      let here : all ≡ Skip ∷ forms = is ∙ ap (λ (f : Form). f ∷ forms) skip in
      let only : ArePlain (Skip ∷ forms) = subst ArePlain here allowed in
      ap (λ (fs : List Form). gathered_in version fs ws) (here ∙ ap (λ (fs : List Form). Skip ∷ fs) only.1)

  pub type_last : (ws : List Word) → form ≡ TypeOf → gathered_in version all ws ≡ as_is of_type (type_in version ws)
  type_last ws type =
      let here : all ≡ TypeOf ∷ forms = is ∙ ap (λ (f : Form). f ∷ forms) type in
      let only : ArePlain (TypeOf ∷ forms) = subst ArePlain here allowed in
      ap (λ (fs : List Form). gathered_in version fs ws) (here ∙ ap (λ (fs : List Form). TypeOf ∷ fs) only.1)

  module _ (skip : form ≡ Skip → ⊥) (type : form ≡ TypeOf → ⊥) where
    one : IsOfOneWord form
    one = one_word form (subst ArePlain is allowed).0 skip type

    pub none_read : (ws : List Word) → ws ≡ [] → gathered_in version all ws ≡ Err error.Form
    none_read ws none =
        ap (λ (us : List Word). gathered_in version all us) none ∙ ap (λ (fs : List Form). gathered_in version fs []) is ∙ no_word version forms form one

    -- the first word is read, and the others
    pub one_read : (w : Word) (ws us : List Word) → us ≡ w ∷ ws → (first : Result PlainOperand TokenError) → as_is plain first ≡ word_in form w → (others result : Result (Operands × Option (List ℕ)) TokenError) → others ≡ gathered_in version forms ws → result ≡ as_is with_one (both (as_is plain first) others) → result ≡ gathered_in version all us
    one_read w ws us words first read others result rest made =
        made
        ∙ ap (λ (r : Result Operand TokenError). as_is with_one (both r others)) read
        ∙ ap (λ (r : Result (Operands × Option (List ℕ)) TokenError). as_is with_one (both (word_in form w) r)) rest
        ∙ sym (ap (λ (us : List Word). gathered_in version all us) words ∙ ap (λ (fs : List Form). gathered_in version fs (w ∷ ws)) is ∙ one_more version forms form w ws one)

-- ---- the instruction

module _ {A B C : Type 0} (f : A → B) (k : B → C) (g : A → C) (same : (x : A) → k (f x) ≡ g x) where
  changed : (r : Result A TokenError) → as_is k (as_is f r) ≡ as_is g r
  changed (Ok x) = ap (λ (y : C). Ok y) (same x)
  changed (Err e) = refl

by_row : (version : Version) (r : table.Row) (ws : List Word)
    → draft_by (row_by version r) ws ≡ as_is (λ x. (instr_in r (contents_of version (forms_in r) x), label_in (line_of version (forms_in r)) x)) (line_in (line_of version (forms_in r)) ws)
by_row version (a_row code forms make) ws = refl

-- makes the instruction of what it has gathered
abbrev pub made_from : Opcode → Operands × Option (List ℕ) → Instr × Option (List ℕ)
made_from o x = (made_of o x.0, x.1)

drafts : (version : Version) (o : Opcode) (ws : List Word) → ArePlain (forms_of o) → as_is (made_from o) (gathered_in version (forms_of o) ws) ≡ draft_in version o ws
drafts version o ws allowed =
    let label = label_in (line_of version (forms_of o)) in
    changed (λ x. (gathered (forms_of o) (contents_of version (forms_of o) x), label x)) (made_from o) (λ x. (instr_of o (contents_of version (forms_of o) x), label x))
    (λ x. ap (λ (i : Instr). (i, label x)) (made_again o (contents_of version (forms_of o) x) allowed)) (line_in (line_of version (forms_of o)) ws)
    ∙ sym (by_row version (table.row_of o) ws)

module _ (version : Version) (o : Opcode) (ws : List Word) (allowed : ArePlain (forms_of o)) where
  pub drafts_one : (x : Operands × Option (List ℕ)) → gathered_in version (forms_of o) ws ≡ Ok x → Ok (made_of o x.0, x.1) ≡ draft_in version o ws
  drafts_one x is =
      sym (ap (λ (r : Result (Operands × Option (List ℕ)) TokenError). as_is (made_from o) r) is)
      ∙ drafts version o ws allowed

  pub drafts_none : (e : TokenError) → gathered_in version (forms_of o) ws ≡ Err e → Err e ≡ draft_in version o ws
  drafts_none e is = sym (ap (λ (r : Result (Operands × Option (List ℕ)) TokenError). as_is (made_from o) r) is) ∙ drafts version o ws allowed
