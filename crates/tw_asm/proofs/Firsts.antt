-- The kind of statement that a first word begins.
use Rattle.tw_asm.proofs.AsmNames.{Bool, Int, IsInstrWord, IsLabelWord, IsName, IsTrue, List, Name, None, Opcode, Option, Part, Some, Version, [], ap, append_cancel_right, before_colon, codes, false, flat_map, further, is_name, is_some, opcode_in, operand_parts, pos, refl, row, scalar_type, subst, sym, true, word_of, ℕ, ◌++◌, ◌↔◌, ◌∙◌, ◌∷◌, ◌≡◌, ◌≢◌}
use Rattle.tw_asm.proofs.Lined.{Had, parts_of}
use Rattle.tw_asm.proofs.Names.{name_decide}
use Rattle.tw_asm.proofs.Table.{found_back, instr_of, is_sayable, line_of, made_had, named_in, parts_are, sayable, unsayable}
use Rattle.tw_asm.specs.reading.Lines.{Content, Line, LineContent, Operand, args, goal, literal, more, natural, never, nothing, number, right, target, type, value}
use Rattle.tw_code.specs.declared.opcode.Opcode.TheVariants as opcode

pub label_by : (word name : List ℕ) (r : Bool) → word ≡ name ++ codes ":" → r ≡ is_name name → IsTrue r ↔ IsLabelWord word
label_by word name r is test = (
  λ t. (name, (name_decide name).0 (sym test ∙ t), is),
  λ h. test ∙ (name_decide name).1 (subst IsName (append_cancel_right h.0 name (codes ":") (sym h.2 ∙ is)) h.1),
)

pub no_label : (word : List ℕ) → ((front : List ℕ) → word ≢ front ++ codes ":") → IsLabelWord word → ⊥
no_label word none h = none h.0 h.2

-- ---- names of instructions

abbrev some_operand : (o : Operand) → Content o
some_operand value = 0
some_operand right = 0
some_operand number = pos 0
some_operand (natural low high) = 0
some_operand literal = []
some_operand target = None

abbrev some_content : (l : Line) → is_sayable l ≡ true → LineContent l
some_content nothing s = tt
some_content goal s = further 0
some_content (type version) s = scalar_type Int
some_content args s = []
some_content (more o l) s = (some_operand o, some_content l s)
some_content never s = absurd (unsayable s)

some_had : (l : Line) (s : is_sayable l ≡ true) → Had l (some_content l s)
some_had nothing s = tt
some_had goal s = (tt, tt)
some_had (type version) s = ((tt, tt), tt)
some_had args s = (tt, tt)
some_had (more o l) s = (tt, some_had l s)
some_had never s = tt

pub named_word : (version : Version) (word : List ℕ) (r : Bool) → r ≡ is_some (opcode_in version word) → IsTrue r ↔ IsInstrWord version word
named_word version word r is = (λ t. there (opcode_in version word) refl (sym is ∙ t), λ h. is ∙ back h)
  where
    there : (found : Option Opcode) → opcode_in version word ≡ found → is_some found ≡ true → IsInstrWord version word
    there None e t = absurd (no t)
      where
        no : false ≡ true → ⊥
        no t = cc
    there (Some o) e t =
        let x = some_content (line_of version o) (sayable version o) in
        let name = found_back version word o e in (
          instr_of version o x,
          parts_of (line_of version o) x,
          made_had version o x name.1 (some_had (line_of version o) (sayable version o)),
          parts_are version o x ∙ ap (λ (name : List ℕ). Name name ∷ parts_of (line_of version o) x) (sym name.0),
        )

    back : IsInstrWord version word → is_some (opcode_in version word) ≡ true
    back (i, operands, had, e) =
        let same : word ≡ word_of (row i).0 = one_name word (word_of (row i).0) operands (flat_map operand_parts (row i).1) (sym e) in
        ap (λ (name : List ℕ). is_some (opcode_in version name)) same ∙ ap (λ (found : Option Opcode). is_some found) (named_in version (row i).0 had.0)
      where
        one_name : (a b : List ℕ) (ps qs : List Part) → Name a ∷ ps ≡ Name b ∷ qs → a ≡ b
        one_name a b ps qs e = cc

-- ---- labels

no_colon : (o : Opcode) → before_colon (word_of o) ≡ None
no_colon opcode.Int = refl
no_colon o = refl

pub label_unnamed : (version : Version) (word name : List ℕ) → before_colon word ≡ Some name → None ≡ opcode_in version word
label_unnamed version word name label = by (opcode_in version word) refl
  where
    differ : ◌≡◌ {A = Option (List ℕ)} None (Some name) → ⊥
    differ e = cc

    by : (found : Option Opcode) → opcode_in version word ≡ found → None ≡ opcode_in version word
    by None e = sym e
    by (Some o) e = absurd (differ (sym (no_colon o) ∙ ap before_colon (sym (found_back version word o e).0) ∙ label))
