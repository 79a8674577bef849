-- Words denote at most one statement, whose kind their first word shows.
use Rattle.tw_asm.proofs.AsmNames.{AllByRecursion, Bare, Bool, Closed, Code, Control, EncodeParts, Encodes, First, Goals, HasForm, HasInstr, HasOperand, Head, Instr, Int, IsExpected, IsRead, Kind, Label, Leaf, List, Mode, Name, Natural, OfVersion, Opcode, Operand, Param, Part, Ref, Registers, Scalar, Some, Statement, Text, TypeOf, Val, Version, Word, Write, [], ap, append_cancel_right, codes, flat_map, has_opcode, head_parts, holds, if◌then◌else◌, inl, inr, instr_parts, kind_word, map, mode_word, param_parts, refl, register_part, registers_parts, scalar_word, statement_parts, subst, sym, true, version_parts, with_skip, ℕ, ◌++◌, ◌==◌, ◌∙◌, ◌∷◌, ◌≡◌}
use Rattle.tw_code.specs.declared.form.Form.TheVariants as form
use Rattle.tw_code.specs.format.Table as table
use Rattle.tw_asm.specs.declared.statement.First.TheVariants as first
use Rattle.tw_asm.proofs.Rows.{AreAlike, alike_by_sorts, after_first, class_of_word, different, ends_in_colon, first_name, have_sorts, name_of, operands_of, others, reskip_operand, row, row_among, rows, same}
use Rattle.tw_asm.proofs.Spelled.{AreNames, Resolved, all_tied, as_is, bare_is, cons_is, parts_more, resolved, tied_are, with_goal}

-- ---- the parts of a statement

abbrev kind_from : List ℕ → Kind
kind_from word = if same word (codes "leaf") then Leaf else Control

abbrev mode_from : List ℕ → Mode
mode_from word = if same word (codes "val") then Val else if same word (codes "closed") then Closed else if same word (codes "ref") then Ref else Write

abbrev scalar_from : List ℕ → Scalar
scalar_from word = if same word (codes "int") then Int else Text

abbrev params_from : List Part → List Param
params_from (Name word ∷ TypeOf ty ∷ parts) = record { mode = mode_from word; ty = ty } ∷ params_from parts
params_from parts = []

abbrev registers_from : List Part → List Scalar
registers_from (Name word ∷ parts) = scalar_from word ∷ registers_from parts
registers_from parts = []

kind_made : (k : Kind) → kind_from (kind_word k) ≡ k
kind_made Control = refl
kind_made Leaf = refl

mode_made : (m : Mode) → mode_from (mode_word m) ≡ m
mode_made Val = refl
mode_made Closed = refl
mode_made Ref = refl
mode_made Write = refl

scalar_made : (s : Scalar) → scalar_from (scalar_word s) ≡ s
scalar_made Int = refl
scalar_made Text = refl

abbrev with_mode : Param → Mode → Param
with_mode param mode = record { mode = mode; ty = param.ty }

params_made : (params : List Param) → params_from (flat_map param_parts params) ≡ params
params_made [] = refl
params_made (param ∷ params) =
    ap (λ (m : Mode). with_mode param m ∷ params_from (flat_map param_parts params)) (mode_made param.mode) ∙ ap (λ (ps : List Param). param ∷ ps) (params_made params)

registers_made : (registers : List Scalar) → registers_from (map register_part registers) ≡ registers
registers_made [] = refl
registers_made (scalar ∷ registers) =
    ap (λ (s : Scalar). s ∷ registers_from (map register_part registers)) (scalar_made scalar) ∙ ap (λ (ss : List Scalar). scalar ∷ ss) (registers_made registers)

abbrev head_from : List Part → Statement
head_from parts = Head (kind_from (first_name (after_first parts))) (params_from (after_first (after_first parts)))

head_made : (kind : Kind) (params : List Param) → head_from (head_parts kind params) ≡ Head kind params
head_made kind params = ap (λ (k : Kind). Head k (params_from (flat_map param_parts params))) (kind_made kind) ∙ ap (Head kind) (params_made params)

one_head : (k l : Kind) (ps qs : List Param) → head_parts k ps ≡ head_parts l qs → Head k ps ≡ Head l qs
one_head k l ps qs e = sym (head_made k ps) ∙ ap head_from e ∙ head_made l qs

one_registers : (rs ss : List Scalar) → registers_parts rs ≡ registers_parts ss → Registers rs ≡ Registers ss
one_registers rs ss e = ap Registers (sym (registers_made rs) ∙ ap (λ (parts : List Part). registers_from (after_first parts)) e ∙ registers_made ss)

-- no two instructions have the same parts
pub one_instr : (i j : Instr) → instr_parts i ≡ instr_parts j → i ≡ j
one_instr i j e = sym (row i).made ∙ ap (λ (parts : List Part). (row_among (first_name parts) rows).make (after_first parts)) e ∙ (row j).made

-- ---- first words

abbrev pub class_of : Statement → ℕ
class_of (OfVersion number) = 4
class_of (Head kind params) = 0
class_of (Registers registers) = 1
class_of (Label name) = 2
class_of (Code i) = 3

colon : (name : List ℕ) → ends_in_colon (name ++ codes ":") ≡ true
colon [] = refl
colon (b ∷ []) = refl
colon (b ∷ c ∷ others) = colon (c ∷ others)

pub label_class : (name : List ℕ) → class_of_word (name ++ codes ":") ≡ 2
label_class name =
    ap (λ (test : Bool). if test then 2 else if same (name ++ codes ":") (codes "proc") then 0 else if same (name ++ codes ":") (codes "regs") then 1 else if same (name ++ codes ":") (codes "version") then 4 else 3) (colon name)

-- the parts of a statement begin with a name of its class
pub record Begins (s : Statement) : Type 0 where
  pub word : List ℕ
  pub others : List Part
  pub parts : statement_parts s ≡ Name word ∷ others
  pub class : class_of_word word ≡ class_of s

abbrev pub begins : (s : Statement) → Begins s
begins (OfVersion number) = record { word = codes "version"; others = after_first (version_parts number); parts = refl; class = refl }
begins (Head kind params) = record { word = codes "proc"; others = after_first (head_parts kind params); parts = refl; class = refl }
begins (Registers registers) = record { word = codes "regs"; others = map register_part registers; parts = refl; class = refl }
begins (Label name) = record { word = name ++ codes ":"; others = []; parts = refl; class = label_class name }
begins (Code i) = record { word = name_of i; others = operands_of i; parts = (row i).parts; class = (row i).class }

-- the words of a statement begin with its first word
pub first_word : {version : Version} (goals : Goals) (s : Statement) (words : List Word) → Encodes version goals s words → (rest : List Word) × (words ≡ Bare (begins s).word ∷ rest)
first_word goals s words h =
    let parts : EncodeParts goals (Name (begins s).word ∷ (begins s).others) words = subst (λ (ps : List Part). EncodeParts goals ps words) (begins s).parts h.parts in
    (parts.1, parts.2 ∙ ap (λ (ws : List Word). ws ++ parts.1) parts.3)

pub same_word : {version : Version} (a b : Goals) (s t : Statement) (words : List Word) → Encodes version a s words → Encodes version b t words → (begins s).word ≡ (begins t).word
same_word a b s t words h k =
    let u = first_word a s words h in
    let v = first_word b t words k in
    bare_is (begins s).word (begins t).word (cons_is (Bare (begins s).word) (Bare (begins t).word) u.0 v.0 (sym u.1 ∙ v.1)).0

pub same_class : {version : Version} (a b : Goals) (s t : Statement) (words : List Word) → Encodes version a s words → Encodes version b t words → class_of s ≡ class_of t
same_class a b s t words h k = sym (begins s).class ∙ ap class_of_word (same_word a b s t words h k) ∙ (begins t).class

abbrev pub first_of_class : ℕ → First
first_of_class class = if class == 0 then first.Head else if class == 1 then first.Registers else if class == 4 then first.Version else first.Body

-- returns the kind of a statement, as its first word shows it
abbrev pub expected_of : Statement → First
expected_of s = first_of_class (class_of s)

pub expected : {version : Version} (goals : Goals) (s : Statement) (word : List ℕ) (rest : List Word) → Encodes version goals s (Bare word ∷ rest) → IsExpected version (expected_of s) word
expected {version} goals s word rest h =
    let u = first_word goals s (Bare word ∷ rest) h in
    let is : word ≡ (begins s).word = bare_is word (begins s).word (cons_is (Bare word) (Bare (begins s).word) rest u.0 u.1).0 in
    subst (IsExpected version (expected_of s)) (sym is) (by s h.form)
  where
    by : (t : Statement) → HasForm version t → IsExpected version (expected_of t) (begins t).word
    by (OfVersion number) form = refl
    by (Head kind params) form = refl
    by (Registers registers) form = refl
    by (Label name) form = inl (name, form, refl)
    by (Code i) form = inr (i, operands_of i, form, (row i).parts)

expected_class : (version : Version) (p : First) (word : List ℕ) → IsExpected version p word → first_of_class (class_of_word word) ≡ p
expected_class version first.Version word e = ap (λ (w : List ℕ). first_of_class (class_of_word w)) e
expected_class version first.Head word e = ap (λ (w : List ℕ). first_of_class (class_of_word w)) e
expected_class version first.Registers word e = ap (λ (w : List ℕ). first_of_class (class_of_word w)) e
expected_class version first.Body word (inl (name, is_name, e)) = ap (λ (w : List ℕ). first_of_class (class_of_word w)) e ∙ ap first_of_class (label_class name)
expected_class version first.Body word (inr (i, operands, had, e)) = ap (λ (w : List ℕ). first_of_class (class_of_word w)) (sym (ap first_name e)) ∙ ap first_of_class (row i).class

-- a word begins statements of one kind only
pub one_expected : (version : Version) (p q : First) (word : List ℕ) → IsExpected version p word → IsExpected version q word → p ≡ q
one_expected version p q word h k = sym (expected_class version p word h) ∙ expected_class version q word k

-- ---- parts of the same sorts

params_alike : (ps qs : List Param) → AreAlike (flat_map param_parts ps) (flat_map param_parts qs)
params_alike [] qs = tt
params_alike (p ∷ ps) [] = tt
params_alike (p ∷ ps) (q ∷ qs) = (refl, (refl, params_alike ps qs))

registers_alike : (rs ss : List Scalar) → AreAlike (map register_part rs) (map register_part ss)
registers_alike [] ss = tt
registers_alike (r ∷ rs) [] = tt
registers_alike (r ∷ rs) (s ∷ ss) = (refl, registers_alike rs ss)

pub instrs_alike : (i j : Instr) → name_of i ≡ name_of j → AreAlike (instr_parts i) (instr_parts j)
instrs_alike i j e =
    subst (λ (ps : List Part). AreAlike ps (instr_parts j)) (sym (row i).parts)
    (subst (λ (qs : List Part). AreAlike (Name (name_of i) ∷ operands_of i) qs) (sym (row j).parts)
    (refl, alike_by_sorts (row_among (name_of j) rows).sorts (operands_of i) (operands_of j) (subst (λ (name : List ℕ). have_sorts (row_among name rows).sorts (operands_of i) ≡ true) e (row i).sorts) (row j).sorts))

module _ (a b : Goals) (names : AreNames a) (others : AreNames b) (alone : (n m : ℕ) (name : List ℕ) → a n name → b m name → n ≡ m) where
  parts_are : (ps qs : List Part) (words : List Word) → AreAlike ps qs → EncodeParts a ps words → EncodeParts b qs words → ps ≡ qs
  parts_are ps qs words alike h k = tied_are a b names others alone ps qs (all_tied a b names others ps qs words words alike refl h k)

  label_is : (v w : List ℕ) → Name (v ++ codes ":") ∷ [] ≡ Name (w ++ codes ":") ∷ [] → v ≡ w
  label_is v w e = append_cancel_right v w (codes ":") (ap first_name e)

  abbrev number_in : List Part → ℕ
  number_in (Name word ∷ Natural number ∷ parts) = number
  number_in parts = 0

  -- words denote one statement if a name denotes one skip
  pub encoded_once : {version : Version} (s t : Statement) (words : List Word) → Encodes version a s words → Encodes version b t words → s ≡ t
  encoded_once s t words h k = by s t h.parts k.parts (same_class a b s t words h k) (same_word a b s t words h k)
    where
      by : (u v : Statement) → EncodeParts a (statement_parts u) words → EncodeParts b (statement_parts v) words → class_of u ≡ class_of v → (begins u).word ≡ (begins v).word → u ≡ v
      by (OfVersion m) (OfVersion n) f g c w = ap (λ (parts : List Part). OfVersion (number_in parts)) (parts_are (version_parts m) (version_parts n) words (refl, (refl, tt)) f g)
      by (Head m ps) (Head n qs) f g c w = one_head m n ps qs (parts_are (head_parts m ps) (head_parts n qs) words (refl, (refl, params_alike ps qs)) f g)
      by (Registers rs) (Registers ss) f g c w = one_registers rs ss (parts_are (registers_parts rs) (registers_parts ss) words (refl, registers_alike rs ss) f g)
      by (Label x) (Label y) f g c w = ap Label (label_is x y (parts_are (Name (x ++ codes ":") ∷ []) (Name (y ++ codes ":") ∷ []) words (refl, tt) f g))
      by (Code i) (Code j) f g c w = ap Code (one_instr i j (parts_are (instr_parts i) (instr_parts j) words (instrs_alike i j w) f g))
      by u v f g c w = different (class_of u) (class_of v) c refl

-- ---- statements that are read, when goals are known

-- words of a statement denote it also with more goals
pub encodes_more : {version : Version} (a b : Goals) → ((skip : ℕ) (name : List ℕ) → a skip name → b skip name) → (s : Statement) (words : List Word) → Encodes version a s words → Encodes version b s words
encodes_more a b more s words h = record { form = h.form; parts = parts_more a b more (statement_parts s) words h.parts }

operands_had_still : (version : Version) (skip : ℕ) (os : List Operand) → AllByRecursion (HasOperand version) os → AllByRecursion (HasOperand version) (map (reskip_operand skip) os)
operands_had_still version skip [] h = tt
operands_had_still version skip ((holds form.Skip old) ∷ os) h = (tt, operands_had_still version skip os h.1)
operands_had_still version skip (o ∷ os) h = (h.0, operands_had_still version skip os h.1)

pub had_still : (version : Version) (skip : ℕ) (i : Instr) → HasInstr version i → HasInstr version (with_skip skip i)
had_still version skip i h =
    subst (λ (r : Opcode × List Operand). (has_opcode version r.0 ≡ true) × AllByRecursion (HasOperand version) r.1) (sym (others skip i)) (h.0, operands_had_still version skip (table.row i).1 h.1)

-- the words of an instruction that names a label denote it with the label's skip
pub resolved_encodes : (version : Version) (goals : Goals) (name : List ℕ) (skip : ℕ) (i : Instr) (words : List Word) → IsRead version (record { statement = Code i; goal = Some name }) words → goals skip name
    → Encodes version goals (Code (with_skip skip i)) words
resolved_encodes version goals name skip i words read goal = record { form = had_still version skip i read.1.1.form; parts = by (resolved goals name skip goal (instr_parts i) words (row i).last read.1.1.parts) }
  where
    by : Resolved goals skip (instr_parts i) words → EncodeParts goals (instr_parts (with_skip skip i)) words
    by (as_is h) = absurd (read.1.2.names i (record { form = read.1.1.form; parts = h }))
    by (with_goal h) = subst (λ (ps : List Part). EncodeParts goals ps words) (sym ((row i).reskipped skip)) h
