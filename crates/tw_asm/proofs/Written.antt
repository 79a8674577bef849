-- The written line of a statement denotes it.
use Rattle.std.proofs.Common.{◌≡◌, ◌≢◌, inl, inr, ◌≤◌, ◌<◌, ◌^◌, ◌==◌, ℕ, suc, ℤ, pos, negsuc, Bool, true, false, List, [], ◌∷◌, ◌++◌, map, length, codes, Option, Some, None, refl, ap, subst, ◌∙◌, arith}
use Rattle.tw_asm.proofs.AsmNames.{AllByRecursion, AllDigits, Bare, Closed, Code, Control, EncodeParts, Encodes, EncodesPart, EncodesWith, FitsSigned, Goals, HasForm, HasInstr, Head, Instr, Int, IsAscii, IsAscii-cons, IsAscii-nil, IsInLimits, IsInName, IsInstr, IsLine, IsName, IsNumeral, IsOneLine, IsOperand, IsRegister, IsSkip, IsTarget, IsUtf8, IsUtf8-append, IsUtf8-from_ascii, IsUtf8-nil, IsVersionNumber, IsWord, Kind, Label, Leaf, Literal, MapKind, Mode, Name, Natural, NoMap, Number, OfVersion, Opcode, Operand, Param, Part, Quoted, Ref, Registers, Right, Scalar, Skip, Statement, Sums, Target, Text, TypeOf, Val, Value, Values, Version, Word, Write, container_word, decimal, decimal_is_IsNumeral, digit_from_value, flat_map, goal_word, holds, if◌then◌else◌, instr_parts, is_edge, join_with_byte, kind_word, leaf_words, ltb-true, map-append, map_word, mode_word, nat_lt, nat_tests, operand_parts, param_parts, part_words, quoted, register_part, scalar_word, shown, skip_among, skip_of, statement_parts, sum_word, w64, word_of, ◌&&◌, ◌||◌}
use Rattle.std.specs.Fmt.{signed_decimal}
use Rattle.tw_code.specs.declared.form.Form.TheVariants as form
use Rattle.tw_code.specs.declared.opcode.Opcode.TheVariants as op
use Rattle.tw_code.specs.format.Table as table
use Rattle.tw_lexer.proofs.Written.{quoted_encodes}
use Rattle.tw_lexer.proofs.Writing.{AreWords, joined_line, joined_one_line, quoted_one_line}
use Rattle.tw_asm.proofs.Quotes.{after_ascii, quoted_utf8}
use Rattle.tw_asm.proofs.Rows.{both_true, different, is_last, row, skips_last, sort_of}
use Rattle.tw_asm.proofs.TypeWords.{words_of}

-- ---- words as they are written

abbrev pub written_part : (ℕ → List ℕ) → Part → List Word
written_part skip_word (Name word) = Bare word ∷ []
written_part skip_word (Value register) = Bare (codes "v" ++ decimal register) ∷ []
written_part skip_word (Right register) = Bare (codes "d" ++ decimal register) ∷ []
written_part skip_word (Number number) = Bare (signed_decimal number) ∷ []
written_part skip_word (Natural number) = Bare (decimal number) ∷ []
written_part skip_word (Literal text) = Quoted text ∷ []
written_part skip_word (TypeOf ty) = words_of ty.containers ty.map ty.scalar
written_part skip_word (Skip skip) = Bare (skip_word skip) ∷ []
written_part skip_word (Target None) = Bare (codes "any") ∷ []
written_part skip_word (Target (Some number)) = Bare (decimal number) ∷ []

abbrev pub written : (ℕ → List ℕ) → Statement → List Word
written skip_word statement = flat_map (written_part skip_word) (statement_parts statement)

-- returns a word as it is written
abbrev pub text_of : Word → List ℕ
text_of (Bare word) = word
text_of (Quoted text) = quoted text

type_texts : (containers : List Scalar) (kind : MapKind) (scalar : Scalar) → map text_of (words_of containers kind scalar) ≡ map container_word containers ++ leaf_words kind scalar
type_texts [] NoMap scalar = refl
type_texts [] (Values by) scalar = refl
type_texts [] (Sums by) scalar = refl
type_texts (by ∷ inner) kind scalar = ap (λ (ws : List (List ℕ)). container_word by ∷ ws) (type_texts inner kind scalar)

part_texts : (skip_word : ℕ → List ℕ) (part : Part) → map text_of (written_part skip_word part) ≡ part_words skip_word part
part_texts skip_word (TypeOf ty) = type_texts ty.containers ty.map ty.scalar
part_texts skip_word (Target None) = refl
part_texts skip_word (Target (Some number)) = refl
part_texts skip_word part = refl

parts_texts : (skip_word : ℕ → List ℕ) (parts : List Part) → map text_of (flat_map (written_part skip_word) parts) ≡ flat_map (part_words skip_word) parts
parts_texts skip_word [] = refl
parts_texts skip_word (part ∷ parts) =
    map-append text_of (written_part skip_word part) (flat_map (written_part skip_word) parts)
    ∙ ap (λ (texts : List (List ℕ)). texts ++ map text_of (flat_map (written_part skip_word) parts)) (part_texts skip_word part)
    ∙ ap (λ (texts : List (List ℕ)). part_words skip_word part ++ texts) (parts_texts skip_word parts)

-- ---- words in a line

pub all_append : {A : Type 0} (P : A → Type 0) (xs ys : List A) → AllByRecursion P xs → AllByRecursion P ys → AllByRecursion P (xs ++ ys)
all_append P [] ys h k = k
all_append P (x ∷ xs) ys h k = (h.0, all_append P xs ys h.1 k)

-- holds if the written word is one word of a line, in UTF-8
abbrev pub IsWellWritten : Word → Type 0
IsWellWritten word = IsWord word (text_of word) × IsOneLine (text_of word) × IsUtf8 (text_of word)

are_words : (words : List Word) → AllByRecursion IsWellWritten words → AreWords words (map text_of words)
are_words [] h = tt
are_words (word ∷ words) h = (h.0.0, are_words words h.1)

are_one_lines : (words : List Word) → AllByRecursion IsWellWritten words → AllByRecursion IsOneLine (map text_of words)
are_one_lines [] h = tt
are_one_lines (word ∷ words) h = (h.0.1, are_one_lines words h.1)

joined_utf8 : (words : List Word) → AllByRecursion IsWellWritten words → IsUtf8 (join_with_byte 32 (map text_of words))
joined_utf8 [] h = IsUtf8-nil
joined_utf8 (word ∷ []) h = h.0.2
joined_utf8 (word ∷ next ∷ words) h =
    IsUtf8-append (text_of word) (32 ∷ join_with_byte 32 (map text_of (next ∷ words))) h.0.2 (after_ascii 32 (join_with_byte 32 (map text_of (next ∷ words))) (omega arith) (joined_utf8 (next ∷ words) h.1))

-- ---- bare words

-- holds for an ASCII byte above `"` that begins no comment
abbrev pub IsClear : ℕ → Type 0
IsClear b = (35 ≤ b) × (b < 128) × (b ≢ 59)

abbrev pub AreClear : List ℕ → Type 0
AreClear bytes = AllByRecursion IsClear bytes

clear_edge : (b : ℕ) → 35 ≤ b → b ≢ 59 → is_edge b ≡ false
clear_edge b low other = grind (arith, nat_tests)

clear_edges : (bytes : List ℕ) → AreClear bytes → AllByRecursion (λ b. is_edge b ≡ false) bytes
clear_edges [] h = tt
clear_edges (b ∷ bytes) h = (clear_edge b h.0.0 h.0.2, clear_edges bytes h.1)

no_break : (b : ℕ) → 35 ≤ b → (b == 10 || b == 13) ≡ false
no_break b low = grind (arith, nat_tests)

clear_one_line : (bytes : List ℕ) → AreClear bytes → IsOneLine bytes
clear_one_line [] h = tt
clear_one_line (b ∷ bytes) h = (no_break b h.0.0, clear_one_line bytes h.1)

clear_ascii : (bytes : List ℕ) → AreClear bytes → IsAscii bytes
clear_ascii [] h = IsAscii-nil
clear_ascii (b ∷ bytes) h = IsAscii-cons b bytes h.0.1 (clear_ascii bytes h.1)

-- holds for at least one byte, all of them clear
abbrev pub IsClearWord : List ℕ → Type 0
IsClearWord [] = ⊥
IsClearWord (b ∷ bytes) = AreClear (b ∷ bytes)

bare_word : (word : List ℕ) → IsClearWord word → IsWellWritten (Bare word)
bare_word [] h = absurd h
bare_word (b ∷ bytes) h = (((no_quote h.0.0, clear_edges (b ∷ bytes) h), refl), clear_one_line (b ∷ bytes) h, IsUtf8-from_ascii (b ∷ bytes) (clear_ascii (b ∷ bytes) h))
  where
    no_quote : 35 ≤ b → b ≢ 34
    no_quote low e = omega arith

-- tests whether a byte is clear
abbrev is_clear : ℕ → Bool
is_clear b = if b == 59 then false else nat_lt 34 b && nat_lt b 128

abbrev are_clear : List ℕ → Bool
are_clear [] = true
are_clear (b ∷ bytes) = is_clear b && are_clear bytes

abbrev pub is_clear_word : List ℕ → Bool
is_clear_word [] = false
is_clear_word (b ∷ bytes) = are_clear (b ∷ bytes)

clear_by : (b : ℕ) (sign over under : Bool) → (b == 59) ≡ sign → nat_lt 34 b ≡ over → nat_lt b 128 ≡ under → (if sign then false else over && under) ≡ true → IsClear b
clear_by b false true true s o u e =
    let low = ltb-true 34 b o in
    let high = ltb-true b 128 u in
    (omega (arith, low), omega (arith, high), λ is. different b 59 is s)
clear_by b sign over under s o u e = absurd cc

is_clear-true : (b : ℕ) → is_clear b ≡ true → IsClear b
is_clear-true b e = clear_by b (b == 59) (nat_lt 34 b) (nat_lt b 128) refl refl refl e

are_clear-true : (bytes : List ℕ) → are_clear bytes ≡ true → AreClear bytes
are_clear-true [] e = tt
are_clear-true (b ∷ bytes) e = let h = both_true (is_clear b) (are_clear bytes) e in (is_clear-true b h.0, are_clear-true bytes h.1)

clear_word : (word : List ℕ) → is_clear_word word ≡ true → IsClearWord word
clear_word [] e = absurd cc
clear_word (b ∷ bytes) e = are_clear-true (b ∷ bytes) e

digit_clear : (d : ℕ) → 48 ≤ d → d ≤ 57 → IsClear d
digit_clear d low high = (omega arith, omega arith, λ e. absurd (omega arith))

digits_clear : (digits : List ℕ) → AllDigits 10 digits → AreClear digits
digits_clear [] h = tt
digits_clear (d ∷ digits) h = let range = digit_from_value d h.0 in (digit_clear d range.0 range.1, digits_clear digits h.1)

-- the beginning of a word, followed by digits
numbered_clear : (front : List ℕ) (number : ℕ) → AreClear front → number < 2 ^ 64 → IsClearWord (front ++ decimal number)
numbered_clear [] number h small = some (decimal number) (decimal_is_IsNumeral number small).0
  where
    some : (digits : List ℕ) → IsNumeral 10 digits → IsClearWord digits
    some [] n = absurd (omega (arith, n.0))
    some (d ∷ digits) n = digits_clear (d ∷ digits) n.1
numbered_clear (b ∷ front) number h small = all_append IsClear (b ∷ front) (decimal number) h (digits_clear (decimal number) (decimal_is_IsNumeral number small).0.1)

signed_clear : (number : ℤ) → FitsSigned w64 number → IsClearWord (signed_decimal number)
signed_clear (pos n) h = numbered_clear [] n tt (omega (arith, h.sfits))
signed_clear (negsuc n) h = numbered_clear (45 ∷ []) (suc n) (is_clear-true 45 refl, tt) (omega (arith, h.sfits))

name_clear : (name : List ℕ) → IsName name → AreClear name
name_clear [] h = absurd h
name_clear (b ∷ others) h = (in_name b (inl h.0), all others h.1)
  where
    over : (c : ℕ) → 60 ≤ c → c < 128 → IsClear c
    over c low high = (omega arith, high, λ e. absurd (omega arith))

    in_name : (c : ℕ) → IsInName c → IsClear c
    in_name c (inl (inl range)) = over c (omega (arith, range.0)) (omega (arith, range.1))
    in_name c (inl (inr range)) = over c (omega (arith, range.0)) (omega (arith, range.1))
    in_name c (inr (inl range)) = digit_clear c range.0 range.1
    in_name c (inr (inr e)) = over c (omega (arith, e)) (omega (arith, e))

    all : (cs : List ℕ) → AllByRecursion IsInName cs → AreClear cs
    all [] k = tt
    all (c ∷ cs) k = (in_name c k.0, all cs k.1)

label_clear : (name : List ℕ) → IsName name → IsClearWord (name ++ codes ":")
label_clear [] h = absurd h
label_clear (b ∷ others) h = all_append IsClear (b ∷ others) (codes ":") (name_clear (b ∷ others) h) (is_clear-true 58 refl, tt)

-- ---- parts

-- holds if the content of a part is within the limits
abbrev pub IsInPart : Part → Type 0
IsInPart (Name word) = IsClearWord word
IsInPart (Value register) = IsRegister register
IsInPart (Right register) = IsRegister register
IsInPart (Number number) = FitsSigned w64 number
IsInPart (Natural number) = number ≤ 65535
IsInPart (Literal text) = IsUtf8 text
IsInPart (TypeOf ty) = Unit {0}
IsInPart (Skip skip) = IsSkip skip
IsInPart (Target target) = IsTarget target

-- holds if the word of a skip denotes it
abbrev pub IsGoalWord : Goals → (ℕ → List ℕ) → ℕ → Type 0
IsGoalWord goals skip_word skip = EncodesPart goals (Skip skip) (Bare (skip_word skip) ∷ []) × IsClearWord (skip_word skip)

digits_encode : (front : List ℕ) (number : ℕ) → number < 2 ^ 64 → EncodesWith front number (Bare (front ++ decimal number) ∷ [])
digits_encode front number small = let k = decimal_is_IsNumeral number small in (decimal number, record { digits = k.0; value = k.1 }, refl)

abbrev SpellsWell : Goals → Part → List Word → Type 0
SpellsWell goals part words = EncodesPart goals part words × AllByRecursion IsWellWritten words

scalar_clear : (scalar : Scalar) → IsClearWord (scalar_word scalar)
scalar_clear Int = clear_word (codes "int") refl
scalar_clear Text = clear_word (codes "text") refl

container_clear : (by : Scalar) → IsClearWord (container_word by)
container_clear Int = clear_word (codes "cont") refl
container_clear Text = clear_word (codes "tcont") refl

map_clear : (by : Scalar) → IsClearWord (map_word by)
map_clear Int = clear_word (codes "map") refl
map_clear Text = clear_word (codes "tmap") refl

sum_clear : (scalar : Scalar) → IsClearWord (sum_word scalar)
sum_clear Int = clear_word (codes "sum") refl
sum_clear Text = clear_word (codes "texts") refl

type_well : (containers : List Scalar) (kind : MapKind) (scalar : Scalar) → AllByRecursion IsWellWritten (words_of containers kind scalar)
type_well [] NoMap scalar = (bare_word (scalar_word scalar) (scalar_clear scalar), tt)
type_well [] (Values by) scalar = (bare_word (map_word by) (map_clear by), (bare_word (scalar_word scalar) (scalar_clear scalar), tt))
type_well [] (Sums by) scalar = (bare_word (map_word by) (map_clear by), (bare_word (sum_word scalar) (sum_clear scalar), tt))
type_well (by ∷ inner) kind scalar = (bare_word (container_word by) (container_clear by), type_well inner kind scalar)

register_small : (n : ℕ) → IsRegister n → n < 2 ^ 64
register_small n h = let high = h.1 in omega arith

number_small : (n : ℕ) → n ≤ 65535 → n < 2 ^ 64
number_small n h = omega arith

module _ (goals : Goals) (skip_word : ℕ → List ℕ) where
  part_well : (part : Part) → IsInPart part → ((skip : ℕ) → part ≡ Skip skip → IsGoalWord goals skip_word skip) → SpellsWell goals part (written_part skip_word part)
  part_well (Name word) h g = (refl, (bare_word word h, tt))
  part_well (Value n) h g =
      let small = register_small n h in
      (digits_encode (codes "v") n small, (bare_word (codes "v" ++ decimal n) (numbered_clear (codes "v") n (is_clear-true 118 refl, tt) small), tt))
  part_well (Right n) h g =
      let small = register_small n h in
      (digits_encode (codes "d") n small, (bare_word (codes "d" ++ decimal n) (numbered_clear (codes "d") n (is_clear-true 100 refl, tt) small), tt))
  part_well (Number n) h g = ((signed_decimal n, shown n h, refl), (bare_word (signed_decimal n) (signed_clear n h), tt))
  part_well (Natural n) h g = let small = number_small n h in (digits_encode [] n small, (bare_word (decimal n) (numbered_clear [] n tt small), tt))
  part_well (Literal text) h g = (refl, ((quoted_encodes text, quoted_one_line text, quoted_utf8 text h), tt))
  part_well (TypeOf ty) h g = (refl, type_well ty.containers ty.map ty.scalar)
  part_well (Skip n) h g = let goal = g n refl in (goal.0, (bare_word (skip_word n) goal.1, tt))
  part_well (Target None) h g = (refl, (bare_word (codes "any") (clear_word (codes "any") refl), tt))
  part_well (Target (Some n)) h g = let small = register_small n h in (digits_encode [] n small, (bare_word (decimal n) (numbered_clear [] n tt small), tt))

  -- holds if this is so for all skips of the parts
  abbrev pub AreGoalWords : List Part → Type 0
  AreGoalWords parts = AllByRecursion (λ part. (skip : ℕ) → part ≡ Skip skip → IsGoalWord goals skip_word skip) parts

  pub parts_well : (parts : List Part) → AllByRecursion IsInPart parts → AreGoalWords parts → EncodeParts goals parts (flat_map (written_part skip_word) parts) × AllByRecursion IsWellWritten (flat_map (written_part skip_word) parts)
  parts_well [] h g = (refl, tt)
  parts_well (part ∷ parts) h g =
      let one = part_well part h.0 g.0 in
      let more = parts_well parts h.1 g.1 in (
        (written_part skip_word part, flat_map (written_part skip_word) parts, refl, one.0, more.0),
        all_append IsWellWritten (written_part skip_word part) (flat_map (written_part skip_word) parts) one.1 more.1,
      )

-- ---- the parts of statements within their limits

-- each name is a word
word_clear : (o : Opcode) → IsClearWord (word_of o)
word_clear op.Int = clear_word (codes "INT") refl
word_clear o = clear_word (word_of o) refl

args_in : (args : List ℕ) → AllByRecursion IsRegister args → AllByRecursion IsInPart (map Natural args)
args_in [] h = tt
args_in (arg ∷ args) h = (few h.0.1, args_in args h.1)
  where
    few : arg ≤ 15 → arg ≤ 65535
    few high = omega arith

operand_in : (o : Operand) → IsOperand o → AllByRecursion IsInPart (operand_parts o)
operand_in (holds form.Value register) h = (h, tt)
operand_in (holds form.Right register) h = (h, tt)
operand_in (holds form.Number n) h = (h, tt)
operand_in (holds form.Iterations iterations) h = (few h.1, tt)
  where
    few : iterations ≤ 1000 → iterations ≤ 65535
    few high = omega arith
operand_in (holds form.Literal text) h = (h.utf8, tt)
operand_in (holds form.TypeOf ty) h = (tt, tt)
operand_in (holds form.Skip skip) h = (h, tt)
operand_in (holds form.Callee procedure) h = (few h.1, tt)
  where
    few : procedure ≤ 255 → procedure ≤ 65535
    few high = omega arith
operand_in (holds form.Target target) h = (h, tt)
operand_in (holds form.Args registers) h = args_in registers h.1

operands_in : (os : List Operand) → AllByRecursion IsOperand os → AllByRecursion IsInPart (flat_map operand_parts os)
operands_in [] h = tt
operands_in (o ∷ os) h = all_append IsInPart (operand_parts o) (flat_map operand_parts os) (operand_in o h.0) (operands_in os h.1)

instr_in : (i : Instr) → IsInstr i → AllByRecursion IsInPart (statement_parts (Code i))
instr_in i h = (word_clear (table.row i).0, operands_in (table.row i).1 h.1)

kind_clear : (kind : Kind) → IsClearWord (kind_word kind)
kind_clear Control = clear_word (codes "control") refl
kind_clear Leaf = clear_word (codes "leaf") refl

mode_clear : (mode : Mode) → IsClearWord (mode_word mode)
mode_clear Val = clear_word (codes "val") refl
mode_clear Closed = clear_word (codes "closed") refl
mode_clear Ref = clear_word (codes "ref") refl
mode_clear Write = clear_word (codes "write") refl

params_in : (params : List Param) → AllByRecursion IsInPart (flat_map param_parts params)
params_in [] = tt
params_in (param ∷ params) = (mode_clear param.mode, (tt, params_in params))

registers_in : (registers : List Scalar) → AllByRecursion IsInPart (map register_part registers)
registers_in [] = tt
registers_in (scalar ∷ registers) = (scalar_clear scalar, registers_in registers)

statement_in : (version : Version) (s : Statement) → HasForm version s → IsInLimits s → AllByRecursion IsInPart (statement_parts s)
statement_in version (OfVersion number) form h = (clear_word (codes "version") refl, (few h, tt))
  where
    few : IsVersionNumber number → number ≤ 65535
    few (inl low) = omega (arith, low.1)
    few (inr high) = omega (arith, high.1)
statement_in version (Head kind params) form h = (clear_word (codes "proc") refl, (kind_clear kind, params_in params))
statement_in version (Registers registers) form h = (clear_word (codes "regs") refl, registers_in registers)
statement_in version (Label name) form h = (label_clear name form, tt)
statement_in version (Code i) form h = instr_in i h

-- ---- statements

-- a line in UTF-8 whose words denote the statement
pub record IsLineOf (version : Version) (goals : Goals) (s : Statement) (line : List ℕ) : Type 0 where
  pub words : List Word
  pub spells : Encodes version goals s words
  pub is_line : IsLine words line
  pub single : IsOneLine line
  pub utf8 : IsUtf8 line

-- returns the line of a statement, without its line feed
abbrev pub bare_line : (ℕ → List ℕ) → Statement → List ℕ
bare_line skip_word s = join_with_byte 32 (flat_map (part_words skip_word) (statement_parts s))

pub written_encodes : (version : Version) (goals : Goals) (skip_word : ℕ → List ℕ) (s : Statement) → HasForm version s → IsInLimits s → AreGoalWords goals skip_word (statement_parts s) → IsLineOf version goals s (bare_line skip_word s)
written_encodes version goals skip_word s form limits goal =
    let well = parts_well goals skip_word (statement_parts s) (statement_in version s form limits) goal in
    let texts = ap (join_with_byte 32) (parts_texts skip_word (statement_parts s)) in
    record {
      words = written skip_word s;
      spells = record { form = form; parts = well.0 };
      is_line = subst (IsLine (written skip_word s)) texts (joined_line (written skip_word s) (map text_of (written skip_word s)) (are_words (written skip_word s) well.1));
      single = subst IsOneLine texts (joined_one_line (map text_of (written skip_word s)) (are_one_lines (written skip_word s) well.1));
      utf8 = subst IsUtf8 texts (joined_utf8 (written skip_word s) well.1);
    }

-- ---- the goals of the disassembler

plus_word : (goals : Goals) (skip : ℕ) → IsSkip skip → IsGoalWord goals (goal_word None) skip
plus_word goals skip h =
    let small = number_small skip h.1 in
    (inl (digits_encode (codes "+") skip small), numbered_clear (codes "+") skip (is_clear-true 43 refl, tt) small)

label_word : (goals : Goals) (label skip : ℕ) → label < 2 ^ 64 → goals skip (codes "L" ++ decimal label) → IsGoalWord goals (goal_word (Some label)) skip
label_word goals label skip small goal = (inr (codes "L" ++ decimal label, goal, refl), numbered_clear (codes "L") label (is_clear-true 76 refl, tt) small)

-- holds if the label's number fits in the machine, and its name denotes the skip
abbrev pub IsGoal : Goals → Option ℕ → ℕ → Type 0
IsGoal goals None skip = Unit {0}
IsGoal goals (Some label) skip = (label < 2 ^ 64) × goals skip (codes "L" ++ decimal label)

goal_words : (goals : Goals) (label : Option ℕ) (skip : ℕ) → IsSkip skip → IsGoal goals label skip → IsGoalWord goals (goal_word label) skip
goal_words goals None skip h goal = plus_word goals skip h
goal_words goals (Some label) skip h goal = label_word goals label skip goal.0 goal.1

all_goals : (goals : Goals) (label : Option ℕ) (parts : List Part) → AllByRecursion IsInPart parts → AllByRecursion (λ part. (skip : ℕ) → part ≡ Skip skip → IsGoal goals label skip) parts → AreGoalWords goals (goal_word label) parts
all_goals goals label [] h g = tt
all_goals goals label (part ∷ parts) h g = (λ skip is. goal_words goals label skip (subst IsInPart is h.0) (g.0 skip is), all_goals goals label parts h.1 g.1)

-- the only skip of an instruction, if it has one
module _ (P : ℕ → Type 0) where
  none_skips : (parts : List Part) → is_last parts ≡ true → AllByRecursion (λ part. (skip : ℕ) → part ≡ Skip skip → P skip) parts
  none_skips [] e = tt
  none_skips (part ∷ parts) e = absurd cc

  goal_here : (n : ℕ) → P n → (skip : ℕ) → Skip n ≡ Skip skip → P skip
  goal_here n h skip is = subst P (skip_is is) h
    where
      skip_is : Skip n ≡ Skip skip → n ≡ skip
      skip_is e = cc

  no_skip : (part : Part) → (sort_of part ≡ 7 → ⊥) → (skip : ℕ) → part ≡ Skip skip → P skip
  no_skip part not skip is = absurd (not (ap sort_of is))

  skip_alone : (parts : List Part) → skips_last parts ≡ true → ((skip : ℕ) → skip_among parts ≡ Some skip → P skip) → AllByRecursion (λ part. (skip : ℕ) → part ≡ Skip skip → P skip) parts
  skip_alone [] last h = tt
  skip_alone (Skip n ∷ parts) last h = (goal_here n (h n refl), none_skips parts last)
  skip_alone (part ∷ parts) last h = (no_skip part (λ seven. different (sort_of part) 7 seven refl), skip_alone parts last h)

-- the line of an instruction denotes it; its goal is written as this label, or as a number
pub instr_written : (version : Version) (goals : Goals) (label : Option ℕ) (i : Instr) → HasInstr version i → IsInstr i → ((skip : ℕ) → skip_of i ≡ Some skip → IsGoal goals label skip) → IsLineOf version goals (Code i) (bare_line (goal_word label) (Code i))
instr_written version goals label i had limits goal =
    written_encodes version goals (goal_word label) (Code i) had limits (all_goals goals label (instr_parts i) (instr_in i limits) (skip_alone (IsGoal goals label) (instr_parts i) (row i).last goal))

-- the line of a statement without a skip denotes it, whatever the goals
params_without : (P : ℕ → Type 0) (params : List Param) → AllByRecursion (λ part. (skip : ℕ) → part ≡ Skip skip → P skip) (flat_map param_parts params)
params_without P [] = tt
params_without P (param ∷ params) = (no_skip P (Name (mode_word param.mode)) (λ seven. different 0 7 seven refl), (no_skip P (TypeOf param.ty) (λ seven. different 6 7 seven refl), params_without P params))

registers_without : (P : ℕ → Type 0) (registers : List Scalar) → AllByRecursion (λ part. (skip : ℕ) → part ≡ Skip skip → P skip) (map register_part registers)
registers_without P [] = tt
registers_without P (scalar ∷ registers) = (no_skip P (Name (scalar_word scalar)) (λ seven. different 0 7 seven refl), registers_without P registers)

pub head_written : (version : Version) (goals : Goals) (skip_word : ℕ → List ℕ) (kind : Kind) (params : List Param) → HasForm version (Head kind params) → IsInLimits (Head kind params) → IsLineOf version goals (Head kind params) (bare_line skip_word (Head kind params))
head_written version goals skip_word kind params form limits =
    let P = IsGoalWord goals skip_word in
    written_encodes version goals skip_word (Head kind params) form limits
    (no_skip P (Name (codes "proc")) (λ seven. different 0 7 seven refl), (no_skip P (Name (kind_word kind)) (λ seven. different 0 7 seven refl), params_without P params))

pub registers_written : (version : Version) (goals : Goals) (skip_word : ℕ → List ℕ) (registers : List Scalar) → IsInLimits (Registers registers) → IsLineOf version goals (Registers registers) (bare_line skip_word (Registers registers))
registers_written version goals skip_word registers limits =
    let P = IsGoalWord goals skip_word in
    written_encodes version goals skip_word (Registers registers) tt limits (no_skip P (Name (codes "regs")) (λ seven. different 0 7 seven refl), registers_without P registers)

pub label_written : (version : Version) (goals : Goals) (skip_word : ℕ → List ℕ) (name : List ℕ) → IsName name → length name ≤ 64 → IsLineOf version goals (Label name) (bare_line skip_word (Label name))
label_written version goals skip_word name form limits =
    let P = IsGoalWord goals skip_word in
    written_encodes version goals skip_word (Label name) form limits (no_skip P (Name (name ++ codes ":")) (λ seven. different 0 7 seven refl), tt)

pub version_written : (version : Version) (goals : Goals) (skip_word : ℕ → List ℕ) (number : ℕ) → IsInLimits (OfVersion number) → IsLineOf version goals (OfVersion number) (bare_line skip_word (OfVersion number))
version_written version goals skip_word number limits =
    let P = IsGoalWord goals skip_word in
    written_encodes version goals skip_word (OfVersion number) tt limits (no_skip P (Name (codes "version")) (λ seven. different 0 7 seven refl), (no_skip P (Natural number) (λ seven. different 4 7 seven refl), tt))
