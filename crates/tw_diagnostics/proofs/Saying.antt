-- A line's first word decides whether a procedure begins there.
use Rattle.std.proofs.Common.{◌≡◌, ◌+◌, ℕ, suc, Bool, true, false, List, [], ◌∷◌, ◌++◌, length, map, codes, Option, Some, None, refl, sym, ap, subst, ◌∙◌, arith}
use Rattle.tw_diagnostics.proofs.RoleNames.{AnyShortName, Bare, Code, Encodes, EncodesInLimits, HasStatement, HaveStatements, Head, IsLine, IsRead, Label, OfVersion, ParserState, Quoted, Registers, Statement, Version, Word, after_line, at_start, broken_no_line, bytes_eq, flat_map, line_once, opcode_in, seen, situation, situation_from}
use Rattle.std.proofs.lemmas.Slice.Eq.{bytes_eq-Decides}
use Rattle.tw_code.specs.declared.opcode.Opcode.{Opcode}
use Rattle.tw_code.specs.format.Table.{row, word_of}
use Rattle.tw_lexer.specs.declared.word.Word as words
use Rattle.tw_asm.specs.Parts.{Name, Natural, kind_word, operand_parts, param_parts, register_part}
use Rattle.tw_asm.proofs.Answered.{first_is, none_some, proc_is_none}
use Rattle.tw_asm.proofs.Sayings.{code_first, no_label}
use Rattle.tw_asm.proofs.Spelled.{bare_is}
use Rattle.tw_diagnostics.specs.FirstHead.{is_head}

-- ---- the first word of a statement

abbrev pub IsFirst : Version → Statement → Word → List Word → Type 0
IsFirst version (OfVersion number) w ws = w ≡ Bare (codes "version")
IsFirst version (Head kind params) w ws = w ≡ Bare (codes "proc")
IsFirst version (Registers registers) w ws = w ≡ Bare (codes "regs")
IsFirst version (Label name) w ws = w ≡ Bare (name ++ codes ":")
IsFirst version (Code i) w ws = (word : List ℕ) × (o : Opcode) × (w ≡ Bare word) × (opcode_in version word ≡ Some o)

pub first_said : (version : Version) (statement : Statement) (w : Word) (ws : List Word) → EncodesInLimits version statement (w ∷ ws) → IsFirst version statement w ws
first_said version (OfVersion number) w ws say = (first_is AnyShortName (codes "version") (Natural number ∷ []) w ws say.0.parts).0
first_said version (Head kind params) w ws say = (first_is AnyShortName (codes "proc") (Name (kind_word kind) ∷ flat_map param_parts params) w ws say.0.parts).0
first_said version (Registers registers) w ws say = (first_is AnyShortName (codes "regs") (map register_part registers) w ws say.0.parts).0
first_said version (Label name) w ws say = (first_is AnyShortName (name ++ codes ":") [] w ws say.0.parts).0
first_said version (Code i) w ws say =
    let word = word_of (row i).0 in
    let h = first_is AnyShortName word (flat_map operand_parts (row i).1) w ws say.0.parts in
    let k = code_first version AnyShortName i word ws (subst (λ (v : Word). Encodes version AnyShortName (Code i) (v ∷ ws)) h.0 say.0) in
    (word, k.0, h.0, k.1)

pub quoted_apart : (text word : List ℕ) → Quoted text ≡ Bare word → ⊥
quoted_apart text word e = cc

-- ---- whether a first word begins a procedure

apart : (a b : List ℕ) → bytes_eq a b ≡ false → a ≡ b → ⊥
apart a b isnt e = no (sym isnt ∙ (bytes_eq-Decides a b).1 e)
  where
    no : false ≡ true → ⊥
    no e = cc

-- a word that is none of an instruction
no_code : {Z : Type 0} (version : Version) (first other : List ℕ) (i : (word : List ℕ) × (o : Opcode) × (Bare first ≡ Bare word) × (opcode_in version word ≡ Some o)) → first ≡ other → opcode_in version other ≡ None → Z
no_code version first other (word, o, is, found) e none = absurd (none_some o (sym none ∙ (ap (opcode_in version) (sym e ∙ bare_is first word is) ∙ found)))

head_said : (version : Version) (statement : Statement) (first : List ℕ) (ws : List Word) → first ≡ codes "proc" → EncodesInLimits version statement (Bare first ∷ ws) → true ≡ is_head (Some statement)
head_said version statement first ws e say = by statement (first_said version statement (Bare first) ws say)
  where
    by : (s : Statement) → IsFirst version s (Bare first) ws → true ≡ is_head (Some s)
    by (OfVersion number) f = absurd (apart (codes "proc") (codes "version") refl (sym e ∙ bare_is first (codes "version") f))
    by (Head kind params) f = refl
    by (Registers registers) f = absurd (apart (codes "proc") (codes "regs") refl (sym e ∙ bare_is first (codes "regs") f))
    by (Label name) f = absurd (no_label (codes "proc") name refl (sym e ∙ bare_is first (name ++ codes ":") f))
    by (Code i) f = no_code version first (codes "proc") f e (proc_is_none version)

pub other_said : (version : Version) (statement : Statement) (w : Word) (ws : List Word) → (w ≡ Bare (codes "proc") → ⊥) → EncodesInLimits version statement (w ∷ ws) → false ≡ is_head (Some statement)
other_said version (OfVersion number) w ws other say = refl
other_said version (Head kind params) w ws other say = absurd (other (first_said version (Head kind params) w ws say))
other_said version (Registers registers) w ws other say = refl
other_said version (Label name) w ws other say = refl
other_said version (Code i) w ws other say = refl

pub bare_said : (version : Version) (statement : Statement) (first : List ℕ) (ws : List Word) → EncodesInLimits version statement (Bare first ∷ ws) → bytes_eq first (codes "proc") ≡ is_head (Some statement)
bare_said version statement first ws say = by (bytes_eq first (codes "proc")) refl
  where
    by : (b : Bool) → bytes_eq first (codes "proc") ≡ b → b ≡ is_head (Some statement)
    by true e = head_said version statement first ws ((bytes_eq-Decides first (codes "proc")).0 e) say
    by false e = other_said version statement (Bare first) ws (λ is. apart first (codes "proc") e (bare_is first (codes "proc") is)) say

-- ---- a line

words_are : (ws vs : List Word) (whole : Bool) (line : List ℕ) → IsRead ws whole line → IsLine vs line → ws ≡ vs
words_are ws vs true line read is = line_once ws vs line read is
words_are ws vs false line read is = absurd (broken_no_line ws vs line read is)

nothing_seen : (ws : List words.Word) → map seen ws ≡ [] → ws ≡ []
nothing_seen [] e = refl
nothing_seen (w ∷ ws) e = absurd cc

pub said_of_line : (ws : List words.Word) (whole : Bool) (line : List ℕ) (head : Bool) → IsRead (map seen ws) whole line → (ws ≡ [] → head ≡ false)
    → ((version : Version) (statement : Statement) → EncodesInLimits version statement (map seen ws) → head ≡ is_head (Some statement)) → (s : ParserState) (said : Option Statement) → HasStatement s line said → head ≡ is_head said
said_of_line ws whole line head read nothing says s None is = nothing (nothing_seen ws (words_are (map seen ws) [] whole line read is))
said_of_line ws whole line head read nothing says s (Some statement) ((vs, is, say), may) =
    says s.version statement (subst (λ (us : List Word). EncodesInLimits s.version statement us) (sym (words_are (map seen ws) vs whole line read is)) say)

-- ---- line by line

-- what the lines up to the last one say, and what it says there
pub record SplitLast (number : ℕ) (s : ParserState) (ls : List (List ℕ)) (line : List ℕ) (said : List (Option Statement)) : Type 0 where
  pub before : List (Option Statement)
  pub last : Option Statement
  pub is : said ≡ before ++ (last ∷ [])
  pub say : HaveStatements number s ls before
  pub says : HasStatement (situation_from number s before) line last
  pub leads : situation_from number s said ≡ after_line (number + length before) last (situation_from number s before)

pub split_last : (number : ℕ) (s : ParserState) (ls : List (List ℕ)) (line : List ℕ) (said : List (Option Statement)) → HaveStatements number s (ls ++ (line ∷ [])) said → SplitLast number s ls line said
split_last number s [] line [] h = absurd h
split_last number s [] line (x ∷ []) h =
    let e : number ≡ number + 0 = omega arith in
    record { before = []; last = x; is = refl; say = tt; says = h.0; leads = ap (λ (n : ℕ). after_line n x s) e }
split_last number s [] line (x ∷ y ∷ said) h = absurd h.1
split_last number s (l ∷ ls) line [] h = absurd h
split_last number s (l ∷ ls) line (x ∷ said) h =
    let more = split_last (number + 1) (after_line number x s) ls line said h.1 in
    let e : (number + 1) + length more.before ≡ number + suc (length more.before) = omega arith in
    record {
      before = x ∷ more.before;
      last = more.last;
      is = ap (λ (xs : List (Option Statement)). x ∷ xs) more.is;
      say = (h.0, more.say);
      says = more.says;
      leads = more.leads ∙ ap (λ (n : ℕ). after_line n more.last (situation_from (number + 1) (after_line number x s) more.before)) e;
    }
