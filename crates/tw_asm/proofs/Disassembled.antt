-- The text of a program denotes it.
use Rattle.std.proofs.Common.{◌≡◌, ◌≢◌, ◌==◌, ◌≤◌, ◌<◌, ℕ, zero, suc, ◌+◌, Bool, true, false, List, [], ◌∷◌, ◌++◌, length, get_or, map, codes, Option, Some, None, refl, sym, ap, subst, ◌∙◌, append_assoc, append-nil, arith}
use Rattle.std.specs.Prelude.{IsUtf8, decimal, slice_index_or}
use Rattle.tw_asm.proofs.AsmNames.{AllByRecursion, AllPairs, AreCode, Bare, Code, Contains, Contains-append_left, Contains-append_right, EncodeProcedures, EncodesProcedure, EncodesProgram, EncodesVersion, Five, Four, Goals, HaveWords, Head, Instr, IsInstrOf, IsLine, IsOneLine, IsProcedure, IsProcedureOf, IsUtf8-append, IsUtf8-nil, IsVersioned, Label, OfVersion, One, Placed, Procedure, Registers, SkipsTo, Statement, Two, Version, Versioned, Word, code_lines, concat, disassembly, eqb-true, flat_map, goal_word, instr_widened, join_with_byte, label_at, label_line, label_places, line_of, lines, nat_tests, one_lines_back, option_and_then, procedure_lines, skip_of, version_line, version_number, widened, with_line_feed}
use Rattle.tw_asm.proofs.Labels.{numbered_name, one_numbered}
use Rattle.tw_asm.proofs.Once.{begins, first_word}
use Rattle.tw_asm.proofs.Quotes.{after_ascii}
use Rattle.tw_asm.proofs.Written.{IsGoal, IsLineOf, all_append, bare_line, head_written, instr_written, label_written, registers_written, version_written}
use Rattle.tw_asm.proofs.OwnLines.{words_of_goal}
use Rattle.tw_asm.proofs.Places.{AreNumbered, label_is, label_within, numbered}
use Rattle.tw_asm.proofs.Versions.{had, had_params, number_within}

-- ---- texts of lines

-- a text of lines that have words, one line after another, in UTF-8
record IsWritten (text : List ℕ) (words : List (List Word)) : Type 0 where
  pub each_line : List (List ℕ)
  pub parts : text ≡ concat (map with_line_feed each_line)
  pub single : AllByRecursion IsOneLine each_line
  pub have : HaveWords each_line words
  pub utf8 : IsUtf8 text

-- holds if the text is allowed before any such text
abbrev Writes : List ℕ → List (List Word) → Type 0
Writes text words = (rest : List ℕ) (others : List (List Word)) → IsWritten rest others → IsWritten (text ++ rest) (words ++ others)

nothing : IsWritten [] []
nothing = record { each_line = []; parts = refl; single = tt; have = HaveWords.end; utf8 = IsUtf8-nil }

writes_nothing : Writes [] []
writes_nothing rest others w = w

writes_both : (a b : List ℕ) (u v : List (List Word)) → Writes a u → Writes b v → Writes (a ++ b) (u ++ v)
writes_both a b u v h k rest others w =
    subst (λ (text : List ℕ). IsWritten text ((u ++ v) ++ others)) (sym (append_assoc a b rest))
    (subst (λ (words : List (List Word)). IsWritten (a ++ (b ++ rest)) words) (sym (append_assoc u v others)) (h (b ++ rest) (v ++ others) (k rest others w)))

writes_line : {version : Version} (goals : Goals) (s : Statement) (line : List ℕ) (l : IsLineOf version goals s line) → Writes (line ++ codes "\n") (l.words ∷ [])
writes_line goals s line l rest others w =
    let begin = first_word goals s l.words l.spells in
    record {
      each_line = line ∷ w.each_line;
      parts = ap (λ (text : List ℕ). (line ++ codes "\n") ++ text) w.parts;
      single = (l.single, w.single);
      have = subst (λ (ws : List Word). HaveWords (line ∷ w.each_line) (ws ∷ others)) (sym begin.1)
          (HaveWords.one_more line w.each_line (Bare (begins s).word) begin.0 others (subst (λ (ws : List Word). IsLine ws line) begin.1 l.is_line) w.have);
      utf8 = subst IsUtf8 (sym (append_assoc line (codes "\n") rest)) (IsUtf8-append line (10 ∷ rest) l.utf8 (after_ascii 10 rest (omega arith) w.utf8));
    }

-- ---- labels and their places

abbrev name_of : ℕ → List ℕ
name_of number = codes "L" ++ decimal number

abbrev placed : ℕ → ℕ → Placed
placed number place = record { name = name_of number; place = place }

abbrev here : ℕ → Option ℕ → List Placed
here place None = []
here place (Some number) = placed number place ∷ []

-- returns the labels from a place on
abbrev placed_from : List ℕ → ℕ → List Instr → List Placed
placed_from labels place [] = here place (label_at labels place)
placed_from labels place (i ∷ others) = here place (label_at labels place) ++ placed_from labels (place + 1) others

-- holds if no name occurs twice
abbrev AreApart : List Placed → Type 0
AreApart [] = Unit {0}
AreApart (l ∷ ls) = AllByRecursion (λ m. l.name ≢ m.name) ls × AreApart ls

apart_at : (name : List ℕ) (ls : List Placed) → AllByRecursion (λ m. name ≢ m.name) ls → (j : ℕ) (d : List ℕ) → j < length (map (λ m. m.name) ls) → name ≢ slice_index_or (map (λ m. m.name) ls) j d
apart_at name [] h j d inside = absurd (omega (arith, inside))
apart_at name (m ∷ ls) h zero d inside = h.0
apart_at name (m ∷ ls) h (suc j) d inside = apart_at name ls h.1 j d (omega (arith, inside))

all_apart : (ls : List Placed) → AreApart ls → AllPairs (λ a b. a ≢ b) (map (λ m. m.name) ls)
all_apart [] h i j d before inside = absurd (omega (arith, inside))
all_apart (l ∷ ls) h i zero d before inside = absurd (omega (arith, before))
all_apart (l ∷ ls) h zero (suc j) d before inside = apart_at l.name ls h.0 j d (omega (arith, inside))
all_apart (l ∷ ls) h (suc i) (suc j) d before inside = all_apart ls h.1 i j d (omega (arith, before)) (omega (arith, inside))

later : (a b : ℕ) → (a == b) ≡ false → a ≤ b → a + 1 ≤ b
later a b e low = grind (arith, nat_tests)

module _ (labels : List ℕ) where
  label_here : (place goal number : ℕ) → place ≡ goal → label_at labels goal ≡ Some number → Contains (here place (label_at labels place)) (placed number goal)
  label_here place goal number same e =
      subst (λ (p : ℕ). Contains (here p (label_at labels p)) (placed number goal)) (sym same) (subst (λ (l : Option ℕ). Contains (here goal l) (placed number goal)) (sym e) (0, omega arith, refl))

  -- a label's place is among them
  label_is_there : (place : ℕ) (code : List Instr) (goal number : ℕ) → place ≤ goal → goal ≤ place + length code → label_at labels goal ≡ Some number → Contains (placed_from labels place code) (placed number goal)
  label_is_there place [] goal number low high e = label_here place goal number (omega (arith, low, high)) e
  label_is_there place (i ∷ others) goal number low high e = by (place == goal) refl (λ after. label_is_there (place + 1) others goal number after (omega (arith, high)) e)
    where
      by : (b : Bool) → (place == goal) ≡ b → (place + 1 ≤ goal → Contains (placed_from labels (place + 1) others) (placed number goal)) → Contains (here place (label_at labels place) ++ placed_from labels (place + 1) others) (placed number goal)
      by true is rest = Contains-append_left (here place (label_at labels place)) (placed_from labels (place + 1) others) (placed number goal) (label_here place goal number (eqb-true place goal is) e)
      by false is rest = Contains-append_right (here place (label_at labels place)) (placed_from labels (place + 1) others) (placed number goal) (rest (later place goal is low))

  module _ (P : Placed → Type 0) where
    one_placed : (place : ℕ) (label : Option ℕ) → label_at labels place ≡ label → ((goal number : ℕ) → place ≤ goal → label_at labels goal ≡ Some number → P (placed number goal)) → AllByRecursion P (here place label)
    one_placed place None e f = tt
    one_placed place (Some number) e f = (f place number (omega arith) e, tt)

    all_placed : (place : ℕ) (code : List Instr) → ((goal number : ℕ) → place ≤ goal → label_at labels goal ≡ Some number → P (placed number goal)) → AllByRecursion P (placed_from labels place code)
    all_placed place [] f = one_placed place (label_at labels place) refl f
    all_placed place (i ∷ others) f =
        all_append P (here place (label_at labels place)) (placed_from labels (place + 1) others) (one_placed place (label_at labels place) refl f)
        (all_placed (place + 1) others (λ goal number later e. f goal number (omega (arith, later)) e))

  module _ (few : AreNumbered labels) where
    other_names : (place goal number n : ℕ) → place < goal → label_at labels place ≡ Some number → label_at labels goal ≡ Some n → name_of number ≢ name_of n
    other_names place goal number n later e k same =
        let one = one_numbered number n (few place number e) (few goal n k) same in
        let is : place ≡ goal = sym (label_is labels place number e).1 ∙ ap (λ (j : ℕ). get_or labels j 0) one ∙ (label_is labels goal n k).1 in
        omega (arith, later, is)

    placed_apart : (place : ℕ) (code : List Instr) → AreApart (placed_from labels place code)
    placed_apart place [] = by (label_at labels place)
      where
        by : (label : Option ℕ) → AreApart (here place label)
        by None = tt
        by (Some number) = (tt, tt)
    placed_apart place (i ∷ others) = by (label_at labels place) refl (placed_apart (place + 1) others)
      where
        by : (label : Option ℕ) → label_at labels place ≡ label → AreApart (placed_from labels (place + 1) others) → AreApart (here place label ++ placed_from labels (place + 1) others)
        by None e rest = rest
        by (Some number) e rest =
            (all_placed (λ m. name_of number ≢ m.name) (place + 1) others (λ goal n later k. other_names place goal number n (omega (arith, later)) e k), rest)

-- ---- code

-- the text of code, with the words that denote it
record IsWrittenCode (version : Version) (all : List Placed) (place : ℕ) (labels : List Placed) (code : List Instr) (text : List ℕ) : Type 0 where
  pub words : List (List Word)
  pub are : AreCode version all place labels code words
  pub writes : Writes text words

module _ (version : Version) (labels : List ℕ) (few : AreNumbered labels) (all : List Placed) (is_placed : (goal number : ℕ) → label_at labels goal ≡ Some number → Contains all (placed number goal)) where
  -- the line of a label before code
  with_label : (place : ℕ) (label : Option ℕ) (others : List Placed) (code : List Instr) (text : List ℕ) → label_at labels place ≡ label → IsWrittenCode version all place others code text → IsWrittenCode version all place (here place label ++ others) code (label_line label ++ text)
  with_label place None others code text e w = w
  with_label place (Some number) others code text e w =
      let name = numbered_name number (few place number e) in
      let l = label_written version (SkipsTo all place) (goal_word None) (name_of number) name.0 name.1 in
      record {
        words = l.words ∷ w.words;
        are = AreCode.label place (name_of number) l.words others code w.words l.spells name.1 w.are;
        writes = writes_both (line_of (goal_word None) (Label (name_of number))) text (l.words ∷ []) w.words (writes_line (SkipsTo all place) (Label (name_of number)) (bare_line (goal_word None) (Label (name_of number))) l) w.writes;
      }

  goal_is_there : (place skip : ℕ) (label : Option ℕ) → label_at labels (place + 1 + skip) ≡ label → IsGoal (SkipsTo all place) label skip
  goal_is_there place skip None e = tt
  goal_is_there place skip (Some number) e = (few (place + 1 + skip) number e, is_placed (place + 1 + skip) number e)

  written_instr : (place : ℕ) (i : Instr) → IsInstrOf version i → IsLineOf version (SkipsTo all place) (Code i) (bare_line (λ skip. goal_word (label_at labels (place + 1 + skip)) skip) (Code i))
  written_instr place i limits =
      let to : ℕ → Option ℕ = λ skip. label_at labels (place + 1 + skip) in
      let label = option_and_then to (skip_of i) in
      subst (IsLineOf version (SkipsTo all place) (Code i)) (ap (join_with_byte 32) (words_of_goal labels place label i refl))
      (instr_written version (SkipsTo all place) label i (had version i limits) (instr_widened version i limits) (λ skip e. subst (λ (s : Option ℕ). IsGoal (SkipsTo all place) (option_and_then to s) skip) (sym e) (goal_is_there place skip (to skip) refl)))

  written_code : (place : ℕ) (code : List Instr) → AllByRecursion (IsInstrOf version) code → IsWrittenCode version all place (placed_from labels place code) code (code_lines labels place code)
  written_code place [] h =
      let w = with_label place (label_at labels place) [] [] [] refl (record { words = []; are = AreCode.end place; writes = writes_nothing }) in
      subst (λ (ls : List Placed). IsWrittenCode version all place ls [] (label_line (label_at labels place))) (append-nil (here place (label_at labels place)))
      (subst (λ (text : List ℕ). IsWrittenCode version all place (here place (label_at labels place) ++ []) [] text) (append-nil (label_line (label_at labels place))) w)
  written_code place (i ∷ others) h =
      let w = written_code (place + 1) others h.1 in
      let skip_word : ℕ → List ℕ = λ skip. goal_word (label_at labels (place + 1 + skip)) skip in
      let l = written_instr place i h.0 in
      let following = placed_from labels (place + 1) others in
      let text = line_of skip_word (Code i) ++ code_lines labels (place + 1) others in
      with_label place (label_at labels place) following (i ∷ others) text refl
      (record {
        words = l.words ∷ w.words;
        are = AreCode.instruction place i l.words following others w.words l.spells w.are;
        writes = writes_both (line_of skip_word (Code i)) (code_lines labels (place + 1) others) (l.words ∷ []) w.words (writes_line (SkipsTo all place) (Code i) (bare_line skip_word (Code i)) l) w.writes;
      })

-- ---- programs

record IsWrittenProcedure (version : Version) (p : Procedure) (text : List ℕ) : Type 0 where
  pub words : List (List Word)
  pub spells : EncodesProcedure version p words
  pub writes : Writes text words

written_procedure : (version : Version) (p : Procedure) → IsProcedureOf version p → IsProcedure p → IsWrittenProcedure version p (procedure_lines p)
written_procedure version p h wide =
    let labels = label_places p.code in
    let few = numbered p wide in
    let all = placed_from labels 0 p.code in
    let is_placed : (goal number : ℕ) → label_at labels goal ≡ Some number → Contains all (placed number goal) = λ goal number e. label_is_there labels 0 p.code goal number (omega arith) (omega (arith, label_within p.code goal number e)) e in
    let code = written_code version labels few all is_placed 0 p.code h.code.1 in
    let head = head_written version (SkipsTo [] 0) (goal_word None) p.kind p.params (had_params version p.params h.params.1) wide.params in
    let registers = registers_written version (SkipsTo [] 0) (goal_word None) p.registers h.registers in
    let head_line = line_of (goal_word None) (Head p.kind p.params) in
    let registers_line = line_of (goal_word None) (Registers p.registers) in
    let first = writes_line (SkipsTo [] 0) (Head p.kind p.params) (bare_line (goal_word None) (Head p.kind p.params)) head in
    let second = writes_line (SkipsTo [] 0) (Registers p.registers) (bare_line (goal_word None) (Registers p.registers)) registers in
    record {
      words = head.words ∷ registers.words ∷ code.words;
      spells = record {
        head = head.words;
        registers = registers.words;
        body = code.words;
        labels = all;
        parts = refl;
        head_is = head.spells;
        registers_are = registers.spells;
        body_is = code.are;
        once = all_apart all (placed_apart labels few 0 p.code);
      };
      writes = writes_both head_line (registers_line ++ code_lines labels 0 p.code) (head.words ∷ []) (registers.words ∷ code.words) first
          (writes_both registers_line (code_lines labels 0 p.code) (registers.words ∷ []) code.words second code.writes);
    }

record AreWritten (version : Version) (procedures : List Procedure) (text : List ℕ) : Type 0 where
  pub words : List (List Word)
  pub spell : EncodeProcedures version procedures words
  pub writes : Writes text words

written_procedures : (version : Version) (procedures : List Procedure) → AllByRecursion (IsProcedureOf version) procedures → AllByRecursion IsProcedure procedures → AreWritten version procedures (flat_map procedure_lines procedures)
written_procedures version [] h wide = record { words = []; spell = EncodeProcedures.end; writes = writes_nothing }
written_procedures version (p ∷ procedures) h wide =
    let first = written_procedure version p h.0 wide.0 in
    let others = written_procedures version procedures h.1 wide.1 in
    record {
      words = first.words ++ others.words;
      spell = EncodeProcedures.one_more p procedures first.words others.words first.spells others.spell;
      writes = writes_both (procedure_lines p) (flat_map procedure_lines procedures) first.words others.words first.writes others.writes;
    }

-- the text of the version's line
record IsFrontWritten (version : Version) (text : List ℕ) : Type 0 where
  pub words : List (List Word)
  pub spells : EncodesVersion version words
  pub writes : Writes text words

numbered_version : (version : Version) → IsFrontWritten version (line_of (goal_word None) (OfVersion (version_number version)))
numbered_version version =
    let number = version_number version in
    let l = version_written One (SkipsTo [] 0) (goal_word None) number (number_within version) in
    record {
      words = l.words ∷ [];
      spells = EncodesVersion.said version l.words l.spells;
      writes = writes_line (SkipsTo [] 0) (OfVersion number) (bare_line (goal_word None) (OfVersion number)) l;
    }

written_version : (version : Version) → IsFrontWritten version (version_line version)
written_version One = record { words = []; spells = EncodesVersion.unsaid; writes = writes_nothing }
written_version Two = numbered_version Two
written_version Four = numbered_version Four
written_version Five = numbered_version Five

record IsProgramWritten (program : Versioned) : Type 0 where
  pub front : List (List Word)
  pub words : List (List Word)
  pub version_is : EncodesVersion program.version front
  pub spell : EncodeProcedures program.version program.procedures words
  pub written : IsWritten (disassembly program) (front ++ words)

written_program : (program : Versioned) → IsVersioned program → IsProgramWritten program
written_program program h =
    let first = written_version program.version in
    let others = written_procedures program.version program.procedures h.1 (widened program.version program.procedures h).1 in
    let all = writes_both (version_line program.version) (flat_map procedure_lines program.procedures) first.words others.words first.writes others.writes in
    record {
      front = first.words;
      words = others.words;
      version_is = first.spells;
      spell = others.spell;
      written = subst (λ (text : List ℕ). IsWritten text (first.words ++ others.words)) (append-nil (disassembly program))
          (subst (λ (words : List (List Word)). IsWritten (disassembly program ++ []) words) (append-nil (first.words ++ others.words)) (all [] [] nothing));
    }

pub disassembly_encodes : (program : Versioned) → IsVersioned program → EncodesProgram program (disassembly program)
disassembly_encodes program h =
    let w = written_program program h in
    let t = w.written in
    record {
      front = w.front;
      words = w.words;
      lines_are = subst (λ (ls : List (List ℕ)). HaveWords ls (w.front ++ w.words)) (sym (ap lines t.parts ∙ one_lines_back t.each_line t.single)) t.have;
      version_is = w.version_is;
      procedures_are = w.spell;
      is_program = h;
    }

pub disassembly_text : (program : Versioned) → IsVersioned program → IsUtf8 (disassembly program)
disassembly_text program h = (written_program program h).written.utf8
