-- A text with a fault denotes no program.
use Rattle.tw_asm.proofs.AsmNames.{AfterHead, AfterVersion, AnyName, AnyShortName, Bare, Begins, Code, Contains, EncodesInLimits, EncodesProgram, FaultNo, First, GoalFault, HasStatement, HasWords, HaveStatements, Head, InBody, Instr, IsEmpty, IsExpected, IsFirstFault, IsLine, IsLineFault, IsOutset, IsUnfinished, IsWhole, Label, LineFault, List, MayBegin, MayFollow, NamesLabel, None, OfVersion, Option, ParserState, Registers, Some, Stage, Start, Statement, Version, Versioned, Word, [], after_line, arith, at_start, blank_no_word, drop, expectation, first_word_once, inl, inr, labels_ahead, length, line_blank, lines, not_forward, refl, situation, situation_from, slice_get, subst, suc, sym, take, unknown, widened, zero, ℕ, ◌++◌, ◌+◌, ◌<◌, ◌∷◌, ◌≡◌, ◌⊎◌}
use Rattle.tw_asm.specs.declared.statement.First.TheVariants as first
use Rattle.tw_asm.proofs.Alike.{AreAlike}
use Rattle.tw_asm.proofs.Begins.{first_in_line, line_begins}
use Rattle.tw_asm.proofs.Twice.{both_alike, line_is_same, nothing_says, others_say, same_ahead, says_alike}
use Rattle.tw_asm.proofs.Once.{one_expected, encodes_more}
use Rattle.tw_asm.proofs.Spelled.{bare_is}
use Rattle.tw_asm.proofs.Walk.{LinesHold, lines_hold, procedures_said, program_said, program_says}

-- ---- stages

whole_not_empty : (s : ParserState) → IsWhole s → s.instructions ≡ 0 → ⊥
whole_not_empty s w e = omega (arith, w.1, e)

not_outset : (s : ParserState) → s.stage ≡ InBody → IsOutset s.stage → ⊥
not_outset s body outset = subst IsOutset body outset

-- a head is allowed if no procedure has begun
begins_outset : (stage : Stage) → IsOutset stage → MayBegin stage first.Head
begins_outset Start outset = inr refl
begins_outset AfterVersion outset = refl
begins_outset AfterHead outset = absurd outset
begins_outset InBody outset = absurd outset

-- a statement that is allowed has an allowed first word
may_begin : (statement : Statement) (s : ParserState) → MayFollow statement s → MayBegin s.stage (expectation statement)
may_begin (OfVersion version) s start = subst (λ (stage : Stage). MayBegin stage first.Version) (sym start) (inl refl)
may_begin (Head kind params) s (inl outset, few) = begins_outset s.stage outset
may_begin (Head kind params) s (inr whole, few) = subst (λ (stage : Stage). MayBegin stage first.Head) (sym whole.0) (inl refl)
may_begin (Registers registers) s due = subst (λ (stage : Stage). MayBegin stage first.Registers) (sym due) refl
may_begin (Label name) s may = subst (λ (stage : Stage). MayBegin stage first.Body) (sym may.0) (inr refl)
may_begin (Code i) s may = subst (λ (stage : Stage). MayBegin stage first.Body) (sym may.0) (inr refl)

-- ---- the line of a statement has no fault

nothing_begins : {Z : Type 0} (s : ParserState) (line : List ℕ) (expected : First) → IsLine [] line → Begins s line expected → Z
nothing_begins s line expected blank b = absurd (blank_no_word (Bare b.0) line b.1 (line_blank line blank) b.2)

-- the first word of the line begins its statement
is_expectation : (s : ParserState) (line : List ℕ) (statement : Statement) (words : List Word) (expected : First) → IsLine words line → EncodesInLimits s.version statement words → Begins s line expected → expected ≡ expectation statement
is_expectation s line statement words expected is say b =
    let f = first_in_line AnyShortName statement words line is say.0 in
    let same = bare_is b.0 f.word (first_word_once (Bare b.0) (Bare f.word) line b.1 f.rest b.2 f.first).0 in
    one_expected s.version expected (expectation statement) f.word (subst (IsExpected s.version expected) same b.3) f.expected

registers_head : {Z : Type 0} → ◌≡◌ {A = First} first.Head first.Registers → Z
registers_head e = absurd cc

version_head : {Z : Type 0} → ◌≡◌ {A = First} first.Head first.Version → Z
version_head e = absurd cc

body_head : {Z : Type 0} → ◌≡◌ {A = First} first.Head first.Body → Z
body_head e = absurd cc

head_may : (statement : Statement) (s : ParserState) → first.Head ≡ expectation statement → MayFollow statement s → (IsOutset s.stage ⊎ IsWhole s) × (s.procedures < 64)
head_may (OfVersion version) s e may = version_head e
head_may (Head kind params) s e may = may
head_may (Registers registers) s e may = registers_head e
head_may (Label name) s e may = body_head e
head_may (Code i) s e may = body_head e

not_empty : (s : ParserState) → IsOutset s.stage ⊎ IsWhole s → IsEmpty s → ⊥
not_empty s (inl outset) e = not_outset s e.0 outset
not_empty s (inr whole) e = whole_not_empty s whole e.1

label_may : (statement : Statement) (name : List ℕ) (s : ParserState) → AreAlike statement (Label name) → MayFollow statement s → Contains s.labels name → ⊥
label_may (Label other) name s a may c = may.1 (subst (Contains s.labels) (sym a) c)
label_may statement name s a may c = absurd a

code_may : (statement : Statement) (i : Instr) (s : ParserState) → AreAlike statement (Code i) → MayFollow statement s → s.instructions < 4096
code_may (Code j) i s a may = may.1
code_may statement i s a may = absurd a

pub has_words : (version : Version) (statement : Statement) (words : List Word) (line : List ℕ) → IsLine words line → EncodesInLimits version statement words → HasWords version line
has_words version statement words line is say = (words, is, (statement, encodes_more AnyShortName AnyName (λ skip name short. short.0) statement words say.0))

blank_no_fault : (number : ℕ) (s : ParserState) (line : List ℕ) (which : FaultNo) (at : ℕ) → IsLine [] line → LineFault number s line which at → ⊥
blank_no_fault number s line _ _ blank (LineFault.word some none) = some blank
blank_no_fault number s line _ _ blank (LineFault.operand expected b formless) = nothing_begins s line expected blank b
blank_no_fault number s line _ _ blank (LineFault.label_twice name words body is say c) = nothing_says s.version (Label name) words line blank is say
blank_no_fault number s line _ _ blank (LineFault.empty b has e) = nothing_begins s line first.Head blank b
blank_no_fault number s line _ _ blank (LineFault.limit expected b has e unsaid) = nothing_begins s line expected blank b
blank_no_fault number s line _ _ blank (LineFault.procedures b has e many) = nothing_begins s line first.Head blank b
blank_no_fault number s line _ _ blank (LineFault.instructions i words body is say many) = nothing_says s.version (Code i) words line blank is say

said_no_fault : (number : ℕ) (s : ParserState) (line : List ℕ) (statement : Statement) (ws : List Word) (which : FaultNo) (at : ℕ) → IsLine ws line → EncodesInLimits s.version statement ws → MayFollow statement s → LineFault number s line which at → ⊥
said_no_fault number s line statement ws _ _ l h may (LineFault.word some none) = none (expectation statement) (line_begins AnyShortName statement ws s line l h.0 (may_begin statement s may))
said_no_fault number s line statement ws _ _ l h may (LineFault.operand expected b formless) = formless (has_words s.version statement ws line l h)
said_no_fault number s line statement ws _ _ l h may (LineFault.label_twice name words body is say c) = label_may statement name s (says_alike s.version statement (Label name) ws words line l h is say) may c
said_no_fault number s line statement ws _ _ l h may (LineFault.empty b has e) = not_empty s (head_may statement s (is_expectation s line statement ws first.Head l h b) may).0 e
said_no_fault number s line statement ws _ _ l h may (LineFault.limit expected b has e unsaid) = unsaid statement ws l h
said_no_fault number s line statement ws _ _ l h may (LineFault.procedures b has e many) = omega (arith, many, (head_may statement s (is_expectation s line statement ws first.Head l h b) may).1)
said_no_fault number s line statement ws _ _ l h may (LineFault.instructions i words body is say many) = omega (arith, many, code_may statement i s (says_alike s.version statement (Code i) ws words line l h is say) may)

pub line_no_fault : (number : ℕ) (s : ParserState) (line : List ℕ) (said : Option Statement) (which : FaultNo) (at : ℕ) → HasStatement s line said → LineFault number s line which at → ⊥
line_no_fault number s line None which at l f = blank_no_fault number s line which at l f
line_no_fault number s line (Some statement) which at l f = said_no_fault number s line statement l.0.0 which at l.0.1 l.0.2 l.1 f

-- ---- two readings of the same lines

-- lines that hold have these statements
hold_say : (number : ℕ) (s : ParserState) (ls : List (List ℕ)) (held : List (Option Statement)) → LinesHold number s ls held → HaveStatements number s ls held
hold_say number s [] [] h = tt
hold_say number s [] (x ∷ held) h = absurd h
hold_say number s (line ∷ more) [] h = absurd h
hold_say number s (line ∷ more) (x ∷ held) h = (h.0, hold_say (number + 1) (after_line number x s) more held h.2)

-- ---- no fault of a line

next_says : (number : ℕ) (s : ParserState) (before : List (List ℕ)) (line : List ℕ) (more : List (List ℕ)) (held said : List (Option Statement)) → LinesHold number s (before ++ (line ∷ more)) held → HaveStatements number s before said
    → (x : Option Statement) × HasStatement (situation_from number s said) line x
next_says number s [] line more [] said h l = absurd h
next_says number s [] line more (x ∷ held) [] h l = (x, h.0)
next_says number s [] line more (x ∷ held) (y ∷ said) h l = absurd l
next_says number s (first ∷ before) line more [] said h l = absurd h
next_says number s (first ∷ before) line more (x ∷ held) [] h l = absurd l
next_says number s (first ∷ before) line more (x ∷ held) (y ∷ said) h l =
    let r = next_says (number + 1) (after_line number x s) before line more held said h.2 (others_say number s first before x y said h.0 l.0 l.1) in
    (r.0, subst (λ (t : ParserState). HasStatement (situation_from (number + 1) t said) line r.0) (both_alike number s first x y h.0 l.0) r.1)

-- ---- no fault at the end

ends_whole : (number : ℕ) (s : ParserState) (ls : List (List ℕ)) (held said : List (Option Statement)) → LinesHold number s ls held → HaveStatements number s ls said → IsWhole (situation_from number s said)
ends_whole number s [] [] [] h l = h
ends_whole number s [] (x ∷ held) said h l = absurd h
ends_whole number s [] [] (y ∷ said) h l = absurd l
ends_whole number s (line ∷ more) [] said h l = absurd h
ends_whole number s (line ∷ more) (x ∷ held) [] h l = absurd l
ends_whole number s (line ∷ more) (x ∷ held) (y ∷ said) h l =
    subst (λ (t : ParserState). IsWhole (situation_from (number + 1) t said)) (both_alike number s line x y h.0 l.0)
    (ends_whole (number + 1) (after_line number x s) more held said h.2 (others_say number s line more x y said h.0 l.0 l.1))

pub finished : (s : ParserState) (at : ℕ) → IsWhole s → IsUnfinished s at → ⊥
finished s at whole (inl outset) = not_outset s whole.0 outset.0
finished s at whole (inr empty) = whole_not_empty s whole empty.1

-- ---- no fault of a goal

ahead_no_fault : (s : ParserState) (ahead others : List (List ℕ)) (line : List ℕ) (which : FaultNo)
    → ((name : List ℕ) (words : List Word) → IsLine words line → NamesLabel s.version name words → (Contains s.labels name → ⊥) × Contains ahead name) → ahead ≡ others → GoalFault s others line which → ⊥
ahead_no_fault s ahead others line _ named e (unknown name words is n before absent) = absent (subst (λ (names : List (List ℕ)). Contains names name) e (named name words is n).1)
ahead_no_fault s ahead others line _ named e (not_forward name words is n before) = (named name words is n).0 before

no_line : (line : List ℕ) (k : ℕ) → slice_get {X = List ℕ} [] k ≡ Some line → ⊥
no_line line zero e = absurd cc
no_line line (suc k) e = absurd cc

no_goal_fault : (number : ℕ) (s : ParserState) (ls : List (List ℕ)) (held said : List (Option Statement)) (index : ℕ) (line : List ℕ) (which : FaultNo) → LinesHold number s ls held → HaveStatements number s ls said
    → slice_get ls index ≡ Some line → GoalFault (situation_from number s (take index said)) (labels_ahead (drop (index + 1) said)) line which → ⊥
no_goal_fault number s [] [] said index line which h l e g = no_line line index e
no_goal_fault number s [] (x ∷ held) said index line which h l e g = absurd h
no_goal_fault number s (first ∷ more) [] said index line which h l e g = absurd h
no_goal_fault number s (first ∷ more) (x ∷ held) [] index line which h l e g = absurd l
no_goal_fault number s (first ∷ more) (x ∷ held) (y ∷ said) zero line which h l e g =
    ahead_no_fault s (labels_ahead held) (labels_ahead said) first which h.1 (same_ahead (number + 1) (after_line number x s) more held said (hold_say (number + 1) (after_line number x s) more held h.2) (others_say number s first more x y said h.0 l.0 l.1))
    (subst (λ (z : List ℕ). GoalFault s (labels_ahead said) z which) (line_is_same first line e) g)
no_goal_fault number s (first ∷ more) (x ∷ held) (y ∷ said) (suc k) line which h l e g =
    let n : suc k + 1 ≡ suc (k + 1) = omega arith in
    let here = subst (λ (j : ℕ). GoalFault (situation_from (number + 1) (after_line number y s) (take k said)) (labels_ahead (drop j (y ∷ said))) line which) n g in
    no_goal_fault (number + 1) (after_line number x s) more held said k line which h.2 (others_say number s first more x y said h.0 l.0 l.1) e
    (subst (λ (t : ParserState). GoalFault (situation_from (number + 1) t (take k said)) (labels_ahead (drop (k + 1) said)) line which) (sym (both_alike number s first x y h.0 l.0)) here)

-- ---- no fault at all

hold : (text : List ℕ) (program : Versioned) → EncodesProgram program text → (held : List (Option Statement)) × LinesHold 1 at_start (lines text) held
hold text program s =
    let fits = widened program.version program.procedures s.is_program in
    let says = program_says program.version s.front s.version_is program.procedures s.words s.procedures_are fits.1 fits.0.0 fits.0.1 in
    let held = lines_hold 1 at_start (lines text) (s.front ++ s.words) (program_said program.version s.front s.version_is (procedures_said program.version program.procedures s.words s.procedures_are)) s.lines_are says in
    (held.said, held.hold)

no_line_fault : (text : List ℕ) (which : FaultNo) (at : ℕ) (found : Option ℕ) (held : List (Option Statement)) → LinesHold 1 at_start (lines text) held → IsLineFault text which at found → ⊥
no_line_fault text which at found held h f =
    let next = next_says 1 at_start f.before f.line f.others held f.said (subst (λ (ls : List (List ℕ)). LinesHold 1 at_start ls held) f.parts h) f.say in
    line_no_fault (length f.before + 1) (situation f.said) f.line next.0 which at next.1 f.wrong

-- a text with a fault denotes no program
pub fault_none : (text : List ℕ) (which : FaultNo) (at : ℕ) (found : Option ℕ) (program : Versioned) → IsFirstFault text which at found → EncodesProgram program text → ⊥
fault_none text which at found program (inl f) s = let h = hold text program s in no_line_fault text which at found h.0 h.1 f
fault_none text which at found program (inr (e, inl f)) s = let h = hold text program s in finished (situation f.said) at (ends_whole 1 at_start (lines text) h.0 f.said h.1 f.say) f.unfinished
fault_none text which at found program (inr (e, inr f)) s = let h = hold text program s in no_goal_fault 1 at_start (lines text) h.0 f.0.said f.0.index f.0.line which h.1 f.0.say f.0.line_is f.0.wrong
