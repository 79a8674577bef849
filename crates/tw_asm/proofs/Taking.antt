-- The fault of a line, by its words.
use Rattle.tw_asm.proofs.AsmNames.{AnyName, AnyShortName, AreClosed, AreFinished, AsmFault, AtStart, Bare, Begins, Code, Contains, EncodesInLimits, FaultNo, First, HasWords, HaveForm, Head, HeadRead, InBody, Instr, IsBrokenLine, IsEmptyAt, IsExpected, IsExpectedBy, IsFirstWord, IsFlawFault, IsFlawed, IsGoalOf, IsLimit, IsLimitLine, IsLine, IsLineRead, IsMemory, IsNotClosed, IsNotFinished, IsOutset, Kind, Label, LineFault, MayBegin, MayFollow, Param, ParserState, Place, Progress, Quoted, Section, Stage, Statement, Stopped, TakenLine, TakenStatement, TokenError, Version, VersionRead, Within, Word, WordsRead, begun, blank_no_word, broken_here, broken_no_line, drafts_at, empty, ended, expectation, first_word_once, instructions, label_twice, length-append, limit, line_blank, line_once, operand, procedures, situation_of, slice_get, stage_of, step, word}
use Rattle.tw_asm.specs.declared.statement.Statement as statements
use Rattle.tw_asm.specs.declared.statement.Statement.TheVariants as statement
use Rattle.tw_asm.specs.declared.reading.Reading as readings
use Rattle.std.proofs.Common.{◌≡◌, ◌⊎◌, ℕ, zero, suc, ◌+◌, ◌<◌, ◌≤◌, List, [], ◌∷◌, length, map, Bool, true, false, Option, Some, None, Result, Ok, Err, inl, inr, refl, sym, subst, ap, ◌∙◌, arith}
use Rattle.tw_asm.specs.declared.statement.First.TheVariants as first
use Rattle.tw_asm.specs.Seen.{IsRead, Read, seen}
use Rattle.tw_asm.specs.declared.fault.FaultNo.TheVariants as fault
use Rattle.tw_lexer.specs.declared.numbers.TokenError.TheVariants as flaw
use Rattle.tw_asm.proofs.Begins.{first_of_words, front_of, line_begins}
use Rattle.tw_asm.proofs.Stages.{head_body, progress, start_body, version_body}
use Rattle.tw_asm.proofs.Steps.{read_says}
use Rattle.tw_asm.proofs.Once.{one_expected, encodes_more}

begins : (s : ParserState) (line : List ℕ) (w : Word) (rest : List ℕ) (expected : First) → IsFirstWord w line rest → IsExpectedBy s.version w expected → MayBegin s.stage expected → Begins s line expected
begins s line (Bare bytes) rest expected f p m = (bytes, rest, f, p, m)
begins s line (Quoted text) rest expected f p m = absurd p

broken_front : (w : Word) (others : List Word) (line : List ℕ) → IsBrokenLine (w ∷ others) line → (rest : List ℕ) × IsFirstWord w line rest
broken_front w others line l = (l.1.0, l.1.1)

pub broken_fault : (number : ℕ) (s : ParserState) (line : List ℕ) → IsBrokenLine [] line → LineFault number s line fault.Word number
broken_fault number s line b =
    let n = broken_here line b in
    word (λ l. n.0 (line_blank line l)) (λ expected x. n.1 (Bare x.0) x.1 x.2)

word_fault : (number : ℕ) (s : ParserState) (line : List ℕ) (w : Word) (rest : List ℕ) → IsFirstWord w line rest → ((expected : First) → IsExpectedBy s.version w expected → MayBegin s.stage expected → ⊥) → LineFault number s line fault.Word number
word_fault number s line w rest f none =
    word (λ l. blank_no_word w line rest (line_blank line l) f)
    (λ expected x. none expected (subst (λ (v : Word). IsExpectedBy s.version v expected) (sym (first_word_once w (Bare x.0) line rest x.1 f x.2).0) x.3) x.4)

pub line_word_fault : (number : ℕ) (s : ParserState) (line : List ℕ) (w : Word) (others : List Word) → IsLine (w ∷ others) line → ((expected : First) → IsExpectedBy s.version w expected → MayBegin s.stage expected → ⊥) → LineFault number s line fault.Word number
line_word_fault number s line w others l none = let f = front_of w others line l in word_fault number s line w f.0 f.1 none

pub broken_word_fault : (number : ℕ) (s : ParserState) (line : List ℕ) (w : Word) (others : List Word) → IsBrokenLine (w ∷ others) line → ((expected : First) → IsExpectedBy s.version w expected → MayBegin s.stage expected → ⊥) → LineFault number s line fault.Word number
broken_word_fault number s line w others l none = let f = broken_front w others line l in word_fault number s line w f.0 f.1 none

pub broken_operand : (number : ℕ) (s : ParserState) (line : List ℕ) (w : Word) (others : List Word) (expected : First) → IsBrokenLine (w ∷ others) line → IsExpectedBy s.version w expected → MayBegin s.stage expected → LineFault number s line fault.Operand number
broken_operand number s line w others expected l p m =
    let f = broken_front w others line l in
    operand expected (begins s line w f.0 expected f.1 p m) (λ h. broken_no_line (w ∷ others) h.0 line l h.1)

pub form_fault : (number : ℕ) (s : ParserState) (line : List ℕ) (w : Word) (others : List Word) (expected : First) → IsLine (w ∷ others) line → IsExpectedBy s.version w expected → MayBegin s.stage expected → (HaveForm s.version (w ∷ others) → ⊥) → LineFault number s line fault.Operand number
form_fault number s line w others expected l p m none =
    let f = front_of w others line l in
    operand expected (begins s line w f.0 expected f.1 p m) (λ h. none (subst (HaveForm s.version) (line_once h.0 (w ∷ others) line h.1 l) h.2))

pub empty_is : (place : Place) → IsEmptyAt place → (stage_of place ≡ InBody) × (length (drafts_at place) ≡ 0)
empty_is AtStart e = absurd e
empty_is VersionRead e = absurd e
empty_is (HeadRead kind params) e = absurd e
empty_is (Within section) e = (refl, e)

pub is_empty : (place : Place) → stage_of place ≡ InBody → length (drafts_at place) ≡ 0 → IsEmptyAt place
is_empty AtStart s e = start_body s
is_empty VersionRead s e = version_body s
is_empty (HeadRead kind params) s e = head_body s
is_empty (Within section) s e = e

pub limit_fault : (number at : ℕ) (p : Progress) (line : List ℕ) (w : Word) (others : List Word) (expected : First) → IsLine (w ∷ others) line → IsExpectedBy p.version w expected → MayBegin (stage_of p.place) expected
    → HaveForm p.version (w ∷ others) → ((statement : Statement) → EncodesInLimits p.version statement (w ∷ others) → ⊥) → IsLimitLine p expected number at → LineFault number (situation_of p) line fault.Limit at
limit_fault number at p line w others expected l b m form none (inl h) =
    let f = front_of w others line l in
    let x = begins (situation_of p) line w f.0 expected f.1 b m in
    subst (LineFault number (situation_of p) line fault.Limit) (sym h.2)
    (empty (subst (Begins (situation_of p) line) h.0 x) (w ∷ others, l, form) (empty_is p.place h.1))
limit_fault number at p line w others expected l b m form none (inr h) =
    let f = front_of w others line l in
    subst (LineFault number (situation_of p) line fault.Limit) (sym h.1)
    (limit expected (begins (situation_of p) line w f.0 expected f.1 b m) (w ∷ others, l, form) (λ e x. h.0 e (is_empty p.place x.0 x.1))
    (λ statement ws k say. none statement (subst (EncodesInLimits p.version statement) (line_once ws (w ∷ others) line k l) say)))

pub flaw_fault : (number : ℕ) (p : Progress) (line : List ℕ) (w : Word) (others : List Word) (expected : First) (e : TokenError) (f : AsmFault) → IsLine (w ∷ others) line → IsExpectedBy p.version w expected → MayBegin (stage_of p.place) expected
    → IsFlawed p.version e (w ∷ others) → IsFlawFault p expected number e f → LineFault number (situation_of p) line f.no f.line
flaw_fault number p line w others expected flaw.Form f l b m here is = rw (is.0, is.1) (form_fault number (situation_of p) line w others expected l b m here)
flaw_fault number p line w others expected flaw.Limit f l b m here is = rw is.0 (limit_fault number f.line p line w others expected l b m here.0 here.1 is.1)

-- the statement has the kind that the first word shows
expected_by : (version : Version) (w v : Word) (bytes : List ℕ) (a b : First) → w ≡ Bare bytes → IsExpectedBy version w a → IsExpected version b bytes → a ≡ b
expected_by version w v bytes a b e p q = one_expected version a b bytes (subst (λ (x : Word). IsExpectedBy version x a) e p) q

cons_head : (w v : Word) (ws vs : List Word) → ◌≡◌ {A = List Word} (w ∷ ws) (v ∷ vs) → w ≡ v
cons_head w v ws vs e = cc

pub may_follow : (version : Version) (stage : Stage) (read : Read) (w : Word) (others : List Word) (expected : First) → IsRead version read (w ∷ others) → IsExpectedBy version w expected → MayBegin stage expected → MayBegin stage (expectation read.statement)
may_follow version stage read w others expected r p m =
    let f = first_of_words AnyShortName read.statement (w ∷ others) (read_says version read (w ∷ others) r).0 in
    subst (MayBegin stage) (expected_by version w w f.word expected (expectation read.statement) (cons_head w (Bare f.word) others f.others f.parts) p f.expected) m

-- ---- heads

has_words : (version : Version) (read : Read) (words : List Word) (line : List ℕ) → IsLine words line → IsRead version read words → HasWords version line
has_words version read words line l r = (words, l, (read.statement, encodes_more AnyShortName AnyName (λ skip name short. short.0) read.statement words (read_says version read words r).0))

head_begins : (p : Progress) (kind : Kind) (params : List Param) (line : List ℕ) (words : List Word) → IsLine words line → IsRead p.version (record { statement = Head kind params; goal = None }) words → MayBegin (stage_of p.place) first.Head
    → Begins (situation_of p) line first.Head
head_begins p kind params line words l r m = line_begins AnyShortName (Head kind params) words (situation_of p) line l (read_says p.version (record { statement = Head kind params; goal = None }) words r).0 m

abbrev head_read : Kind → List Param → Read
head_read kind params = record { statement = Head kind params; goal = None }

pub head_stopped : (p : Progress) (number : ℕ) (kind : Kind) (params : List Param) (f : AsmFault) → MayBegin (stage_of p.place) first.Head → IsNotClosed p.place p.head_line f → Stopped p number (record { statement = Head kind params; goal = None }) f
head_stopped p number kind params f m (inl x) = inl x
head_stopped p number kind params f m (inr x) = inr (λ line words l r.
    subst (λ (which : FaultNo). LineFault number (situation_of p) line which f.line) (sym x.0.0)
    (subst (LineFault number (situation_of p) line fault.Limit) (sym x.0.1)
    (empty (head_begins p kind params line words l r m) (has_words p.version (head_read kind params) words line l r) (empty_is p.place x.1))))

head_due : {Z : Type 0} → first.Head ≡ first.Registers → Z
head_due e = absurd cc

closed_length : (sections : List Section) (place : Place) → MayBegin (stage_of place) first.Head → length (ended sections place) ≡ length sections + begun place
closed_length sections AtStart m = omega arith
closed_length sections VersionRead m = omega arith
closed_length sections (HeadRead kind params) m = head_due m
closed_length sections (Within section) m = omega (arith, length-append sections (section ∷ []))

pub too_many_heads : (p : Progress) (number : ℕ) (kind : Kind) (params : List Param) (f : AsmFault) (all : List Section) → MayBegin (stage_of p.place) first.Head → AreClosed p.sections p.place all → 64 ≤ length all → f.no ≡ fault.Limit → f.line ≡ number
    → Stopped p number (record { statement = Head kind params; goal = None }) f
too_many_heads p number kind params f all m c many a b = inr (λ line words l r.
    let n : length all ≡ length p.sections + begun p.place = ap length c.0 ∙ closed_length p.sections p.place m in
    subst (λ (which : FaultNo). LineFault number (situation_of p) line which f.line) (sym a)
    (subst (LineFault number (situation_of p) line fault.Limit) (sym b)
    (procedures (head_begins p kind params line words l r m) (has_words p.version (head_read kind params) words line l r) (λ e. c.1 (is_empty p.place e.0 e.1)) (omega (arith, n, many)))))

positive : (n : ℕ) → (n ≡ 0 → ⊥) → 0 < n
positive zero none = absurd (none refl)
positive (suc n) none = omega arith

whole_at : (place : Place) → MayBegin (stage_of place) first.Head → (IsEmptyAt place → ⊥) → IsOutset (stage_of place) ⊎ ((stage_of place ≡ InBody) × (0 < length (drafts_at place)))
whole_at AtStart m none = inl tt
whole_at VersionRead m none = inl tt
whole_at (HeadRead kind params) m none = head_due m
whole_at (Within section) m none = inr (refl, positive (length section.drafts) none)

pub head_taken : (p : Progress) (number : ℕ) (kind : Kind) (params : List Param) (all : List Section) → MayBegin (stage_of p.place) first.Head → AreClosed p.sections p.place all → length all < 64
    → MayFollow (Head kind params) (situation_of p) × (◌≡◌ {A = Progress} (record { version = p.version; sections = all; head_line = number; place = HeadRead kind params }) (step number (Head kind params) None p))
head_taken p number kind params all m c few =
    let n : length all ≡ length p.sections + begun p.place = ap length c.0 ∙ closed_length p.sections p.place m in
    ((whole_at p.place m c.1, omega (arith, n, few)), ap (λ (ss : List Section). record { version = p.version; sections = ss; head_line = number; place = HeadRead kind params }) c.0)

-- ---- the end

-- the last section ends with the text as it would end before another one
pub finished : (version : Version) (sections all : List Section) (head_line : ℕ) (section : Section) → AreClosed sections (Within section) all → AreFinished (progress version sections head_line (Within section)) all
finished version sections all head_line section c = ((refl, positive (length section.drafts) c.1), c.0)

pub not_finished_there : (version : Version) (sections : List Section) (head_line : ℕ) (section : Section) (f : AsmFault) → IsNotClosed (Within section) head_line f → IsNotFinished (progress version sections head_line (Within section)) f
not_finished_there version sections head_line section f (inl m) = inl m
not_finished_there version sections head_line section f (inr e) = inr (e.0.0, inr (λ outset. outset, e.1, e.0.1), e.0.2)

-- ---- the first word of a list

pub no_first : {X : Type 0} (xs : List X) → ◌≡◌ {A = Option X} None (slice_get xs 0) → xs ≡ []
no_first [] e = refl
no_first (x ∷ xs) e = absurd cc

pub a_first : {X : Type 0} (xs : List X) (x : X) → ◌≡◌ {A = Option X} (Some x) (slice_get xs 0) → (others : List X) × (xs ≡ x ∷ others)
a_first [] x e = absurd cc
a_first {X} (y ∷ others) x e = (others, ap (λ (z : X). z ∷ others) (same y x e)) where
  same : (a b : X) → ◌≡◌ {A = Option X} (Some b) (Some a) → a ≡ b
  same a b p = cc

-- ---- labels and instructions

pub draft_stopped : (version : Version) (sections : List Section) (head_line number : ℕ) (section : Section) (i : Instr) (goal : Option (List ℕ)) (f : AsmFault) → IsMemory f ⊎ (IsLimit f number × (4096 ≤ length section.drafts))
    → Stopped (progress version sections head_line (Within section)) number (record { statement = Code i; goal = goal }) f
draft_stopped version sections head_line number section i goal f (inl x) = inl x
draft_stopped version sections head_line number section i goal f (inr x) = inr (λ line words l r.
    let s = situation_of (progress version sections head_line (Within section)) in
    subst (λ (which : FaultNo). LineFault number s line which f.line) (sym x.0.0)
    (subst (LineFault number s line fault.Limit) (sym x.0.1)
    (instructions i words refl l (read_says version (record { statement = Code i; goal = goal }) words r) x.1)))

pub label_stopped : (version : Version) (sections : List Section) (head_line number : ℕ) (section : Section) (name : List ℕ) (f : AsmFault)
    → IsMemory f ⊎ ((f.no ≡ fault.LabelTwice) × (f.line ≡ number) × Contains (map (λ label. label.name) section.labels) name)
    → Stopped (progress version sections head_line (Within section)) number (record { statement = Label name; goal = None }) f
label_stopped version sections head_line number section name f (inl x) = inl x
label_stopped version sections head_line number section name f (inr x) = inr (λ line words l r.
    let s = situation_of (progress version sections head_line (Within section)) in
    subst (λ (which : FaultNo). LineFault number s line which f.line) (sym x.0)
    (subst (LineFault number s line fault.LabelTwice) (sym x.1)
    (label_twice name words refl l (read_says version (record { statement = Label name; goal = None }) words r) x.2)))

goal_is : (statement : statements.Statement) → IsGoalOf (seen statement).statement (seen statement).goal
goal_is (statement.Version version) = refl
goal_is (statement.Head kind params) = refl
goal_is (statement.Registers registers) = refl
goal_is (statement.Label name) = refl
goal_is (statement.Code draft) = tt

pub line_taken : (p : Progress) (number : ℕ) (line : List ℕ) (said : statements.Statement) (r : Result readings.Reading AsmFault) → WordsRead p number line (Ok (Some said))
    → (MayBegin (stage_of p.place) (expectation (seen said).statement) → TakenStatement p number (seen said) r) → TakenLine p number line r
line_taken p number line said (Ok reading) w give =
    let t = give w.1 in
    (Some (seen said), (w.0, t.0, goal_is said), t.1)
line_taken p number line said (Err f) w give = elim (give w.1) [ inl x ↦ inl x | inr x ↦ inr (x line w.0.0 w.0.1 w.0.2) ]

pub any_word_fault : (number : ℕ) (s : ParserState) (line : List ℕ) (w : Word) (others : List Word) (whole : Bool) → IsLineRead (w ∷ others) whole line → ((expected : First) → IsExpectedBy s.version w expected → MayBegin s.stage expected → ⊥) → LineFault number s line fault.Word number
any_word_fault number s line w others true r none = line_word_fault number s line w others r none
any_word_fault number s line w others false r none = broken_word_fault number s line w others r none
