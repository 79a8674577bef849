-- The lines of a text that denotes a program are allowed, one after another, and each goal is a later label.
use Rattle.tw_asm.proofs.AsmNames.{All-contains, All-from_recursion, AllByRecursion, AllPairs, AnyShortName, AreCode, Code, Contains, Contains-push_cases, EncodeProcedures, Encodes, EncodesInLimits, EncodesProcedure, EncodesVersion, Goals, HasStatement, HaveWords, Head, InBody, Instr, IsInstr, IsLine, IsOutset, IsProcedure, IsShortName, IsWhole, Label, List, MayFollow, NamesLabel, None, OfVersion, One, Option, ParserState, Placed, Procedure, Registers, SkipsTo, Some, Statement, Version, Word, [], after, after_line, ap, arith, at_start, inl, inr, labels_ahead, length, line_once, map, refl, slice_index_or, subst, suc, sym, version_number, zero, ℕ, ◌++◌, ◌+◌, ◌<◌, ◌∙◌, ◌∷◌, ◌≡◌, ◌≢◌, ◌≤◌, ◌⊎◌}
use Rattle.tw_asm.proofs.Alike.{AreAlike, alike}
use Rattle.tw_asm.proofs.NamedLabels.{named_goal}
use Rattle.tw_asm.proofs.Twice.{none_encoded}
use Rattle.tw_asm.proofs.Once.{encodes_more}
use Rattle.tw_asm.proofs.Versions.{number_back, number_within}

-- ---- elements

pub contains_first : {X : Type 0} (x : X) (xs : List X) → Contains (x ∷ xs) x
contains_first x xs = (0, omega arith, refl)

pub contains_later : {X : Type 0} (x : X) (xs : List X) (y : X) → Contains xs y → Contains (x ∷ xs) y
contains_later x xs y c = (suc c.0, omega (arith, c.1), c.2)

first_or_later : {X : Type 0} (x : X) (xs : List X) (y : X) (k : ℕ) → k < suc (length xs) → slice_index_or (x ∷ xs) k y ≡ y → (x ≡ y) ⊎ Contains xs y
first_or_later x xs y zero low e = inl e
first_or_later x xs y (suc k) low e = inr (k, omega (arith, low), e)

pub contains_cases : {X : Type 0} (x : X) (xs : List X) (y : X) → Contains (x ∷ xs) y → (x ≡ y) ⊎ Contains xs y
contains_cases x xs y c = first_or_later x xs y c.0 c.1 c.2

pub contains_none : {Z : Type 0} {X : Type 0} (x : X) → Contains {X = X} [] x → Z
contains_none x c = absurd (omega (arith, c.1))

pub all_of : {X : Type 0} (P : X → Type 0) (xs : List X) (x : X) → AllByRecursion P xs → Contains xs x → P x
all_of P xs x a c = All-contains P xs x (All-from_recursion P xs a) c

pub higher : (k n : ℕ) (labels : List Placed) → k ≤ n → AllByRecursion (λ label. label.place ≤ k) labels → AllByRecursion (λ label. label.place ≤ n) labels
higher k n [] le a = tt
higher k n (l ∷ labels) le a = (omega (arith, le, a.0), higher k n labels le a.1)

abbrev pub names_of : List Placed → List (List ℕ)
names_of labels = map (λ label. label.name) labels

pub name_among : (labels : List Placed) (label : Placed) → Contains labels label → Contains (names_of labels) label.name
name_among [] label c = contains_none label c
name_among (l ∷ labels) label c =
    elim (contains_cases l labels label c) [
      | inl e ↦ subst (λ (x : Placed). Contains (names_of (l ∷ labels)) x.name) e (contains_first l.name (names_of labels))
      | inr d ↦ contains_later l.name (names_of labels) label.name (name_among labels label d)
    ]

-- ---- names that differ

abbrev pub AreOnce : List (List ℕ) → Type 0
AreOnce [] = Unit {0}
AreOnce (name ∷ names) = (Contains names name → ⊥) × AreOnce names

pub once_by_pairs : (names : List (List ℕ)) → AllPairs (λ a b. a ≢ b) names → AreOnce names
once_by_pairs [] p = tt
once_by_pairs (name ∷ names) p =
    (λ c. p 0 (suc c.0) name (omega arith) (omega (arith, c.1)) (sym c.2), once_by_pairs names (λ i j d low high. p (suc i) (suc j) d (omega (arith, low)) (omega (arith, high))))

-- ---- statements, one after another, whatever lines are between them

-- returns the labels of these statements, up to the next head
abbrev pub ahead_of : List Statement → List (List ℕ)
ahead_of [] = []
ahead_of (OfVersion version ∷ others) = ahead_of others
ahead_of (Head kind params ∷ others) = []
ahead_of (Registers registers ∷ others) = ahead_of others
ahead_of (Label name ∷ others) = name ∷ ahead_of others
ahead_of (Code i ∷ others) = ahead_of others

-- holds if a label that the words name is after them, and not before
abbrev pub NamesAhead : ParserState → List (List ℕ) → List Word → Type 0
NamesAhead s ahead words = (name : List ℕ) → NamesLabel s.version name words → (Contains s.labels name → ⊥) × Contains ahead name

-- holds if the words denote these statements up to the end, each is allowed in its state, and goals are after them
abbrev pub WordsSay : ParserState → List (List Word) → List Statement → Type 0
WordsSay s [] [] = IsWhole s
WordsSay s [] (statement ∷ others) = ⊥
WordsSay s (words ∷ more) [] = ⊥
WordsSay s (words ∷ more) (statement ∷ others) =
    EncodesInLimits s.version statement words × MayFollow statement s × NamesAhead s (ahead_of others) words × ((number : ℕ) → WordsSay (after number statement s) more others)

no_code : (G : Goals) (statement : Statement) (words : List Word) (s : ParserState) (ahead : List (List ℕ)) → Encodes s.version G statement words → ((i : Instr) → AreAlike statement (Code i) → ⊥) → NamesAhead s ahead words
no_code G statement words s ahead h apart name n = absurd (apart n.i (alike G (λ skip word. word ≡ name) statement (Code n.i) words h n.spells))

-- ---- the statements of a body

abbrev pub said_in : (version : Version) (all : List Placed) (place : ℕ) (labels : List Placed) (code : List Instr) (body : List (List Word)) → AreCode version all place labels code body → List Statement
said_in version all _ _ _ _ (AreCode.end place) = []
said_in version all _ _ _ _ (AreCode.label place name words labels code others h limits more) = Label name ∷ said_in version all place labels code others more
said_in version all _ _ _ _ (AreCode.instruction place i words labels code others h more) = Code i ∷ said_in version all (place + 1) labels code others more

ahead_in : (version : Version) (all : List Placed) (place : ℕ) (labels : List Placed) (code : List Instr) (body : List (List Word)) (c : AreCode version all place labels code body) (rest : List Statement)
    → ahead_of rest ≡ [] → ahead_of (said_in version all place labels code body c ++ rest) ≡ names_of labels
ahead_in version all _ _ _ _ (AreCode.end place) rest none = none
ahead_in version all _ _ _ _ (AreCode.label place name words labels code others h limits more) rest none = ap (λ (names : List (List ℕ)). name ∷ names) (ahead_in version all place labels code others more rest none)
ahead_in version all _ _ _ _ (AreCode.instruction place i words labels code others h more) rest none = ahead_in version all (place + 1) labels code others more rest none

pub labels_short : (version : Version) (all : List Placed) (place : ℕ) (labels : List Placed) (code : List Instr) (body : List (List Word)) → AreCode version all place labels code body → (label : Placed) → Contains labels label → IsShortName label.name
labels_short version all _ _ _ _ (AreCode.end place) label c = contains_none label c
labels_short version all _ _ _ _ (AreCode.label place name words labels code others h limits more) label c =
    elim (contains_cases (record { name = name; place = place }) labels label c) [
      | inl e ↦ subst (λ (x : Placed). IsShortName x.name) e (h.form, limits)
      | inr d ↦ labels_short version all place labels code others more label d
    ]
labels_short version all _ _ _ _ (AreCode.instruction place i words labels code others h more) label c = labels_short version all (place + 1) labels code others more label c

-- the state in a body, with these labels and this number of instructions still to come
record Within (version : Version) (all : List Placed) (place : ℕ) (labels : List Placed) (count : ℕ) (s : ParserState) : Type 0 where
  version_is : s.version ≡ version
  stage : s.stage ≡ InBody
  here : s.instructions ≡ place
  room : place + count ≤ 4096
  known : (label : Placed) → Contains all label → (label.place ≤ place) ⊎ Contains labels label
  short : (label : Placed) → Contains all label → IsShortName label.name
  apart : (name : List ℕ) → Contains s.labels name → Contains (names_of labels) name → ⊥
  once : AreOnce (names_of labels)

says_short : (version : Version) (all : List Placed) (place : ℕ) (statement : Statement) (words : List Word) → ((label : Placed) → Contains all label → IsShortName label.name) → Encodes version (SkipsTo all place) statement words
    → Encodes version AnyShortName statement words
says_short version all place statement words short h = encodes_more (SkipsTo all place) AnyShortName (λ skip name goal. short (record { name = name; place = place + 1 + skip }) goal) statement words h

within_label : (version : Version) (all : List Placed) (place : ℕ) (name : List ℕ) (labels : List Placed) (count number : ℕ) (s : ParserState) → Within version all place (record { name = name; place = place } ∷ labels) count s
    → Within version all place labels count (after number (Label name) s)
within_label version all place name labels count number s w = record {
  version_is = w.version_is;
  stage = w.stage;
  here = w.here;
  room = w.room;
  known = λ label c.
      elim (w.known label c) [
        | inl low ↦ inl low
        | inr d ↦ elim (contains_cases (record { name = name; place = place }) labels label d) [
          | inl e ↦ inl (subst (λ (x : Placed). x.place ≤ place) e (omega arith))
          | inr f ↦ inr f
        ]
      ];
  short = w.short;
  apart = λ other c d.
      elim (Contains-push_cases s.labels name other c) [
        | inl b ↦ w.apart other b (contains_later name (names_of labels) other d)
        | inr e ↦ w.once.0 (subst (Contains (names_of labels)) (sym e) d)
      ];
  once = w.once.1;
}

within_code : (version : Version) (all : List Placed) (place : ℕ) (labels : List Placed) (count number : ℕ) (i : Instr) (s : ParserState) → Within version all place labels (suc count) s → Within version all (place + 1) labels count (after number (Code i) s)
within_code version all place labels count number i s w = record {
  version_is = w.version_is;
  stage = w.stage;
  here = ap (λ (n : ℕ). n + 1) w.here;
  room = omega (arith, w.room);
  known = λ label c.
      elim (w.known label c) [
        | inl low ↦ inl (omega (arith, low))
        | inr d ↦ inr d
      ];
  short = w.short;
  apart = w.apart;
  once = w.once;
}

-- the goal of an instruction is after it
goal_ahead : (version : Version) (all : List Placed) (place : ℕ) (labels : List Placed) (count : ℕ) (i : Instr) (words : List Word) (s : ParserState) (ahead : List (List ℕ)) → Within version all place labels count s → Encodes version (SkipsTo all place) (Code i) words
    → ahead ≡ names_of labels → NamesAhead s ahead words
goal_ahead version all place labels count i words s ahead w h is name n =
    let goal = named_goal (SkipsTo all place) i name words (subst (λ (v : Version). NamesLabel v name words) w.version_is n) h in
    let label : Placed = record { name = name; place = place + 1 + goal.0 } in
    elim (w.known label goal.1) [
      | inl low ↦ absurd (omega (arith, low))
      | inr c ↦ (λ d. w.apart name d (name_among labels label c), subst (λ (names : List (List ℕ)). Contains names name) (sym is) (name_among labels label c))
    ]

-- the statement in a state with this version
say_here : (version : Version) (s : ParserState) (statement : Statement) (words : List Word) → s.version ≡ version → EncodesInLimits version statement words → EncodesInLimits s.version statement words
say_here version s statement words e h = subst (λ (v : Version). EncodesInLimits v statement words) (sym e) h

encodes_here : (version : Version) (s : ParserState) (G : Goals) (statement : Statement) (words : List Word) → s.version ≡ version → Encodes version G statement words → Encodes s.version G statement words
encodes_here version s G statement words e h = subst (λ (v : Version). Encodes v G statement words) (sym e) h

code_says : (version : Version) (all : List Placed) (place : ℕ) (labels : List Placed) (code : List Instr) (body : List (List Word)) (c : AreCode version all place labels code body) (s : ParserState) (following : List (List Word)) (rest : List Statement)
    → Within version all place labels (length code) s → AllByRecursion IsInstr code → ahead_of rest ≡ []
    → ((t : ParserState) → t.version ≡ version → t.stage ≡ InBody → t.instructions ≡ place + length code → t.procedures ≡ s.procedures → WordsSay t following rest)
    → WordsSay s (body ++ following) (said_in version all place labels code body c ++ rest)
code_says version all _ _ _ _ (AreCode.end place) s following rest w fits none then =
    let e : place ≡ place + 0 = omega arith in
    then s w.version_is w.stage (w.here ∙ e) refl
code_says version all _ _ _ _ (AreCode.label place name words labels code others h limits more) s following rest w fits none then = (
  say_here version s (Label name) words w.version_is (says_short version all place (Label name) words w.short h, limits),
  (w.stage, λ c. w.apart name c (contains_first name (names_of labels))),
  no_code (SkipsTo all place) (Label name) words s (ahead_of (said_in version all place labels code others more ++ rest)) (encodes_here version s (SkipsTo all place) (Label name) words w.version_is h) (λ i a. a),
  λ number. code_says version all place labels code others more (after number (Label name) s) following rest (within_label version all place name labels (length code) number s w) fits none then,
)
code_says version all _ _ _ _ (AreCode.instruction place i words labels code others h more) s following rest w fits none then = (
  say_here version s (Code i) words w.version_is (says_short version all place (Code i) words w.short h, fits.0),
  (w.stage, omega (arith, w.here, w.room)),
  goal_ahead version all place labels (suc (length code)) i words s (ahead_of (said_in version all (place + 1) labels code others more ++ rest)) w h (ahead_in version all (place + 1) labels code others more rest none),
  λ number.
      code_says version all (place + 1) labels code others more (after number (Code i) s) following rest (within_code version all place labels (length code) number i s w) fits.1 none
      (λ t version_is stage count procedures. then t version_is stage (omega (arith, count)) procedures),
)

-- ---- procedures

abbrev pub procedure_said : (version : Version) (p : Procedure) (words : List (List Word)) → EncodesProcedure version p words → List Statement
procedure_said version p words h = Head p.kind p.params ∷ Registers p.registers ∷ said_in version h.labels 0 h.labels p.code h.body h.body_is

says_plain : (version : Version) (statement : Statement) (words : List Word) → Encodes version (SkipsTo [] 0) statement words → Encodes version AnyShortName statement words
says_plain version statement words h = encodes_more (SkipsTo [] 0) AnyShortName (λ skip name goal. contains_none {X = Placed} (record { name = name; place = 0 + 1 + skip }) goal) statement words h

within_start : (version : Version) (p : Procedure) (words : List (List Word)) (h : EncodesProcedure version p words) (s : ParserState) (number other : ℕ) → s.version ≡ version → IsProcedure p
    → Within version h.labels 0 h.labels (length p.code) (after other (Registers p.registers) (after number (Head p.kind p.params) s))
within_start version p words h s number other is fits = record {
  version_is = is;
  stage = refl;
  here = refl;
  room = omega (arith, fits.code.0.1);
  known = λ label c. inr c;
  short = labels_short version h.labels 0 h.labels p.code h.body h.body_is;
  apart = λ name c d. contains_none name c;
  once = once_by_pairs (names_of h.labels) h.once;
}

procedure_says : (version : Version) (p : Procedure) (words : List (List Word)) (h : EncodesProcedure version p words) (s : ParserState) (following : List (List Word)) (rest : List Statement) → s.version ≡ version → IsProcedure p → IsOutset s.stage ⊎ IsWhole s
    → s.procedures < 64 → ahead_of rest ≡ [] → ((t : ParserState) → t.version ≡ version → IsWhole t → t.procedures ≡ s.procedures + 1 → WordsSay t following rest) → WordsSay s (words ++ following) (procedure_said version p words h ++ rest)
procedure_says version p words h s following rest is fits may few none then =
    let body = said_in version h.labels 0 h.labels p.code h.body h.body_is in
    subst (λ (x : List (List Word)). WordsSay s (x ++ following) (procedure_said version p words h ++ rest)) (sym h.parts) (
      say_here version s (Head p.kind p.params) h.head is (says_plain version (Head p.kind p.params) h.head h.head_is, fits.params),
      (may, few),
      no_code (SkipsTo [] 0) (Head p.kind p.params) h.head s (ahead_of (Registers p.registers ∷ body ++ rest)) (encodes_here version s (SkipsTo [] 0) (Head p.kind p.params) h.head is h.head_is) (λ i a. a),
      λ number. (
        say_here version s (Registers p.registers) h.registers is (says_plain version (Registers p.registers) h.registers h.registers_are, fits.registers),
        refl,
        no_code (SkipsTo [] 0) (Registers p.registers) h.registers (after number (Head p.kind p.params) s) (ahead_of (body ++ rest)) (encodes_here version s (SkipsTo [] 0) (Registers p.registers) h.registers is h.registers_are) (λ i a. a),
        λ other.
            code_says version h.labels 0 h.labels p.code h.body h.body_is (after other (Registers p.registers) (after number (Head p.kind p.params) s)) following rest (within_start version p words h s number other is fits) fits.code.1 none
            (λ t version_is stage count procedures. then t version_is (stage, omega (arith, count, fits.code.0.0)) procedures),
      ),
    )

-- ---- programs

abbrev pub procedures_said : (version : Version) (procedures : List Procedure) (words : List (List Word)) → EncodeProcedures version procedures words → List Statement
procedures_said version _ _ EncodeProcedures.end = []
procedures_said version _ _ (EncodeProcedures.one_more p others first following h more) = procedure_said version p first h ++ procedures_said version others following more

none_ahead : (version : Version) (procedures : List Procedure) (words : List (List Word)) (h : EncodeProcedures version procedures words) → ahead_of (procedures_said version procedures words h) ≡ []
none_ahead version _ _ EncodeProcedures.end = refl
none_ahead version _ _ (EncodeProcedures.one_more p others first following h more) = refl

pub procedures_say : (version : Version) (procedures : List Procedure) (words : List (List Word)) (h : EncodeProcedures version procedures words) (s : ParserState) → s.version ≡ version → AllByRecursion IsProcedure procedures
    → s.procedures + length procedures ≤ 64 → IsWhole s ⊎ (IsOutset s.stage × (1 ≤ length procedures)) → WordsSay s words (procedures_said version procedures words h)
procedures_say version _ _ EncodeProcedures.end s is fits few (inl whole) = whole
procedures_say version _ _ EncodeProcedures.end s is fits few (inr outset) = absurd (omega (arith, outset.1))
procedures_say version _ _ (EncodeProcedures.one_more p others first following h more) s is fits few may =
    procedure_says version p first h s following (procedures_said version others following more) is fits.0 (may_begin may) (omega (arith, few)) (none_ahead version others following more)
    (λ t version_is whole procedures. procedures_say version others following more t version_is fits.1 (omega (arith, procedures, few)) (inl whole))
  where
    may_begin : IsWhole s ⊎ (IsOutset s.stage × (1 ≤ suc (length others))) → IsOutset s.stage ⊎ IsWhole s
    may_begin (inl whole) = inr whole
    may_begin (inr outset) = inl outset.0

-- returns the statement of the version's line, if there is one, and those of the procedures
abbrev pub program_said : (version : Version) (front : List (List Word)) → EncodesVersion version front → List Statement → List Statement
program_said _ _ EncodesVersion.unsaid others = others
program_said _ _ (EncodesVersion.said version words h) others = OfVersion (version_number version) ∷ others

pub program_says : (version : Version) (front : List (List Word)) (f : EncodesVersion version front) (procedures : List Procedure) (words : List (List Word)) (h : EncodeProcedures version procedures words) → AllByRecursion IsProcedure procedures
    → 1 ≤ length procedures → length procedures ≤ 64 → WordsSay at_start (front ++ words) (program_said version front f (procedures_said version procedures words h))
program_says _ _ EncodesVersion.unsaid procedures words h fits some few = procedures_say One procedures words h at_start refl fits (omega (arith, few)) (inr (tt, some))
program_says _ _ (EncodesVersion.said version line f) procedures words h fits some few = (
  (says_plain One (OfVersion (version_number version)) line f, number_within version),
  refl,
  no_code (SkipsTo [] 0) (OfVersion (version_number version)) line at_start (ahead_of (procedures_said version procedures words h)) f (λ i a. a),
  λ number. procedures_say version procedures words h (after number (OfVersion (version_number version)) at_start) (number_back version) fits (omega (arith, few)) (inr (tt, some)),
)

-- ---- lines

abbrev pub LineNamesAhead : ParserState → List (List ℕ) → List ℕ → Type 0
LineNamesAhead s ahead line = (name : List ℕ) (words : List Word) → IsLine words line → NamesLabel s.version name words → (Contains s.labels name → ⊥) × Contains ahead name

-- holds if the lines have these statements up to the end, each is allowed in its state, and goals are after them
abbrev pub LinesHold : ℕ → ParserState → List (List ℕ) → List (Option Statement) → Type 0
LinesHold number s [] [] = IsWhole s
LinesHold number s [] (said ∷ others) = ⊥
LinesHold number s (line ∷ more) [] = ⊥
LinesHold number s (line ∷ more) (said ∷ others) = HasStatement s line said × LineNamesAhead s (labels_ahead others) line × LinesHold (number + 1) (after_line number said s) more others

pub record Held (number : ℕ) (s : ParserState) (ls : List (List ℕ)) (statements : List Statement) : Type 0 where
  pub said : List (Option Statement)
  pub hold : LinesHold number s ls said
  pub ahead : labels_ahead said ≡ ahead_of statements

ahead_more : (statement : Statement) (said : List (Option Statement)) (others : List Statement) → labels_ahead said ≡ ahead_of others → labels_ahead (Some statement ∷ said) ≡ ahead_of (statement ∷ others)
ahead_more (OfVersion version) said others e = e
ahead_more (Head kind params) said others e = refl
ahead_more (Registers registers) said others e = e
ahead_more (Label name) said others e = ap (λ (names : List (List ℕ)). name ∷ names) e
ahead_more (Code i) said others e = e

blank_names : (s : ParserState) (ahead : List (List ℕ)) (line : List ℕ) → IsLine [] line → LineNamesAhead s ahead line
blank_names s ahead line blank name words is n = absurd (none_encoded (λ skip word. word ≡ name) (Code n.i) words (line_once words [] line is blank) n.spells)

line_names : (s : ParserState) (ahead names : List (List ℕ)) (line : List ℕ) (words : List Word) → IsLine words line → ahead ≡ names → NamesAhead s names words → LineNamesAhead s ahead line
line_names s ahead names line words is e named name others other_is n =
    let found = named name (subst (λ (ws : List Word). NamesLabel s.version name ws) (line_once others words line other_is is) n) in
    (found.0, subst (λ (x : List (List ℕ)). Contains x name) (sym e) found.1)

pub lines_hold : (number : ℕ) (s : ParserState) (ls : List (List ℕ)) (words : List (List Word)) (statements : List Statement) → HaveWords ls words → WordsSay s words statements → Held number s ls statements
lines_hold number s _ _ [] HaveWords.end w = record { said = []; hold = w; ahead = refl }
lines_hold number s _ _ (statement ∷ others) HaveWords.end w = absurd w
lines_hold number s _ _ statements (HaveWords.blank line ls words none more) w =
    let r = lines_hold (number + 1) s ls words statements more w in
    record { said = None ∷ r.said; hold = (none, blank_names s (labels_ahead r.said) line none, r.hold); ahead = r.ahead }
lines_hold number s _ _ [] (HaveWords.one_more line ls word following words is more) w = absurd w
lines_hold number s _ _ (statement ∷ others) (HaveWords.one_more line ls word following words is more) w =
    let r = lines_hold (number + 1) (after number statement s) ls words others more (w.3 number) in
    record {
      said = Some statement ∷ r.said;
      hold = (((word ∷ following, is, w.0), w.1), line_names s (labels_ahead r.said) (ahead_of others) line (word ∷ following) is r.ahead w.2, r.hold);
      ahead = ahead_more statement r.said others r.ahead;
    }
