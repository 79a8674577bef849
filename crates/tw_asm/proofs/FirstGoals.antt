-- The first goal that can't be resolved is the first fault of its text.
use Rattle.tw_asm.proofs.AsmNames.{AllByRecursion, AnyShortName, AsmFault, Code, Contains, Contains-append_cases, Contains-append_left, Contains-append_right, FaultNo, GoalFault, HasSections, HasStatement, HaveStatements, Head, Instr, IsFirstGoalFault, IsLine, IsRead, IsWhole, Label, LineRead, LinesRead, List, MayFollow, NamesLabel, None, OfVersion, Option, ParserState, Placed, Progress, Read, Registers, Section, Some, Statement, Version, Word, [], after, after_line, ap, arith, at_start, drop, flat_map, inl, inr, labels_ahead, length, line_once, line_step, lines, map, map-append, not_forward, outset, refl, situation_from, situation_of, slice_get, slice_index_or, subst, suc, sym, take, unknown, zero, ℕ, ◌++◌, ◌+◌, ◌<◌, ◌∙◌, ◌∷◌, ◌≡◌, ◌≤◌}
use Rattle.tw_asm.specs.reading.Goals.{FirstUnlinked, Goal, IsNoGoal, IsLabelAt, section_goals}
use Rattle.tw_asm.proofs.Alike.{AreAlike, alike}
use Rattle.tw_asm.proofs.NamedLabels.{named_once}
use Rattle.tw_asm.proofs.Found.{ahead, ahead_by, all_goals, goals_are, goals_from, labels_after, place_after}
use Rattle.tw_asm.proofs.Steps.{line_after, line_says, lines_say, read_says, said_by, situation_is, statement_of}
use Rattle.tw_asm.proofs.Twice.{both_alike, line_is_same, none_encoded, same_ahead}
use Rattle.tw_asm.proofs.Walk.{all_of, contains_none, higher, name_among}

-- ---- elements

name_in : (labels : List Placed) (name : List ℕ) (place : ℕ) → Contains labels (record { name = name; place = place }) → Contains (map (λ (label : Placed). label.name) labels) name
name_in labels name place c = name_among labels (record { name = name; place = place }) c

-- ---- lines that are read, by their situations

abbrev pub AreRead : ℕ → ParserState → List (List ℕ) → List (Option Read) → Type 0
AreRead number s [] [] = Unit {0}
AreRead number s [] (read ∷ others) = ⊥
AreRead number s (line ∷ more) [] = ⊥
AreRead number s (line ∷ more) (read ∷ others) = LineRead s line read × AreRead (number + 1) (after_line number (statement_of read) s) more others

pub are_read : (number : ℕ) (p : Progress) (ls : List (List ℕ)) (reads : List (Option Read)) → LinesRead number p ls reads → AreRead number (situation_of p) ls reads
are_read number p [] [] r = tt
are_read number p [] (read ∷ others) r = absurd r
are_read number p (line ∷ more) [] r = absurd r
are_read number p (line ∷ more) (read ∷ others) r =
    (r.0, subst (λ (s : ParserState). AreRead (number + 1) s more others) (line_after number p line read r.0) (are_read (number + 1) (line_step number read p) more others r.1))

-- ---- labels ahead

names_by : (statement : Statement) (place : ℕ) (same next : List Placed) (said : List (Option Statement)) → map (λ (label : Placed). label.name) same ≡ labels_ahead said → map (λ (label : Placed). label.name) next ≡ labels_ahead said
    → map (λ (label : Placed). label.name) (ahead_by statement place same next) ≡ labels_ahead (Some statement ∷ said)
names_by (OfVersion version) place same next said a b = a
names_by (Head kind params) place same next said a b = refl
names_by (Registers registers) place same next said a b = a
names_by (Label name) place same next said a b = ap (λ (names : List (List ℕ)). name ∷ names) a
names_by (Code i) place same next said a b = b

names_ahead : (place : ℕ) (reads : List (Option Read)) → map (λ (label : Placed). label.name) (ahead place reads) ≡ labels_ahead (said_by reads)
names_ahead place [] = refl
names_ahead place (None ∷ others) = names_ahead place others
names_ahead place (Some read ∷ others) = names_by read.statement place (ahead place others) (ahead (place + 1) others) (said_by others) (names_ahead place others) (names_ahead (place + 1) others)

lower : (k n : ℕ) (labels : List Placed) → k ≤ n → AllByRecursion (λ label. n ≤ label.place) labels → AllByRecursion (λ label. k ≤ label.place) labels
lower k n [] le a = tt
lower k n (l ∷ labels) le a = (omega (arith, le, a.0), lower k n labels le a.1)

above_by : (statement : Statement) (place : ℕ) (same next : List Placed) → AllByRecursion (λ label. place ≤ label.place) same → AllByRecursion (λ label. place + 1 ≤ label.place) next
    → AllByRecursion (λ label. place ≤ label.place) (ahead_by statement place same next)
above_by (OfVersion version) place same next a b = a
above_by (Head kind params) place same next a b = tt
above_by (Registers registers) place same next a b = a
above_by (Label name) place same next a b = (omega arith, a)
above_by (Code i) place same next a b = lower place (place + 1) next (omega arith) b

ahead_above : (place : ℕ) (reads : List (Option Read)) → AllByRecursion (λ label. place ≤ label.place) (ahead place reads)
ahead_above place [] = tt
ahead_above place (None ∷ others) = ahead_above place others
ahead_above place (Some read ∷ others) = above_by read.statement place (ahead place others) (ahead (place + 1) others) (ahead_above place others) (ahead_above (place + 1) others)

-- ---- labels before a line

-- these are the labels of the state, none after the place
pub record HasLabelsBefore (labels : List Placed) (place : ℕ) (s : ParserState) : Type 0 where
  pub names : map (λ label. label.name) labels ≡ s.labels
  pub low : AllByRecursion (λ label. label.place ≤ place) labels

low_more : (name : List ℕ) (place : ℕ) (labels : List Placed) → AllByRecursion (λ label. label.place ≤ place) labels → AllByRecursion (λ label. label.place ≤ place) (labels ++ (record { name = name; place = place } ∷ []))
low_more name place [] a = (omega arith, tt)
low_more name place (l ∷ labels) a = (a.0, low_more name place labels a.1)

labels_more : (number : ℕ) (statement : Statement) (labels : List Placed) (place : ℕ) (s : ParserState) → HasLabelsBefore labels place s → HasLabelsBefore (labels_after statement place labels) (place_after statement place) (after number statement s)
labels_more number (OfVersion version) labels place s b = record { names = b.names; low = b.low }
labels_more number (Head kind params) labels place s b = record { names = refl; low = tt }
labels_more number (Registers registers) labels place s b = record { names = b.names; low = b.low }
labels_more number (Label name) labels place s b = record {
  names = map-append (λ (label : Placed). label.name) labels (record { name = name; place = place } ∷ []) ∙ ap (λ (names : List (List ℕ)). names ++ (name ∷ [])) b.names;
  low = low_more name place labels b.low;
}
labels_more number (Code i) labels place s b = record { names = b.names; low = higher place (place + 1) labels (omega arith) b.low }

-- a name before the line isn't after it
label_again : (s : ParserState) (other : List ℕ) (said : List (Option Statement)) (name : List ℕ) → (Contains s.labels other → ⊥) → (Contains (s.labels ++ (other ∷ [])) name → Contains (labels_ahead said) name → ⊥)
    → Contains s.labels name → (k : ℕ) → k < suc (length (labels_ahead said)) → slice_index_or (other ∷ labels_ahead said) k name ≡ name → ⊥
label_again s other said name new others c zero low e = new (subst (Contains s.labels) (sym e) c)
label_again s other said name new others c (suc k) low e = others (Contains-append_left s.labels (other ∷ []) name c) (k, omega (arith, low), e)

again_by : (number : ℕ) (s : ParserState) (statement : Statement) (said : List (Option Statement)) (name : List ℕ) → MayFollow statement s
    → (Contains (after number statement s).labels name → Contains (labels_ahead said) name → ⊥) → Contains s.labels name → Contains (labels_ahead (Some statement ∷ said)) name → ⊥
again_by number s (OfVersion version) said name m others c d = others c d
again_by number s (Head kind params) said name m others c d = contains_none name d
again_by number s (Registers registers) said name m others c d = others c d
again_by number s (Code i) said name m others c d = others c d
again_by number s (Label other) said name m others c d = label_again s other said name m.1 others c d.0 d.1 d.2

not_again : (number : ℕ) (s : ParserState) (ls : List (List ℕ)) (reads : List (Option Read)) (name : List ℕ) → AreRead number s ls reads → Contains s.labels name → Contains (labels_ahead (said_by reads)) name → ⊥
not_again number s [] [] name r c d = contains_none name d
not_again number s [] (read ∷ others) name r c d = absurd r
not_again number s (line ∷ more) [] name r c d = absurd r
not_again number s (line ∷ more) (None ∷ others) name r c d = not_again (number + 1) s more others name r.1 c d
not_again number s (line ∷ more) (Some read ∷ others) name r c d =
    again_by number s read.statement (said_by others) name r.0.1 (λ x y. not_again (number + 1) (after number read.statement s) more others name r.1 x y) c d

-- ---- two readings of the same lines

line_alike : (number : ℕ) (s : ParserState) (line : List ℕ) (read : Option Read) (said : Option Statement) → LineRead s line read → HasStatement s line said → after_line number said s ≡ after_line number (statement_of read) s
line_alike number s line read said r l = both_alike number s line said (statement_of read) l (line_says s line read r)

reads_say : (number : ℕ) (s : ParserState) (ls : List (List ℕ)) (reads : List (Option Read)) → AreRead number s ls reads → HaveStatements number s ls (said_by reads)
reads_say number s [] [] r = tt
reads_say number s [] (read ∷ others) r = absurd r
reads_say number s (line ∷ more) [] r = absurd r
reads_say number s (line ∷ more) (read ∷ others) r = (line_says s line read r.0, reads_say (number + 1) (after_line number (statement_of read) s) more others r.1)

-- ---- a goal that can't be resolved

no_goal_fault : (s : ParserState) (labels : List Placed) (place : ℕ) (others : List (Option Read)) (line : List ℕ) (name : List ℕ) (words : List Word) (which : FaultNo) → HasLabelsBefore labels place s
    → IsLine words line → NamesLabel s.version name words → IsNoGoal (labels ++ ahead (place + 1) others) place name which → GoalFault s (labels_ahead (said_by others)) line which
no_goal_fault s labels place others line name words which b l n (inl u) =
    let names = λ (label : Placed). label.name in
    let split : map names (labels ++ ahead (place + 1) others) ≡ s.labels ++ labels_ahead (said_by others) =
    map-append names labels (ahead (place + 1) others) ∙ ap (λ (x : List (List ℕ)). x ++ map names (ahead (place + 1) others)) b.names ∙ ap (λ (x : List (List ℕ)). s.labels ++ x) (names_ahead (place + 1) others) in
    let none = subst (λ (x : List (List ℕ)). Contains x name → ⊥) split u.1 in
    subst (GoalFault s (labels_ahead (said_by others)) line) (sym u.0)
    (unknown name words l n (λ c. none (Contains-append_left s.labels (labels_ahead (said_by others)) name c)) (λ c. none (Contains-append_right s.labels (labels_ahead (said_by others)) name c)))
no_goal_fault s labels place others line name words which b l n (inr u) =
    subst (GoalFault s (labels_ahead (said_by others)) line) (sym u.0)
    (not_forward name words l n (elim (Contains-append_cases labels (ahead (place + 1) others) (record { name = name; place = u.1.0 }) u.1.1) [
      | inl c ↦ subst (λ (x : List (List ℕ)). Contains x name) b.names (name_in labels name u.1.0 c)
      | inr c ↦ absurd (omega (arith, u.1.2, all_of (λ (label : Placed). place + 1 ≤ label.place) (ahead (place + 1) others) (record { name = name; place = u.1.0 }) (ahead_above (place + 1) others) c))
    ]))

-- inequalities on line numbers
at_first : (at number : ℕ) → at ≡ number → at ≤ number
at_first at number e = omega arith

no_later : (at number k : ℕ) → at ≡ number → at ≤ number + suc k
no_later at number k e = omega arith

one_later : (at number k : ℕ) → at ≤ (number + 1) + k → at ≤ number + suc k
one_later at number k low = omega arith

from_here : (at number : ℕ) → at ≤ number → at ≤ number + 0
from_here at number low = omega arith

same_later : (at number k : ℕ) → at ≡ (number + 1) + k → at ≡ number + suc k
same_later at number k e = omega arith

one_on : (k : ℕ) → suc k + 1 ≡ suc (k + 1)
one_on k = omega arith

-- the line of the first goal that can't be resolved
pub record Located (number : ℕ) (s : ParserState) (ls : List (List ℕ)) (said : List (Option Statement)) (f : AsmFault) : Type 0 where
  pub index : ℕ
  pub at_is : f.line ≡ number + index
  pub line : List ℕ
  pub line_is : slice_get ls index ≡ Some line
  pub wrong : GoalFault (situation_from number s (take index said)) (labels_ahead (drop (index + 1) said)) line f.no

located_more : (number : ℕ) (s : ParserState) (line : List ℕ) (x : Option Statement) (ls : List (List ℕ)) (said : List (Option Statement)) (f : AsmFault) → Located (number + 1) (after_line number x s) ls said f → Located number s (line ∷ ls) (x ∷ said) f
located_more number s line x ls said f l =
    record {
      index = suc l.index;
      at_is = same_later f.line number l.index l.at_is;
      line = l.line;
      line_is = l.line_is;
      wrong = subst (λ (k : ℕ). GoalFault (situation_from (number + 1) (after_line number x s) (take l.index said)) (labels_ahead (drop k (x ∷ said))) l.line f.no) (sym (one_on l.index)) l.wrong;
    }

names_it : (version : Version) (i : Instr) (goal : Option (List ℕ)) (words : List Word) (name : List ℕ) → goal ≡ Some name → IsRead version (record { statement = Code i; goal = goal }) words → NamesLabel version name words
names_it version i None words name e r = absurd cc
names_it version i (Some other) words name e r = subst (λ (n : List ℕ). NamesLabel version n words) (some_is other name e) r.1.2 where
  some_is : (a b : List ℕ) → ◌≡◌ {A = Option (List ℕ)} (Some a) (Some b) → a ≡ b
  some_is a b p = cc

located_at : (number : ℕ) (s : ParserState) (labels : List Placed) (place : ℕ) (line : List ℕ) (more : List (List ℕ)) (others : List (Option Read)) (f : AsmFault) (statement : Statement) (goal : Option (List ℕ)) (words : List Word)
    → HasLabelsBefore labels place s → IsLine words line → IsRead s.version (record { statement = statement; goal = goal }) words
    → (FirstUnlinked (goals_from (number + 1) (labels_after statement place labels) (place_after statement place) others) f → Located (number + 1) (after number statement s) more (said_by others) f)
    → FirstUnlinked (goals_from number labels place (Some (record { statement = statement; goal = goal }) ∷ others)) f → Located number s (line ∷ more) (Some statement ∷ said_by others) f
located_at number s labels place line more others f (OfVersion version) goal words b l q later u = located_more number s line (Some (OfVersion version)) more (said_by others) f (later u)
located_at number s labels place line more others f (Head kind params) goal words b l q later u = located_more number s line (Some (Head kind params)) more (said_by others) f (later u)
located_at number s labels place line more others f (Registers registers) goal words b l q later u = located_more number s line (Some (Registers registers)) more (said_by others) f (later u)
located_at number s labels place line more others f (Label name) goal words b l q later u = located_more number s line (Some (Label name)) more (said_by others) f (later u)
located_at number s labels place line more others f (Code i) goal words b l q later (inr u) = located_more number s line (Some (Code i)) more (said_by others) f (later u.1)
located_at number s labels place line more others f (Code i) goal words b l q later (inl u) = record {
  index = 0;
  at_is = omega (arith, u.3);
  line = line;
  line_is = refl;
  wrong = no_goal_fault s labels place others line u.0 words f.no b l (names_it s.version i goal words u.0 u.1 q) u.2;
}

pub located : (number : ℕ) (s : ParserState) (labels : List Placed) (place : ℕ) (ls : List (List ℕ)) (reads : List (Option Read)) (f : AsmFault) → AreRead number s ls reads → HasLabelsBefore labels place s
    → FirstUnlinked (goals_from number labels place reads) f → Located number s ls (said_by reads) f
located number s labels place [] [] f r b u = absurd u
located number s labels place [] (read ∷ others) f r b u = absurd r
located number s labels place (line ∷ more) [] f r b u = absurd r
located number s labels place (line ∷ more) (None ∷ others) f r b u =
    located_more number s line None more (said_by others) f (located (number + 1) s labels place more others f r.1 (record { names = b.names; low = b.low }) u)
located number s labels place (line ∷ more) (Some read ∷ others) f r b u =
    located_at number s labels place line more others f read.statement read.goal r.0.0.0 b r.0.0.1 r.0.0.2
    (λ v. located (number + 1) (after number read.statement s) (labels_after read.statement place labels) (place_after read.statement place) more others f r.1 (labels_more number read.statement labels place s b) v) u

-- ---- goals before it have no fault

found_no_fault : (s : ParserState) (labels : List Placed) (place skip : ℕ) (number : ℕ) (more : List (List ℕ)) (others : List (Option Read)) (ahead_said : List (List ℕ)) (line : List ℕ) (name : List ℕ) (words : List Word) (which : FaultNo) → HasLabelsBefore labels place s
    → IsLine words line → NamesLabel s.version name words → IsLabelAt (labels ++ ahead (place + 1) others) name (place + 1 + skip) → ahead_said ≡ labels_ahead (said_by others)
    → (Contains s.labels name → Contains (labels_ahead (said_by others)) name → ⊥) → GoalFault s ahead_said line which → ⊥
found_no_fault s labels place skip number more others ahead_said line name words _ b l n at same once (unknown other ws k m following forward) =
    let e : name ≡ other = named_once name other words n (subst (λ (n : List Word). NamesLabel s.version other n) (line_once ws words line k l) m) in
    elim (Contains-append_cases labels (ahead (place + 1) others) (record { name = name; place = place + 1 + skip }) at) [
      | inl c ↦ following (subst (Contains s.labels) e (subst (λ (x : List (List ℕ)). Contains x name) b.names (name_in labels name (place + 1 + skip) c)))
      | inr c ↦ forward (subst (λ (x : List (List ℕ)). Contains x other) (sym same) (subst (Contains (labels_ahead (said_by others))) e (subst (λ (x : List (List ℕ)). Contains x name) (names_ahead (place + 1) others) (name_in (ahead (place + 1) others) name (place + 1 + skip) c))))
    ]
found_no_fault s labels place skip number more others ahead_said line name words _ b l n at same once (not_forward other ws k m following) =
    let e : name ≡ other = named_once name other words n (subst (λ (n : List Word). NamesLabel s.version other n) (line_once ws words line k l) m) in
    elim (Contains-append_cases labels (ahead (place + 1) others) (record { name = name; place = place + 1 + skip }) at) [
      | inl c ↦ absurd (omega (arith, all_of (λ (label : Placed). label.place ≤ place) labels (record { name = name; place = place + 1 + skip }) b.low c))
      | inr c ↦ once (subst (Contains s.labels) (sym e) following) (subst (λ (x : List (List ℕ)). Contains x name) (names_ahead (place + 1) others) (name_in (ahead (place + 1) others) name (place + 1 + skip) c))
    ]

-- the line of a fault that names a label
record AtName (version : Version) (line : List ℕ) : Type 0 where
  name : List ℕ
  words : List Word
  is_line : IsLine words line
  names : NamesLabel version name words

at_name : (s : ParserState) (said : List (List ℕ)) (line : List ℕ) (which : FaultNo) → GoalFault s said line which → AtName s.version line
at_name s said line _ (unknown name words l n following forward) = record { name = name; words = words; is_line = l; names = n }
at_name s said line _ (not_forward name words l n following) = record { name = name; words = words; is_line = l; names = n }

other_statement : (version : Version) (statement : Statement) (goal : Option (List ℕ)) (words : List Word) (line : List ℕ) → IsLine words line → IsRead version (record { statement = statement; goal = goal }) words → AtName version line
    → (i : Instr) × AreAlike statement (Code i)
other_statement version statement goal words line l q a =
    let n = subst (λ (ws : List Word). NamesLabel version a.name ws) (line_once a.words words line a.is_line l) a.names in
    (n.i, alike AnyShortName (λ skip word. word ≡ a.name) statement (Code n.i) words (read_says version (record { statement = statement; goal = goal }) words q).0 n.spells)

no_label_named : (version : Version) (i : Instr) (words : List Word) (line : List ℕ) → IsLine words line → IsRead version (record { statement = Code i; goal = None }) words → AtName version line → ⊥
no_label_named version i words line l q a = (subst (λ (ws : List Word). NamesLabel version a.name ws) (line_once a.words words line a.is_line l) a.names).names i q.1

first_here : (number : ℕ) (s : ParserState) (labels : List Placed) (place : ℕ) (line : List ℕ) (more : List (List ℕ)) (others : List (Option Read)) (ahead_said : List (List ℕ)) (f : AsmFault) (which : FaultNo) (statement : Statement) (goal : Option (List ℕ)) (words : List Word)
    → HasLabelsBefore labels place s → IsLine words line → IsRead s.version (record { statement = statement; goal = goal }) words → ahead_said ≡ labels_ahead (said_by others) → AreRead (number + 1) (after number statement s) more others
    → FirstUnlinked (goals_from number labels place (Some (record { statement = statement; goal = goal }) ∷ others)) f → GoalFault s ahead_said line which → f.line ≤ number
first_here number s labels place line more others ahead_said f which (OfVersion version) goal words b l q same a u g = absurd ((other_statement s.version (OfVersion version) goal words line l q (at_name s ahead_said line which g)).1)
first_here number s labels place line more others ahead_said f which (Head kind params) goal words b l q same a u g = absurd ((other_statement s.version (Head kind params) goal words line l q (at_name s ahead_said line which g)).1)
first_here number s labels place line more others ahead_said f which (Registers registers) goal words b l q same a u g = absurd ((other_statement s.version (Registers registers) goal words line l q (at_name s ahead_said line which g)).1)
first_here number s labels place line more others ahead_said f which (Label name) goal words b l q same a u g = absurd ((other_statement s.version (Label name) goal words line l q (at_name s ahead_said line which g)).1)
first_here number s labels place line more others ahead_said f which (Code i) None words b l q same a u g = absurd (no_label_named s.version i words line l q (at_name s ahead_said line which g))
first_here number s labels place line more others ahead_said f which (Code i) (Some name) words b l q same a (inl u) g = at_first f.line number u.3
first_here number s labels place line more others ahead_said f which (Code i) (Some name) words b l q same a (inr u) g =
    absurd (found_no_fault s labels place u.0.1.0 number more others ahead_said line name words which b l q.1.2 u.0.1.1 same (λ c d. not_again (number + 1) (after number (Code i) s) more others name a c d) g)

first_later : (number k : ℕ) (labels : List Placed) (place : ℕ) (others : List (Option Read)) (f : AsmFault) (statement : Statement) (goal : Option (List ℕ))
    → (FirstUnlinked (goals_from (number + 1) (labels_after statement place labels) (place_after statement place) others) f → f.line ≤ (number + 1) + k)
    → FirstUnlinked (goals_from number labels place (Some (record { statement = statement; goal = goal }) ∷ others)) f → f.line ≤ number + suc k
first_later number k labels place others f (OfVersion version) goal later u = one_later f.line number k (later u)
first_later number k labels place others f (Head kind params) goal later u = one_later f.line number k (later u)
first_later number k labels place others f (Registers registers) goal later u = one_later f.line number k (later u)
first_later number k labels place others f (Label name) goal later u = one_later f.line number k (later u)
first_later number k labels place others f (Code i) goal later (inl u) = no_later f.line number k u.3
first_later number k labels place others f (Code i) goal later (inr u) = one_later f.line number k (later u.1)

pub first_at : (number : ℕ) (s : ParserState) (labels : List Placed) (place : ℕ) (ls : List (List ℕ)) (reads : List (Option Read)) (said : List (Option Statement)) (f : AsmFault) (index : ℕ) (line : List ℕ) (which : FaultNo)
    → AreRead number s ls reads → HaveStatements number s ls said → HasLabelsBefore labels place s → FirstUnlinked (goals_from number labels place reads) f
    → slice_get ls index ≡ Some line → GoalFault (situation_from number s (take index said)) (labels_ahead (drop (index + 1) said)) line which → f.line ≤ number + index
first_at number s labels place [] [] said f index line which r l b u e g = absurd u
first_at number s labels place [] (read ∷ others) said f index line which r l b u e g = absurd r
first_at number s labels place (x ∷ more) [] said f index line which r l b u e g = absurd r
first_at number s labels place (x ∷ more) (read ∷ others) [] f index line which r l b u e g = absurd l
first_at number s labels place (x ∷ more) (None ∷ others) (y ∷ said) f zero line which r l b u e g =
    let a = at_name s (labels_ahead said) line which g in
    absurd (none_encoded (λ skip word. word ≡ a.name) (Code a.names.i) a.words (line_once a.words [] x (subst (IsLine a.words) (line_is_same x line e) a.is_line) r.0) a.names.spells)
first_at number s labels place (x ∷ more) (Some read ∷ others) (y ∷ said) f zero line which r l b u e g =
    let same = same_ahead (number + 1) (after number read.statement s) more said (said_by others) (subst (λ (t : ParserState). HaveStatements (number + 1) t more said) (line_alike number s x (Some read) y r.0 l.0) l.1) (reads_say (number + 1) (after number read.statement s) more others r.1) in
    from_here f.line number (first_here number s labels place x more others (labels_ahead said) f which read.statement read.goal r.0.0.0 b r.0.0.1 r.0.0.2 same r.1 u (subst (λ (z : List ℕ). GoalFault s (labels_ahead said) z which) (line_is_same x line e) g))
first_at number s labels place (x ∷ more) (None ∷ others) (y ∷ said) f (suc k) line which r l b u e g =
    let t = line_alike number s x None y r.0 l.0 in
    let g2 = subst (λ (j : ℕ). GoalFault (situation_from (number + 1) (after_line number y s) (take k said)) (labels_ahead (drop j (y ∷ said))) line which) (one_on k) g in
    one_later f.line number k (first_at (number + 1) s labels place more others said f k line which r.1 (subst (λ (z : ParserState). HaveStatements (number + 1) z more said) t l.1) (record { names = b.names; low = b.low }) u e
    (subst (λ (z : ParserState). GoalFault (situation_from (number + 1) z (take k said)) (labels_ahead (drop (k + 1) said)) line which) t g2))
first_at number s labels place (x ∷ more) (Some read ∷ others) (y ∷ said) f (suc k) line which r l b u e g =
    let t = line_alike number s x (Some read) y r.0 l.0 in
    let g2 = subst (λ (j : ℕ). GoalFault (situation_from (number + 1) (after_line number y s) (take k said)) (labels_ahead (drop j (y ∷ said))) line which) (one_on k) g in
    first_later number k labels place others f read.statement read.goal
    (λ v. first_at (number + 1) (after number read.statement s) (labels_after read.statement place labels) (place_after read.statement place) more others said f k line which r.1
    (subst (λ (z : ParserState). HaveStatements (number + 1) z more said) t l.1) (labels_more number read.statement labels place s b) v e
    (subst (λ (z : ParserState). GoalFault (situation_from (number + 1) z (take k said)) (labels_ahead (drop (k + 1) said)) line which) t g2)) u

-- ---- the whole text

pub first_goal_fault : (text : List ℕ) (version : Version) (all : List Section) (f : AsmFault) → HasSections text version all → FirstUnlinked (flat_map section_goals all) f → IsFirstGoalFault text f.no f.line
first_goal_fault text version all f h u =
    let reads = h.read.reads in
    let are = are_read 1 outset (lines text) h.read.reads h.read.are_read in
    let none : HasLabelsBefore [] 0 at_start = record { names = refl; low = tt } in
    let goals : flat_map section_goals all ≡ goals_from 1 [] 0 h.read.reads =
    ap (flat_map section_goals) h.sections_are ∙ ap all_goals h.read.progress ∙ goals_are 1 outset (lines text) h.read.reads h.read.are_read in
    let v = subst (λ (gs : List Goal). FirstUnlinked gs f) goals u in
    let x = located 1 at_start [] 0 (lines text) h.read.reads f are none v in (
      record {
        said = said_by h.read.reads;
        say = lines_say 1 outset (lines text) h.read.reads h.read.are_read;
        whole = subst IsWhole (ap situation_of h.read.progress ∙ situation_is 1 outset (lines text) h.read.reads h.read.are_read) h.whole;
        index = x.index;
        at_is = omega (arith, x.at_is);
        line = x.line;
        line_is = x.line_is;
        wrong = x.wrong;
      },
      λ other number g.
          let low : f.line ≤ 1 + g.index = first_at 1 at_start [] 0 (lines text) h.read.reads g.said f g.index g.line other are g.say none v g.line_is g.wrong in
          omega (arith, low, g.at_is),
    )
