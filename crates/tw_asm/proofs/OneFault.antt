-- A text has one first fault.
use Rattle.tw_asm.proofs.AsmNames.{AnyShortName, Bare, Begins, Code, Contains, EncodesInLimits, FaultNo, First, GoalFault, HasStatement, HasWords, HaveStatements, InBody, Instr, IsEmpty, IsEndFault, IsExpected, IsFirstFault, IsFirstGoalFault, IsLine, IsLineFault, IsUnfinished, Label, LineFault, List, MayBegin, NamesLabel, Option, ParserState, Some, Stage, Statement, Version, Word, [], after_line, ap, arith, at_start, cases_lt, drop, first_word_once, inl, inr, labels_ahead, length, line_once, lines, not_forward, refl, situation, situation_from, slice_get, subst, suc, sym, take, unknown, zero, ℕ, ◌++◌, ◌+◌, ◌<◌, ◌∙◌, ◌∷◌, ◌≡◌, ◌≤◌, ◌⊎◌}
use Rattle.tw_asm.specs.declared.statement.First.TheVariants as first
use Rattle.tw_asm.specs.declared.fault.FaultNo.TheVariants as fault
use Rattle.tw_asm.proofs.Begins.{line_begins}
use Rattle.tw_asm.proofs.NamedLabels.{named_once}
use Rattle.tw_asm.proofs.Twice.{both_alike, line_is_same, others_say, says_alike}
use Rattle.tw_asm.proofs.Unspelled.{finished, has_words, line_no_fault}
use Rattle.tw_asm.proofs.Once.{one_expected}
use Rattle.tw_asm.proofs.Spelled.{bare_is}

-- ---- faults of one line

begins_once : (s : ParserState) (line : List ℕ) (p q : First) → Begins s line p → Begins s line q → p ≡ q
begins_once s line p q b c =
    let same = bare_is b.0 c.0 (first_word_once (Bare b.0) (Bare c.0) line b.1 c.1 b.2 c.2).0 in
    one_expected s.version p q c.0 (subst (IsExpected s.version p) same b.3) c.3

body_head : {Z : Type 0} → ◌≡◌ {A = First} first.Body first.Head → Z
body_head e = absurd cc

body_may : (s : ParserState) → s.stage ≡ InBody → MayBegin s.stage first.Body
body_may s body = subst (λ (stage : Stage). MayBegin stage first.Body) (sym body) (inr refl)

label_begins : (s : ParserState) (line name : List ℕ) (words : List Word) → s.stage ≡ InBody → IsLine words line → EncodesInLimits s.version (Label name) words → Begins s line first.Body
label_begins s line name words body is say = line_begins AnyShortName (Label name) words s line is say.0 (body_may s body)

code_begins : (s : ParserState) (line : List ℕ) (i : Instr) (words : List Word) → s.stage ≡ InBody → IsLine words line → EncodesInLimits s.version (Code i) words → Begins s line first.Body
code_begins s line i words body is say = line_begins AnyShortName (Code i) words s line is say.0 (body_may s body)

-- Holds if the line has the fault of this kind. The kinds are in the order in which a line is checked: no first word, no form, an empty procedure
-- before a head, a label that occurs twice, and any other limit.
abbrev IsSo : ParserState → List ℕ → ℕ → Type 0
IsSo s line zero = (expected : First) → Begins s line expected → ⊥
IsSo s line (suc zero) = HasWords s.version line → ⊥
IsSo s line (suc (suc zero)) = Begins s line first.Head × IsEmpty s
IsSo s line (suc (suc (suc zero))) = (name : List ℕ) × (words : List Word) × (s.stage ≡ InBody) × IsLine words line × EncodesInLimits s.version (Label name) words
IsSo s line (suc (suc (suc (suc k)))) = Unit {0}

-- holds if the line has no fault of the kinds before this one
abbrev NoneBefore : ParserState → List ℕ → ℕ → Type 0
NoneBefore s line zero = Unit {0}
NoneBefore s line (suc k) = NoneBefore s line k × (IsSo s line k → ⊥)

none_before : (s : ParserState) (line : List ℕ) (j k : ℕ) → j < k → NoneBefore s line k → IsSo s line j → ⊥
none_before s line j zero less none so = absurd (omega (arith, less))
none_before s line j (suc k) less none so = by (λ earlier. none_before s line j k earlier none.0 so) (cases_lt j k)
  where
    by : (j < k → ⊥) → (j < k) ⊎ (k ≤ j) → ⊥
    by none_earlier (inl earlier) = none_earlier earlier
    by none_earlier (inr later) = let same : j ≡ k = omega (arith, less) in none.1 (subst (IsSo s line) same so)

abbrev fault_of : ℕ → FaultNo
fault_of zero = fault.Word
fault_of (suc zero) = fault.Operand
fault_of (suc (suc zero)) = fault.Limit
fault_of (suc (suc (suc zero))) = fault.LabelTwice
fault_of (suc (suc (suc (suc k)))) = fault.Limit

abbrev line_of : ℕ → ParserState → ℕ → ℕ
line_of number s zero = number
line_of number s (suc zero) = number
line_of number s (suc (suc zero)) = s.head_line
line_of number s (suc (suc (suc k))) = number

-- a fault with its kind, which decides its number and its line
record HasKind (number : ℕ) (s : ParserState) (line : List ℕ) (which : FaultNo) (at : ℕ) : Type 0 where
  kind : ℕ
  which_is : which ≡ fault_of kind
  at_is : at ≡ line_of number s kind
  so : IsSo s line kind
  none : NoneBefore s line kind

limit_kind : (number : ℕ) (s : ParserState) (line : List ℕ) (p : First) → Begins s line p → HasWords s.version line → (Begins s line first.Head × IsEmpty s → ⊥) → (IsSo s line 3 → ⊥) → HasKind number s line fault.Limit number
limit_kind number s line p b has full unlabelled = record {
  kind = 4;
  which_is = refl;
  at_is = refl;
  so = tt;
  none = ((((tt, λ none. none p b), λ formless. formless has), full), unlabelled);
}

kind_of : (number : ℕ) (s : ParserState) (line : List ℕ) (a : FaultNo) (m : ℕ) → LineFault number s line a m → HasKind number s line a m
kind_of number s line _ _ (LineFault.word some none) = record { kind = 0; which_is = refl; at_is = refl; so = none; none = tt }
kind_of number s line _ _ (LineFault.operand p b formless) = record { kind = 1; which_is = refl; at_is = refl; so = formless; none = (tt, λ none. none p b) }
kind_of number s line _ _ (LineFault.empty b has e) = record {
  kind = 2;
  which_is = refl;
  at_is = refl;
  so = (b, e);
  none = ((tt, λ none. none first.Head b), λ formless. formless has);
}
kind_of number s line _ _ (LineFault.label_twice name words body is say c) =
    let b = label_begins s line name words body is say in
    record {
      kind = 3;
      which_is = refl;
      at_is = refl;
      so = (name, words, body, is, say);
      none = (((tt, λ none. none first.Body b), λ formless. formless (has_words s.version (Label name) words line is say)), λ e. body_head (begins_once s line first.Body first.Head b e.0));
    }
kind_of number s line _ _ (LineFault.limit p b has full unsaid) =
    limit_kind number s line p b has (λ e. full (begins_once s line p first.Head b e.0) e.1) (λ l. unsaid (Label l.0) l.1 l.3 l.4)
kind_of number s line _ _ (LineFault.procedures b has full many) =
    limit_kind number s line first.Head b has (λ e. full e.1) (λ l. body_head (begins_once s line first.Body first.Head (label_begins s line l.0 l.1 l.2 l.3 l.4) b))
kind_of number s line _ _ (LineFault.instructions i words body is say many) =
    let b = code_begins s line i words body is say in
    limit_kind number s line first.Body b (has_words s.version (Code i) words line is say) (λ e. body_head (begins_once s line first.Body first.Head b e.0)) (λ l. says_alike s.version (Label l.0) (Code i) l.1 words line l.3 l.4 is say)

line_faults : (number : ℕ) (s : ParserState) (line : List ℕ) (a b : FaultNo) (m n : ℕ) → LineFault number s line a m → LineFault number s line b n → (a ≡ b) × (m ≡ n)
line_faults number s line a b m n f g = by (cases_lt x.kind y.kind) (cases_lt y.kind x.kind)
  where
    x : HasKind number s line a m
    x = kind_of number s line a m f

    y : HasKind number s line b n
    y = kind_of number s line b n g

    by : (x.kind < y.kind) ⊎ (y.kind ≤ x.kind) → (y.kind < x.kind) ⊎ (x.kind ≤ y.kind) → (a ≡ b) × (m ≡ n)
    by (inl less) h = absurd (none_before s line x.kind y.kind less y.none x.so)
    by (inr past) (inl less) = absurd (none_before s line y.kind x.kind less x.none y.so)
    by (inr past) (inr most) =
        let same : x.kind ≡ y.kind = omega (arith, past, most) in
        (x.which_is ∙ ap fault_of same ∙ sym y.which_is, x.at_is ∙ ap (line_of number s) same ∙ sym y.at_is)

-- ---- two readings of the same lines

same_end : (number : ℕ) (s : ParserState) (ls : List (List ℕ)) (said also_said : List (Option Statement)) → HaveStatements number s ls said → HaveStatements number s ls also_said
    → situation_from number s said ≡ situation_from number s also_said
same_end number s [] [] [] h l = refl
same_end number s [] (x ∷ said) also_said h l = absurd h
same_end number s [] [] (y ∷ also_said) h l = absurd l
same_end number s (line ∷ more) [] also_said h l = absurd h
same_end number s (line ∷ more) (x ∷ said) [] h l = absurd l
same_end number s (line ∷ more) (x ∷ said) (y ∷ also_said) h l =
    same_end (number + 1) (after_line number x s) more said also_said h.1 (others_say number s line more x y also_said h.0 l.0 l.1)
    ∙ ap (λ (t : ParserState). situation_from (number + 1) t also_said) (both_alike number s line x y h.0 l.0)

same_at : (index number : ℕ) (s : ParserState) (ls : List (List ℕ)) (said also_said : List (Option Statement)) → HaveStatements number s ls said → HaveStatements number s ls also_said
    → situation_from number s (take index said) ≡ situation_from number s (take index also_said)
same_at zero number s ls said also_said h l = refl
same_at (suc k) number s [] [] [] h l = refl
same_at (suc k) number s [] (x ∷ said) also_said h l = absurd h
same_at (suc k) number s [] [] (y ∷ also_said) h l = absurd l
same_at (suc k) number s (line ∷ more) [] also_said h l = absurd h
same_at (suc k) number s (line ∷ more) (x ∷ said) [] h l = absurd l
same_at (suc k) number s (line ∷ more) (x ∷ said) (y ∷ also_said) h l =
    same_at k (number + 1) (after_line number x s) more said also_said h.1 (others_say number s line more x y also_said h.0 l.0 l.1)
    ∙ ap (λ (t : ParserState). situation_from (number + 1) t (take k also_said)) (both_alike number s line x y h.0 l.0)

-- ---- the first line that isn't allowed

head_line_is : (x y : List ℕ) (xs ys : List (List ℕ)) → ◌≡◌ {A = List (List ℕ)} (x ∷ xs) (y ∷ ys) → x ≡ y
head_line_is x y xs ys e = cc

more_lines_are : (x y : List ℕ) (xs ys : List (List ℕ)) → ◌≡◌ {A = List (List ℕ)} (x ∷ xs) (y ∷ ys) → xs ≡ ys
more_lines_are x y xs ys e = cc

line_fault_at : (k l : ℕ) (t u : ParserState) (line next : List ℕ) (which : FaultNo) (at : ℕ) → l ≡ k → u ≡ t → next ≡ line → LineFault l u next which at → LineFault k t line which at
line_fault_at k l t u line next which at e f g h =
    subst (λ (z : List ℕ). LineFault k t z which at) g (subst (λ (v : ParserState). LineFault k v next which at) f (subst (λ (j : ℕ). LineFault j u next which at) e h))

one_line_fault : (number : ℕ) (s : ParserState) (before after : List (List ℕ)) (line next : List ℕ) (others more : List (List ℕ)) (said also_said : List (Option Statement)) (k l : ℕ) (t u : ParserState) (a b : FaultNo) (m n : ℕ)
    → before ++ (line ∷ others) ≡ after ++ (next ∷ more) → HaveStatements number s before said → HaveStatements number s after also_said → k ≡ length before + number → l ≡ length after + number
    → situation_from number s said ≡ t → situation_from number s also_said ≡ u → LineFault k t line a m → LineFault l u next b n → (a ≡ b) × (m ≡ n) × (k ≡ l)
one_line_fault number s [] [] line next others more [] [] k l t u a b m n e h j ke le te ue f g =
    let same = line_faults k t line a b m n f (line_fault_at k l t u line next b n (omega (arith, ke, le)) (sym ue ∙ te) (sym (head_line_is line next others more e)) g) in
    (same.0, same.1, omega (arith, ke, le))
one_line_fault number s [] [] line next others more (x ∷ said) also_said k l t u a b m n e h j ke le te ue f g = absurd h
one_line_fault number s [] [] line next others more [] (y ∷ also_said) k l t u a b m n e h j ke le te ue f g = absurd j
one_line_fault number s [] (second ∷ after) line next others more [] [] k l t u a b m n e h j ke le te ue f g = absurd j
one_line_fault number s [] (second ∷ after) line next others more [] (y ∷ also_said) k l t u a b m n e h j ke le te ue f g =
    absurd (line_no_fault k s second y a m j.0 (line_fault_at k k s t second line a m refl (sym te) (head_line_is line second others (after ++ (next ∷ more)) e) f))
one_line_fault number s [] (second ∷ after) line next others more (x ∷ said) also_said k l t u a b m n e h j ke le te ue f g = absurd h
one_line_fault number s (first ∷ before) [] line next others more [] also_said k l t u a b m n e h j ke le te ue f g = absurd h
one_line_fault number s (first ∷ before) [] line next others more (x ∷ said) [] k l t u a b m n e h j ke le te ue f g =
    absurd (line_no_fault l s first x b n h.0 (line_fault_at l l s u first next b n refl (sym ue) (sym (head_line_is first next (before ++ (line ∷ others)) more e)) g))
one_line_fault number s (first ∷ before) [] line next others more (x ∷ said) (y ∷ also_said) k l t u a b m n e h j ke le te ue f g = absurd j
one_line_fault number s (first ∷ before) (second ∷ after) line next others more [] also_said k l t u a b m n e h j ke le te ue f g = absurd h
one_line_fault number s (first ∷ before) (second ∷ after) line next others more (x ∷ said) [] k l t u a b m n e h j ke le te ue f g = absurd j
one_line_fault number s (first ∷ before) (second ∷ after) line next others more (x ∷ said) (y ∷ also_said) k l t u a b m n e h j ke le te ue f g =
    let same = head_line_is first second (before ++ (line ∷ others)) (after ++ (next ∷ more)) e in
    let here : HasStatement s first y = subst (λ (z : List ℕ). HasStatement s z y) (sym same) j.0 in
    one_line_fault (number + 1) (after_line number x s) before after line next others more said also_said k l t u a b m n
    (more_lines_are first second (before ++ (line ∷ others)) (after ++ (next ∷ more)) e) h.1 (others_say number s first after x y also_said h.0 here j.1)
    (omega (arith, ke)) (omega (arith, le)) te (ap (λ (v : ParserState). situation_from (number + 1) v also_said) (both_alike number s first x y h.0 here) ∙ ue) f g

next_said : (number : ℕ) (s : ParserState) (before : List (List ℕ)) (line : List ℕ) (more : List (List ℕ)) (said also_said : List (Option Statement)) → HaveStatements number s (before ++ (line ∷ more)) said → HaveStatements number s before also_said
    → (x : Option Statement) × HasStatement (situation_from number s also_said) line x
next_said number s [] line more [] also_said h l = absurd h
next_said number s [] line more (x ∷ said) [] h l = (x, h.0)
next_said number s [] line more (x ∷ said) (y ∷ also_said) h l = absurd l
next_said number s (first ∷ before) line more [] also_said h l = absurd h
next_said number s (first ∷ before) line more (x ∷ said) [] h l = absurd l
next_said number s (first ∷ before) line more (x ∷ said) (y ∷ also_said) h l =
    let r = next_said (number + 1) (after_line number x s) before line more said also_said h.1 (others_say number s first before x y also_said h.0 l.0 l.1) in
    (r.0, subst (λ (t : ParserState). HasStatement (situation_from (number + 1) t also_said) line r.0) (both_alike number s first x y h.0 l.0) r.1)

-- no line has a fault if all lines are allowed
no_line_fault : {Z : Type 0} (text : List ℕ) (which : FaultNo) (at : ℕ) (found : Option ℕ) (said : List (Option Statement)) → HaveStatements 1 at_start (lines text) said → IsLineFault text which at found → Z
no_line_fault text which at found said h f =
    let next = next_said 1 at_start f.before f.line f.others said f.said (subst (λ (ls : List (List ℕ)). HaveStatements 1 at_start ls said) f.parts h) f.say in
    absurd (line_no_fault (length f.before + 1) (situation f.said) f.line next.0 which at next.1 f.wrong)

-- ---- the text's end

unfinished_once : (s : ParserState) (m n : ℕ) → IsUnfinished s m → IsUnfinished s n → m ≡ n
unfinished_once s m n (inl a) (inl b) = a.1 ∙ sym b.1
unfinished_once s m n (inl a) (inr b) = absurd (b.0 a.0)
unfinished_once s m n (inr a) (inl b) = absurd (a.0 b.0)
unfinished_once s m n (inr a) (inr b) = a.2 ∙ sym b.2

no_end_fault : {Z : Type 0} (text : List ℕ) (which other : FaultNo) (at number : ℕ) → IsEndFault text which at → IsFirstGoalFault text other number → Z
no_end_fault text which other at number f g =
    absurd (finished (situation g.0.said) at g.0.whole (subst (λ (t : ParserState). IsUnfinished t at) (same_end 1 at_start (lines text) f.said g.0.said f.say g.0.say) f.unfinished))

-- ---- goals

name_once : (version : Version) (line name other : List ℕ) (words others : List Word) → IsLine words line → NamesLabel version name words → IsLine others line → NamesLabel version other others → name ≡ other
name_once version line name other words others is n other_is o = named_once name other words n (subst (λ (ws : List Word). NamesLabel version other ws) (line_once others words line other_is is) o)

goal_faults : (s : ParserState) (ahead following : List (List ℕ)) (line : List ℕ) (a b : FaultNo) → GoalFault s ahead line a → GoalFault s following line b → a ≡ b
goal_faults s ahead following line _ _ (unknown name words is n before absent) (unknown other others other_is o before2 absent2) = refl
goal_faults s ahead following line _ _ (unknown name words is n before absent) (not_forward other others other_is o there) =
    absurd (before (subst (Contains s.labels) (sym (name_once s.version line name other words others is n other_is o)) there))
goal_faults s ahead following line _ _ (not_forward name words is n there) (unknown other others other_is o before absent) =
    absurd (before (subst (Contains s.labels) (name_once s.version line name other words others is n other_is o) there))
goal_faults s ahead following line _ _ (not_forward name words is n there) (not_forward other others other_is o there2) = refl

goal_fault_at : (s t : ParserState) (ahead : List (List ℕ)) (line next : List ℕ) (which : FaultNo) → s ≡ t → next ≡ line → GoalFault s ahead next which → GoalFault t ahead line which
goal_fault_at s t ahead line next which e f g = subst (λ (z : List ℕ). GoalFault t ahead z which) f (subst (λ (v : ParserState). GoalFault v ahead next which) e g)

one_goal_fault : (text : List ℕ) (a b : FaultNo) (m n : ℕ) → IsFirstGoalFault text a m → IsFirstGoalFault text b n → (a ≡ b) × (m ≡ n)
one_goal_fault text a b m n f g =
    let low : m ≤ n = f.1 b n g.0 in
    let high : n ≤ m = g.1 a m f.0 in
    let index : g.0.index ≡ f.0.index = omega (arith, low, high, f.0.at_is, g.0.at_is) in
    let there : situation_from 1 at_start (take g.0.index g.0.said) ≡ situation (take f.0.index f.0.said) =
    ap (λ (k : ℕ). situation (take k g.0.said)) index ∙ same_at f.0.index 1 at_start (lines text) g.0.said f.0.said g.0.say f.0.say in
    let line : g.0.line ≡ f.0.line = line_is_same f.0.line g.0.line (sym f.0.line_is ∙ ap (slice_get (lines text)) (sym index) ∙ g.0.line_is) in (
      goal_faults (situation (take f.0.index f.0.said)) (labels_ahead (drop (f.0.index + 1) f.0.said)) (labels_ahead (drop (g.0.index + 1) g.0.said)) f.0.line a b f.0.wrong
          (goal_fault_at (situation (take g.0.index g.0.said)) (situation (take f.0.index f.0.said)) (labels_ahead (drop (g.0.index + 1) g.0.said)) f.0.line g.0.line b there line g.0.wrong),
      omega (arith, low, high),
    )

-- ---- the first fault

pub one_first_fault : (text : List ℕ) (which other : FaultNo) (line number : ℕ) (found last : Option ℕ) → IsFirstFault text which line found → IsFirstFault text other number last → (which ≡ other) × (line ≡ number) × (found ≡ last)
one_first_fault text which other line number found last (inl f) (inl g) =
    let same = one_line_fault 1 at_start f.before g.before f.line g.line f.others g.others f.said g.said (length f.before + 1) (length g.before + 1) (situation f.said) (situation g.said) which other line number
    (sym f.parts ∙ g.parts) f.say g.say refl refl refl refl f.wrong g.wrong in
    (same.0, same.1, f.found_is ∙ ap (λ (n : ℕ). Some n) same.2 ∙ sym g.found_is)
one_first_fault text which other line number found last (inl f) (inr (e, inl g)) = no_line_fault text which line found g.said g.say f
one_first_fault text which other line number found last (inl f) (inr (e, inr g)) = no_line_fault text which line found g.0.said g.0.say f
one_first_fault text which other line number found last (inr (e, inl f)) (inl g) = no_line_fault text other number last f.said f.say g
one_first_fault text which other line number found last (inr (e, inr f)) (inl g) = no_line_fault text other number last f.0.said f.0.say g
one_first_fault text which other line number found last (inr (e, inl f)) (inr (o, inl g)) = (
  f.number ∙ sym g.number,
  unfinished_once (situation g.said) line number (subst (λ (t : ParserState). IsUnfinished t line) (same_end 1 at_start (lines text) f.said g.said f.say g.say) f.unfinished) g.unfinished,
  e ∙ sym o,
)
one_first_fault text which other line number found last (inr (e, inl f)) (inr (o, inr g)) = no_end_fault text which other line number f g
one_first_fault text which other line number found last (inr (e, inr f)) (inr (o, inl g)) = no_end_fault text other which number line g f
one_first_fault text which other line number found last (inr (e, inr f)) (inr (o, inr g)) = let same = one_goal_fault text which other line number f g in (same.0, same.1, e ∙ sym o)
