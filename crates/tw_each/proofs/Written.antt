-- Bytes that are read, and answers that are written.
use Rattle.tw_each.proofs.Names.{Adds, AnsweredLines, Appends, AreSomeWritten, AreWritten, Bool, Consumes, Err, IfSome, IsAtEnd, IsLine, IsShortLine, IsUnread, Keeps, List, NoMemory, None, Ok, Option, Read, Result, Some, Stops, StreamError, Way, WorstEnd, Write, [], ap, append-nil, append_assoc, arith, cases_lt, drop, get_or, inl, inr, kept, length, length-take-le, lt-ltb, most_bytes, refl, subst, sym, take_all, true, worse, ℕ, ◌++◌, ◌+◌, ◌∙◌, ◌∷◌, ◌≡◌}
use Rattle.std.specs.Prelude.{MatchBool, nat_lt}
use Rattle.std.proofs.lemmas.Bool.Decides.{when_true}
use Rattle.tw_each.specs.declared.worst.WorstEnd.TheVariants as ends
use Rattle.tw_each.proofs.LineAnswers.{answers_joined}

-- ---- known bytes

pub nothing_appended : (old : Option (List ℕ)) → Appends old old []
nothing_appended None = tt
nothing_appended (Some xs) = sym (append-nil xs)

pub appended_on : (old mid new : Option (List ℕ)) (xs ys : List ℕ) → Appends old mid xs → Appends mid new ys → Appends old new (xs ++ ys)
appended_on None mid new xs ys p q = tt
appended_on (Some o) None new xs ys p q = absurd p
appended_on (Some o) (Some m) None xs ys p q = absurd q
appended_on (Some o) (Some m) (Some n) xs ys p q = q ∙ ap (λ (l : List ℕ). l ++ ys) p ∙ append_assoc o xs ys

pub consumed_on : (from mid left : Option (List ℕ)) (xs ys : List ℕ) → Consumes from mid xs → Consumes mid left ys → Consumes from left (xs ++ ys)
consumed_on None mid left xs ys p q = tt
consumed_on (Some f) None left xs ys p q = absurd p
consumed_on (Some f) (Some m) None xs ys p q = absurd q
consumed_on (Some f) (Some m) (Some l) xs ys p q = p ∙ ap (λ (t : List ℕ). xs ++ t) q ∙ sym (append_assoc xs ys l)

pub consumed_kept : (from mid left : Option (List ℕ)) (xs : List ℕ) → Consumes from mid xs → Keeps mid left → Consumes from left xs
consumed_kept None mid left xs p q = tt
consumed_kept (Some f) None left xs p q = absurd p
consumed_kept (Some f) (Some m) None xs p q = absurd q
consumed_kept (Some f) (Some m) (Some l) xs p q = p ∙ ap (λ (t : List ℕ). xs ++ t) (sym q)

-- at the end all bytes were read
pub all_consumed : (P : List ℕ → Type 0) (from left : Option (List ℕ)) (xs : List ℕ) → Consumes from left xs → IsAtEnd left → P xs → IfSome from P
all_consumed P None left xs p e h = tt
all_consumed P (Some f) None xs p e h = absurd p
all_consumed P (Some f) (Some l) xs p e h = subst P (sym (p ∙ ap (λ (t : List ℕ). xs ++ t) e ∙ append-nil xs)) h

pub keeps_same : (known : Option (List ℕ)) → Keeps known known
keeps_same None = tt
keeps_same (Some xs) = refl

-- ---- answers that are written

pub none_written : (w : Way) (before : ℕ) (old : Option (List ℕ)) → AreWritten w before [] old old ends.Quiet
none_written w before old = ([], (refl, refl), nothing_appended old)

none_of : (w : Way) (before : ℕ) (lines : List (List ℕ)) (old : Option (List ℕ)) → AreSomeWritten w before lines old old
none_of w before lines old = ([], lines, ends.Quiet, refl, none_written w before old)

-- an error before the first write
pub stops_first : (w : Way) (before : ℕ) (lines : List (List ℕ)) (old : Option (List ℕ)) (why : StreamError) → Stops w before lines old old why
stops_first w before lines old Read = none_of w before lines old
stops_first w before lines old Write = tt
stops_first w before lines old NoMemory = none_of w before lines old

pub written_on : (w : Way) (before : ℕ) (first more : List (List ℕ)) (old mid new : Option (List ℕ)) (worst bad : WorstEnd) → AreWritten w before first old mid worst
    → AreWritten w (before + length first) more mid new bad → AreWritten w before (first ++ more) old new (worse worst bad)
written_on w before first more old mid new worst bad (text, are, added) (rest, others, also) =
    (text ++ rest, answers_joined w before first more text rest worst bad are others, appended_on old mid new text rest added also)

some_on : (w : Way) (before : ℕ) (first more : List (List ℕ)) (old mid new : Option (List ℕ)) (worst : WorstEnd) → AreWritten w before first old mid worst
    → AreSomeWritten w (before + length first) more mid new → AreSomeWritten w before (first ++ more) old new
some_on w before first more old mid new worst here (next, others, bad, same, there) =
    (first ++ next, others, worse worst bad, ap (λ (ls : List (List ℕ)). first ++ ls) same ∙ sym (append_assoc first next others), written_on w before first next old mid new worst bad here there)

-- an error after some answers
pub stops_on : (w : Way) (before : ℕ) (first more : List (List ℕ)) (old mid new : Option (List ℕ)) (worst : WorstEnd) (why : StreamError) → AreWritten w before first old mid worst
    → Stops w (before + length first) more mid new why → Stops w before (first ++ more) old new why
stops_on w before first more old mid new worst Read here there = some_on w before first more old mid new worst here there
stops_on w before first more old mid new worst Write here there = tt
stops_on w before first more old mid new worst NoMemory here there = some_on w before first more old mid new worst here there

-- an error of which the lines after those that were read are no matter
pub stops_within : (w : Way) (before : ℕ) (lines more : List (List ℕ)) (old new : Option (List ℕ)) (why : StreamError) → Stops w before lines old new why → Stops w before (lines ++ more) old new why
stops_within w before lines more old new Read (first, others, worst, same, h) = (first, others ++ more, worst, ap (λ (ls : List (List ℕ)). ls ++ more) same ∙ append_assoc first others more, h)
stops_within w before lines more old new Write h = tt
stops_within w before lines more old new NoMemory (first, others, worst, same, h) = (first, others ++ more, worst, ap (λ (ls : List (List ℕ)). ls ++ more) same ∙ append_assoc first others more, h)

-- ---- a line of which only a part is kept

pub kept_line : (w : Way) (n : ℕ) (line answer : List ℕ) (worst : WorstEnd) → IsLine w n (kept line) answer worst → IsLine w n line answer worst
kept_line w n line answer worst h = elim (cases_lt most_bytes (length line)) [
  | inr short ↦ subst (λ (l : List ℕ). IsLine w n l answer worst) (take_all (most_bytes + 1) line (omega (arith, short))) h
  | inl long ↦
      let cut : nat_lt most_bytes (length (kept line)) ≡ true = lt-ltb most_bytes (length (kept line)) (omega (arith, length-take-le (most_bytes + 1) line (omega (arith, long)))) in
      let answered = when_true (IsUnread n answer × (worst ≡ ends.Refused)) (IsShortLine w n (kept line) answer worst) cut h in
      subst (λ (b : Bool). MatchBool b (IsUnread n answer × (worst ≡ ends.Refused)) (IsShortLine w n line answer worst)) (sym (lt-ltb most_bytes (length line) long)) answered
]

kept_written : (w : Way) (before : ℕ) (line : List ℕ) (lines : List (List ℕ)) (old new : Option (List ℕ)) (worst : WorstEnd) → AreWritten w before (kept line ∷ lines) old new worst → AreWritten w before (line ∷ lines) old new worst
kept_written w before line lines old new worst (text, (first, rest, bad, others, is, are, text_is, worst_is), added) =
    (text, (first, rest, bad, others, kept_line w (before + 1) line first bad is, are, text_is, worst_is), added)

kept_some : (w : Way) (before : ℕ) (line : List ℕ) (lines : List (List ℕ)) (old new : Option (List ℕ)) → AreSomeWritten w before (kept line ∷ lines) old new → AreSomeWritten w before (line ∷ lines) old new
kept_some w before line lines old new ([], others, worst, same, h) = ([], line ∷ lines, worst, refl, h)
kept_some w before line lines old new (l ∷ first, others, worst, same, h) =
    let rest : lines ≡ first ++ others = ap (drop 1) same in
    let is : l ≡ kept line = sym (ap (λ (ls : List (List ℕ)). get_or ls 0 []) same) in
    (line ∷ first, others, worst, ap (λ (ls : List (List ℕ)). line ∷ ls) rest, kept_written w before line first old new worst (subst (λ (k : List ℕ). AreWritten w before (k ∷ first) old new worst) is h))

pub kept_stops : (w : Way) (before : ℕ) (line : List ℕ) (lines : List (List ℕ)) (old new : Option (List ℕ)) (why : StreamError) → Stops w before (kept line ∷ lines) old new why → Stops w before (line ∷ lines) old new why
kept_stops w before line lines old new Read h = kept_some w before line lines old new h
kept_stops w before line lines old new Write h = tt
kept_stops w before line lines old new NoMemory h = kept_some w before line lines old new h

pub kept_adds : (w : Way) (answered : AnsweredLines) (line : List ℕ) (lines : List (List ℕ)) (old new : Option (List ℕ)) (result : Result AnsweredLines StreamError) → Adds w answered (kept line ∷ lines) old new result
    → Adds w answered (line ∷ lines) old new result
kept_adds w answered line lines old new (Ok now) (number, (bad, is, h)) = (number, (bad, is, kept_written w answered.number line lines old new bad h))
kept_adds w answered line lines old new (Err why) h = kept_stops w answered.number line lines old new why h
