-- Details after replies about programs that were read from a text.
use Rattle.std.proofs.Common.{◌≡◌, ◌≢◌, ◌==◌, ◌||◌, ◌++◌, ◌∙◌, ◌∷◌, ℕ, List, [], Option, Some, None, refl, sym, ap, inl, inr, subst}
use Rattle.std.proofs.lemmas.List.Elements.{All-nil, All-cons}
use Rattle.std.proofs.lemmas.List.Folds.{list_all-append}
use Rattle.std.proofs.lemmas.Str.{encodes-append}
use Rattle.std.proofs.Math.Utf8.{encode}
use Rattle.std.specs.List.{All, list_any}
use Rattle.tw_replay_output.proofs.ReplayNames.{AreAnswerDetails, AreStateDetails, Event, Input, AreEndingDetails, IsAnswer, IsAnswerFrom, IsDetailed, IsReplayFrom, IsReplayOf, MayBeSource, NotEnabled, Outcome, PlainView, Position, Procedure, Spoken as Reply, Start, State, PrintsCircle, Trap, Went, append-nil, coded, failed, failed_with, open_error_code, reached_from, reply, run, text_of}
use Rattle.tw_types.specs.declared.ending.Ending.{Ending}
use Rattle.tw_types.specs.declared.ending.Ending.TheVariants.{Stuck}
use Rattle.tw_code.specs.machine.Ending.{ending}
use Rattle.tw_code.specs.machine.Pending.{circle}
use Rattle.tw_order.specs.declared.runs.Answer.{Answer}
use Rattle.tw_order.specs.declared.runs.Answer.TheVariants.{Json, Numbers, Picture, Report}
use Rattle.tw_order.specs.declared.range.EventRange.{EventRange}
use Rattle.tw_machine.specs.declared.rejection.OpenError.{OpenError}
use Rattle.tw_machine.specs.declared.rejection.OpenError.TheVariants as opening
use Rattle.std.specs.Prelude.{Bool, MatchBool, codes, false, true}
use Rattle.tw_code.specs.machine.Inputs.{has_fitting_inputs, has_input_count}
use Rattle.tw_source.specs.Failure.{code_text, failure_line, position_text}
use Rattle.tw_source.specs.declared.failure.Position.TheVariants as position
use Rattle.tw_replay_output.specs.Opening.{AreOpeningDetails, IsUnfitAt, IsWrongInput}
use Rattle.tw_replay_output.specs.Replay.{ByOutcome, AreRejectionDetails, AreReportDetails, IsReason, MayExplain}
use Rattle.tw_source.specs.declared.close.Close.TheVariants as close
use Rattle.tw_source.specs.declared.source.SourceText.{SourceText}
use Rattle.tw_replay_output.specs.declared.replaying.Replaying.{Replaying}
use Rattle.tw_replay_output.proofs.Making.{from_there}
use Rattle.std.specs.Str.Lossy.{utf8_lossy}
use Rattle.tw_visible.proofs.Visibles.{nothing_is_hidden}
use Rattle.tw_visible.specs.Visible.{HidesNothing, visible_bytes}
use Rattle.tw_visible.specs.declared.characters.Kind.TheVariants.{Lines}

-- ---- a program that isn't opened

-- holds for the reply to this error, with its details
abbrev pub IsUnopened : Option (List ℕ) → List Procedure → List Input → OpenError → Reply → Type 0
IsUnopened text program inputs why r = (at : Position) × (more : List ℕ) × AreRejectionDetails text program inputs why at more × (r ≡ failed_with (coded 79 (open_error_code why) at) more)

pub main_refused : (text : Option (List ℕ)) (program : List Procedure) (inputs : List Input) (why : OpenError) (number : ℕ) (r : Reply) → why ≡ opening.MainShape → number ≡ open_error_code why
    → r ≡ failed (coded 79 number position.Nowhere) → (why ≢ opening.NoMemory) × IsUnopened text program inputs why r
main_refused text program inputs opening.MainShape number r is at h =
    let f = coded 79 (open_error_code opening.MainShape) position.Nowhere in
    ((λ e. absurd cc), (position.Nowhere, [], (refl, refl), h ∙ ap (λ (n : ℕ). failed (coded 79 n position.Nowhere)) at ∙ ap (λ (t : List ℕ). reply t (close.Refused f)) (sym (append-nil (failure_line f)))))
main_refused text program inputs opening.InputCount number r is at h = absurd cc
main_refused text program inputs opening.InputType number r is at h = absurd cc
main_refused text program inputs opening.NoMemory number r is at h = absurd cc

pub inputs_refused : (text : Option (List ℕ)) (program : List Procedure) (inputs : List Input) (why : OpenError) (number : ℕ) (r : Reply) → (why ≡ opening.MainShape → ⊥) → (why ≡ opening.NoMemory → ⊥) → number ≡ open_error_code why
    → ((at : Position) × (more : List ℕ) × AreOpeningDetails text program inputs at more × (r ≡ failed_with (coded 79 number at) more)) → (why ≢ opening.NoMemory) × IsUnopened text program inputs why r
inputs_refused text program inputs opening.MainShape number r main memory same h = absurd (main refl)
inputs_refused text program inputs opening.NoMemory number r main memory same h = absurd (memory refl)
inputs_refused text program inputs opening.InputCount number r main memory same (at, more, answered, is) = (memory, (at, more, answered, is ∙ ap (λ (n : ℕ). failed_with (coded 79 n at) more) same))
inputs_refused text program inputs opening.InputType number r main memory same (at, more, answered, is) = (memory, (at, more, answered, is ∙ ap (λ (n : ℕ). failed_with (coded 79 n at) more) same))

-- the first line doesn't say which input is wrong
said_nowhere : (program : List Procedure) (inputs : List Input) (at : Position) → IsWrongInput program inputs at → position_text at ≡ []
said_nowhere program inputs at h = by_count (has_input_count program inputs) h
  where
    by_fit : (b : Bool) → MatchBool b (at ≡ position.Nowhere) (IsUnfitAt program inputs at) → position_text at ≡ []
    by_fit true is = ap position_text is
    by_fit false h = ap position_text h.2

    by_count : (b : Bool) → MatchBool b (MatchBool (has_fitting_inputs program inputs) (at ≡ position.Nowhere) (IsUnfitAt program inputs at)) (at ≡ position.Nowhere) → position_text at ≡ []
    by_count true h = by_fit (has_fitting_inputs program inputs) h
    by_count false is = ap position_text is

pub same_first_line : (text : Option (List ℕ)) (program : List Procedure) (inputs : List Input) (number : ℕ) (at : Position) (more : List ℕ) → AreOpeningDetails text program inputs at more
    → failure_line (coded 79 number position.Nowhere) ≡ failure_line (coded 79 number at)
same_first_line None program inputs number at more (is, empty) = ap (λ (p : Position). failure_line (coded 79 number p)) (sym is)
same_first_line (Some text) program inputs number at more h =
    ap (λ (t : List ℕ). codes "refused " ++ (code_text (record { letter = 79; number = number }) ++ (t ++ codes "\n"))) (sym (said_nowhere program inputs at h.0))

-- ---- details of a replay

abbrev pub Adds : (List ℕ → Type 0) → List ℕ → List ℕ → Type 0
Adds Prints old new = (more : List ℕ) × Prints more × (new ≡ old ++ more)

pub nothing_added : (Prints : List ℕ → Type 0) (old : List ℕ) → Prints [] → Adds Prints old old
nothing_added Prints old h = ([], h, sym (append-nil old))

-- by the ending of the state
pub ended_stuck : (text : List ℕ) (start : Start) (events : List Event) (s : State) (e : Option Ending) (rules : ℕ) (old new : List ℕ) → e ≡ Some (Stuck rules) → Adds (PrintsCircle text start events (circle start.program s)) old new
    → Adds (AreEndingDetails text start events s e) old new
ended_stuck text start events s e rules old new is answered = subst (λ (o : Option Ending). Adds (AreEndingDetails text start events s o) old new) (sym is) answered

-- ---- an answer and its details

-- holds for an answer that has a report
abbrev pub IsReported : Answer → Type 0
IsReported Report = Unit {0}
IsReported Numbers = Unit {0}
IsReported Json = ⊥
IsReported (Picture shown) = ⊥

-- holds for one that says why an event failed
abbrev pub IsExplained : Answer → Type 0
IsExplained Report = Unit {0}
IsExplained Numbers = Unit {0}
IsExplained Json = Unit {0}
IsExplained (Picture shown) = ⊥

abbrev pub PrintsEnding : List ℕ → Start → List Event → Outcome State → List ℕ → Type 0
PrintsEnding text start events o more = ByOutcome o (λ s. AreEndingDetails text start events s (ending s) more) (IsReason more)

in_text : (answer : Answer) (text : List ℕ) (start : Start) (events : List Event) (more : List ℕ) → IsReported answer → PrintsEnding text start events (reached_from start events) more → AreAnswerDetails (Some text) answer start events more
in_text Report text start events more is h = h
in_text Numbers text start events more is h = h
in_text Json text start events more is h = absurd is
in_text (Picture shown) text start events more is h = absurd is

-- the details of the state that was reached
details_reached : (text : Option (List ℕ)) (answer : Answer) (start : Start) (events : List Event) (s : State) (more : List ℕ) → IsReported answer → reached_from start events ≡ Went s → AreStateDetails text start events s more
    → AreAnswerDetails text answer start events more
details_reached None answer start events s more is leads h = h
details_reached (Some text) answer start events s more is leads h = in_text answer text start events more is (subst (λ (o : Outcome State). PrintsEnding text start events o more) (sym leads) h)

after_failure : (o : Outcome State) (goes : State → Type 0) (X Y : Type 0) → ByOutcome o (λ s. ⊥) X → Y → ByOutcome o goes Y
after_failure (Went s) goes X Y h is = absurd h
after_failure NotEnabled goes X Y h is = is
after_failure (Trap cause) goes X Y h is = is

pub hides_nothing : (bytes : List ℕ) → HidesNothing (visible_bytes bytes)
hides_nothing bytes = nothing_is_hidden Lines (utf8_lossy bytes)

no_feed_first : (b : ℕ) (text : List ℕ) (first : Bool) → (b == 10) ≡ first → (first || list_any (λ b. b == 10) text) ≡ false
    → (list_any (λ b. b == 10) text ≡ false → All (λ byte. byte ≢ 10) text) → All (λ byte. byte ≢ 10) (b ∷ text)
no_feed_first b text true is none others = absurd cc
no_feed_first b text false is none others = All-cons (λ byte. byte ≢ 10) b text (λ same. let wrong : (10 == 10) ≡ false = subst (λ n. (n == 10) ≡ false) same is in cc) (others none)

without_feeds : (text : List ℕ) → list_any (λ b. b == 10) text ≡ false → All (λ byte. byte ≢ 10) text
without_feeds [] none = All-nil (λ byte. byte ≢ 10)
without_feeds (b ∷ text) none = no_feed_first b text (b == 10) refl none (without_feeds text)

-- what hides nothing and has no line feed is a line, if one follows
pub is_reason : (text : List ℕ) → HidesNothing text → list_any (λ b. b == 10) text ≡ false → IsReason (text ++ codes "\n")
unfolding encode
is_reason text (cs, is, seen) none =
    let line : HidesNothing (text ++ codes "\n") = (cs ++ 10 ∷ [], ap (λ (t : List ℕ). t ++ codes "\n") is ∙ sym (encodes-append cs (10 ∷ [])), rw (list_all-append, seen) refl) in
    inr (line, (text, refl, without_feeds text none))

explained : (answer : Answer) (text : List ℕ) (start : Start) (events : List Event) (o : Outcome State) (X : Type 0) (more : List ℕ) → IsExplained answer → ByOutcome o (λ s. ⊥) X → IsReason more
    → AreReportDetails answer text start events o more
explained Report text start events o X more is h said = after_failure o (λ s. AreEndingDetails text start events s (ending s) more) X (IsReason more) h said
explained Numbers text start events o X more is h said = after_failure o (λ s. AreEndingDetails text start events s (ending s) more) X (IsReason more) h said
explained Json text start events o X more is h said = after_failure o (λ s. more ≡ []) X (IsReason more) h said
explained (Picture shown) text start events o X more is h said = absurd is

-- those of an event that failed
details_stopped : (text : Option (List ℕ)) (answer : Answer) (start : Start) (events : List Event) (o : Outcome State) (X : Type 0) (more : List ℕ) → IsExplained answer → o ≡ reached_from start events → ByOutcome o (λ s. ⊥) X → MayExplain text more
    → AreAnswerDetails text answer start events more
details_stopped None answer start events o X more is same h said = said
details_stopped (Some text) answer start events o X more is same h said = subst (λ (p : Outcome State). AreReportDetails answer text start events p more) same (explained answer text start events o X more is h said)

pub stopped_is : (o : Outcome State) (X : Type 0) → ByOutcome o (λ s. ⊥) X → X
stopped_is (Went s) X h = absurd h
stopped_is NotEnabled X h = h
stopped_is (Trap cause) X h = h

pub otherwise : (o : Outcome State) (goes : State → Type 0) (X : Type 0) → ByOutcome o (λ s. ⊥) X → ByOutcome o goes X
otherwise (Went s) goes X h = absurd h
otherwise NotEnabled goes X h = h
otherwise (Trap cause) goes X h = h

-- an answer without details
alone : (Answers : Reply → Type 0) (text : Option (List ℕ)) (answer : Answer) (start : Start) (events : List Event) (r : Reply) → Answers r → AreAnswerDetails text answer start events [] → IsDetailed Answers text answer start events r
alone Answers text answer start events r h none = (r, [], h, none, ap (λ (t : List ℕ). reply t r.close) (sym (append-nil r.text)))

json_details : (text : Option (List ℕ)) (start : Start) (events : List Event) → AreAnswerDetails text Json start events []
json_details None start events = refl
json_details (Some text) start events = by (reached_from start events)
  where
    by : (o : Outcome State) → AreReportDetails Json text start events o []
    by (Went s) = refl
    by NotEnabled = inl refl
    by (Trap cause) = inl refl

picture_details : (text : Option (List ℕ)) (shown : EventRange) (start : Start) (events : List Event) → AreAnswerDetails text (Picture shown) start events []
picture_details None shown start events = refl
picture_details (Some text) shown start events = refl

-- ---- an answer from a machine on

module _ (source : Option SourceText) (answer : Answer) (first : PlainView) (events : List Event) (r : Reply) where
  pub with_answer : (given : Answer) → given ≡ answer → IsAnswerFrom source answer first events r → IsAnswerFrom source given first events r
  with_answer given is h = subst (λ (a : Answer). IsAnswerFrom source a first events r) (sym is) h

  pub from_reached : (replaying : Replaying) (answered : Reply) → IsReported answer → IsReplayFrom first events replaying → IsAnswer answer first events answered
      → ((start : Start) (done : List Event) → MayBeSource source start.program → IsReplayOf start done replaying
      → (more : List ℕ) × AreStateDetails (text_of source) start done replaying.plain.state more × (r ≡ reply (answered.text ++ more) answered.close)) → IsAnswerFrom source answer first events r
  from_reached replaying answered reported from is added = λ start opened may.
      let replay = from.replay start opened in
      let (more, are, whole) = added start events may replay in
      (answered, more, is, details_reached (text_of source) answer start events replaying.plain.state more reported replay.leads are, whole)

  pub from_stopped : (X : Type 0) (answered : Reply) → IsExplained answer → IsAnswer answer first events answered → ByOutcome (run first.program first.layout events first.state) (λ s. ⊥) X
      → ((more : List ℕ) × MayExplain (text_of source) more × (r ≡ reply (answered.text ++ more) answered.close)) → IsAnswerFrom source answer first events r
  from_stopped X answered reported is stopped (more, said, whole) = λ start opened may.
      (answered, more, is, details_stopped (text_of source) answer start events (run first.program first.layout events first.state) X more reported (from_there start first events opened) stopped said, whole)

pub json_from : (source : Option SourceText) (first : PlainView) (events : List Event) (r : Reply) → IsAnswer Json first events r → IsAnswerFrom source Json first events r
json_from source first events r is = λ start opened may. alone (λ (a : Reply). IsAnswer Json first events a) (text_of source) Json start events r is (json_details (text_of source) start events)

pub picture_from : (source : Option SourceText) (shown : EventRange) (first : PlainView) (events : List Event) (r : Reply) → IsAnswer (Picture shown) first events r → IsAnswerFrom source (Picture shown) first events r
picture_from source shown first events r is = λ start opened may.
    alone (λ (a : Reply). IsAnswer (Picture shown) first events a) (text_of source) (Picture shown) start events r is (picture_details (text_of source) shown start events)
