-- Lines written of events are read as these events.
use Rattle.std.proofs.Common.{◌≡◌, ◌<◌, ◌^◌, ◌==◌, ℕ, false, List, [], ◌∷◌, ◌++◌, codes, decimal, map, inl, inr, refl, sym, ap, subst, ◌∙◌, arith}
use Rattle.std.specs.Prelude.{Ok}
use Rattle.std.specs.Int.{IsInRange}
use Rattle.std.specs.List.{AllByRecursion, flat_map, onto_first}
use Rattle.std.proofs.lemmas.Fmt.{decimal_is_IsNumeral}
use Rattle.std.proofs.lemmas.List.{append_assoc}
use Rattle.std.proofs.lemmas.List.Splits.{slice_split-cons_no, slice_split-cons_yes}
use Rattle.tw_types.specs.declared.actor.Actor.{Actor}
use Rattle.tw_types.specs.declared.actor.Actor.TheVariants.{Engine, Server, Worker}
use Rattle.tw_types.specs.declared.event.Event.{Event}
use Rattle.tw_types.specs.declared.event.Event.TheVariants.{Take, Local, Call, End, Ask, Deliver, Release}
use Rattle.tw_types.specs.Actor.{number_in_kind}
use Rattle.std.proofs.lemmas.Str.Parse.{digit_at}
use Rattle.std.specs.Str.Parse.{AllDigits}
use Rattle.tw_lexer.proofs.Insides.{not_eq}
use Rattle.tw_lexer.proofs.Writing.{all_append, joined_all}
use Rattle.tw_report.specs.Events.{IsByte, IsEvent, IsWord, Name, Number, Parameter, Part, actor_part, event_line, event_parts, event_text, part_text}
use Rattle.tw_report.specs.History.{HasNoLineFeed, IsTraceOf, lines_in}
use Rattle.tw_report.proofs.Written.{events_are_read_back}
use Rattle.tw_round_trip.specs.Traces.{trace_lines}

-- ---- no line feed is in an event

digit_stays : (b : ℕ) → IsInRange 48 57 b → (b == 10) ≡ false
digit_stays b h = not_eq b 10 (λ e. omega (arith, h.0, e))

digits_stay : (ds : List ℕ) → AllDigits 10 ds → HasNoLineFeed ds
digits_stay [] are = tt
digits_stay (d ∷ ds) are = (digit_stays d (digit_at (d ∷ ds) 0 are (omega arith)), digits_stay ds are.1)

number_stays : (n : ℕ) → n < 2 ^ 64 → HasNoLineFeed (decimal n)
number_stays n h = digits_stay (decimal n) (decimal_is_IsNumeral n h).0.1

-- the name of an event or the letter of an actor stays on its line, and so does a number
abbrev Stays : Part → Type 0
Stays (Name name) = HasNoLineFeed name
Stays (Number front number) = HasNoLineFeed front × (number < 2 ^ 64)
Stays (Parameter parameter) = parameter < 2 ^ 64

part_stays : (part : Part) → Stays part → HasNoLineFeed (part_text part)
part_stays (Name name) h = h
part_stays (Number front number) h = all_append (λ b. (b == 10) ≡ false) front (decimal number) h.0 (number_stays number h.1)
part_stays (Parameter parameter) h = number_stays parameter h

parts_stay : (parts : List Part) → AllByRecursion Stays parts → AllByRecursion HasNoLineFeed (map part_text parts)
parts_stay [] are = tt
parts_stay (part ∷ parts) are = (part_stays part are.0, parts_stay parts are.1)

byte_short : (n : ℕ) → IsByte n → n < 2 ^ 64
byte_short n h = omega (arith, h.1)

word_short : (n : ℕ) → IsWord n → n < 2 ^ 64
word_short n h = omega (arith, h.1)

actor_stays : (actor : Actor) → IsByte (number_in_kind actor) → Stays (actor_part actor)
actor_stays (Engine n) h = ((refl, tt), byte_short n h)
actor_stays (Server n) h = ((refl, tt), byte_short n h)
actor_stays (Worker n) h = ((refl, tt), byte_short n h)

event_stays : (event : Event) → IsEvent event → AllByRecursion Stays (event_parts event)
event_stays (Take a) h = ((refl, (refl, (refl, (refl, tt)))), (actor_stays a h, tt))
event_stays (Local a n) h = ((refl, (refl, (refl, (refl, (refl, tt))))), (actor_stays a h.0, ((tt, omega (arith, h.1.1)), tt)))
event_stays (Call a) h = ((refl, (refl, (refl, (refl, tt)))), (actor_stays a h, tt))
event_stays (End a) h = ((refl, (refl, (refl, tt))), (actor_stays a h, tt))
event_stays (Ask e r j) h = ((refl, (refl, (refl, tt))), (actor_stays (Engine e) h.0, ((tt, word_short r h.1), (byte_short j h.2, tt))))
event_stays (Deliver s d r j) h =
    ((refl, (refl, (refl, (refl, (refl, (refl, (refl, tt))))))), (actor_stays (Server s) h.0, ((tt, word_short d h.1), ((tt, word_short r h.2), (byte_short j h.3, tt)))))
event_stays (Release e r) h = ((refl, (refl, (refl, (refl, (refl, (refl, (refl, tt))))))), (actor_stays (Engine e) h.0, ((tt, word_short r h.1), tt)))

-- ---- lines

one_line : (text rest : List ℕ) → HasNoLineFeed text → lines_in (text ++ 10 ∷ rest) ≡ text ∷ lines_in rest
one_line [] rest whole = slice_split-cons_yes (λ b. b == 10) 10 rest refl
one_line (b ∷ text) rest whole = slice_split-cons_no (λ b. b == 10) b (text ++ 10 ∷ rest) whole.0 ∙ ap (onto_first b) (one_line text rest whole.1)

first_line : (event : Event) (events : List Event) (rest : List ℕ) → IsEvent event → trace_lines (event ∷ events) rest ≡ event_text event ∷ trace_lines events rest
first_line event events rest h =
    ap lines_in (append_assoc (event_line event) (flat_map event_line events) _ ∙ append_assoc (event_text event) (codes "\n") _)
    ∙ one_line (event_text event) _ (joined_all (λ b. (b == 10) ≡ false) (map part_text (event_parts event)) refl (parts_stay (event_parts event) (event_stays event h)))

pub trace_read : (events : List Event) (rest : List ℕ) → AllByRecursion IsEvent events → IsTraceOf (trace_lines events rest) (Ok events)
trace_read [] rest are = subst (λ lines. IsTraceOf lines (Ok [])) (sym (one_line (codes "end") rest (refl, (refl, (refl, tt))))) (inr (inl (refl, refl)))
trace_read (event ∷ events) rest are =
    subst (λ lines. IsTraceOf lines (Ok (event ∷ events))) (sym (first_line event events rest are.0))
    (inr (inr (inl (event, events_are_read_back event are.0, (Ok events, trace_read events rest are.1, refl)))))
