-- The text written of an event is read back.
use Rattle.tw_report.proofs.Names.{Actor, AllByRecursion, Ask, Call, Deliver, EncodeParts, EncodesPart, End, Engine, Event, EventsAreReadBack, IsBare, IsByte, IsEvent, IsInRange, IsWord, List, Local, Name, Number, OneEvent, Parameter, Part, Release, Server, Some, Take, Worker, [], actor_part, ap, arith, event_parts, false, filter, has_bytes, is_edge, is_parting, join_with_byte, map, min-eq_left, number_in_kind, onto_first, part_text, refl, slice_split, slice_split-cons_no, subst, sym, true, words_in, ℕ, ◌++◌, ◌<◌, ◌^◌, ◌∙◌, ◌∷◌, ◌≡◌}
use Rattle.std.specs.Fmt.{decimal}
use Rattle.std.proofs.lemmas.Fmt.{decimal_is_IsNumeral}
use Rattle.tw_lexer.proofs.Once.{no_edge}
use Rattle.tw_lexer.proofs.Writing.{all_append, decimal_bare, decimal_clean}
use Rattle.tw_report.proofs.EventReading.{event_read}

-- ---- one event

some_is : (e o : Event) → Some e ≡ Some o → e ≡ o
some_is e o is = cc

pub one_event : OneEvent
one_event line event other spells also =
    some_is other event (sym (event_read other (words_in line) also.limits also.parts) ∙ event_read event (words_in line) spells.limits spells.parts)

-- ---- the words of what is written

abbrev IsWhole : List ℕ → Type 0
IsWhole text = AllByRecursion (λ b. is_parting b ≡ false) text

-- a text that is a word of its own
abbrev IsOne : List ℕ → Type 0
IsOne text = IsWhole text × (has_bytes text ≡ true)

last_piece : (text : List ℕ) → IsWhole text → slice_split is_parting text ≡ text ∷ []
last_piece [] whole = refl
last_piece (b ∷ text) whole = slice_split-cons_no is_parting b text whole.0 ∙ ap (onto_first b) (last_piece text whole.1)

first_piece : (text rest : List ℕ) → IsWhole text → slice_split is_parting (text ++ 32 ∷ rest) ≡ text ∷ slice_split is_parting rest
first_piece [] rest whole = refl
first_piece (b ∷ text) rest whole = slice_split-cons_no is_parting b (text ++ 32 ∷ rest) whole.0 ∙ ap (onto_first b) (first_piece text rest whole.1)

joined_words : (texts : List (List ℕ)) → AllByRecursion IsOne texts → words_in (join_with_byte 32 texts) ≡ texts
joined_words [] are = refl
joined_words (t ∷ []) are = ap (filter has_bytes) (last_piece t are.0.0) ∙ rw are.0.1 refl
joined_words (t ∷ u ∷ texts) are =
    ap (filter has_bytes) (first_piece t (join_with_byte 32 (u ∷ texts)) are.0.0) ∙ rw are.0.1 (ap (λ (ws : List (List ℕ)). t ∷ ws) (joined_words (u ∷ texts) are.1))

-- ---- parts

byte_word : (n : ℕ) → IsByte n → IsWord n
byte_word n h = (omega arith, omega (arith, h.1))

-- a word, or a number of 64 bits after letters
abbrev IsFine : Part → Type 0
IsFine (Name name) = IsOne name
IsFine (Number front number) = IsWhole front × IsWord number
IsFine (Parameter parameter) = IsByte parameter

no_gap : (text : List ℕ) → AllByRecursion (λ b. is_edge b ≡ false) text → IsWhole text
no_gap [] clean = tt
no_gap (b ∷ text) clean = ((no_edge b clean.0).0, no_gap text clean.1)

bare_some : (text : List ℕ) → IsBare text → has_bytes text ≡ true
bare_some [] bare = absurd bare
bare_some (b ∷ text) bare = refl

some_after : (front text : List ℕ) → has_bytes text ≡ true → has_bytes (front ++ text) ≡ true
some_after [] text some = some
some_after (b ∷ front) text some = refl

small : (n : ℕ) → IsWord n → n < 2 ^ 64
small n h = omega (arith, h.1)

part_one : (part : Part) → IsFine part → IsOne (part_text part)
part_one (Name name) fine = fine
part_one (Number front n) fine =
    (all_append (λ b. is_parting b ≡ false) front (decimal n) fine.0 (no_gap (decimal n) (decimal_clean n (small n fine.1))), some_after front (decimal n) (bare_some (decimal n) (decimal_bare n (small n fine.1))))
part_one (Parameter n) fine = let word = byte_word n fine in (no_gap (decimal n) (decimal_clean n (small n word)), bare_some (decimal n) (decimal_bare n (small n word)))

parts_one : (parts : List Part) → AllByRecursion IsFine parts → AllByRecursion IsOne (map part_text parts)
parts_one [] are = tt
parts_one (part ∷ parts) are = (part_one part are.0, parts_one parts are.1)

part_encoded : (part : Part) → IsFine part → EncodesPart part (part_text part)
part_encoded (Name name) fine = refl
part_encoded (Number front n) fine = let d = decimal_is_IsNumeral n (small n fine.1) in (decimal n, record { digits = d.0; value = d.1 }, refl)
part_encoded (Parameter n) fine = let d = decimal_is_IsNumeral n (small n (byte_word n fine)) in (n, record { digits = d.0; value = d.1 }, byte_word n fine, sym (min-eq_left fine.1))

parts_encoded : (parts : List Part) → AllByRecursion IsFine parts → EncodeParts parts (map part_text parts)
parts_encoded [] are = tt
parts_encoded (part ∷ parts) are = (part_encoded part are.0, parts_encoded parts are.1)

-- ---- events

actor_fine : (actor : Actor) → IsByte (number_in_kind actor) → IsFine (actor_part actor)
actor_fine (Engine n) may = ((refl, tt), byte_word n may)
actor_fine (Server n) may = ((refl, tt), byte_word n may)
actor_fine (Worker n) may = ((refl, tt), byte_word n may)

steps_word : (n : ℕ) → IsInRange 1 1000000000 n → IsWord n
steps_word n h = (omega arith, omega (arith, h.1))

events_fine : (event : Event) → IsEvent event → AllByRecursion IsFine (event_parts event)
events_fine (Take a) may = (((refl, (refl, (refl, (refl, tt)))), refl), (actor_fine a may, tt))
events_fine (Local a n) may = (((refl, (refl, (refl, (refl, (refl, tt))))), refl), (actor_fine a may.0, ((tt, steps_word n may.1), tt)))
events_fine (Call a) may = (((refl, (refl, (refl, (refl, tt)))), refl), (actor_fine a may, tt))
events_fine (End a) may = (((refl, (refl, (refl, tt))), refl), (actor_fine a may, tt))
events_fine (Ask e r j) may = (((refl, (refl, (refl, tt))), refl), (actor_fine (Engine e) may.0, ((tt, may.1), (may.2, tt))))
events_fine (Deliver s d r j) may =
    (((refl, (refl, (refl, (refl, (refl, (refl, (refl, tt))))))), refl), (actor_fine (Server s) may.0, ((tt, may.1), ((tt, may.2), (may.3, tt)))))
events_fine (Release e r) may = (((refl, (refl, (refl, (refl, (refl, (refl, (refl, tt))))))), refl), (actor_fine (Engine e) may.0, ((tt, may.1), tt)))

pub events_are_read_back : EventsAreReadBack
events_are_read_back event may = record {
  limits = may;
  parts = subst (EncodeParts (event_parts event)) (sym (joined_words (map part_text (event_parts event)) (parts_one (event_parts event) (events_fine event may)))) (parts_encoded (event_parts event) (events_fine event may));
}
