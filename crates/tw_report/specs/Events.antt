-- The lines of events: which event a text is, and the line that is written of an event.
use Rattle.std.specs.Prelude.{◌≡◌, ℕ, Bool, true, false, List, [], ◌∷◌, ◌++◌, codes, decimal, map, filter, min}
use Rattle.std.specs.Int.{IsInRange}
use Rattle.std.specs.List.{join_with_byte, slice_split}
use Rattle.tw_types.specs.declared.actor.Actor.{Actor}
use Rattle.tw_types.specs.declared.actor.Actor.TheVariants.{Engine, Server, Worker}
use Rattle.tw_types.specs.declared.event.Event.{Event}
use Rattle.tw_types.specs.declared.event.Event.TheVariants.{Take, Local, Call, End, Ask, Deliver, Release}
use Rattle.tw_types.specs.Actor.{number_in_kind}
use Rattle.tw_lexer.specs.Number.{EncodesDigits}
use Rattle.tw_lexer.specs.Words.{is_parting}

-- ---- words

abbrev pub has_bytes : List ℕ → Bool
has_bytes [] = false
has_bytes (b ∷ bytes) = true

-- returns the words between spaces, tabs and carriage returns
abbrev pub words_in : List ℕ → List (List ℕ)
words_in line = filter has_bytes (slice_split is_parting line)

-- ---- the words of an event

-- one word of an event
pub data Part : Type 0 where
  Name : List ℕ → Part
  -- a number, after the letter of an actor's kind or after nothing
  Number : List ℕ → ℕ → Part
  -- the number of a parameter; 255 is also read for every greater one, since no rule has that many
  Parameter : ℕ → Part

abbrev pub actor_part : Actor → Part
actor_part (Engine number) = Number (codes "e") number
actor_part (Server number) = Number (codes "s") number
actor_part (Worker number) = Number (codes "w") number

abbrev pub event_parts : Event → List Part
event_parts (Take actor) = Name (codes "take") ∷ actor_part actor ∷ []
event_parts (Local actor n) = Name (codes "local") ∷ actor_part actor ∷ Number [] n ∷ []
event_parts (Call actor) = Name (codes "call") ∷ actor_part actor ∷ []
event_parts (End actor) = Name (codes "end") ∷ actor_part actor ∷ []
event_parts (Ask engine rule parameter) = Name (codes "ask") ∷ actor_part (Engine engine) ∷ Number [] rule ∷ Parameter parameter ∷ []
event_parts (Deliver server datum rule parameter) = Name (codes "deliver") ∷ actor_part (Server server) ∷ Number [] datum ∷ Number [] rule ∷ Parameter parameter ∷ []
event_parts (Release engine rule) = Name (codes "release") ∷ actor_part (Engine engine) ∷ Number [] rule ∷ []

-- ---- limits

abbrev pub IsByte : ℕ → Type 0
IsByte n = IsInRange 0 255 n

abbrev pub IsWord : ℕ → Type 0
IsWord n = IsInRange 0 0xFFFFFFFFFFFFFFFF n

-- holds if numbers of actors and parameters fit a byte, and others 64 bits; at least one local instruction is executed, and no more
-- than the greatest budget
abbrev pub IsEvent : Event → Type 0
IsEvent (Take actor) = IsByte (number_in_kind actor)
IsEvent (Local actor n) = IsByte (number_in_kind actor) × IsInRange 1 1000000000 n
IsEvent (Call actor) = IsByte (number_in_kind actor)
IsEvent (End actor) = IsByte (number_in_kind actor)
IsEvent (Ask engine rule parameter) = IsByte engine × IsWord rule × IsByte parameter
IsEvent (Deliver server datum rule parameter) = IsByte server × IsWord datum × IsWord rule × IsByte parameter
IsEvent (Release engine rule) = IsByte engine × IsWord rule

-- ---- which event a text is

abbrev pub EncodesPart : Part → List ℕ → Type 0
EncodesPart (Name name) word = word ≡ name
EncodesPart (Number front number) word = (digits : List ℕ) × EncodesDigits number digits × (word ≡ front ++ digits)
EncodesPart (Parameter parameter) word = (number : ℕ) × EncodesDigits number word × IsWord number × (parameter ≡ min number 255)

-- holds if each part is one word
abbrev pub EncodeParts : List Part → List (List ℕ) → Type 0
EncodeParts [] [] = Unit {0}
EncodeParts [] (word ∷ words) = ⊥
EncodeParts (part ∷ parts) [] = ⊥
EncodeParts (part ∷ parts) (word ∷ words) = EncodesPart part word × EncodeParts parts words

pub record EncodesEvent (event : Event) (line : List ℕ) : Type 0 where
  pub limits : IsEvent event
  pub parts : EncodeParts (event_parts event) (words_in line)

-- ---- written events

abbrev pub part_text : Part → List ℕ
part_text (Name name) = name
part_text (Number front number) = front ++ decimal number
part_text (Parameter parameter) = decimal parameter

-- returns the words, with one space between two
abbrev pub event_text : Event → List ℕ
event_text event = join_with_byte 32 (map part_text (event_parts event))

abbrev pub event_line : Event → List ℕ
event_line event = event_text event ++ codes "\n"

-- ---- the theorems

-- no line is two events
abbrev pub OneEvent : Type 0
OneEvent = (line : List ℕ) (event other : Event) → EncodesEvent event line → EncodesEvent other line → other ≡ event

-- the text written of an event is this event
abbrev pub EventsAreReadBack : Type 0
EventsAreReadBack = (event : Event) → IsEvent event → EncodesEvent event (event_text event)
