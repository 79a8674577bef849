-- Parsing of events from left to right.
use Rattle.std.specs.Prelude.{ℕ, ◌==◌, min, if◌then◌else◌, List, [], ◌∷◌, codes, Option, Some, None}
use Rattle.std.specs.Option.{option_and_then, option_map, option_or}
use Rattle.std.specs.Str.{bytes_eq}
use Rattle.std.specs.Str.Parse.{digits_value}
use Rattle.tw_types.specs.declared.actor.Actor.{Actor}
use Rattle.tw_types.specs.declared.actor.Actor.TheVariants.{Engine, Server, Worker}
use Rattle.tw_types.specs.declared.event.Event.{Event}
use Rattle.tw_types.specs.declared.event.Event.TheVariants.{Take, Local, Call, End, Ask, Deliver, Release}
use Rattle.tw_lexer.specs.Digits.{are_digits, is_within}

-- ---- one word

-- returns the number between these limits
unfoldable pub number_in : ℕ → ℕ → List ℕ → Option ℕ
number_in low high text = if are_digits text then (if is_within low high (digits_value 10 text) then Some (digits_value 10 text) else None) else None

-- returns the number of one byte after a letter
unfoldable pub number_after : ℕ → List ℕ → Option ℕ
number_after letter [] = None
number_after letter (b ∷ rest) = if b == letter then number_in 0 255 rest else None

unfoldable pub actor_in : List ℕ → Option Actor
actor_in word = option_or (option_map Engine (number_after 101 word)) (option_or (option_map Server (number_after 115 word)) (option_map Worker (number_after 119 word)))

-- ---- the words

-- parses the first word, and returns the words after it
abbrev pub first : {A : Type 0} → (List ℕ → Option A) → List (List ℕ) → Option (A × List (List ℕ))
first read [] = None
first read (word ∷ words) = option_map (λ a. (a, words)) (read word)

-- returns the event, if no word is left
abbrev pub alone : Event → List (List ℕ) → Option Event
alone event [] = Some event
alone event (word ∷ words) = None

abbrev pub words_64 : List ℕ → Option ℕ
words_64 = number_in 0 0xFFFFFFFFFFFFFFFF

-- returns the number of a parameter, or 255 if it is greater
unfoldable pub parameter_in : List ℕ → Option ℕ
parameter_in word = option_map (λ number. min number 255) (words_64 word)

abbrev pub for_actor : (Actor → Event) → List (List ℕ) → Option Event
for_actor make words = option_and_then (λ a. alone (make a.0) a.1) (first actor_in words)

abbrev pub local_in : List (List ℕ) → Option Event
local_in words = option_and_then (λ a. option_and_then (λ n. alone (Local a.0 n.0) n.1) (first (number_in 1 1000000000) a.1)) (first actor_in words)

abbrev pub ask_in : List (List ℕ) → Option Event
ask_in words =
    option_and_then (λ e. option_and_then (λ r. option_and_then (λ j. alone (Ask e.0 r.0 j.0) j.1) (first parameter_in r.1)) (first words_64 e.1)) (first (number_after 101) words)

abbrev pub deliver_in : List (List ℕ) → Option Event
deliver_in words =
    option_and_then (λ s. option_and_then (λ d. option_and_then (λ r. option_and_then (λ j. alone (Deliver s.0 d.0 r.0 j.0) j.1) (first parameter_in r.1)) (first words_64 d.1)) (first words_64 s.1))
    (first (number_after 115) words)

abbrev pub release_in : List (List ℕ) → Option Event
release_in words = option_and_then (λ e. option_and_then (λ r. alone (Release e.0 r.0) r.1) (first words_64 e.1)) (first (number_after 101) words)

-- parses the words after a name
unfoldable pub named : List ℕ → List (List ℕ) → Option Event
named name words =
    if bytes_eq name (codes "take") then for_actor Take words else
    if bytes_eq name (codes "local") then local_in words else
    if bytes_eq name (codes "call") then for_actor Call words else
    if bytes_eq name (codes "end") then for_actor End words else
    if bytes_eq name (codes "ask") then ask_in words else
    if bytes_eq name (codes "deliver") then deliver_in words else
    if bytes_eq name (codes "release") then release_in words else
    None

abbrev pub event_in : List (List ℕ) → Option Event
event_in [] = None
event_in (name ∷ words) = named name words
