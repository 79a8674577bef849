-- Events in words of 64 bits: the kind in three bits, the place of the actor in five, and the event's numbers above them.
use Rattle.std.specs.Prelude.{◌≡◌, ℕ, ◌+◌, ◌*◌, ◌<◌, ◌^◌, ◌/◌, ◌%◌, ◌==◌, if◌then◌else◌, List, map}
use Rattle.tw_types.specs.declared.actor.Actor.{Actor}
use Rattle.tw_types.specs.declared.event.Event.{Event}
use Rattle.tw_types.specs.declared.event.Event.TheVariants.{Take, Local, Call, End, Ask, Deliver, Release}
use Rattle.tw_types.specs.Actor.{number_in_kind}
use Rattle.tw_code.specs.machine.History.{actor_of}
use Rattle.tw_pool.specs.Actors.{HasPlace, actor_of_place, place_of}

-- ---- events that can be encoded

-- holds if rules and data have numbers below 2^24, parameters are below 8, and steps are below 2^56
abbrev pub NumbersFit : Event → Type 0
NumbersFit (Take actor) = Unit {0}
NumbersFit (Local actor steps) = steps < 2 ^ 56
NumbersFit (Call actor) = Unit {0}
NumbersFit (End actor) = Unit {0}
NumbersFit (Ask engine rule parameter) = (rule < 2 ^ 24) × (parameter < 8)
NumbersFit (Deliver server datum rule parameter) = (datum < 2 ^ 24) × (rule < 2 ^ 24) × (parameter < 8)
NumbersFit (Release engine rule) = rule < 2 ^ 24

abbrev pub FitsWord : Event → Type 0
FitsWord event = HasPlace (actor_of event) × NumbersFit event

-- ---- encoding

abbrev pub kind_of : Event → ℕ
kind_of (Take actor) = 0
kind_of (Local actor steps) = 1
kind_of (Call actor) = 2
kind_of (End actor) = 3
kind_of (Ask engine rule parameter) = 4
kind_of (Deliver server datum rule parameter) = 5
kind_of (Release engine rule) = 6

abbrev pub numbers_of : Event → ℕ
numbers_of (Take actor) = 0
numbers_of (Local actor steps) = steps
numbers_of (Call actor) = 0
numbers_of (End actor) = 0
numbers_of (Ask engine rule parameter) = parameter + 8 * rule
numbers_of (Deliver server datum rule parameter) = parameter + 8 * (rule + 16777216 * datum)
numbers_of (Release engine rule) = rule

abbrev pub word_of : Event → ℕ
word_of event = kind_of event + 8 * (place_of (actor_of event) + 32 * numbers_of event)

-- ---- decoding

abbrev pub unpack_by : ℕ → Actor → ℕ → Event
unpack_by kind actor numbers =
    if kind == 0 then Take actor
    else (if kind == 1 then Local actor numbers
    else (if kind == 2 then Call actor
    else (if kind == 3 then End actor
    else (if kind == 4 then Ask (number_in_kind actor) (numbers / 8) (numbers % 8)
    else (if kind == 5 then Deliver (number_in_kind actor) (numbers / 8 / 16777216) (numbers / 8 % 16777216) (numbers % 8)
    else Release (number_in_kind actor) numbers)))))

unfoldable pub unpack : ℕ → Event
unpack word = unpack_by (word % 8) (actor_of_place (word / 8 % 32)) (word / 256)

-- holds if the word has the place of its event's actor
abbrev pub IsPlaced : ℕ → Type 0
IsPlaced word = HasPlace (actor_of (unpack word)) × (word / 8 % 32 ≡ place_of (actor_of (unpack word)))

abbrev pub events_in : List ℕ → List Event
events_in words = map unpack words
