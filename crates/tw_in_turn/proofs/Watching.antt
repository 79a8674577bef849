-- Looks while tasks run, step by step.
use Rattle.tw_in_turn.proofs.Names.{Actor, Bool, Closing, DoneView, End as Stop, Event, HistoryView, IsTurn, JobView, List, Looked, Makes, None, Option, PoolView, Some, State, TakesBack, Turn, Turns, TurnsUnless, [], all_owed, answers_in, ap, arith, closing_at, div-lt_iff_lt-mul, event_of, false, get_or, if◌then◌else◌, inl, inr, instr_after, is_last, is_stop, issued_to, length, looks, looks_at, looks_in, looks_within, more_looks, more_noes, noes, one_no, owed, refl, replicate_more, set, steps_of, subst, suc, sum_by-append, sum_by-cons, sum_by-le, sum_by-set, sum_by_push, sym, true, ℕ, ◌*◌, ◌++◌, ◌+◌, ◌/◌, ◌<◌, ◌==◌, ◌∙◌, ◌∷◌, ◌≡◌, ◌≤◌}
use Rattle.std.specs.List.{All}
use Rattle.tw_types.specs.declared.event.Event.TheVariants.{Take, Local, Call, End, Ask, Deliver, Release}
use Rattle.tw_frame.specs.Pace.{most_unseen}
use Rattle.tw_in_turn.specs.declared.rounds.End.TheVariants.{Over, NoMemory, Stopped}

-- ---- the looks of events

one_more : (es events : List Event) (e : Event) → looks_in e ≡ 1 → events ≡ es ++ e ∷ [] → looks_within events ≤ looks_within es + 1
one_more es events e one is =
    let all : looks_within events ≡ looks_within es + looks_in e = ap looks_within is ∙ sum_by_push looks_in es e in
    omega (arith, all, one)

no_more : (events : List Event) (most : ℕ) → events ≡ [] → looks_within events ≤ most
no_more events most is = let none : looks_within events ≡ 0 = ap looks_within is in omega (arith, none)

of_steps : (actor : Actor) (done : DoneView) → looks_within (steps_of actor done) ≤ owed (Some done)
of_steps actor done = by (done.steps == 0)
  where
    by : (b : Bool) → looks_within (if b then [] else Local actor done.steps ∷ []) ≤ done.steps / 65536
    by true = let none : looks_within [] ≡ 0 = refl in omega (arith, none)
    by false = let one : looks_within (Local actor done.steps ∷ []) ≡ done.steps / 65536 + 0 = sum_by-cons looks_in (Local actor done.steps) [] in omega (arith, one)

no_fewer : (es events : List Event) (most : ℕ) → looks_within es ≤ most → events ≡ es → looks_within events ≤ most
no_fewer es events most low is = let same : looks_within events ≡ looks_within es = ap looks_within is in omega (arith, same, low)

module _ (p : PoolView) (actor : Actor) (answer : Turn) (events : List Event) where
  made : (given : Option DoneView) (before : List Event) (e : Event) → Makes p actor given before e answer events → looks_within events ≤ looks_within before + 1
  made given before (Take a) (inl l) = one_more before events (Take a) refl l.4.1
  made given before (Take a) (inr l) = no_more events (looks_within before + 1) l.1.1
  made given before (Local a n) l = elim l [ ]
  made given before (Call a) (inl l) = one_more before events (Call a) refl l.4.1
  made given before (Call a) (inr l) = no_more events (looks_within before + 1) l.1.1
  made given before (End a) l = one_more before events (End a) refl l.1
  made given before (Ask engine rule parameter) (inl l) = one_more before events (Ask engine rule parameter) refl l.1
  made given before (Ask engine rule parameter) (inr l) = no_more events (looks_within before + 1) l.1.1
  made given before (Deliver server datum rule parameter) l = one_more before events (Deliver server datum rule parameter) refl l.1
  made given before (Release engine rule) (inl l) = one_more before events (Release engine rule) refl l.1
  made given before (Release engine rule) (inr l) = no_more events (looks_within before + 1) l.1.1

  taken : (done : DoneView) (short last : Bool) → TakesBack short last p actor done answer events → looks_within events ≤ owed (Some done) + 1
  taken done true last l = no_fewer (steps_of actor done) events (owed (Some done) + 1) (let low = of_steps actor done in omega (arith, low)) l.4.1
  taken done false true l = no_fewer (steps_of actor done) events (owed (Some done) + 1) (let low = of_steps actor done in omega (arith, low)) l.1
  taken done false false l =
      let few = made (Some done) (steps_of actor done) (event_of actor (instr_after p.program.program done)) l in
      let low = of_steps actor done in
      omega (arith, few, low)

  turned : (s : State) (job : Option JobView) (given : Option DoneView) → Turns p s actor job given answer events → looks_within events ≤ owed given + 1
  turned s None None (inl l) = made None [] l.0 l.3
  turned s None None (inr l) = no_more events 1 l.1.1
  turned s None (Some done) l = no_more events (owed (Some done) + 1) l.1
  turned s (Some job) None l = no_more events 1 l.1
  turned s (Some job) (Some done) (inl l) = taken done done.short (is_last p done) l.1
  turned s (Some job) (Some done) (inr l) = no_more events (owed (Some done) + 1) l.1.1

  unless : (s : State) (closing : Option Closing) (given : Option DoneView) → TurnsUnless closing p s actor given answer events → looks_within events ≤ owed given + 1
  unless s (Some closing) given l = no_more events (owed given + 1) l.1
  unless s None given l = turned s (issued_to p s actor) given l

-- the events of a step have the looks of the result that is submitted, and one before it
pub in_step : (old new : PoolView) (actor : Actor) (given : Option DoneView) (answer : Turn) → IsTurn old actor given answer new → looks_within new.history ≤ looks_within old.history + owed given + 1
in_step old new actor given answer turn =
    let same : looks_within new.history ≡ looks_within old.history + looks_within turn.events =
    ap (λ (p : PoolView). looks_within p.history) turn.appended ∙ sum_by-append looks_in old.history turn.events in
    let few = unless old actor answer turn.events turn.state (closing_at old turn.state) given turn.is in
    omega (arith, same, few)

-- ---- the looks of results

-- slow instructions have more looks
all_seen : (slow : Bool) (steps count : ℕ) → steps < most_unseen slow * (count + 1) → steps < (count + 1) * 65536
all_seen true steps count few = omega (arith, few)
all_seen false steps count few = omega (arith, few)

pub owed_by : (slow : Bool) (done : DoneView) (count : ℕ) → done.steps < most_unseen slow * (count + 1) → owed (Some done) ≤ count
owed_by slow done count few =
    let more : done.steps < (count + 1) * 65536 = all_seen slow done.steps count few in
    let less : done.steps / 65536 < count + 1 = (div-lt_iff_lt-mul {k = 65536} {x = done.steps} {y = count + 1} (omega arith)).1 more in
    omega (arith, less)

pub none_owed : (kept : List (Option DoneView)) → All (λ d. d ≡ None) kept → all_owed kept ≡ 0
none_owed kept none =
    let low : all_owed kept ≤ length kept * 0 = sum_by-le owed 0 kept (λ k d inside. let zero : owed (get_or kept k d) ≡ 0 = ap owed (none k d inside) in omega (arith, zero)) in
    omega (arith, low)

-- nothing is kept
pub kept_none : (old new : PoolView) (given kept : Option DoneView) (count : ℕ) → looks_within new.history ≤ looks_within old.history + owed given + 1 → kept ≡ None
    → looks_within new.history + owed kept ≤ looks_within old.history + owed given + count + 1
kept_none old new given kept count more none = let zero : owed kept ≡ 0 = ap owed none in omega (arith, more, zero)

-- ---- one step more

pub looks_again : (now new : PoolView) (kept : List (Option DoneView)) (index : ℕ) (mine d : Option DoneView) (inside : ℕ) → index < length kept
    → looks_within new.history + owed mine ≤ looks_within now.history + owed (get_or kept index d) + inside + 1 → looks_at new (set kept index mine) ≤ looks_at now kept + inside + 1
looks_again now new kept index mine d inside low more = let all = sum_by-set owed kept index mine d low in omega (arith, all, more)

-- without the results that are kept
pub looks_last : (now new : PoolView) (kept : List (Option DoneView)) (index : ℕ) (mine d : Option DoneView) (inside : ℕ) → index < length kept
    → looks_within new.history + owed mine ≤ looks_within now.history + owed (get_or kept index d) + inside + 1 → looks_within new.history ≤ looks_at now kept + inside + 1
looks_last now new kept index mine d inside low more = let all = looks_again now new kept index mine d inside low more in omega (arith, all)

pub without_kept : (now : PoolView) (kept : List (Option DoneView)) (had count : ℕ) → looks_at now kept ≤ had + count → looks_within now.history ≤ had + count + 1
without_kept now kept had count low = omega (arith, low)

-- ---- the last step

-- returns how many of something there are with the last step, in which a job was cut off
abbrev pub with_last : Stop → ℕ → ℕ
with_last Over count = count
with_last NoMemory count = count
with_last (Stopped cut) count = suc count

pub last_enough : (end : Stop) (all had count : ℕ) → all ≤ had + count + 1 → all ≤ had + with_last end count + 1
last_enough Over all had count low = low
last_enough NoMemory all had count low = low
last_enough (Stopped cut) all had count low = omega (arith, low)

module _ {S : Type 0} (says : S → Bool → S → Type 0) (p q r s : S) (count inside : ℕ) (before : Looked says p q (noes count)) (look : says q false r) where
  one : Looked says p r (noes (count + 1))
  one = one_no says p q r count before look

  pub more_noes_again : Looked says r s (noes inside) → Looked says p s (noes (count + 1 + inside))
  more_noes_again within = more_noes says p r s (count + 1) inside one within

  last_no : Looked says r s (noes inside) → Looked says p s (looks (count + inside) false)
  last_no within =
      let sum : count + 1 + inside ≡ count + inside + 1 = omega arith in
      subst (λ answers. Looked says p s answers) (ap noes sum ∙ sym (replicate_more (count + inside) false)) (more_noes_again within)

  -- a look before the last step, and those in it
  pub last_looks : (end : Stop) → Looked says r s (answers_in (Some end) inside) → Looked says p s (looks (with_last end (count + inside)) (is_stop end))
  last_looks Over within = last_no within
  last_looks NoMemory within = last_no within
  last_looks (Stopped cut) within =
      let sum : count + 1 + inside ≡ suc (count + inside) = omega arith in
      subst (λ n. Looked says p s (looks n true)) sum (more_looks says p r s (count + 1) inside true one within)

-- ---- all looks of a run

pub all_looks : (first p : PoolView) (kept : List (Option DoneView)) (history : HistoryView) (count : ℕ) → first.history ≡ [] → all_owed kept ≡ 0 → history.events ≡ p.history
    → looks_within p.history ≤ looks_at first kept + count + 1 → looks_within history.events ≤ count + 1
all_looks first p kept history count none nothing same enough =
    let zero : looks_within first.history ≡ 0 = ap looks_within none in
    let events : looks_within history.events ≡ looks_within p.history = ap looks_within same in
    omega (arith, zero, nothing, events, enough)
