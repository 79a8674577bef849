-- Rounds: each actor makes a step by its index, and some event is due while the run isn't over.
use Rattle.tw_in_turn.proofs.Names.{Actor, ActorCounts, AreIdle, AreKept, Bool, Continues, DoneView, Ending, Engine, Frame, Idle, IsAfter, IsDueFor, IsDueFree, IsGrown, IsIdle, IsLayout, IsMove, IsReachedAfter, Keeps, List, MayTurn, None, Option, PoolView, Server, Some, State, Turn, Worker, actor_after, actor_at, actor_count, add-one, ap, arith, cases_eq, cases_lt, closing_of, ending, false, get, get_or, get_or-set_other, get_or-set_same, if◌then◌else◌, index_of, inl, inr, is_in, is_quiet, length, length-set, ltb-true, refl, same_went, set, subst, suc, suc-mul, sym, true, zero, ℕ, ◌*◌, ◌+◌, ◌-◌, ◌<◌, ◌==◌, ◌∙◌, ◌≡◌, ◌≢◌, ◌≤◌, ◌⊎◌}
use Rattle.std.proofs.lemmas.Nat.{mod-mul-add}
use Rattle.std.specs.Option.{option_map, option_or}
use Rattle.tw_code.specs.accepting.Needs.{HasTargets}
use Rattle.tw_code.proofs.Next.{SomeDue, some_due}
use Rattle.tw_pool.specs.declared.answer.Closing.TheVariants.{Limit, Stopped}
use Rattle.tw_pool.proofs.Idling.{engine_at, index_at, server_at, worker_at}
use Rattle.tw_in_turn.proofs.Moving.{idle_move}

-- ---- actors by their index

pub at_apart : (layout : ActorCounts) (m n : ℕ) → m ≢ n → actor_at layout m ≢ actor_at layout n
at_apart layout m n apart same = apart (sym (index_at layout m) ∙ (ap (index_of layout) same ∙ index_at layout n))

-- an actor of the layout is at its index
pub at_index : (layout : ActorCounts) (actor : Actor) → is_in layout actor ≡ true → (index_of layout actor < actor_count layout) × (actor_at layout (index_of layout actor) ≡ actor)
at_index layout (Engine n) there = let low = ltb-true n layout.engines there in (omega (arith, low), engine_at layout n low)
at_index layout (Server n) there = let low = ltb-true n layout.servers there in (omega (arith, low), server_at layout n low)
at_index layout (Worker n) there = let low = ltb-true n layout.workers there in (omega (arith, low), worker_at layout n)

-- ---- the results that actors keep

-- an actor's turn changes what it keeps, and no other's
pub kept_again : (old new : PoolView) (kept : List (Option DoneView)) (index : ℕ) (mine : Option DoneView) → new.layout ≡ old.layout → index < actor_count old.layout → AreKept old kept
    → Keeps new (actor_at old.layout index) mine → ((other : Actor) (its : Option DoneView) → other ≢ actor_at old.layout index → Keeps old other its → Keeps new other its) → AreKept new (set kept index mine)
kept_again old new kept index mine same low are own others = record {
  each = λ k d inside. subst (λ (l : ActorCounts). Keeps new (actor_at l k) (get_or (set kept index mine) k d)) (sym same) (by k d (subst (λ (l : ActorCounts). k < actor_count l) same inside));
  long = length-set kept index mine ∙ (are.long ∙ ap actor_count (sym same));
}
  where
    here : index < length kept
    here = subst (λ n. index < n) (sym are.long) low

    by : (k : ℕ) (d : Option DoneView) → k < actor_count old.layout → Keeps new (actor_at old.layout k) (get_or (set kept index mine) k d)
    by k d inside = elim (cases_eq k index) as (λ _. Keeps new (actor_at old.layout k) (get_or (set kept index mine) k d)) [
      | inl same_index ↦ subst (λ n. Keeps new (actor_at old.layout n) (get_or (set kept index mine) n d)) (sym same_index)
          (subst (λ o. Keeps new (actor_at old.layout index) o) (sym (get_or-set_same kept index mine d here)) own)
      | inr apart ↦ subst (λ o. Keeps new (actor_at old.layout k) o) (sym (get_or-set_other kept index k mine d apart))
          (others (actor_at old.layout k) (get_or kept k d) (at_apart old.layout k index apart) (are.each k d inside))
    ]

-- ---- a pool with more events

pub still_may : (old new : PoolView) → MayTurn old → IsGrown old new → MayTurn new
still_may old new may grown = record {
  counts = subst (λ (p : PoolView). IsLayout p.layout) (sym grown.same) may.counts;
  targets = subst (λ (p : PoolView). HasTargets p.program.program p.layout) (sym grown.same) may.targets;
  stopped = ap (λ (p : PoolView). p.stopped) grown.same ∙ may.stopped;
  within = let limit = ap (λ (p : PoolView). p.limit) grown.same in omega (arith, limit, grown.within);
}

pub grown_twice : (first between last : PoolView) → IsGrown first between → IsGrown between last → IsGrown first last
grown_twice first between last a b = record {
  same = b.same ∙ ap (λ (p : PoolView). record p { history = last.history }) a.same;
  within = let limit = ap (λ (p : PoolView). p.limit) a.same in omega (arith, limit, b.within);
}

pub not_grown : (p : PoolView) → MayTurn p → IsGrown p p
not_grown p may = record { same = refl; within = may.within }

pub layout_same : (old new : PoolView) → IsGrown old new → new.layout ≡ old.layout
layout_same old new grown = ap (λ (p : PoolView). p.layout) grown.same

-- ---- steps after steps

whose : (now : PoolView) (layout : ActorCounts) (rounds index : ℕ) → now.layout ≡ layout → index < actor_count layout → actor_at layout index ≡ actor_after now.layout (rounds * actor_count layout + index)
whose now layout rounds index is low = sym (ap (λ (l : ActorCounts). actor_after l (rounds * actor_count layout + index)) is ∙ ap (actor_at layout) (mod-mul-add rounds (actor_count layout) index low))

-- one turn more in a round
pub one_more : (first now new : PoolView) (layout : ActorCounts) (rounds index : ℕ) (answer : Turn) → now.layout ≡ layout → index < actor_count layout
    → IsAfter None first (rounds * actor_count layout + index) now → IsMove now (actor_at layout index) answer new → Continues answer → IsAfter None first (rounds * actor_count layout + (index + 1)) new
one_more first now new layout rounds index answer is low after move on = subst (λ n. IsAfter None first n new) next done
  where
    done : IsAfter None first (suc (rounds * actor_count layout + index)) new
    done = (now, actor_at layout index, answer, after, whose now layout rounds index is low, move, on)

    next : suc (rounds * actor_count layout + index) ≡ rounds * actor_count layout + (index + 1)
    next = sum (rounds * actor_count layout)
      where
        sum : (k : ℕ) → suc (k + index) ≡ k + (index + 1)
        sum k = omega arith

-- the last one
pub the_last : (first now new : PoolView) (layout : ActorCounts) (rounds index : ℕ) (answer : Turn) (Answers : Turn → Type 0) → now.layout ≡ layout → index < actor_count layout
    → IsAfter None first (rounds * actor_count layout + index) now → IsMove now (actor_at layout index) answer new → Answers answer → IsReachedAfter None first (rounds * actor_count layout + index) Answers new
the_last first now new layout rounds index answer Answers is low after move ends = (
  record {
    turns = rounds * actor_count layout + index;
    before = now;
    after = after;
    actor = actor_at layout index;
    next = whose now layout rounds index is low;
    answer = answer;
    last = move;
    is = ends;
  },
  refl,
)

-- steps of idle actors
pub passed : (first now : PoolView) (layout : ActorCounts) (rounds from index : ℕ) → now.layout ≡ layout → from ≤ index → index ≤ actor_count layout → AreIdle now from index
    → IsAfter None first (rounds * actor_count layout + from) now → IsAfter None first (rounds * actor_count layout + index) now
passed first now layout rounds from index is low within idle after =
    let all : from + (index - from) ≡ index = omega (arith, low) in
    subst (λ n. IsAfter None first (rounds * actor_count layout + n) now) all (by (index - from) (omega (arith, all)))
  where
    by : (k : ℕ) → from + k ≤ index → IsAfter None first (rounds * actor_count layout + (from + k)) now
    by zero inside = let none : from ≡ from + zero = omega arith in subst (λ n. IsAfter None first (rounds * actor_count layout + n) now) none after
    by (suc k) inside =
        let actor : actor_at now.layout (from + k) ≡ actor_at layout (from + k) = ap (λ (l : ActorCounts). actor_at l (from + k)) is in
        let move = idle_move now (actor_at layout (from + k)) (subst (IsIdle now) actor (idle (from + k) (omega arith) (omega (arith, inside)))) in
        let next : from + k + 1 ≡ from + suc k = omega arith in
        subst (λ n. IsAfter None first (rounds * actor_count layout + n) now) next (one_more first now now layout rounds (from + k) Idle is (omega (arith, inside, within)) (by k (omega (arith, inside))) move tt)

-- looks for all rounds
pub in_all : (all now had count more : ℕ) → all ≤ now + more + 1 → now ≤ had + count → all ≤ had + (count + more) + 1
in_all all now had count more low enough = omega (arith, low, enough)

-- all of a round
pub whole_round : (first new : PoolView) (rounds count index : ℕ) → index ≡ count → IsAfter None first (rounds * count + index) new → IsAfter None first ((rounds + 1) * count) new
whole_round first new rounds count index is after = subst (λ n. IsAfter None first n new) (ap (λ k. rounds * count + k) is ∙ sym (ap (λ k. k * count) (add-one rounds) ∙ suc-mul rounds count)) after

-- ---- an event in each round

-- in a round there is an event more, or these actors were idle
abbrev pub MoreOrIdle : PoolView → PoolView → ℕ → Type 0
MoreOrIdle first now index = (length first.history < length now.history) ⊎ ((now ≡ first) × ((k : ℕ) → k < index → IsIdle now (actor_at now.layout k)))

pub none_idle : (p : PoolView) → MoreOrIdle p p 0
none_idle p = inr (refl, λ k low. let no_one : ⊥ = omega (arith, low) in absurd no_one)

pub still_idle : (first now : PoolView) (from index : ℕ) → AreIdle now from index → MoreOrIdle first now from → MoreOrIdle first now index
still_idle first now from index idle (inl more) = inl more
still_idle first now from index idle (inr same) = inr (same.0, λ k low. elim (cases_lt k from) as (λ _. IsIdle now (actor_at now.layout k)) [ inl less ↦ same.1 k less | inr more ↦ idle k (omega (arith, more)) low ])

-- a turn made an event, or its actor was idle
abbrev pub OneMore : PoolView → PoolView → Actor → Type 0
OneMore now new actor = (length now.history + 1 ≤ length new.history) ⊎ ((new ≡ now) × IsIdle now actor)

pub more_again : (first now new : PoolView) (index : ℕ) → MoreOrIdle first now index → OneMore now new (actor_at now.layout index) → MoreOrIdle first new (index + 1)
more_again first now new index (inl more) (inl one) = inl (omega (arith, more, one))
more_again first now new index (inl more) (inr still) = let long = ap (λ (p : PoolView). length p.history) still.0 in inl (omega (arith, more, long))
more_again first now new index (inr same) (inl one) = let long = ap (λ (p : PoolView). length p.history) same.0 in inl (omega (arith, one, long))
more_again first now new index (inr same) (inr still) = inr (still.0 ∙ same.0, all)
  where
    by : (k : ℕ) → k < index + 1 → IsIdle now (actor_at now.layout k)
    by k low = elim (cases_eq k index) as (λ _. IsIdle now (actor_at now.layout k)) [
      | inl is ↦ subst (λ n. IsIdle now (actor_at now.layout n)) (sym is) still.1
      | inr apart ↦ same.1 k (omega (arith, low, apart))
    ]

    all : (k : ℕ) → k < index + 1 → IsIdle new (actor_at new.layout k)
    all k low = subst (λ (p : PoolView). IsIdle p (actor_at p.layout k)) (sym still.0) (by k low)

-- ---- as long as the run isn't over, not every actor is idle

open_means : (e : Option Ending) (stopped full : Bool) → option_or (option_map closing_of e) (if stopped then Some Stopped else if full then Some Limit else None) ≡ None → e ≡ None
open_means None stopped full is = refl
open_means (Some e) stopped full is = cc

busy_if : (quiet : Bool) (n : ℕ) (e : Ending) → (if quiet then Some e else None) ≡ None → quiet ≡ false
busy_if true n e is = cc
busy_if false n e is = refl

pub some_turn : (p : PoolView) → MayTurn p → ((index : ℕ) → index < actor_count p.layout → IsIdle p (actor_at p.layout index)) → ⊥
some_turn p may idle = by_frame (get first.state.frames due.actor) refl due.due
  where
    first : IsIdle p (actor_at p.layout 0)
    first = let some = may.counts.some_engine in idle 0 (omega (arith, some))

    busy : is_quiet first.state ≡ false
    busy = let none = open_means (ending first.state) p.stopped (length p.history == p.limit) first.runs_on in busy_if (is_quiet first.state) 0 _ none

    due : SomeDue p.program.program p.layout first.state
    due = some_due p.program.program p.inputs p.layout p.history may.targets first.state first.has_state may.counts busy

    its : IsIdle p due.actor
    its = let at = at_index p.layout due.actor due.there in subst (IsIdle p) at.1 (idle (index_of p.layout due.actor) at.0)

    same : its.state ≡ first.state
    same = same_went its.state first.state (sym its.has_state ∙ first.has_state)

    by_frame : (o : Option Frame) → get first.state.frames due.actor ≡ o → IsDueFor p.program.program p.layout due.actor first.state o due.event → ⊥
    by_frame (Some f) is d = let no_one : Some f ≡ None = sym is ∙ (ap (λ (s : State). get s.frames due.actor) (sym same) ∙ its.free) in cc
    by_frame None is d = its.none_due due.event (subst (λ (s : State). IsDueFree p.layout due.actor s due.event) (sym same) d)

pub round_grows : (first now : PoolView) (index : ℕ) → MayTurn now → index ≡ actor_count now.layout → MoreOrIdle first now index → length first.history < length now.history
round_grows first now index may is (inl more) = more
round_grows first now index may is (inr idle) = absurd (some_turn now may (λ k low. idle.1 k (omega (arith, is, low))))
