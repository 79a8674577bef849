-- Two runs in one thread from one opening are equal.
use Rattle.tw_in_turn.proofs.Names.{Actor, Bool, Closing, Continues, DoneView, EndsAfter, Engine, Event, FinalView, HasDone, HistoryView, Instr, IsAfter, IsClosedPool, IsDelivery, IsDrawn, IsDueFree, IsIdle, IsLeftIf, IsMove, IsNext, IsOldest, IsOver, IsReachedWith, IsWorkOf, Issues, JobView, List, Makes, None, NotEnabled, Option, PoolView, Position, Procedure, Server, Some, State, TakesBack, Turn, Turns, TurnsFree, TurnsUnless, Went as Gone, Worker, [], actor_count, actor_from, ap, cases_order, closing_at, event_of, false, inl, inr, instr_after, is_last, issued_to, local_step, local_steps, oldest_notice, place_for, refl, same_went, steps_of, subst, suc, sym, true, went_first, with_events, zero, ℕ, ◌++◌, ◌∙◌, ◌∷◌, ◌≡◌, ◌⊎◌}
use Rattle.std.proofs.lemmas.Option.{same_Some}
use Rattle.tw_types.specs.declared.event.Event.TheVariants.{Take, Local, Call, End, Ask, Deliver, Release}
use Rattle.tw_types.specs.declared.notice.Notice.{Notice}
use Rattle.tw_code.specs.machine.Pending.{pending_rules}
use Rattle.tw_frame.specs.Ready.{IsStop}
use Rattle.tw_pool.specs.declared.answer.Turn.TheVariants.{Over, Foreign, Owed, NoMemory, Run, Ended, Went, Idle}
use Rattle.tw_in_turn.specs.Same.{AreSameFinals}
use Rattle.tw_in_turn.specs.declared.rounds.End.{End as Stop}
use Rattle.tw_in_turn.specs.declared.rounds.End.TheVariants as stop
use Rattle.tw_in_turn.specs.declared.run.EndedRun.{EndedRun}

-- ---- results of jobs

no_step : (code : List Instr) (n : ℕ) (at b : Position) → IsStop code at.place → local_steps (suc n) code at ≡ Gone b → ⊥
no_step code n at b stop went =
    let none : local_steps (suc n) code at ≡ NotEnabled = rw (stop.is, stop.other) refl in
    let no_way : NotEnabled ≡ Gone b = sym none ∙ went in cc

one_stop : (code : List Instr) (m n : ℕ) (at a b : Position) → local_steps m code at ≡ Gone a → IsStop code a.place → local_steps n code at ≡ Gone b → IsStop code b.place → (m ≡ n) × (a ≡ b)
one_stop code zero zero at a b e stop f halt = (refl, sym (same_went at a e) ∙ same_went at b f)
one_stop code zero (suc n) at a b e stop f halt = absurd (no_step code n at b (subst (λ (p : Position). IsStop code p.place) (sym (same_went at a e)) stop) f)
one_stop code (suc m) zero at a b e stop f halt = absurd (no_step code m at a (subst (λ (p : Position). IsStop code p.place) (sym (same_went at b f)) halt) e)
one_stop code (suc m) (suc n) at a b e stop f halt =
    let one = went_first (local_step code at) (local_steps m code) a e in
    let two = went_first (local_step code at) (local_steps n code) b f in
    let next : two.0 ≡ one.0 = same_went two.0 one.0 (sym two.1 ∙ one.1) in
    let rest = one_stop code m n one.0 a b one.2 stop (subst (λ (p : Position). local_steps n code p ≡ Gone b) next two.2) halt in
    (ap suc rest.0, rest.1)

done_same : (job : JobView) (d e : DoneView) → IsWorkOf job false d → IsWorkOf job false e → d ≡ e
done_same job d e k l =
    let p = k.is_done in
    let q = l.is_done in
    let one : q.p ≡ p.p = same_Some q.p p.p (sym q.here ∙ p.here) in
    let same = one_stop p.p.code d.steps e.steps job.position d.after e.after p.reached.went p.stops
    (subst (λ (r : Procedure). local_steps e.steps r.code job.position ≡ Gone e.after) one q.reached.went) (subst (λ (r : Procedure). IsStop r.code e.after.place) one q.stops) in
    λ i. record { before = (k.own ∙ sym l.own) i; after = same.1 i; steps = same.0 i; short = (k.short_is ∙ sym l.short_is) i }

given_same : (job : Option JobView) (a b : Option DoneView) → HasDone job a → HasDone job b → a ≡ b
given_same None a b h k = h ∙ sym k
given_same (Some job) None b h k = absurd h
given_same (Some job) (Some d) None h k = absurd k
given_same (Some job) (Some d) (Some e) h k = ap Some (done_same job d e h k)

-- ---- two answers to one turn

-- results except a failed allocation
abbrev IsNoFailure : Turn → Type 0
IsNoFailure (Over closing) = Unit {0}
IsNoFailure (Foreign done) = Unit {0}
IsNoFailure Owed = Unit {0}
IsNoFailure (NoMemory given) = ⊥
IsNoFailure (Run job) = Unit {0}
IsNoFailure Ended = Unit {0}
IsNoFailure Went = Unit {0}
IsNoFailure Idle = Unit {0}

goes_without_failure : (answer : Turn) → Continues answer → IsNoFailure answer
goes_without_failure (Over closing) on = tt
goes_without_failure (Foreign done) on = tt
goes_without_failure Owed on = tt
goes_without_failure (NoMemory given) on = on
goes_without_failure (Run job) on = tt
goes_without_failure Ended on = tt
goes_without_failure Went on = tt
goes_without_failure Idle on = tt

-- one answer and the same events
abbrev BothSame : Turn → Turn → List Event → List Event → Type 0
BothSame a b xs ys = (a ≡ b) × (xs ≡ ys)

refused_not : (a : Turn) (given : Option DoneView) → IsNoFailure a → a ≡ NoMemory given → ⊥
refused_not a given fits_place is = subst IsNoFailure is fits_place

module _ (p : PoolView) (a b : Turn) (xs ys : List Event) (sa : IsNoFailure a) (sb : IsNoFailure b) where
  issues_same : (actor : Actor) (es : List Event) → Issues p actor es a xs → Issues p actor es b ys → BothSame a b xs ys
  issues_same actor es l m =
      let state : m.0 ≡ l.0 = same_went m.0 l.0 (sym m.1 ∙ l.1) in
      let job : l.2 ≡ m.2 = same_Some l.2 m.2 (sym l.3 ∙ (ap (λ (s : State). issued_to (with_events p es) s actor) (sym state) ∙ m.3)) in
      (l.4.0 ∙ (ap Run job ∙ sym m.4.0), l.4.1 ∙ sym m.4.1)

  makes_same : (actor : Actor) (given : Option DoneView) (es : List Event) (e : Event) → Makes p actor given es e a xs → Makes p actor given es e b ys → BothSame a b xs ys
  makes_same actor given es (Take x) (inl l) (inl m) = issues_same actor (es ++ Take x ∷ []) l m
  makes_same actor given es (Take x) (inl l) (inr m) = absurd (refused_not b given sb m.1.0)
  makes_same actor given es (Take x) (inr l) m = absurd (refused_not a given sa l.1.0)
  makes_same actor given es (Local x n) l m = elim l [ ]
  makes_same actor given es (Call x) (inl l) (inl m) = issues_same actor (es ++ Call x ∷ []) l m
  makes_same actor given es (Call x) (inl l) (inr m) = absurd (refused_not b given sb m.1.0)
  makes_same actor given es (Call x) (inr l) m = absurd (refused_not a given sa l.1.0)
  makes_same actor given es (End x) l m = (l.0 ∙ sym m.0, l.1 ∙ sym m.1)
  makes_same actor given es (Ask engine rule parameter) (inl l) (inl m) = (l.0 ∙ sym m.0, l.1 ∙ sym m.1)
  makes_same actor given es (Ask engine rule parameter) (inl l) (inr m) = absurd (refused_not b given sb m.1.0)
  makes_same actor given es (Ask engine rule parameter) (inr l) m = absurd (refused_not a given sa l.1.0)
  makes_same actor given es (Deliver server datum rule parameter) l m = (l.0 ∙ sym m.0, l.1 ∙ sym m.1)
  makes_same actor given es (Release engine rule) (inl l) (inl m) = (l.0 ∙ sym m.0, l.1 ∙ sym m.1)
  makes_same actor given es (Release engine rule) (inl l) (inr m) = absurd (refused_not b given sb m.1.0)
  makes_same actor given es (Release engine rule) (inr l) m = absurd (refused_not a given sa l.1.0)

  -- ---- due events

  -- both deliver their server's oldest notice
  oldest_same : (s : State) (server : ℕ) (e f : Event) → IsDelivery p.layout server s e → IsDelivery p.layout server s f → IsOldest p e → IsOldest p f → f ≡ e
  oldest_same s server e f de df first last =
      let one : oldest_notice p server ≡ Some de.notice = subst (IsOldest p) de.is first in
      let other : oldest_notice p server ≡ Some df.notice = subst (IsOldest p) df.is last in
      let same : df.notice ≡ de.notice = same_Some df.notice de.notice (sym other ∙ one) in
      df.is ∙ (ap (λ (n : Notice). Deliver server n.datum n.rule n.parameter) same ∙ sym de.is)

  due_same : (s : State) (actor : Actor) (e f : Event) → IsDueFree p.layout actor s e → IsDueFree p.layout actor s f → IsOldest p e → IsOldest p f → f ≡ e
  due_same s (Engine n) e f de df first last = same_Some f e (sym df ∙ de)
  due_same s (Worker n) e f de df first last = same_Some f e (sym df ∙ de)
  due_same s (Server n) e f de df first last = oldest_same s n e f de df first last

  free_same : (s : State) (actor : Actor) → TurnsFree p s actor a xs → TurnsFree p s actor b ys → BothSame a b xs ys
  free_same s actor (inl l) (inl m) = makes_same actor None [] l.0 l.3 (subst (λ x. Makes p actor None [] x b ys) (due_same s actor l.0 m.0 l.1 m.1 l.2 m.2) m.3)
  free_same s actor (inl l) (inr m) = absurd (m.0 l.0 l.1)
  free_same s actor (inr l) (inl m) = absurd (l.0 m.0 m.1)
  free_same s actor (inr l) (inr m) = (l.1.0 ∙ sym m.1.0, l.1.1 ∙ sym m.1.1)

  -- ---- all lines

  back_same : (actor : Actor) (short last : Bool) (done : DoneView) → TakesBack short last p actor done a xs → TakesBack short last p actor done b ys → BothSame a b xs ys
  back_same actor true last done l m = issues_same actor (steps_of actor done) l m
  back_same actor false true done l m = (l.0 ∙ sym m.0, l.1 ∙ sym m.1)
  back_same actor false false done l m = makes_same actor (Some done) (steps_of actor done) (event_of actor (instr_after p.program.program done)) l m

  turns_same : (s : State) (actor : Actor) (job : Option JobView) (given : Option DoneView) → Turns p s actor job given a xs → Turns p s actor job given b ys → BothSame a b xs ys
  turns_same s actor None None l m = free_same s actor l m
  turns_same s actor None (Some done) l m = (l.0 ∙ sym m.0, l.1 ∙ sym m.1)
  turns_same s actor (Some job) None l m = (l.0 ∙ sym m.0, l.1 ∙ sym m.1)
  turns_same s actor (Some job) (Some done) (inl l) (inl m) = back_same actor done.short (is_last p done) done l.1 m.1
  turns_same s actor (Some job) (Some done) (inl l) (inr m) = absurd (m.0 l.0)
  turns_same s actor (Some job) (Some done) (inr l) (inl m) = absurd (l.0 m.0)
  turns_same s actor (Some job) (Some done) (inr l) (inr m) = (l.1.0 ∙ sym m.1.0, l.1.1 ∙ sym m.1.1)

  unless_same : (s : State) (actor : Actor) (closing : Option Closing) (given : Option DoneView) → TurnsUnless closing p s actor given a xs → TurnsUnless closing p s actor given b ys → BothSame a b xs ys
  unless_same s actor (Some closing) given l m = (l.0 ∙ sym m.0, l.1 ∙ sym m.1)
  unless_same s actor None given l m = turns_same s actor (issued_to p s actor) given l m

-- ---- two moves from one pool

move_same : (old new other : PoolView) (actor : Actor) (a b : Turn) (m : IsMove old actor a new) (n : IsMove old actor b other) → IsNoFailure a → IsNoFailure b → BothSame a b m.turn.events n.turn.events
move_same old new other actor a b m n sa sb =
    let s = m.turn.state in
    let state : n.turn.state ≡ s = same_went n.turn.state s (sym n.turn.has_state ∙ m.turn.has_state) in
    let given : n.given ≡ m.given = given_same (issued_to old s actor) n.given m.given (n.has s m.turn.has_state) (m.has s m.turn.has_state) in
    let line = subst (λ (t : State). TurnsUnless (closing_at old t) old t actor n.given b n.turn.events) state n.turn.is in
    let same = subst (λ (o : Option DoneView). TurnsUnless (closing_at old s) old s actor o b n.turn.events) given line in
    unless_same old a b m.turn.events n.turn.events sa sb s actor (closing_at old s) m.given m.turn.is same

-- two moves from one pool leave the same pool
abbrev LeadsSame : Turn → Turn → PoolView → PoolView → Type 0
LeadsSame a b p q = (a ≡ b) × (p ≡ q)

leads_same : (old new other : PoolView) (actor : Actor) (a b : Turn) → IsMove old actor a new → IsMove old actor b other → IsNoFailure a → IsNoFailure b → LeadsSame a b new other
leads_same old new other actor a b m n sa sb =
    let same = move_same old new other actor a b m n sa sb in
    (same.0, m.turn.appended ∙ (ap (with_events old) same.1 ∙ sym n.turn.appended))

-- two actors that make the next step from one pool
drawn_same : (seed : ℕ) (p : PoolView) (turns : ℕ) (one other : Actor) → IsDrawn seed p turns one → IsDrawn seed p turns other → one ≡ other
drawn_same seed p turns one other c d = elim (cases_order c.skipped d.skipped) as (λ _. one ≡ other) [
  | inl same ↦ c.is ∙ (ap (actor_from p.layout (place_for seed turns (actor_count p.layout))) same ∙ sym d.is)
  | inr (inl less) ↦ absurd (c.busy (subst (IsIdle p) (sym c.is) (d.idle c.skipped less)))
  | inr (inr more) ↦ absurd (d.busy (subst (IsIdle p) (sym d.is) (c.idle d.skipped more)))
]

next_same : (seed : Option ℕ) (p : PoolView) (turns : ℕ) (one other : Actor) → IsNext seed p turns one → IsNext seed p turns other → one ≡ other
next_same None p turns one other c d = c ∙ sym d
next_same (Some seed) p turns one other c d = drawn_same seed p turns one other c d

-- two next steps from one pool leave the same pool
next_leads : (seed : Option ℕ) (p q new other : PoolView) (turns : ℕ) (u v : Actor) (a b : Turn) → p ≡ q → IsNext seed p turns u → IsNext seed q turns v
    → IsMove p u a new → IsMove q v b other → IsNoFailure a → IsNoFailure b → LeadsSame a b new other
next_leads seed p q new other turns u v a b same c d m n sa sb =
    let actor : v ≡ u = next_same seed p turns v u (subst (λ (o : PoolView). IsNext seed o turns v) (sym same) d) c in
    let move : IsMove p v b other = subst (λ (o : PoolView). IsMove o v b other) (sym same) n in
    leads_same p new other u a b m (subst (λ (x : Actor). IsMove p x b other) actor move) sa sb

after_same : (seed : Option ℕ) (first : PoolView) (turns : ℕ) (p q : PoolView) → IsAfter seed first turns p → IsAfter seed first turns q → p ≡ q
after_same seed first zero p q h k = h ∙ sym k
after_same seed first (suc turns) p q (x, u, a, h, c, m, on) (y, v, b, k, d, n, goes) =
    (next_leads seed x y p q turns u v a b (after_same seed first turns x y h k) c d m n (goes_without_failure a on) (goes_without_failure b goes)).1

-- a run continues after so many steps
record GoesBy (seed : Option ℕ) (first : PoolView) (turns : ℕ) : Type 0 where
  before : PoolView
  next : PoolView
  actor : Actor
  answer : Turn
  after : IsAfter seed first turns before
  chosen : IsNext seed before turns actor
  move : IsMove before actor answer next
  on : Continues answer

-- some steps later
abbrev later_on : ℕ → ℕ → ℕ
later_on zero turns = turns
later_on (suc later) turns = suc (later_on later turns)

goes_by : (seed : Option ℕ) (first : PoolView) (turns later : ℕ) (q : PoolView) → IsAfter seed first (suc (later_on later turns)) q → GoesBy seed first turns
goes_by seed first turns zero q (x, u, a, h, c, m, on) = record { before = x; next = q; actor = u; answer = a; after = h; chosen = c; move = m; on = on }
goes_by seed first turns (suc later) q (x, u, a, h, c, m, on) = goes_by seed first turns later x h

over_without_failure : (a : Turn) → IsOver a → IsNoFailure a
over_without_failure a over = subst IsNoFailure (sym over.1) tt

module _ (seed : Option ℕ) (first p q : PoolView) (c : IsReachedWith seed first IsOver p) (d : IsReachedWith seed first IsOver q) where
  -- as many turns
  as_many : c.turns ≡ d.turns → p ≡ q
  as_many is =
      let same = after_same seed first d.turns c.before d.before (subst (λ n. IsAfter seed first n c.before) is c.after) d.after in
      (next_leads seed c.before d.before p q d.turns c.actor d.actor c.answer d.answer same (subst (λ n. IsNext seed c.before n c.actor) is c.next) d.next c.last d.last
      (over_without_failure c.answer c.is) (over_without_failure d.answer d.is)).1

  -- not fewer turns: then one would be over, and the other not
  no_fewer : (later : ℕ) → d.turns ≡ suc (later_on later c.turns) → ⊥
  no_fewer later is =
      let g = goes_by seed first c.turns later d.before (subst (λ n. IsAfter seed first n d.before) is d.after) in
      let same = after_same seed first c.turns c.before g.before c.after g.after in
      let leads = next_leads seed c.before g.before p g.next c.turns c.actor g.actor c.answer g.answer same c.next g.chosen c.last g.move (over_without_failure c.answer c.is) (goes_without_failure g.answer g.on) in
      subst Continues (sym leads.0 ∙ c.is.1) g.on

abbrev Order : ℕ → ℕ → Type 0
Order m n = (m ≡ n) ⊎ (((k : ℕ) × (n ≡ suc (later_on k m))) ⊎ ((k : ℕ) × (m ≡ suc (later_on k n))))

later_zero : (k : ℕ) → k ≡ later_on k zero
later_zero zero = refl
later_zero (suc k) = ap suc (later_zero k)

later_suc : (k n : ℕ) → suc (later_on k n) ≡ later_on k (suc n)
later_suc zero n = refl
later_suc (suc k) n = ap suc (later_suc k n)

order_on : (m n : ℕ) → Order m n → Order (suc m) (suc n)
order_on m n (inl is) = inl (ap suc is)
order_on m n (inr (inl l)) = inr (inl (l.0, ap suc (l.1 ∙ later_suc l.0 m)))
order_on m n (inr (inr l)) = inr (inr (l.0, ap suc (l.1 ∙ later_suc l.0 n)))

order : (m n : ℕ) → Order m n
order zero zero = inl refl
order zero (suc n) = inr (inl (n, ap suc (later_zero n)))
order (suc m) zero = inr (inr (m, ap suc (later_zero m)))
order (suc m) (suc n) = order_on m n (order m n)

pub one_run : (seed : Option ℕ) (first p q : PoolView) → IsReachedWith seed first IsOver p → IsReachedWith seed first IsOver q → p ≡ q
one_run seed first p q c d = by (order c.turns d.turns)
  where
    by : Order c.turns d.turns → p ≡ q
    by (inl is) = as_many seed first p q c d is
    by (inr (inl less)) = absurd (no_fewer seed first p q c d less.0 less.1)
    by (inr (inr more)) = absurd (no_fewer seed first q p d c more.0 more.1)

-- ---- the results

same_shut : (p : PoolView) (one other : FinalView) (h k : HistoryView) → IsClosedPool p one h → IsClosedPool p other k → (h.events ≡ k.events) × AreSameFinals one other
same_shut p one other h k a b =
    let state : a.state ≡ b.state = same_went a.state b.state (sym a.has_state ∙ b.has_state) in (
      a.events ∙ sym b.events,
      record {
        store = a.left.store ∙ (ap (λ (s : State). s.store) state ∙ sym b.left.store);
        outputs = a.left.outputs ∙ (ap (λ (s : State). s.outputs) state ∙ sym b.left.outputs);
        pending = a.left.pending ∙ (ap (pending_rules p.program.program) state ∙ sym b.left.pending);
        closing = a.closing ∙ (ap (closing_at p) state ∙ sym b.closing);
      },
    )

pub same_left : (seed : Option ℕ) (first : PoolView) (may_stop : Bool) (one other : EndedRun) → one.end ≡ stop.Over → other.end ≡ stop.Over → IsLeftIf may_stop seed first one → IsLeftIf may_stop seed first other
    → (one.history.events ≡ other.history.events) × AreSameFinals one.outcome other.outcome
same_left seed first may_stop one other over ended (turns, (p, comes, a, more), may) (others, (q, goes, b, rest), must) =
    same_shut p one.outcome other.outcome one.history other.history a.shut
    (subst (λ (x : PoolView). IsClosedPool x other.outcome other.history) (one_run seed first q p (reached_by others q other.end ended goes) (reached_by turns p one.end over comes)) b.shut)
  where
    reached_by : (count : ℕ) (x : PoolView) (end : Stop) → end ≡ stop.Over → EndsAfter seed first count end x → IsReachedWith seed first IsOver x
    reached_by count x end is here = (subst (λ (e : Stop). EndsAfter seed first count e x) is here).0
