-- Whether a run is quiet, by counters: how many tasks run, how many wait, and the first entries of queues and agendas.
use Rattle.std.proofs.Common.{map as each, ◌≡◌, ◌<◌, inl, inr, ◌⊎◌, ℕ, zero, suc, slice_get, ◌==◌, Bool, true, false, not, ◌&&◌, List, [], ◌∷◌, Option, Some, None, refl, sym, ap, subst, ◌∙◌, length, is_some, arith, nat_cmp}
use Rattle.tw_pool_state.proofs.PartNames.{AreQueued, Arg, IsEntry, MatchBool, Notice, Notices, Parts, Rule, RuleOf, RulesOf, Stage, Unasked, any_entry, ask_found, ask_there, bare_arg, bare_frame, bare_rule, bare_task, entries, eq-eqb, eqb-true, get, get_entry, has_unasked, is_among, is_releasable, is_unasked, len_mapped, list_any, mapped, nat_cmp_total, next_ask, next_ask_mapped, next_release, next_release_mapped, notice_cmp, notice_cmp-IsAntisymmetric, notice_cmp_total, or_left, or_right, queue_at, release_found, release_there, same_Some, server_of, state_of}
use Rattle.std.proofs.lemmas.Nat.{mod_below}
use Rattle.std.specs.FinMap as map
use Rattle.std.specs.FinSet as set_of
use Rattle.tw_types.specs.declared.ending.Ending.TheVariants.{Quiet, Stuck}
use Rattle.tw_code.specs.machine.Ending.{ending, has_idle_rules, is_quiet}
use Rattle.tw_pool_state.proofs.Fitting.{image_of}
use Rattle.tw_pool_state.proofs.Notes.{first_of, has, none_of}

-- ---- notices

pub silent : (queues : List (List Notice)) (notices : Notices) → AreQueued queues notices → 0 < length queues → ((server : ℕ) → server < length queues → queue_at queues server ≡ []) → set_of.len notices ≡ 0
silent queues notices q some empty =
    let same : notices ≡ set_of.empty = set_of.same_set notice_cmp_total notice_cmp-IsAntisymmetric notices set_of.empty (λ n. q.all n
    ∙ ap (is_among n) (empty (server_of (length queues) n.datum) (mod_below n.datum (length queues) some)) ∙ sym (set_of.contains-empty notice_cmp n)) in
    ap (λ (s : Notices). set_of.len s) same ∙ set_of.len-empty notice_cmp

-- ---- rules

-- each is of an engine below this
abbrev pub AreOfEngines : ℕ → RulesOf Arg → Type 0
AreOfEngines engines rules = (number : ℕ) (r : RuleOf Arg) → get rules number ≡ Some r → r.engine < engines

module _ (engines : ℕ) (rules : RulesOf Arg) (below : AreOfEngines engines rules) where
  entry_below : (e : ℕ × Rule) → IsEntry e (entries (mapped bare_rule rules)) → e.1.engine < engines
  entry_below e i =
      let b = image_of bare_rule rules e.0 e.1 (get_entry nat_cmp nat_cmp_total (mapped bare_rule rules) e i) in
      subst (λ (r : Rule). r.engine < engines) b.is (below e.0 b.x b.there)

  pub unasking : ((engine : ℕ) → engine < engines → next_ask engine rules ≡ None) → list_any has_unasked (map.values (mapped bare_rule rules)) ≡ false
  unasking none = by (list_any has_unasked (map.values (mapped bare_rule rules))) refl
    where
      by : (b : Bool) → list_any has_unasked (map.values (mapped bare_rule rules)) ≡ b → list_any has_unasked (map.values (mapped bare_rule rules)) ≡ false
      by true e =
          let found = any_entry has_unasked (entries (mapped bare_rule rules)) e in
          let asks = ask_there found.0.1.engine (mapped bare_rule rules) found.0 found.1 (eq-eqb found.0.1.engine found.0.1.engine refl) found.2 in
          let no : is_some (next_ask found.0.1.engine (mapped bare_rule rules)) ≡ false = ap is_some (next_ask_mapped bare_arg found.0.1.engine rules ∙ none found.0.1.engine (entry_below found.0 found.1)) in
          let both : true ≡ false = sym asks ∙ no in
          cc
      by false e = e

  pub unreleasing : ((engine : ℕ) → engine < engines → next_release engine rules ≡ None) → list_any is_releasable (map.values (mapped bare_rule rules)) ≡ false
  unreleasing none = by (list_any is_releasable (map.values (mapped bare_rule rules))) refl
    where
      by : (b : Bool) → list_any is_releasable (map.values (mapped bare_rule rules)) ≡ b → list_any is_releasable (map.values (mapped bare_rule rules)) ≡ false
      by true e =
          let found = any_entry is_releasable (entries (mapped bare_rule rules)) e in
          let asks = release_there found.0.1.engine (mapped bare_rule rules) found.0 found.1 (eq-eqb found.0.1.engine found.0.1.engine refl) found.2 in
          let no : is_some (next_release found.0.1.engine (mapped bare_rule rules)) ≡ false = ap is_some (next_release_mapped bare_arg found.0.1.engine rules ∙ none found.0.1.engine (entry_below found.0 found.1)) in
          let both : true ≡ false = sym asks ∙ no in
          cc
      by false e = e

any_there : {K X : Type 0} (test : X → Bool) (es : List (K × X)) (e : K × X) → IsEntry e es → test e.1 ≡ true → list_any test (each (λ e. e.1) es) ≡ true
any_there test [] e i h = absurd i
any_there test (f ∷ es) e (inl is) h = or_left (test f.1) (list_any test (each (λ e. e.1) es)) (ap (λ g. test g.1) (sym is) ∙ h)
any_there test (f ∷ es) e (inr i) h = or_right (test f.1) (list_any test (each (λ e. e.1) es)) (any_there test es e i h)

unasked_among : (stages : List Stage) (k : ℕ) → slice_get stages k ≡ Some Unasked → list_any is_unasked stages ≡ true
unasked_among [] k e = cc
unasked_among (stage ∷ stages) zero e = or_left (is_unasked stage) (list_any is_unasked stages) (ap is_unasked (same_Some stage Unasked e))
unasked_among (stage ∷ stages) (suc k) e = or_right (is_unasked stage) (list_any is_unasked stages) (unasked_among stages k e)

-- an engine that has something to do does it with one of the rules
pub busy : (rules : RulesOf Arg) (engine : ℕ) → (is_some (next_ask engine rules) ≡ true) ⊎ (is_some (next_release engine rules) ≡ true)
    → (list_any has_unasked (map.values (mapped bare_rule rules)) ≡ true) ⊎ (list_any is_releasable (map.values (mapped bare_rule rules)) ≡ true)
busy rules engine (inl some) = inl (by (next_ask engine rules) refl some)
  where
    by : (o : Option (ℕ × ℕ)) → next_ask engine rules ≡ o → is_some o ≡ true → list_any has_unasked (map.values (mapped bare_rule rules)) ≡ true
    by None e some = cc
    by (Some q) e some =
        let found = ask_found engine q.0 q.1 (mapped bare_rule rules) (next_ask_mapped bare_arg engine rules ∙ e) in
        any_there has_unasked (entries (mapped bare_rule rules)) (q.0, found.rule) found.there (unasked_among found.rule.stages q.1 found.has)
busy rules engine (inr some) = inr (by (next_release engine rules) refl some)
  where
    by : (o : Option ℕ) → next_release engine rules ≡ o → is_some o ≡ true → list_any is_releasable (map.values (mapped bare_rule rules)) ≡ true
    by None e some = cc
    by (Some number) e some =
        let found = release_found engine number (mapped bare_rule rules) (next_release_mapped bare_arg engine rules ∙ e) in
        any_there is_releasable (entries (mapped bare_rule rules)) (number, found.rule) found.there found.has

-- ---- all of it

pub quiet_by : (p : Parts) (notices : Notices) (engines : ℕ) → AreQueued p.store.queues notices → 0 < length p.store.queues → AreOfEngines engines p.rules.rules
    → map.len p.running_tasks.tasks ≡ 0 → map.len p.tasks.tasks ≡ 0 → ((server : ℕ) → server < length p.store.queues → queue_at p.store.queues server ≡ [])
    → ((engine : ℕ) → engine < engines → next_ask engine p.rules.rules ≡ None) → ((engine : ℕ) → engine < engines → next_release engine p.rules.rules ≡ None)
    → is_quiet (state_of p notices) ≡ true
quiet_by p notices engines q some below frames tasks queues asks releases =
    let f : map.len (mapped bare_frame p.running_tasks.tasks) ≡ 0 = len_mapped bare_frame p.running_tasks.tasks ∙ frames in
    let t : map.len (mapped bare_task p.tasks.tasks) ≡ 0 = len_mapped bare_task p.tasks.tasks ∙ tasks in
    let n : set_of.len notices ≡ 0 = silent p.store.queues notices q some queues in
    let a = unasking engines p.rules.rules below asks in
    let r = unreleasing engines p.rules.rules below releases in
    rw (f, t, n, a, r) refl

-- ---- states that aren't quiet

module _ (p : Parts) (notices : Notices) where
  pub running : (map.len p.running_tasks.tasks == 0) ≡ false → is_quiet (state_of p notices) ≡ false
  running some = let f : (map.len (mapped bare_frame p.running_tasks.tasks) == 0) ≡ false = ap (λ n. n == 0) (len_mapped bare_frame p.running_tasks.tasks) ∙ some in rw f refl

  pub waiting : (map.len p.tasks.tasks == 0) ≡ false → is_quiet (state_of p notices) ≡ false
  waiting some =
      let t : (map.len (mapped bare_task p.tasks.tasks) == 0) ≡ false = ap (λ n. n == 0) (len_mapped bare_task p.tasks.tasks) ∙ some in
      by (map.len (mapped bare_frame p.running_tasks.tasks) == 0) t
    where
      by : (b : Bool) → (map.len (mapped bare_task p.tasks.tasks) == 0) ≡ false
          → (b && ((map.len (mapped bare_task p.tasks.tasks) == 0) && ((set_of.len notices == 0) && has_idle_rules (state_of p notices)))) ≡ false
      by true t = rw t refl
      by false t = refl

  notified_so : (n : ℕ) → (n ≡ 0 → ⊥) → (a b c : Bool) → (a && (b && ((n == 0) && c))) ≡ false
  notified_so n some a b c = let no : (n == 0) ≡ false = test (n == 0) refl in rw no (by a b)
    where
      test : (t : Bool) → (n == 0) ≡ t → t ≡ false
      test true e = absurd (some (eqb-true n 0 e))
      test false e = refl

      by : (a b : Bool) → (a && (b && false)) ≡ false
      by true true = refl
      by true false = refl
      by false b = refl

  pub first_notice : AreQueued p.store.queues notices → (server : ℕ) (n : Notice) → slice_get (queue_at p.store.queues server) 0 ≡ Some n → is_quiet (state_of p notices) ≡ false
  first_notice q server n first =
      let is = first_of (queue_at p.store.queues server) n first in
      let inside = within p.store.queues server n first in
      let there = has p.store.queues notices q server inside n is.rest is.is in
      notified_so (set_of.len notices) (λ none. let no : false ≡ true = sym (ap (λ (s : Notices). set_of.contains s n) (set_of.empty_of_len notices none) ∙ set_of.contains-empty notice_cmp n) ∙ there in cc)
      (map.len (mapped bare_frame p.running_tasks.tasks) == 0) (map.len (mapped bare_task p.tasks.tasks) == 0) (has_idle_rules (state_of p notices))
    where
      within : (queues : List (List Notice)) (k : ℕ) (n : Notice) → slice_get (queue_at queues k) 0 ≡ Some n → k < length queues
      within [] k n e = cc
      within (queue ∷ queues) zero n e = omega arith
      within (queue ∷ queues) (suc k) n e = let rest = within queues k n e in omega (arith, rest)

  pub working : (engine : ℕ) → (is_some (next_ask engine p.rules.rules) ≡ true) ⊎ (is_some (next_release engine p.rules.rules) ≡ true) → is_quiet (state_of p notices) ≡ false
  working engine some = by (map.len (mapped bare_frame p.running_tasks.tasks) == 0) (map.len (mapped bare_task p.tasks.tasks) == 0) (set_of.len notices == 0) (idle (busy p.rules.rules engine some))
    where
      idle : (list_any has_unasked (map.values (mapped bare_rule p.rules.rules)) ≡ true) ⊎ (list_any is_releasable (map.values (mapped bare_rule p.rules.rules)) ≡ true) → has_idle_rules (state_of p notices) ≡ false
      idle (inl a) = rw a refl
      idle (inr r) = rw r (or_not (list_any has_unasked (map.values (mapped bare_rule p.rules.rules))))
        where
          or_not : (b : Bool) → (not b && false) ≡ false
          or_not true = refl
          or_not false = refl

      by : (a b c : Bool) → has_idle_rules (state_of p notices) ≡ false → (a && (b && (c && has_idle_rules (state_of p notices)))) ≡ false
      by true true true i = i
      by true true false i = refl
      by true false c i = refl
      by false b c i = refl

-- whether the state is quiet, by whether the rules have work
pub quiet_or : (p : Parts) (notices : Notices) (engines : ℕ) → AreQueued p.store.queues notices → 0 < length p.store.queues → AreOfEngines engines p.rules.rules
    → map.len p.running_tasks.tasks ≡ 0 → map.len p.tasks.tasks ≡ 0 → ((server : ℕ) → server < length p.store.queues → slice_get (queue_at p.store.queues server) 0 ≡ None)
    → (b : Bool) → MatchBool b ((engine : ℕ) × ((is_some (next_ask engine p.rules.rules) ≡ true) ⊎ (is_some (next_release engine p.rules.rules) ≡ true)))
    ((engine : ℕ) → engine < engines → (next_ask engine p.rules.rules ≡ None) × (next_release engine p.rules.rules ≡ None))
    → not b ≡ is_quiet (state_of p notices)
quiet_or p notices engines q some below frames tasks queues true work = sym (working p notices work.0 work.1)
quiet_or p notices engines q some below frames tasks queues false work =
    sym (quiet_by p notices engines q some below frames tasks (λ server low. none_of (queue_at p.store.queues server) (queues server low)) (λ engine low. (work engine low).0) (λ engine low. (work engine low).1))

-- ---- the end

module _ (p : Parts) (notices : Notices) where
  pub not_ended : is_quiet (state_of p notices) ≡ false → None ≡ ending (state_of p notices)
  not_ended loud = rw loud refl

  pub ended_quiet : is_quiet (state_of p notices) ≡ true → (map.len p.rules.rules == 0) ≡ true → Some Quiet ≡ ending (state_of p notices)
  ended_quiet quiet none = let n : (map.len (mapped bare_rule p.rules.rules) == 0) ≡ true = ap (λ k. k == 0) (len_mapped bare_rule p.rules.rules) ∙ none in rw (quiet, n) refl

  pub ended_stuck : is_quiet (state_of p notices) ≡ true → (pending : ℕ) → pending ≡ map.len p.rules.rules → (pending == 0) ≡ false → Some (Stuck pending) ≡ ending (state_of p notices)
  ended_stuck quiet pending is some =
      let same : map.len (mapped bare_rule p.rules.rules) ≡ pending = len_mapped bare_rule p.rules.rules ∙ sym is in
      rw (quiet, same, some) refl
