-- Requirements and effects of each call of the table, on the index.
use Rattle.tw_rules.proofs.Names.{Agenda, AreAsks, AreReleases, Arg, Bool, Contains, HasMoved, HasOneMoreAsk, HasReleased, IsAgenda, IsFirstAskable, IsIndexed, IsLeast, IsLeastPending, IsTrimmed, List, Param, Rises, RuleOf, Rules, Stage, [], ap, arith, at_stage, contains_cases, contains_none, empty, false, first_stage, first_there, first_unasked, from_first, get, get-empty, get_or, has_unasked, inl, inr, insert, is_askable, is_releasable, is_settled, is_some, is_some_unasked, is_unasked, length, map, nat_cmp, nat_lt, nat_tests, new_rule, next_ask, next_release, none_past, open_count, refl, remove, same_or_apart, slice_get-get_or, slice_get_past, slice_get_read, slice_set, stage_at, staged, subst, suc, sym, total-empty, true, unsome, zero, ℕ, ◌+◌, ◌<◌, ◌∙◌, ◌∷◌, ◌≡◌, ◌≤◌}
use Rattle.std.specs.Prelude.{Option, Some, None, slice_get, option_map, option_and_then}
use Rattle.tw_rules.specs.declared.planned.PlannedTask.{PlannedTask}
use Rattle.tw_rules.proofs.Stages.{settled_idle, fresh_unasked, staged_unasked, unsettled_holds}
use Rattle.tw_rules.proofs.Firsts.{unasked_some, next_ask_is, next_ask_none, next_release_is, next_release_none}
use Rattle.tw_rules.proofs.Changes.{Changed, changed_insert, changed_remove, other_agenda, added_asked, added_released, promised_before, staged_released, staged_held, gone_agenda, all_agendas}

abbrev R : Type 0
R = RuleOf Arg

-- ---- the next ask and the next release

first_least : (xs : List ℕ) (x y : ℕ) → Rises xs → slice_get xs 0 ≡ Some x → Contains xs y → x ≤ y
first_least [] x y h e c = cc
first_least (z ∷ xs) x y h e c =
    let same : z ≡ x = unsome e in
    elim (contains_cases z xs y c) [ inl one ↦ (let whole : x ≡ y = sym same ∙ one in omega arith) | inr rest ↦ (let low : z < y = h.0 y rest in omega arith) ]

none_in : (xs : List ℕ) (y : ℕ) → slice_get xs 0 ≡ None → Contains xs y → ⊥
none_in [] y e c = contains_none y c
none_in (x ∷ xs) y e c = cc

some_of : (o : Option R) → is_some_unasked o ≡ true → (rule : R) × (o ≡ Some rule) × (has_unasked rule ≡ true)
some_of None h = cc
some_of (Some rule) h = (rule, refl, h)

present : (o : Option R) → is_some o ≡ true → (rule : R) × (o ≡ Some rule)
present None h = cc
present (Some rule) h = (rule, refl)

module _ (rules : Rules) (next : ℕ) (agendas : List Agenda) (is : IsIndexed rules next agendas) (engine : ℕ) where
  past_engine : slice_get agendas engine ≡ None → (q : ℕ) (other : R) → get rules q ≡ Some other → other.engine ≡ engine → ⊥
  past_engine past q other e own =
      let low : other.engine < 4 = (is.known q other e).1 in
      let count = is.count in
      let over : length agendas ≤ engine = none_past agendas engine past in
      omega arith

  pub ask_past : slice_get agendas engine ≡ None → next_ask engine rules ≡ None
  ask_past past = next_ask_none engine rules (λ q other e own has. past_engine past q other e own)

  pub release_past : slice_get agendas engine ≡ None → next_release engine rules ≡ None
  release_past past = next_release_none engine rules (λ q other e own can. past_engine past q other e own)

  module _ (agenda : Agenda) (at : slice_get agendas engine ≡ Some agenda) where
    own_agenda : IsAgenda engine rules next agenda
    own_agenda = is.each_engine engine agenda at

    pub ask_none : slice_get agenda.asks.numbers 0 ≡ None → next_ask engine rules ≡ None
    ask_none none = next_ask_none engine rules (λ q other e own has. none_in agenda.asks.numbers q none (own_agenda.asks.complete q other e own has))

    pub ask_there : (number : ℕ) → slice_get agenda.asks.numbers 0 ≡ Some number → (rule : R) × (get rules number ≡ Some rule) × (has_unasked rule ≡ true)
    ask_there number first = some_of (get rules number) (own_agenda.asked number first)

    pub ask_is : (number : ℕ) → slice_get agenda.asks.numbers 0 ≡ Some number → (rule : R) → get rules number ≡ Some rule → (parameter : ℕ) → first_unasked 0 rule.stages ≡ Some parameter → next_ask engine rules ≡ Some (number, parameter)
    ask_is number first rule there parameter one =
        let wanting = ask_there number first in
        let same : wanting.0 ≡ rule = unsome (sym wanting.1 ∙ there) in
        next_ask_is engine rules number parameter rule there (own_agenda.asks.own number rule there (first_there number agenda.asks.numbers first)) (subst (λ x. has_unasked x ≡ true) same wanting.2) one
        (λ q other e own has. first_least agenda.asks.numbers number q own_agenda.asks.rises first (own_agenda.asks.complete q other e own has))

    pub ask_found : (number : ℕ) → slice_get agenda.asks.numbers 0 ≡ Some number → (rule : R) → get rules number ≡ Some rule → first_unasked 0 rule.stages ≡ None → ⊥
    ask_found number first rule there none =
        let wanting = ask_there number first in
        let same : wanting.0 ≡ rule = unsome (sym wanting.1 ∙ there) in
        let has : has_unasked rule ≡ true = subst (λ x. has_unasked x ≡ true) same wanting.2 in
        let some = unasked_some 0 rule.stages has in
        let one = some.1 in
        cc

    pub release_none : agenda.releases.numbers ≡ [] → next_release engine rules ≡ None
    release_none none = next_release_none engine rules (λ q other e own can. contains_none q (subst (λ xs. Contains xs q) none (own_agenda.releases.complete q other e own can)))

    pub release_is : (number : ℕ) → IsLeast agenda.releases.numbers number → next_release engine rules ≡ Some number
    release_is number least =
        let there = present (get rules number) (own_agenda.released number least) in
        let mine = own_agenda.releases.own number there.0 there.1 least.there in
        next_release_is engine rules number there.0 there.1 mine.0 mine.1 (λ q other e own can. least.below q (own_agenda.releases.complete q other e own can))

-- ---- a place in the array

outside : (k n : ℕ) → false ≡ nat_lt k n → n ≤ k
outside k n e = grind (arith, nat_tests)

inside : (k n : ℕ) → true ≡ nat_lt k n → k < n
inside k n e = grind (arith, nat_tests)

pub agenda_past : (agendas : List Agenda) (k engine : ℕ) → k ≡ engine → false ≡ nat_lt k (length agendas) → slice_get agendas engine ≡ None
agenda_past agendas k engine same past = subst (λ e. slice_get agendas e ≡ None) same (slice_get_past agendas k (outside k (length agendas) past))

pub agenda_at : (agendas : List Agenda) (k engine : ℕ) (agenda : Agenda) → k ≡ engine → true ≡ nat_lt k (length agendas) → agenda ≡ get_or agendas k agenda → slice_get agendas engine ≡ Some agenda
agenda_at agendas k engine agenda same low at = subst (λ e. slice_get agendas e ≡ Some agenda) same (slice_get_read agendas (length agendas) k agenda refl (inside k (length agendas) low) at)

-- ---- a rule is added

module _ (rules : Rules) (next : ℕ) (agendas : List Agenda) (is : IsIndexed rules next agendas) (engine : ℕ) (low : engine < 4) (rule : R) (own : rule.engine ≡ engine) (agenda after : Agenda) (at : slice_get agendas engine ≡ Some agenda) where
  pub next_free : get rules next ≡ None
  next_free = by (get rules next) refl
    where
      by : (o : Option R) → get rules next ≡ o → o ≡ None
      by None e = refl
      by (Some other) e = let below : next < next = (is.known next other e).0 in absurd (omega arith)

  added : Changed next None (Some rule) rules (insert rules next rule)
  added = changed_insert rules next None rule next_free

  added_known : (number : ℕ) (other : R) → get (insert rules next rule) number ≡ Some other → (number < next + 1) × (other.engine < 4)
  added_known number other e = elim (same_or_apart number next) [
    | inl same ↦ (let one : rule ≡ other = unsome (sym added.here ∙ subst (λ k. get (insert rules next rule) k ≡ Some other) same e) in (omega arith, subst (λ x. x.engine < 4) one (subst (λ k. k < 4) (sym own) low)))
    | inr apart ↦ (let old = is.known number other (sym (added.others number apart) ∙ e) in let under : number < next = old.0 in (omega arith, old.1))
  ]

  added_others : (e : ℕ) → (e ≡ engine → ⊥) → (other : Agenda) → IsAgenda e rules next other → IsAgenda e (insert rules next rule) (next + 1) other
  added_others e apart other old =
      other_agenda next None (Some rule) rules (insert rules next rule) added e next (next + 1) (omega arith) other old
      (λ x none mine. cc) (λ x some mine. let one : rule ≡ x = unsome some in apart (sym mine ∙ ap (λ y. y.engine) (sym one) ∙ own)) (λ none. omega arith)

  pub index_asked : has_unasked rule ≡ true → is_releasable rule ≡ false → HasOneMoreAsk next agenda after → IsIndexed (insert rules next rule) (next + 1) (slice_set agendas engine after)
  index_asked has cannot does = all_agendas rules (insert rules next rule) next (next + 1) agendas engine after is low
      (added_asked next None (Some rule) rules (insert rules next rule) added engine next (next + 1) (omega arith) rule refl own agenda after (is.each_engine engine agenda at) refl refl (omega arith) has cannot does)
      added_others added_known

  pub index_released : has_unasked rule ≡ false → is_releasable rule ≡ true → HasReleased next agenda after → IsIndexed (insert rules next rule) (next + 1) (slice_set agendas engine after)
  index_released idle can does = all_agendas rules (insert rules next rule) next (next + 1) agendas engine after is low
      (added_released next None (Some rule) rules (insert rules next rule) added engine next (next + 1) (omega arith) rule refl own agenda after (is.each_engine engine agenda at) refl refl (omega arith) idle can does)
      added_others added_known

-- a new rule
pub index_added : (rules : Rules) (next : ℕ) (agendas : List Agenda) → IsIndexed rules next agendas → (engine : ℕ) → engine < 4 → (params : List Param) (action : PlannedTask) (args : List Arg) (agenda after : Agenda)
    → slice_get agendas engine ≡ Some agenda → (can : Bool) → can ≡ is_releasable (new_rule engine params action args)
    → (can ≡ true → HasReleased next agenda after) → (can ≡ false → HasOneMoreAsk next agenda after)
    → IsIndexed (insert rules next (new_rule engine params action args)) (next + 1) (slice_set agendas engine after)
index_added rules next agendas is engine low params action args agenda after at true can released asked =
    index_released rules next agendas is engine low (new_rule engine params action args) refl agenda after at (settled_idle (map (λ p. first_stage p.mode) params) (sym can)) (sym can) (released refl)
index_added rules next agendas is engine low params action args agenda after at false can released asked =
    index_asked rules next agendas is engine low (new_rule engine params action args) refl agenda after at (fresh_unasked params (sym can)) (sym can) (asked refl)

-- ---- a parameter is at another stage

stage_of : (o : Option R) (parameter : ℕ) → option_map is_settled (option_and_then (λ rule. slice_get rule.stages parameter) o) ≡ Some false
    → (rule : R) × (o ≡ Some rule) × (option_map is_settled (slice_get rule.stages parameter) ≡ Some false)
stage_of None parameter h = cc
stage_of (Some rule) parameter h = (rule, refl, h)

-- the rule whose parameter isn't settled
pub open_rule : (rules : Rules) (number parameter : ℕ) → option_map is_settled (stage_at rules number parameter) ≡ Some false
    → (rule : R) × (get rules number ≡ Some rule) × (option_map is_settled (slice_get rule.stages parameter) ≡ Some false)
open_rule rules number parameter h = stage_of (get rules number) parameter h

pub staged_is : (rules : Rules) (number parameter : ℕ) (stage : Stage) (rule : R) → get rules number ≡ Some rule → staged rules number parameter stage ≡ insert rules number (at_stage rule parameter stage)
staged_is rules number parameter stage rule e = rw e refl

module _ (rules : Rules) (next : ℕ) (agendas : List Agenda) (is : IsIndexed rules next agendas) (number parameter : ℕ) (stage : Stage) (asked : is_unasked stage ≡ false)
    (unsettled : option_map is_settled (stage_at rules number parameter) ≡ Some false) (engine : ℕ) (can : Bool)
    (engine_is : option_map (λ rule. rule.engine) (get (staged rules number parameter stage) number) ≡ Some engine)
    (can_is : option_map is_releasable (get (staged rules number parameter stage) number) ≡ Some can) where
  abbrev was : R
  was = (open_rule rules number parameter unsettled).0

  was_there : get rules number ≡ Some was
  was_there = (open_rule rules number parameter unsettled).1

  abbrev now : R
  now = at_stage was parameter stage

  abbrev new : Rules
  new = insert rules number now

  changes : Changed number (Some was) (Some now) rules new
  changes = changed_insert rules number (Some was) now was_there

  whole : staged rules number parameter stage ≡ new
  whole = staged_is rules number parameter stage was was_there

  now_there : get (staged rules number parameter stage) number ≡ Some now
  now_there = ap (λ m. get m number) whole ∙ changes.here

  own : was.engine ≡ engine
  own = unsome (ap (option_map (λ (rule : R). rule.engine)) (sym now_there) ∙ engine_is)

  can_be : is_releasable now ≡ can
  can_be = unsome (ap (option_map is_releasable) (sym now_there) ∙ can_is)

  held : is_releasable was ≡ false
  held = unsettled_holds was.stages parameter (open_rule rules number parameter unsettled).2

  less : has_unasked now ≡ true → has_unasked was ≡ true
  less h = staged_unasked was.stages parameter stage asked h

  pub staged_engine : engine < 4
  staged_engine = subst (λ k. k < 4) own (is.known number was was_there).1

  staged_known : (q : ℕ) (other : R) → get new q ≡ Some other → (q < next) × (other.engine < 4)
  staged_known q other e = elim (same_or_apart q number) [
    | inl same ↦ (let one : now ≡ other = unsome (sym changes.here ∙ subst (λ k. get new k ≡ Some other) same e) in
        let old = is.known number was was_there in
        (subst (λ k. k < next) (sym same) old.0, subst (λ x. x.engine < 4) one old.1))
    | inr apart ↦ is.known q other (sym (changes.others q apart) ∙ e)
  ]

  staged_others : (e : ℕ) → (e ≡ engine → ⊥) → (other : Agenda) → IsAgenda e rules next other → IsAgenda e new next other
  staged_others e apart other old =
      other_agenda number (Some was) (Some now) rules new changes e next next (omega arith) other old
      (λ x some mine. let one : was ≡ x = unsome some in apart (sym mine ∙ ap (λ y. y.engine) (sym one) ∙ own))
      (λ x some mine. let one : now ≡ x = unsome some in apart (sym mine ∙ ap (λ y. y.engine) (sym one) ∙ own))
      (λ none. cc)

  module _ (agenda : Agenda) (at : slice_get agendas engine ≡ Some agenda) where
    pub index_promised : 0 < agenda.releases.promised
    index_promised = promised_before number (Some was) (Some now) rules new changes engine next next (omega arith) was refl own held agenda (is.each_engine engine agenda at)

    pub index_staged : (after : Agenda) → after.asks.numbers ≡ from_first (is_askable (staged rules number parameter stage)) agenda.asks.numbers
        → (can ≡ true → HasMoved number agenda.releases after.releases) → (can ≡ false → after.releases ≡ agenda.releases)
        → IsIndexed (staged rules number parameter stage) next (slice_set agendas engine after)
    index_staged after asks moved stays = subst (λ m. IsIndexed m next (slice_set agendas engine after)) (sym whole)
        (all_agendas rules new next next agendas engine after is staged_engine (by can refl) staged_others staged_known)
      where
        trimmed : after.asks.numbers ≡ from_first (is_askable new) agenda.asks.numbers
        trimmed = asks ∙ ap (λ m. from_first (is_askable m) agenda.asks.numbers) whole

        by : (b : Bool) → can ≡ b → IsAgenda engine new next after
        by true is_can = staged_released number (Some was) (Some now) rules new changes engine next next (omega arith) now refl own agenda after (is.each_engine engine agenda at) was refl own held less trimmed
            (is.known number was was_there).0 (can_be ∙ is_can) (moved is_can)
        by false is_can = staged_held number (Some was) (Some now) rules new changes engine next next (omega arith) now refl own agenda after (is.each_engine engine agenda at) was refl own held less trimmed
            (can_be ∙ is_can) (stays is_can)

-- like that, if the engine's agenda is at a given place
module _ (rules : Rules) (next : ℕ) (agendas : List Agenda) (is : IsIndexed rules next agendas) (number parameter : ℕ) (stage : Stage) (asked : is_unasked stage ≡ false)
    (unsettled : option_map is_settled (stage_at rules number parameter) ≡ Some false) (after : Rules) (is_staged : after ≡ staged rules number parameter stage) (k engine : ℕ) (same : k ≡ engine) (can : Bool)
    (engine_is : option_map (λ (rule : R). rule.engine) (get after number) ≡ Some engine) (can_is : option_map is_releasable (get after number) ≡ Some can) where
  engine_staged : option_map (λ (rule : R). rule.engine) (get (staged rules number parameter stage) number) ≡ Some k
  engine_staged = subst (λ (m : Rules). option_map (λ (rule : R). rule.engine) (get m number) ≡ Some k) is_staged (engine_is ∙ ap Some (sym same))

  can_staged : option_map is_releasable (get (staged rules number parameter stage) number) ≡ Some can
  can_staged = subst (λ (m : Rules). option_map is_releasable (get m number) ≡ Some can) is_staged can_is

  pub low_at : k < 4
  low_at = staged_engine rules next agendas is number parameter stage asked unsettled k can engine_staged can_staged

  there_at : (res : Agenda) → slice_get agendas k ≡ Some (get_or agendas k res)
  there_at res = let count = is.count in let low = low_at in slice_get-get_or agendas k res (omega arith)

  pub promised_at : (res : Agenda) → 0 < (get_or agendas k res).releases.promised
  promised_at res = index_promised rules next agendas is number parameter stage asked unsettled k can engine_staged can_staged (get_or agendas k res) (there_at res)

  pub index_at : (res new : Agenda) → new.asks.numbers ≡ from_first (is_askable after) (get_or agendas k res).asks.numbers
      → (can ≡ true → HasMoved number (get_or agendas k res).releases new.releases) → (can ≡ false → new.releases ≡ (get_or agendas k res).releases) → IsIndexed after next (slice_set agendas k new)
  index_at res new asks moved stays = subst (λ (m : Rules). IsIndexed m next (slice_set agendas k new)) (sym is_staged)
      (index_staged rules next agendas is number parameter stage asked unsettled k can engine_staged can_staged (get_or agendas k res) (there_at res) new
      (asks ∙ ap (λ (m : Rules). from_first (is_askable m) (get_or agendas k res).asks.numbers) is_staged) moved stays)

-- ---- a rule is released

pub can_be_released : (o : Option R) (rule : R) → o ≡ Some rule → option_map is_releasable o ≡ Some true → is_releasable rule ≡ true
can_be_released None rule e h = cc
can_be_released (Some other) rule e h = let same : other ≡ rule = unsome e in subst (λ x. is_releasable x ≡ true) same (unsome h)

module _ (rules : Rules) (next : ℕ) (agendas : List Agenda) (is : IsIndexed rules next agendas) (number : ℕ) (rule : R) (there : get rules number ≡ Some rule) (can : is_releasable rule ≡ true) where
  gone : Changed number (Some rule) None rules (remove rules number)
  gone = changed_remove rules number (Some rule) there

  pub gone_engine : rule.engine < 4
  gone_engine = (is.known number rule there).1

  gone_others : (e : ℕ) → (e ≡ rule.engine → ⊥) → (other : Agenda) → IsAgenda e rules next other → IsAgenda e (remove rules number) next other
  gone_others e apart other old =
      other_agenda number (Some rule) None rules (remove rules number) gone e next next (omega arith) other old
      (λ x some mine. let one : rule ≡ x = unsome some in apart (sym mine ∙ ap (λ y. y.engine) (sym one))) (λ x some mine. cc) (λ none. cc)

  gone_known : (q : ℕ) (other : R) → get (remove rules number) q ≡ Some other → (q < next) × (other.engine < 4)
  gone_known q other e = elim (same_or_apart q number) [
    | inl same ↦ (let some = subst (λ k. get (remove rules number) k ≡ Some other) same e in let none = gone.here in absurd cc)
    | inr apart ↦ is.known q other (sym (gone.others q apart) ∙ e)
  ]

  pub index_gone : (agenda after : Agenda) → slice_get agendas rule.engine ≡ Some agenda → after.asks ≡ agenda.asks → IsTrimmed (remove rules number) agenda.releases.numbers after.releases.numbers
      → after.releases.promised ≡ agenda.releases.promised → IsIndexed (remove rules number) next (slice_set agendas rule.engine after)
  index_gone agenda after at asks trimmed promised = all_agendas rules (remove rules number) next next agendas rule.engine after is gone_engine
      (gone_agenda number (Some rule) None rules (remove rules number) gone rule.engine next next (omega arith) refl rule refl refl can (settled_idle rule.stages can) agenda after (is.each_engine rule.engine agenda at) asks trimmed promised)
      gone_others gone_known

  pub gone_at : (k : ℕ) → k ≡ rule.engine → (res after : Agenda) → after.asks ≡ (get_or agendas k res).asks → IsTrimmed (remove rules number) (get_or agendas k res).releases.numbers after.releases.numbers
      → after.releases.promised ≡ (get_or agendas k res).releases.promised → IsIndexed (remove rules number) next (slice_set agendas k after)
  gone_at k same res after asks trimmed promised =
      subst (λ e. IsIndexed (remove rules number) next (slice_set agendas e after)) (sym same)
      (index_gone (get_or agendas k res) after (subst (λ e. slice_get agendas e ≡ Some (get_or agendas k res)) same there_at) asks trimmed promised)
    where
      there_at : slice_get agendas k ≡ Some (get_or agendas k res)
      there_at = let count = is.count in let low = gone_engine in slice_get-get_or agendas k res (omega arith)

-- ---- the empty table

pub empty_agenda : (engine : ℕ) (agenda : Agenda) → agenda.asks.numbers ≡ [] → agenda.releases.numbers ≡ [] → agenda.releases.promised ≡ 0 → IsAgenda engine empty 1 agenda
empty_agenda engine agenda asks releases promised = record {
  asks = subst (AreAsks engine empty 1) (sym asks) (record { rises = tt; below = λ q c. absurd (contains_none q c); complete = λ q rule e own has. absurd (nothing q rule e); own = λ q rule e c. absurd (nothing q rule e) });
  asked = subst (IsFirstAskable empty) (sym asks) (λ q e. cc);
  releases = subst (AreReleases engine empty 1) (sym releases) (record { below = λ q c. absurd (contains_none q c); complete = λ q rule e own can. absurd (nothing q rule e); own = λ q rule e c. absurd (nothing q rule e) });
  released = subst (IsLeastPending empty) (sym releases) (λ q least. absurd (contains_none q least.there));
  promised = total-empty nat_cmp (open_count engine) ∙ sym promised;
}
  where
    nothing : (q : ℕ) (rule : R) → get (empty {X = R} {R = nat_cmp}) q ≡ Some rule → ⊥
    nothing q rule e = let none : get (empty {X = R} {R = nat_cmp}) q ≡ None = get-empty nat_cmp q in cc

pub empty_index : (agendas : List Agenda) → length agendas ≡ 4 → ((engine : ℕ) (agenda : Agenda) → slice_get agendas engine ≡ Some agenda → (agenda.asks.numbers ≡ []) × (agenda.releases.numbers ≡ []) × (agenda.releases.promised ≡ 0))
    → IsIndexed empty 1 agendas
empty_index agendas count all = record {
  count = count;
  each_engine = λ engine agenda at. let e = all engine agenda at in empty_agenda engine agenda e.0 e.1 e.2;
  known = λ q rule e. let none : get (empty {X = R} {R = nat_cmp}) q ≡ None = get-empty nat_cmp q in absurd cc;
}

abbrev pub IsBlank : Agenda → Type 0
IsBlank agenda = (agenda.asks.numbers ≡ []) × (agenda.releases.numbers ≡ []) × (agenda.releases.promised ≡ 0)

pub empty_four : (a b d e : Agenda) → IsBlank a → IsBlank b → IsBlank d → IsBlank e → IsIndexed empty 1 (a ∷ b ∷ d ∷ e ∷ [])
empty_four a b d e ba bb bd be = empty_index (a ∷ b ∷ d ∷ e ∷ []) refl all
  where
    all : (engine : ℕ) (agenda : Agenda) → slice_get (a ∷ b ∷ d ∷ e ∷ []) engine ≡ Some agenda → IsBlank agenda
    all zero agenda at = subst IsBlank (unsome at) ba
    all (suc zero) agenda at = subst IsBlank (unsome at) bb
    all (suc (suc zero)) agenda at = subst IsBlank (unsome at) bd
    all (suc (suc (suc zero))) agenda at = subst IsBlank (unsome at) be
    all (suc (suc (suc (suc engine)))) agenda at = cc
