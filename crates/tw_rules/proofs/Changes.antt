-- The agendas stay right if the rules change at one number.
use Rattle.tw_rules.proofs.Names.{Agenda, AreAsks, AreReleases, Arg, Bool, Contains, Contains-permutation, HasMoved, HasOneMoreAsk, HasReleased, IsAgenda, IsFirstAskable, IsIndexed, IsLeast, IsLeastPending, IsPermutation, IsPermutation-sym, IsTrimmed, List, Rises, RuleOf, Rules, [], ap, appended_cases, appended_last, appended_old, arith, cond, contains_cases, contains_here, contains_later, contains_none, false, first_there, from_first, get, get-remove_same, get_set_other, get_set_same, has_unasked, inl, inr, insert, insert_other, insert_same, is_askable, is_releasable, is_some, is_some_unasked, length, nat_apart, nat_cmp, nat_cmp-IsAntisymmetric, nat_cmp_total, nat_is, not, open_count, part, part-le-total, refl, remove, remove_other, same_or_apart, slice_set, subst, sym, total-insert, total-remove, true, unsome, ℕ, ◌&&◌, ◌++◌, ◌+◌, ◌<◌, ◌∙◌, ◌∷◌, ◌≡◌, ◌≤◌, ◌⊎◌}
use Rattle.std.specs.Prelude.{Option, Some, None, slice_get}
use Rattle.std.proofs.Math.ListN.{length-set}
use Rattle.tw_types.specs.Totals.{total}

abbrev R : Type 0
R = RuleOf Arg

-- ---- lists of numbers

module _ (test : ℕ → Bool) where
  trimmed_old : (xs : List ℕ) (y : ℕ) → Contains (from_first test xs) y → Contains xs y
  trimmed_old [] y c = c
  trimmed_old (x ∷ xs) y c = by (test x) c (trimmed_old xs y)
    where
      by : (b : Bool) → Contains (cond b (x ∷ xs) (from_first test xs)) y → (Contains (from_first test xs) y → Contains xs y) → Contains (x ∷ xs) y
      by true c rest = c
      by false c rest = contains_later x xs y (rest c)

  trimmed_kept : (xs : List ℕ) (y : ℕ) → test y ≡ true → Contains xs y → Contains (from_first test xs) y
  trimmed_kept [] y t c = c
  trimmed_kept (x ∷ xs) y t c = by (test x) refl (contains_cases x xs y c) (trimmed_kept xs y t)
    where
      by : (b : Bool) → test x ≡ b → (x ≡ y) ⊎ Contains xs y → (Contains xs y → Contains (from_first test xs) y) → Contains (cond b (x ∷ xs) (from_first test xs)) y
      by true e cases rest = c
      by false e (inl same) rest = let wanted : test x ≡ true = subst (λ z. test z ≡ true) (sym same) t in absurd cc
      by false e (inr there) rest = rest there

  trimmed_rises : (xs : List ℕ) → Rises xs → Rises (from_first test xs)
  trimmed_rises [] h = h
  trimmed_rises (x ∷ xs) h = by (test x) (trimmed_rises xs h.1)
    where
      by : (b : Bool) → Rises (from_first test xs) → Rises (cond b (x ∷ xs) (from_first test xs))
      by true rest = h
      by false rest = rest

  trimmed_first : (xs : List ℕ) (y : ℕ) → slice_get (from_first test xs) 0 ≡ Some y → test y ≡ true
  trimmed_first [] y e = cc
  trimmed_first (x ∷ xs) y e = by (test x) refl e (trimmed_first xs y)
    where
      by : (b : Bool) → test x ≡ b → slice_get (cond b (x ∷ xs) (from_first test xs)) 0 ≡ Some y → (slice_get (from_first test xs) 0 ≡ Some y → test y ≡ true) → test y ≡ true
      by true t e rest = let same : x ≡ y = cc in subst (λ z. test z ≡ true) same t
      by false t e rest = rest e

appended_rises : (xs : List ℕ) (n : ℕ) → Rises xs → ((x : ℕ) → Contains xs x → x < n) → Rises (xs ++ n ∷ [])
appended_rises [] n h below = (λ later c. absurd (contains_none later c), tt)
appended_rises (x ∷ xs) n h below = (
  λ later c. elim (appended_cases xs n later c) [ inl there ↦ h.0 later there | inr e ↦ subst (λ z. x < z) e (below x (contains_here x xs)) ],
  appended_rises xs n h.1 (λ y c. below y (contains_later x xs y c)),
)

appended_first : (xs : List ℕ) (n y : ℕ) → slice_get (xs ++ n ∷ []) 0 ≡ Some y → (slice_get xs 0 ≡ Some y) ⊎ (n ≡ y)
appended_first [] n y e = inr cc
appended_first (x ∷ xs) n y e = inl e

-- ---- the rules change at one number

pub record Changed (n : ℕ) (was now : Option R) (old new : Rules) : Type 0 where
  pub before : get old n ≡ was
  pub here : get new n ≡ now
  pub others : (q : ℕ) → (q ≡ n → ⊥) → get new q ≡ get old q
  pub totals : (f : R → ℕ) → total f new + part f was ≡ total f old + part f now

pub changed_insert : (rules : Rules) (n : ℕ) (was : Option R) (rule : R) → get rules n ≡ was → Changed n was (Some rule) rules (insert rules n rule)
changed_insert rules n was rule e = record {
  before = e;
  here = insert_same nat_cmp nat_cmp_total rules n rule;
  others = λ q apart. insert_other nat_cmp nat_cmp_total nat_cmp-IsAntisymmetric rules n rule q apart;
  totals = λ f. ap (λ o. total f (insert rules n rule) + part f o) (sym e) ∙ total-insert nat_cmp nat_cmp_total f rules n rule;
}

pub changed_remove : (rules : Rules) (n : ℕ) (was : Option R) → get rules n ≡ was → Changed n was None rules (remove rules n)
changed_remove rules n was e = record {
  before = e;
  here = get-remove_same nat_cmp nat_cmp_total rules n;
  others = λ q apart. remove_other nat_cmp nat_cmp_total nat_cmp-IsAntisymmetric rules n q apart;
  totals = λ f.
      let whole : total f (remove rules n) + part f was ≡ total f rules = ap (λ o. total f (remove rules n) + part f o) (sym e) ∙ total-remove nat_cmp nat_cmp_total nat_cmp-IsAntisymmetric f rules n in
      let more : total f rules ≡ total f rules + 0 = omega arith in
      whole ∙ more;
}

module _ (n : ℕ) (was now : Option R) (old new : Rules) (changed : Changed n was now old new) (engine next more : ℕ) (grows : next ≤ more) where
  -- a rule at another number was there
  was_there : (q : ℕ) (rule : R) → (q ≡ n → ⊥) → get new q ≡ Some rule → get old q ≡ Some rule
  was_there q rule apart e = sym (changed.others q apart) ∙ e

  now_is : (q : ℕ) (rule : R) → q ≡ n → get new q ≡ Some rule → now ≡ Some rule
  now_is q rule same e = sym changed.here ∙ subst (λ p. get new p ≡ Some rule) same e

  -- ---- asking

  asks_changed : (asks : List ℕ) → AreAsks engine old next asks
      → ((rule : R) → now ≡ Some rule → rule.engine ≡ engine → has_unasked rule ≡ true → Contains asks n)
      → ((rule : R) → now ≡ Some rule → Contains asks n → rule.engine ≡ engine)
      → AreAsks engine new more asks
  asks_changed asks are in_if_wanting own_if_in = record {
    rises = are.rises;
    below = λ q c. let low : q < next = are.below q c in omega arith;
    complete = λ q rule e own has. elim (same_or_apart q n) [
      | inl same ↦ subst (Contains asks) (sym same) (in_if_wanting rule (now_is q rule same e) own has)
      | inr apart ↦ are.complete q rule (was_there q rule apart e) own has
    ];
    own = λ q rule e c. elim (same_or_apart q n) [
      | inl same ↦ own_if_in rule (now_is q rule same e) (subst (Contains asks) same c)
      | inr apart ↦ are.own q rule (was_there q rule apart e) c
    ];
  }

  first_kept : (asks : List ℕ) → IsFirstAskable old asks → (slice_get asks 0 ≡ Some n → ⊥) → IsFirstAskable new asks
  first_kept asks wanting other q e = elim (same_or_apart q n) [
    | inl same ↦ absurd (other (subst (λ p. slice_get asks 0 ≡ Some p) same e))
    | inr apart ↦ ap is_some_unasked (changed.others q apart) ∙ wanting q e
  ]

  -- ---- releasing

  releases_changed : (releases : List ℕ) → AreReleases engine old next releases
      → ((rule : R) → now ≡ Some rule → rule.engine ≡ engine → is_releasable rule ≡ true → Contains releases n)
      → ((rule : R) → now ≡ Some rule → Contains releases n → (rule.engine ≡ engine) × (is_releasable rule ≡ true))
      → AreReleases engine new more releases
  releases_changed releases are in_if_can own_if_in = record {
    below = λ q c. let low : q < next = are.below q c in omega arith;
    complete = λ q rule e own can. elim (same_or_apart q n) [
      | inl same ↦ subst (Contains releases) (sym same) (in_if_can rule (now_is q rule same e) own can)
      | inr apart ↦ are.complete q rule (was_there q rule apart e) own can
    ];
    own = λ q rule e c. elim (same_or_apart q n) [
      | inl same ↦ own_if_in rule (now_is q rule same e) (subst (Contains releases) same c)
      | inr apart ↦ are.own q rule (was_there q rule apart e) c
    ];
  }

  releases_pushed : (releases pushed : List ℕ) (rule : R) → AreReleases engine old next releases → n < more → now ≡ Some rule → rule.engine ≡ engine → is_releasable rule ≡ true
      → IsPermutation (n ∷ releases) pushed → AreReleases engine new more pushed
  releases_pushed releases pushed rule are low is own can moved = record {
    below = λ q c. elim (was_in q c) [ inl same ↦ subst (λ p. p < more) same low | inr there ↦ let under : q < next = are.below q there in omega arith ];
    complete = λ q other e own' can'. elim (same_or_apart q n) [
      | inl same ↦ subst (Contains pushed) (sym same) (Contains-permutation _ _ n moved (contains_here n releases))
      | inr apart ↦ Contains-permutation _ _ q moved (contains_later n releases q (are.complete q other (was_there q other apart e) own' can'))
    ];
    own = λ q other e c. elim (same_or_apart q n) [
      | inl same ↦ let one : rule ≡ other = unsome (sym is ∙ now_is q other same e) in subst (λ x. (x.engine ≡ engine) × (is_releasable x ≡ true)) one (own, can)
      | inr apart ↦ elim (was_in q c) [ inl same ↦ absurd (apart (sym same)) | inr there ↦ are.own q other (was_there q other apart e) there ]
    ];
  }
    where
      was_in : (q : ℕ) → Contains pushed q → (n ≡ q) ⊎ Contains releases q
      was_in q c = contains_cases n releases q (Contains-permutation _ _ q (IsPermutation-sym _ _ moved) c)

  least_kept : (releases : List ℕ) → IsLeastPending old releases → ((IsLeast releases n) → is_some now ≡ true) → IsLeastPending new releases
  least_kept releases pending there q least = elim (same_or_apart q n) [
    | inl same ↦ ap is_some (ap (get new) same ∙ changed.here) ∙ there (subst (IsLeast releases) same least)
    | inr apart ↦ ap is_some (changed.others q apart) ∙ pending q least
  ]

  least_pushed : (releases pushed : List ℕ) → IsLeastPending old releases → is_some now ≡ true → IsPermutation (n ∷ releases) pushed → IsLeastPending new pushed
  least_pushed releases pushed pending there moved q least = elim (same_or_apart q n) [
    | inl same ↦ ap is_some (ap (get new) same ∙ changed.here) ∙ there
    | inr apart ↦ ap is_some (changed.others q apart) ∙ pending q (was_least apart)
  ]
    where
      was_least : (q ≡ n → ⊥) → IsLeast releases q
      was_least apart = record {
        there = elim (contains_cases n releases q (Contains-permutation _ _ q (IsPermutation-sym _ _ moved) least.there)) [ inl same ↦ absurd (apart (sym same)) | inr in_old ↦ in_old ];
        below = λ p c. least.below p (Contains-permutation _ _ p moved (contains_later n releases p c));
      }

  -- ---- the agenda of another engine

  other_zero : (o : Option R) → ((rule : R) → o ≡ Some rule → rule.engine ≡ engine → ⊥) → part (open_count engine) o ≡ 0
  other_zero None h = refl
  other_zero (Some rule) h = ap (λ b. cond (b && not (is_releasable rule)) 1 0) (nat_apart rule.engine engine (h rule refl))

  pub other_agenda : (agenda : Agenda) → IsAgenda engine old next agenda → ((rule : R) → was ≡ Some rule → rule.engine ≡ engine → ⊥) → ((rule : R) → now ≡ Some rule → rule.engine ≡ engine → ⊥)
      → (was ≡ None → next ≤ n) → IsAgenda engine new more agenda
  other_agenda agenda is not_was not_now fresh = record {
    asks = asks_changed agenda.asks.numbers is.asks (λ rule e own has. absurd (not_now rule e own)) (λ rule e c. absurd (no_ask c));
    asked = first_kept agenda.asks.numbers is.asked (λ e. no_ask (first_there n agenda.asks.numbers e));
    releases = releases_changed agenda.releases.numbers is.releases (λ rule e own can. absurd (not_now rule e own)) (λ rule e c. absurd (no_release c));
    released = least_kept agenda.releases.numbers is.released (λ least. absurd (no_release least.there));
    promised =
        let whole : total (open_count engine) new + part (open_count engine) was ≡ total (open_count engine) old + part (open_count engine) now = changed.totals (open_count engine) in
        let zero_was = other_zero was not_was in
        let zero_now = other_zero now not_now in
        let same : total (open_count engine) new ≡ total (open_count engine) old = omega arith in
        same ∙ is.promised;
  }
    where
      no_ask : Contains agenda.asks.numbers n → ⊥
      no_ask c = by was changed.before refl
        where
          by : (o : Option R) → get old n ≡ o → was ≡ o → ⊥
          by None e w = let low : n < next = is.asks.below n c in let high : next ≤ n = fresh w in omega arith
          by (Some rule) e w = not_was rule w (is.asks.own n rule e c)

      no_release : Contains agenda.releases.numbers n → ⊥
      no_release c = by was changed.before refl
        where
          by : (o : Option R) → get old n ≡ o → was ≡ o → ⊥
          by None e w = let low : n < next = is.releases.below n c in let high : next ≤ n = fresh w in omega arith
          by (Some rule) e w = not_was rule w (is.releases.own n rule e c).0

  -- ---- the agenda of the engine itself

  open_before : (rule : R) → was ≡ Some rule → rule.engine ≡ engine → is_releasable rule ≡ false → part (open_count engine) was ≡ 1
  open_before rule is own held = ap (part (open_count engine)) is ∙ one
    where
      one : open_count engine rule ≡ 1
      one = let mine = nat_is rule.engine engine own in rw (mine, held) refl

  -- the release of a rule that can't be released yet is promised
  pub promised_before : (rule : R) → was ≡ Some rule → rule.engine ≡ engine → is_releasable rule ≡ false → (agenda : Agenda) → IsAgenda engine old next agenda → 0 < agenda.releases.promised
  promised_before rule is own held agenda old_is =
      let before = old_is.promised in
      let one = open_before rule is own held in
      let some : part (open_count engine) was ≤ total (open_count engine) old = subst (λ o. part (open_count engine) o ≤ total (open_count engine) old) changed.before (part-le-total nat_cmp nat_cmp_total nat_cmp-IsAntisymmetric (open_count engine) old n) in
      omega arith

  module _ (rule : R) (is : now ≡ Some rule) (own : rule.engine ≡ engine) (agenda after : Agenda) (old_is : IsAgenda engine old next agenda) where
    own_part : part (open_count engine) now ≡ open_count engine rule
    own_part = ap (part (open_count engine)) is

    one_if : (b : Bool) → is_releasable rule ≡ b → open_count engine rule ≡ cond b 0 1
    one_if true can = let mine = nat_is rule.engine engine own in rw (mine, can) refl
    one_if false can = let mine = nat_is rule.engine engine own in rw (mine, can) refl

    only : (other : R) → now ≡ Some other → rule ≡ other
    only other e = unsome (sym is ∙ e)

    first_pushed : IsFirstAskable old agenda.asks.numbers → has_unasked rule ≡ true → ((q : ℕ) → Contains agenda.asks.numbers q → q < n) → IsFirstAskable new (agenda.asks.numbers ++ n ∷ [])
    first_pushed wanting has below q e = elim (appended_first agenda.asks.numbers n q e) [
      | inl head ↦ let low : q < n = below q (first_there q agenda.asks.numbers head) in ap is_some_unasked (changed.others q (λ same. absurd (omega arith))) ∙ wanting q head
      | inr same ↦ ap is_some_unasked (ap (get new) (sym same) ∙ changed.here ∙ is) ∙ has
    ]

    -- a new rule with an unasked parameter
    pub added_asked : was ≡ None → n ≡ next → n < more → has_unasked rule ≡ true → is_releasable rule ≡ false → HasOneMoreAsk n agenda after → IsAgenda engine new more after
    added_asked none at low has cannot does = record {
      asks = subst (AreAsks engine new more) (sym does.asks) pushed;
      asked = subst (IsFirstAskable new) (sym does.asks) (first_pushed old_is.asked has (λ q c. subst (λ k. q < k) (sym at) (old_is.asks.below q c)));
      releases = subst (AreReleases engine new more) (sym does.releases) (releases_changed agenda.releases.numbers old_is.releases
          (λ other e mine can. let no : is_releasable rule ≡ true = subst (λ x. is_releasable x ≡ true) (sym (only other e)) can in absurd cc)
          (λ other e c. let under : n < next = old_is.releases.below n c in absurd (omega arith)));
      released = subst (IsLeastPending new) (sym does.releases) (least_kept agenda.releases.numbers old_is.released (λ least. ap is_some is));
      promised =
          let whole = changed.totals (open_count engine) in
          let zero_was : part (open_count engine) was ≡ 0 = ap (part (open_count engine)) none in
          let one : part (open_count engine) now ≡ 1 = own_part ∙ one_if false cannot in
          let before = old_is.promised in
          let after_is = does.promised in
          omega arith;
    }
      where
        pushed : AreAsks engine new more (agenda.asks.numbers ++ n ∷ [])
        pushed = record {
          rises = appended_rises agenda.asks.numbers n old_is.asks.rises (λ q c. subst (λ k. q < k) (sym at) (old_is.asks.below q c));
          below = λ q c. elim (appended_cases agenda.asks.numbers n q c) [ inl there ↦ let under : q < next = old_is.asks.below q there in omega arith | inr same ↦ subst (λ k. k < more) same low ];
          complete = λ q other e mine has'. elim (same_or_apart q n) [
            | inl same ↦ subst (Contains (agenda.asks.numbers ++ n ∷ [])) (sym same) (appended_last agenda.asks.numbers n)
            | inr apart ↦ appended_old agenda.asks.numbers n q (old_is.asks.complete q other (was_there q other apart e) mine has')
          ];
          own = λ q other e c. elim (same_or_apart q n) [
            | inl same ↦ ap (λ x. x.engine) (sym (only other (now_is q other same e))) ∙ own
            | inr apart ↦ elim (appended_cases agenda.asks.numbers n q c) [ inl there ↦ old_is.asks.own q other (was_there q other apart e) there | inr same ↦ absurd (apart (sym same)) ]
          ];
        }

    -- a new rule is to be released
    pub added_released : was ≡ None → n ≡ next → n < more → has_unasked rule ≡ false → is_releasable rule ≡ true → HasReleased n agenda after → IsAgenda engine new more after
    added_released none at low idle can does = record {
      asks = subst (AreAsks engine new more) (sym does.asks) (asks_changed agenda.asks.numbers old_is.asks
          (λ other e mine has. let no : has_unasked rule ≡ true = subst (λ x. has_unasked x ≡ true) (sym (only other e)) has in absurd cc)
          (λ other e c. let under : n < next = old_is.asks.below n c in absurd (omega arith)));
      asked = subst (IsFirstAskable new) (sym does.asks) (first_kept agenda.asks.numbers old_is.asked
          (λ e. let under : n < next = old_is.asks.below n (first_there n agenda.asks.numbers e) in omega arith));
      releases = releases_pushed agenda.releases.numbers after.releases.numbers rule old_is.releases low is own can does.releases;
      released = least_pushed agenda.releases.numbers after.releases.numbers old_is.released (ap is_some is) does.releases;
      promised =
          let whole = changed.totals (open_count engine) in
          let zero_was : part (open_count engine) was ≡ 0 = ap (part (open_count engine)) none in
          let none_now : part (open_count engine) now ≡ 0 = own_part ∙ one_if true can in
          let before = old_is.promised in
          let after_is = does.promised in
          omega arith;
    }

    -- a parameter is at another stage
    module _ (rule_was : R) (was_is : was ≡ Some rule_was) (own_was : rule_was.engine ≡ engine) (held : is_releasable rule_was ≡ false) (less : has_unasked rule ≡ true → has_unasked rule_was ≡ true)
        (trimmed : after.asks.numbers ≡ from_first (is_askable new) agenda.asks.numbers) where
      there_before : get old n ≡ Some rule_was
      there_before = changed.before ∙ was_is

      staged_asks : AreAsks engine new more after.asks.numbers
      staged_asks = subst (AreAsks engine new more) (sym trimmed) (asks_trimmed (asks_changed agenda.asks.numbers old_is.asks
          (λ other e mine has. old_is.asks.complete n rule_was there_before own_was (less (subst (λ x. has_unasked x ≡ true) (sym (only other e)) has)))
          (λ other e c. ap (λ x. x.engine) (sym (only other e)) ∙ own)))
        where
          asks_trimmed : AreAsks engine new more agenda.asks.numbers → AreAsks engine new more (from_first (is_askable new) agenda.asks.numbers)
          asks_trimmed are = record {
            rises = trimmed_rises (is_askable new) agenda.asks.numbers are.rises;
            below = λ q c. are.below q (trimmed_old (is_askable new) agenda.asks.numbers q c);
            complete = λ q other e mine has. trimmed_kept (is_askable new) agenda.asks.numbers q (ap is_some_unasked e ∙ has) (are.complete q other e mine has);
            own = λ q other e c. are.own q other e (trimmed_old (is_askable new) agenda.asks.numbers q c);
          }

      staged_asked : IsFirstAskable new after.asks.numbers
      staged_asked q e = trimmed_first (is_askable new) agenda.asks.numbers q (subst (λ xs. slice_get xs 0 ≡ Some q) trimmed e)

      not_in : Contains agenda.releases.numbers n → ⊥
      not_in c = let can = (old_is.releases.own n rule_was there_before c).1 in cc

      open_was : part (open_count engine) was ≡ 1
      open_was = open_before rule_was was_is own_was held

      pub staged_released : n < more → is_releasable rule ≡ true → HasMoved n agenda.releases after.releases → IsAgenda engine new more after
      staged_released low can does = record {
        asks = staged_asks;
        asked = staged_asked;
        releases = releases_pushed agenda.releases.numbers after.releases.numbers rule old_is.releases low is own can does.releases;
        released = least_pushed agenda.releases.numbers after.releases.numbers old_is.released (ap is_some is) does.releases;
        promised =
            let whole = changed.totals (open_count engine) in
            let one = open_was in
            let none_now : part (open_count engine) now ≡ 0 = own_part ∙ one_if true can in
            let before = old_is.promised in
            let after_is = does.promised in
            omega arith;
      }

      pub staged_held : is_releasable rule ≡ false → after.releases ≡ agenda.releases → IsAgenda engine new more after
      staged_held cannot same = record {
        asks = staged_asks;
        asked = staged_asked;
        releases = subst (λ x. AreReleases engine new more x.numbers) (sym same) (releases_changed agenda.releases.numbers old_is.releases
            (λ other e mine can. let no : is_releasable rule ≡ true = subst (λ x. is_releasable x ≡ true) (sym (only other e)) can in absurd cc)
            (λ other e c. absurd (not_in c)));
        released = subst (λ x. IsLeastPending new x.numbers) (sym same) (least_kept agenda.releases.numbers old_is.released (λ least. ap is_some is));
        promised =
            let whole = changed.totals (open_count engine) in
            let one = open_was in
            let one_now : part (open_count engine) now ≡ 1 = own_part ∙ one_if false cannot in
            let before = old_is.promised in
            let after_is : after.releases.promised ≡ agenda.releases.promised = ap (λ x. x.promised) same in
            omega arith;
      }

  -- a rule is released
  pub gone_agenda : now ≡ None → (rule : R) → was ≡ Some rule → rule.engine ≡ engine → is_releasable rule ≡ true → has_unasked rule ≡ false → (agenda after : Agenda) → IsAgenda engine old next agenda
      → after.asks ≡ agenda.asks → IsTrimmed new agenda.releases.numbers after.releases.numbers → after.releases.promised ≡ agenda.releases.promised → IsAgenda engine new more after
  gone_agenda gone rule is own can idle agenda after old_is asks trimmed promised = record {
    asks = subst (λ x. AreAsks engine new more x.numbers) (sym asks) (asks_changed agenda.asks.numbers old_is.asks (λ other e mine has. nothing other e) (λ other e c. nothing other e));
    asked = subst (λ x. IsFirstAskable new x.numbers) (sym asks) (first_kept agenda.asks.numbers old_is.asked
        (λ e. let has : is_askable old n ≡ true = old_is.asked n e in let none : is_askable old n ≡ false = ap is_some_unasked there ∙ idle in cc));
    releases = record {
      below = λ q c. let low : q < next = old_is.releases.below q (trimmed.sound q c) in omega arith;
      complete = λ q other e mine can'. elim (same_or_apart q n) [
        | inl same ↦ nothing other (now_is q other same e)
        | inr apart ↦ trimmed.kept q (old_is.releases.complete q other (was_there q other apart e) mine can') (ap is_some e)
      ];
      own = λ q other e c. elim (same_or_apart q n) [
        | inl same ↦ nothing other (now_is q other same e)
        | inr apart ↦ old_is.releases.own q other (was_there q other apart e) (trimmed.sound q c)
      ];
    };
    released = trimmed.least;
    promised =
        let whole = changed.totals (open_count engine) in
        let zero_was : part (open_count engine) was ≡ 0 = ap (part (open_count engine)) is ∙ open_zero in
        let none_now : part (open_count engine) now ≡ 0 = ap (part (open_count engine)) gone in
        let before = old_is.promised in
        omega arith;
  }
    where
      there : get old n ≡ Some rule
      there = changed.before ∙ is

      nothing : {P : Type 0} (other : R) → now ≡ Some other → P
      nothing other e = let none = gone in absurd cc

      open_zero : open_count engine rule ≡ 0
      open_zero = let mine = nat_is rule.engine engine own in rw (mine, can) refl

-- ---- all engines

pub all_agendas : (old new : Rules) (next more : ℕ) (agendas : List Agenda) (engine : ℕ) (after : Agenda) → IsIndexed old next agendas → engine < 4 → IsAgenda engine new more after
    → ((e : ℕ) → (e ≡ engine → ⊥) → (agenda : Agenda) → IsAgenda e old next agenda → IsAgenda e new more agenda)
    → ((number : ℕ) (rule : R) → get new number ≡ Some rule → (number < more) × (rule.engine < 4))
    → IsIndexed new more (slice_set agendas engine after)
all_agendas old new next more agendas engine after is low own others known = record {
  count = length-set agendas engine after ∙ is.count;
  each_engine = λ e agenda at. elim (same_or_apart e engine) [
    | inl same ↦ let one : after ≡ agenda = unsome (sym there ∙ subst (λ k. slice_get (slice_set agendas engine after) k ≡ Some agenda) same at) in
        subst (λ k. IsAgenda k new more agenda) (sym same) (subst (IsAgenda engine new more) one own)
    | inr apart ↦ others e apart agenda (is.each_engine e agenda (sym (get_set_other agendas engine e after apart) ∙ at))
  ];
  known = known;
}
  where
    inside : engine < length agendas
    inside = let count = is.count in omega arith

    there : slice_get (slice_set agendas engine after) engine ≡ Some after
    there = get_set_same agendas engine after inside

-- the first number stays where it passes the test
pub first_passes : (test : ℕ → Bool) (xs : List ℕ) (x : ℕ) → slice_get xs 0 ≡ Some x → test x ≡ true → from_first test xs ≡ xs
first_passes test [] x e t = cc
first_passes test (y ∷ xs) x e t = let same : y ≡ x = cc in let passes : test y ≡ true = subst (λ z. test z ≡ true) (sym same) t in rw passes refl

pub none_passes : (test : ℕ → Bool) (xs : List ℕ) → slice_get xs 0 ≡ None → from_first test xs ≡ xs
none_passes test [] e = refl
none_passes test (y ∷ xs) e = cc
