-- The next ask and the next release of an engine, by look-ups in the map of the rules.
use Rattle.tw_rules.proofs.Names.{Bool, Equal, Greater, Less, List, None, Some, Stage, T, [], and_from, and_parts, ap, arith, cond, entries, entries_sorted, eq_by_cmp, false, find, first, get, get-entries, is_sorted, list_any, nat_cmp, nat_eq, nat_is, nat_lt, nat_same, nat_tests, option_and_then, option_map, refl, second, sym, true, ℕ, ◌&&◌, ◌+◌, ◌<◌, ◌||◌, ◌∙◌, ◌∷◌, ◌≡◌, ◌≤◌}
use Rattle.std.specs.declared.option.Option.{Option}
use Rattle.tw_types.specs.Rule.{RuleOf, RulesOf, ask_or, first_unasked, has_unasked, is_releasable, is_unasked, next_ask, next_ask_of, next_release, next_release_of}
use Rattle.tw_types.proofs.Found.{IsIn, in_first, in_later, later, same_no}

under : (a b : ℕ) → nat_cmp a b ≡ Less → a < b
under a b h = by (nat_lt a b) (nat_eq a b) refl refl h
  where
    by : (l e : Bool) → nat_lt a b ≡ l → nat_eq a b ≡ e → cond l Less (cond e Equal Greater) ≡ Less → a < b
    by true e is same h = grind (arith, nat_tests)
    by false true is same h = cc
    by false false is same h = cc

module _ {X : Type 0} where
  -- the first entry that passes the test
  abbrev pub first_passing : (X → Bool) → List (ℕ × X) → Option (ℕ × X)
  first_passing p [] = None
  first_passing p (e ∷ es) = cond (p e.1) (Some e) (first_passing p es)

  module _ (p : X → Bool) where
    abbrev IsLeastIn : ℕ × X → List (ℕ × X) → Type 0
    IsLeastIn e es = (f : ℕ × X) → IsIn f es → p f.1 ≡ true → e.0 ≤ f.0

    least_first : (es : List (ℕ × X)) (e : ℕ × X) → T (is_sorted nat_cmp es) → IsIn e es → p e.1 ≡ true → IsLeastIn e es → first_passing p es ≡ Some e
    least_first [] e sorted there may least = cc
    least_first (f ∷ es) e sorted there may least =
        by (eq_by_cmp nat_cmp e.0 f.0) refl (λ is. least_first es e (second _ _ sorted) is may (λ g at passes. least g (in_later f g es (first _ _ sorted) at) passes)) there
      where
        by : (b : Bool) → eq_by_cmp nat_cmp e.0 f.0 ≡ b → (IsIn e es → first_passing p es ≡ Some e) → cond b (Some f.1) (find nat_cmp e.0 es) ≡ Some e.1 → cond (p f.1) (Some f) (first_passing p es) ≡ Some e
        by true t rest is =
            let no : e.0 ≡ f.0 = same_no e f t in
            let value : f.1 ≡ e.1 = cc in
            let one : f ≡ e = λ i. (sym no i, value i) in
            rw (one, may) refl
        by false t rest is = chosen (p f.1) refl
          where
            chosen : (b : Bool) → p f.1 ≡ b → cond b (Some f) (first_passing p es) ≡ Some e
            chosen true passes =
                let low : e.0 ≤ f.0 = least f (in_first f es) passes in
                let high : f.0 < e.0 = under f.0 e.0 (later f e es (first _ _ sorted) is) in
                absurd (omega arith)
            chosen false passes = rest is

    none_passing : (es : List (ℕ × X)) → T (is_sorted nat_cmp es) → ((f : ℕ × X) → IsIn f es → p f.1 ≡ false) → first_passing p es ≡ None
    none_passing [] sorted h = refl
    none_passing (f ∷ es) sorted h =
        let here : p f.1 ≡ false = h f (in_first f es) in
        rw here (none_passing es (second _ _ sorted) (λ g at. h g (in_later f g es (first _ _ sorted) at)))

-- ---- stages

pub unasked_some : (k : ℕ) (stages : List Stage) → list_any is_unasked stages ≡ true → (j : ℕ) × (first_unasked k stages ≡ Some j)
unasked_some k [] h = cc
unasked_some k (s ∷ stages) h = by (is_unasked s) h (unasked_some (k + 1) stages)
  where
    by : (b : Bool) → (b || list_any is_unasked stages) ≡ true → (list_any is_unasked stages ≡ true → (j : ℕ) × (first_unasked (k + 1) stages ≡ Some j))
        → (j : ℕ) × (cond b (Some k) (first_unasked (k + 1) stages) ≡ Some j)
    by true h rest = (k, refl)
    by false h rest = rest h

unasked_none : (k : ℕ) (stages : List Stage) → list_any is_unasked stages ≡ false → first_unasked k stages ≡ None
unasked_none k [] h = refl
unasked_none k (s ∷ stages) h = by (is_unasked s) h (unasked_none (k + 1) stages)
  where
    by : (b : Bool) → (b || list_any is_unasked stages) ≡ false → (list_any is_unasked stages ≡ false → first_unasked (k + 1) stages ≡ None) → cond b (Some k) (first_unasked (k + 1) stages) ≡ None
    by true h rest = cc
    by false h rest = rest h

-- ---- an engine's

module _ {A : Type 0} (engine : ℕ) where
  abbrev asks_of : RuleOf A → Bool
  asks_of rule = nat_eq rule.engine engine && has_unasked rule

  abbrev releases_of : RuleOf A → Bool
  releases_of rule = nat_eq rule.engine engine && is_releasable rule

  release_of : (es : List (ℕ × RuleOf A)) → next_release_of engine es ≡ option_map (λ e. e.0) (first_passing releases_of es)
  release_of [] = refl
  release_of (e ∷ es) = by (releases_of e.1) (release_of es)
    where
      by : (b : Bool) → next_release_of engine es ≡ option_map (λ e. e.0) (first_passing releases_of es) → cond b (Some e.0) (next_release_of engine es) ≡ option_map (λ f. f.0) (cond b (Some e) (first_passing releases_of es))
      by true rest = refl
      by false rest = rest

  abbrev asked_of : ℕ × RuleOf A → Option (ℕ × ℕ)
  asked_of e = option_map (λ j. (e.0, j)) (first_unasked 0 e.1.stages)

  ask_of : (es : List (ℕ × RuleOf A)) → next_ask_of engine es ≡ option_and_then asked_of (first_passing asks_of es)
  ask_of [] = refl
  ask_of (e ∷ es) = by (nat_eq e.1.engine engine) (list_any is_unasked e.1.stages) refl (ask_of es)
    where
      by : (own has : Bool) → list_any is_unasked e.1.stages ≡ has → next_ask_of engine es ≡ option_and_then asked_of (first_passing asks_of es)
          → cond own (ask_or e.0 (first_unasked 0 e.1.stages) (next_ask_of engine es)) (next_ask_of engine es) ≡ option_and_then asked_of (cond (own && has) (Some e) (first_passing asks_of es))
      by true true is rest = let some = unasked_some 0 e.1.stages is in rw (some.1) refl
      by true false is rest = rw (unasked_none 0 e.1.stages is) rest
      by false has is rest = rest

  module _ (rules : RulesOf A) where
    pub next_release_is : (number : ℕ) (rule : RuleOf A) → get rules number ≡ Some rule → rule.engine ≡ engine → is_releasable rule ≡ true
        → ((q : ℕ) (other : RuleOf A) → get rules q ≡ Some other → other.engine ≡ engine → is_releasable other ≡ true → number ≤ q) → next_release engine rules ≡ Some number
    unfolding next_release
    next_release_is number rule there own can least =
        release_of (entries rules)
        ∙ ap (option_map (λ e. e.0)) (least_first releases_of (entries rules) (number, rule) (entries_sorted rules) (sym (get-entries rules number) ∙ there)
        (and_from _ _ (nat_is rule.engine engine own) can)
        (λ f at passes. least f.0 f.1 (get-entries rules f.0 ∙ at) (nat_same f.1.engine engine (and_parts _ _ passes).0) (and_parts (nat_eq f.1.engine engine) _ passes).1))

    not_both : (a b : Bool) → (a ≡ true → b ≡ true → ⊥) → (a && b) ≡ false
    not_both true true h = absurd (h refl refl)
    not_both true false h = refl
    not_both false b h = refl

    pub next_release_none : ((q : ℕ) (other : RuleOf A) → get rules q ≡ Some other → other.engine ≡ engine → is_releasable other ≡ true → ⊥) → next_release engine rules ≡ None
    unfolding next_release
    next_release_none none =
        release_of (entries rules)
        ∙ ap (option_map (λ e. e.0)) (none_passing releases_of (entries rules) (entries_sorted rules)
        (λ f at. not_both _ _ (λ own can. none f.0 f.1 (get-entries rules f.0 ∙ at) (nat_same f.1.engine engine own) can)))

    pub next_ask_is : (number j : ℕ) (rule : RuleOf A) → get rules number ≡ Some rule → rule.engine ≡ engine → has_unasked rule ≡ true → first_unasked 0 rule.stages ≡ Some j
        → ((q : ℕ) (other : RuleOf A) → get rules q ≡ Some other → other.engine ≡ engine → has_unasked other ≡ true → number ≤ q) → next_ask engine rules ≡ Some (number, j)
    unfolding next_ask
    next_ask_is number j rule there own has at least =
        ask_of (entries rules)
        ∙ ap (option_and_then asked_of) (least_first asks_of (entries rules) (number, rule) (entries_sorted rules) (sym (get-entries rules number) ∙ there)
        (and_from _ _ (nat_is rule.engine engine own) has)
        (λ f is passes. least f.0 f.1 (get-entries rules f.0 ∙ is) (nat_same f.1.engine engine (and_parts _ _ passes).0) (and_parts (nat_eq f.1.engine engine) _ passes).1))
        ∙ ap (option_map (λ j. (number, j))) at

    pub next_ask_none : ((q : ℕ) (other : RuleOf A) → get rules q ≡ Some other → other.engine ≡ engine → has_unasked other ≡ true → ⊥) → next_ask engine rules ≡ None
    unfolding next_ask
    next_ask_none none =
        ask_of (entries rules)
        ∙ ap (option_and_then asked_of) (none_passing asks_of (entries rules) (entries_sorted rules)
        (λ f at. not_both _ _ (λ own has. none f.0 f.1 (get-entries rules f.0 ∙ at) (nat_same f.1.engine engine own) has)))
