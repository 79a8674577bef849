-- The tasks and rules that an actor takes, asks for or releases next, and when there is one.
use Rattle.std.proofs.Common.{◌≡◌, ℕ, suc, ◌+◌, ◌==◌, ◌⊎◌, inl, inr, Bool, true, false, ◌&&◌, ◌||◌, if◌then◌else◌, List, [], ◌∷◌, map, slice_get, Option, Some, None, is_some, refl, sym, ap, subst, ◌∙◌, arith, nat_cmp}
use Rattle.std.proofs.lemmas.Bool.{and_parts}
use Rattle.std.proofs.lemmas.Option.{same_Some}
use Rattle.std.specs.Cmp.{nat_cmp_total}
use Rattle.std.specs.FinMap.{get, entries}
use Rattle.std.specs.List.{list_any}
use Rattle.tw_types.specs.declared.actor.Actor.{Actor}
use Rattle.tw_types.specs.declared.stage.Stage.{Stage}
use Rattle.tw_types.specs.declared.stage.Stage.TheVariants.{Unasked}
use Rattle.tw_types.specs.Rule.{Rule, Rules, is_unasked, has_unasked, is_releasable, first_unasked, ask_or, next_ask_of, next_ask, next_release_of, next_release}
use Rattle.tw_types.specs.Task.{Task, Tasks, is_eligible, better, best_of, best}
use Rattle.tw_types.proofs.Totals.{IsEntry, get_entry}
use Rattle.tw_code.proofs.Leaving.{unasked}

-- an entry that passes a test
pub any_entry : {K X : Type 0} (test : X → Bool) (es : List (K × X)) → list_any test (map (λ e. e.1) es) ≡ true → (e : K × X) × IsEntry e es × (test e.1 ≡ true)
any_entry test [] h = cc
any_entry test (e ∷ es) h = by (test e.1) refl (any_entry test es) h
  where
    by : (b : Bool) → test e.1 ≡ b → (list_any test (map (λ e. e.1) es) ≡ true → (f : _) × IsEntry f es × (test f.1 ≡ true)) → (b || list_any test (map (λ e. e.1) es)) ≡ true
        → (f : _) × IsEntry f (e ∷ es) × (test f.1 ≡ true)
    by true is others h = (e, inl refl, is)
    by false is others h = let f = others h in (f.0, inr f.1, f.2)

-- one of two Somes
some_if : {A : Type 0} (b : Bool) (x y : Option A) → is_some x ≡ true → is_some y ≡ true → is_some (if b then x else y) ≡ true
some_if true x y h k = h
some_if false x y h k = k

-- ---- tasks

some_best : (actor : Actor) (es : List (ℕ × Task)) (e : ℕ × Task) → IsEntry e es → is_eligible actor e.1 ≡ true → is_some (best_of actor es) ≡ true
some_best actor [] e i may = absurd i
some_best actor (f ∷ es) e (inl is) may = let here : is_eligible actor f.1 ≡ true = ap (λ (g : ℕ × Task). is_eligible actor g.1) (sym is) ∙ may in rw here refl
some_best actor (f ∷ es) e (inr i) may = some_if (is_eligible actor f.1) (Some (better f (best_of actor es))) (best_of actor es) refl (some_best actor es e i may)

-- if a task waits that the actor may take, it takes one
pub best_there : (actor : Actor) (tasks : Tasks) (e : ℕ × Task) → IsEntry e (entries tasks) → is_eligible actor e.1 ≡ true → is_some (best actor tasks) ≡ true
unfolding best
best_there actor tasks e i may = some_best actor (entries tasks) e i may

-- ---- rules

first_at : (k j : ℕ) (stages : List Stage) → first_unasked k stages ≡ Some j → (i : ℕ) × (j ≡ k + i) × (slice_get stages i ≡ Some Unasked)
first_at k j [] h = cc
first_at k j (stage ∷ stages) h = by (is_unasked stage) refl (first_at (k + 1) j stages) h
  where
    by : (b : Bool) → is_unasked stage ≡ b → (first_unasked (k + 1) stages ≡ Some j → (i : ℕ) × (j ≡ (k + 1) + i) × (slice_get stages i ≡ Some Unasked)) → (if b then Some k else first_unasked (k + 1) stages) ≡ Some j
        → (i : ℕ) × (j ≡ k + i) × (slice_get (stage ∷ stages) i ≡ Some Unasked)
    by true is others h = let same = same_Some k j h in (0, omega (arith, same), ap Some (unasked stage is))
    by false is others h = let at = others h in (suc at.0, omega (arith, at.1), at.2)

-- an entry of the engine's own rules with P
pub record IsOwn (engine : ℕ) (P : Rule → Type 0) (number : ℕ) (es : List (ℕ × Rule)) : Type 0 where
  pub rule : Rule
  pub there : IsEntry (number, rule) es
  pub own : (rule.engine == engine) ≡ true
  pub has : P rule

one_more : {engine : ℕ} {P : Rule → Type 0} {number : ℕ} {es : List (ℕ × Rule)} (e : ℕ × Rule) → IsOwn engine P number es → IsOwn engine P number (e ∷ es)
one_more e a = record { rule = a.rule; there = inr a.there; own = a.own; has = a.has }

pub own_rule_there : (engine : ℕ) (P : Rule → Type 0) (number : ℕ) (rules : Rules) (a : IsOwn engine P number (entries rules)) → get rules number ≡ Some a.rule
own_rule_there engine P number rules a = get_entry nat_cmp nat_cmp_total rules (number, a.rule) a.there

abbrev pub IsUnaskedAt : ℕ → Rule → Type 0
IsUnaskedAt parameter rule = slice_get rule.stages parameter ≡ Some Unasked

abbrev pub MayBeReleased : Rule → Type 0
MayBeReleased rule = is_releasable rule ≡ true

ask_is : (engine number parameter : ℕ) (es : List (ℕ × Rule)) → next_ask_of engine es ≡ Some (number, parameter) → IsOwn engine (IsUnaskedAt parameter) number es
ask_is engine number parameter [] h = cc
ask_is engine number parameter (e ∷ es) h = by (e.1.engine == engine) refl (λ later. one_more e (ask_is engine number parameter es later)) h
  where
    asked : (e.1.engine == engine) ≡ true → (next_ask_of engine es ≡ Some (number, parameter) → IsOwn engine (IsUnaskedAt parameter) number (e ∷ es)) → (o : Option ℕ) → first_unasked 0 e.1.stages ≡ o → ask_or e.0 o (next_ask_of engine es) ≡ Some (number, parameter) → IsOwn engine (IsUnaskedAt parameter) number (e ∷ es)
    asked own others None at h = others h
    asked own others (Some j) at h =
        let same = same_Some (e.0, j) (number, parameter) h in
        let first = first_at 0 j e.1.stages at in
        let j_is = first.1 in
        let parameter_is = ap (λ (q : ℕ × ℕ). q.1) same in
        record { rule = e.1; there = inl (ap (λ (q : ℕ × ℕ). (q.0, e.1)) (sym same)); own = own; has = subst (λ k. slice_get e.1.stages k ≡ Some Unasked) (omega (arith, j_is, parameter_is)) first.2 }

    by : (b : Bool) → (e.1.engine == engine) ≡ b → (next_ask_of engine es ≡ Some (number, parameter) → IsOwn engine (IsUnaskedAt parameter) number (e ∷ es)) → (if b then ask_or e.0 (first_unasked 0 e.1.stages) (next_ask_of engine es) else next_ask_of engine es) ≡ Some (number, parameter) → IsOwn engine (IsUnaskedAt parameter) number (e ∷ es)
    by true own others h = asked own others (first_unasked 0 e.1.stages) refl h
    by false own others h = others h

-- the rule of which an engine asks for a parameter is its own, and the parameter is unasked
pub ask_found : (engine number parameter : ℕ) (rules : Rules) → next_ask engine rules ≡ Some (number, parameter) → IsOwn engine (IsUnaskedAt parameter) number (entries rules)
unfolding next_ask
ask_found engine number parameter rules h = ask_is engine number parameter (entries rules) h

release_is : (engine number : ℕ) (es : List (ℕ × Rule)) → next_release_of engine es ≡ Some number → IsOwn engine MayBeReleased number es
release_is engine number [] h = cc
release_is engine number (e ∷ es) h = by ((e.1.engine == engine) && is_releasable e.1) refl (release_is engine number es) h
  where
    by : (b : Bool) → ((e.1.engine == engine) && is_releasable e.1) ≡ b → (next_release_of engine es ≡ Some number → IsOwn engine MayBeReleased number es) → (if b then Some e.0 else next_release_of engine es) ≡ Some number → IsOwn engine MayBeReleased number (e ∷ es)
    by true own others h = let both = and_parts (e.1.engine == engine) (is_releasable e.1) own in record { rule = e.1; there = inl (ap (λ (n : ℕ). (n, e.1)) (sym (same_Some e.0 number h))); own = both.0; has = both.1 }
    by false own others h = one_more e (others h)

-- the rule that an engine releases is its own, and can be released
pub release_found : (engine number : ℕ) (rules : Rules) → next_release engine rules ≡ Some number → IsOwn engine MayBeReleased number (entries rules)
unfolding next_release
release_found engine number rules h = release_is engine number (entries rules) h

some_first : (k : ℕ) (stages : List Stage) → list_any is_unasked stages ≡ true → is_some (first_unasked k stages) ≡ true
some_first k [] h = cc
some_first k (stage ∷ stages) h = by (is_unasked stage) (some_first (k + 1) stages) h
  where
    by : (b : Bool) → (list_any is_unasked stages ≡ true → is_some (first_unasked (k + 1) stages) ≡ true) → (b || list_any is_unasked stages) ≡ true → is_some (if b then Some k else first_unasked (k + 1) stages) ≡ true
    by true others h = refl
    by false others h = others h

ask_some : (number : ℕ) (o : Option ℕ) (others : Option (ℕ × ℕ)) → is_some o ≡ true ⊎ is_some others ≡ true → is_some (ask_or number o others) ≡ true
ask_some number None others (inl h) = cc
ask_some number None others (inr h) = h
ask_some number (Some j) others h = refl

some_ask : (engine : ℕ) (es : List (ℕ × Rule)) (e : ℕ × Rule) → IsEntry e es → (e.1.engine == engine) ≡ true → has_unasked e.1 ≡ true → is_some (next_ask_of engine es) ≡ true
some_ask engine [] e i own h = absurd i
some_ask engine (f ∷ es) e (inl is) own h =
    let here : (f.1.engine == engine) ≡ true = ap (λ (g : ℕ × Rule). g.1.engine == engine) (sym is) ∙ own in
    let one = some_first 0 f.1.stages (ap (λ (g : ℕ × Rule). has_unasked g.1) (sym is) ∙ h) in
    rw here (ask_some f.0 (first_unasked 0 f.1.stages) (next_ask_of engine es) (inl one))
some_ask engine (f ∷ es) e (inr i) own h =
    let later = some_ask engine es e i own h in
    some_if (f.1.engine == engine) (ask_or f.0 (first_unasked 0 f.1.stages) (next_ask_of engine es)) (next_ask_of engine es) (ask_some f.0 (first_unasked 0 f.1.stages) (next_ask_of engine es) (inr later)) later

-- if one of its rules has an unasked parameter, an engine asks
pub ask_there : (engine : ℕ) (rules : Rules) (e : ℕ × Rule) → IsEntry e (entries rules) → (e.1.engine == engine) ≡ true → has_unasked e.1 ≡ true → is_some (next_ask engine rules) ≡ true
unfolding next_ask
ask_there engine rules e i own h = some_ask engine (entries rules) e i own h

some_release : (engine : ℕ) (es : List (ℕ × Rule)) (e : ℕ × Rule) → IsEntry e es → (e.1.engine == engine) ≡ true → is_releasable e.1 ≡ true → is_some (next_release_of engine es) ≡ true
some_release engine [] e i own h = absurd i
some_release engine (f ∷ es) e (inl is) own h =
    let here : (f.1.engine == engine) ≡ true = ap (λ (g : ℕ × Rule). g.1.engine == engine) (sym is) ∙ own in
    let may : is_releasable f.1 ≡ true = ap (λ (g : ℕ × Rule). is_releasable g.1) (sym is) ∙ h in
    rw (here, may) refl
some_release engine (f ∷ es) e (inr i) own h = some_if ((f.1.engine == engine) && is_releasable f.1) (Some f.0) (next_release_of engine es) refl (some_release engine es e i own h)

-- if one of its rules can be released, an engine releases one
pub release_there : (engine : ℕ) (rules : Rules) (e : ℕ × Rule) → IsEntry e (entries rules) → (e.1.engine == engine) ≡ true → is_releasable e.1 ≡ true → is_some (next_release engine rules) ≡ true
unfolding next_release
release_there engine rules e i own h = some_release engine (entries rules) e i own h
