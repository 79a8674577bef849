-- Arguments that fit the stages of their rules.
use Rattle.tw_rules.proofs.Names.{AllZip, AreArgsOf, AreFitting, Arg, Bool, FitsStages, Free, List, Param, Ready, RuleOf, Rules, Stage, SuitsMode, SuitsStage, Unasked, Waiting, [], arith, at_stage, cond, empty, false, first_stage, first_unasked, get, get-empty, inl, inr, insert, is_settled, is_unasked, map, nat_cmp, read_right, refl, remove, right_at, same_or_apart, slice_set, stage_at, staged, subst, suc, sym, true, unsome, zero, ℕ, ◌+◌, ◌∙◌, ◌∷◌, ◌≡◌}
use Rattle.std.specs.Prelude.{Option, Some, None, IsSome, slice_get, option_map}
use Rattle.std.specs.Option.{option_and_then}
use Rattle.tw_types.specs.declared.param.Mode.{Mode}
use Rattle.tw_types.specs.declared.param.Mode.TheVariants as mode
use Rattle.tw_types.specs.declared.value.Value.{Value}
use Rattle.tw_rights.specs.declared.held.Held.{Held}
use Rattle.tw_rights.specs.declared.held.Held.TheVariants as held
use Rattle.tw_rights.specs.Bundled.{Bundled, BundledOne, bundled, bundled_one, read_left, value_left, with_arg, write_left}
use Rattle.tw_rules.proofs.Changes.{Changed, changed_insert, changed_remove}
use Rattle.tw_rules.proofs.Tables.{open_rule, staged_is}

abbrev R : Type 0
R = RuleOf Arg

-- ---- a new rule

first_suits : (m : Mode) (a : Arg) → SuitsMode m a → SuitsStage a (first_stage m)
first_suits mode.Val a h = tt
first_suits mode.Closed a h = h
first_suits mode.Ref a h = tt
first_suits mode.Write a h = tt

pub new_fits : (params : List Param) (args : List Arg) → AreArgsOf params args → AllZip SuitsStage args (map (λ p. first_stage p.mode) params)
new_fits [] [] h = tt
new_fits [] (a ∷ args) h = h
new_fits (p ∷ params) [] h = h
new_fits (p ∷ params) (a ∷ args) h = (first_suits p.mode a h.0, new_fits params args h.1)

pub fitting_empty : AreFitting empty
fitting_empty number rule e = let none : get (empty {X = R} {R = nat_cmp}) number ≡ None = get-empty nat_cmp number in absurd cc

-- ---- one rule more, or another in its place

fitting_put : (rules : Rules) (number : ℕ) (rule : R) (was : Option R) → get rules number ≡ was → AreFitting rules → FitsStages rule → AreFitting (insert rules number rule)
fitting_put rules number rule was there all one q other e =
    let put : Changed number was (Some rule) rules (insert rules number rule) = changed_insert rules number was rule there in
    elim (same_or_apart q number) as (λ _. FitsStages other) [
      | inl same ↦ subst FitsStages (unsome (sym put.here ∙ subst (λ k. get (insert rules number rule) k ≡ Some other) same e)) one
      | inr apart ↦ all q other (sym (put.others q apart) ∙ e)
    ]

pub fitting_added : (rules : Rules) (number : ℕ) (rule : R) → AreFitting rules → FitsStages rule → AreFitting (insert rules number rule)
fitting_added rules number rule all one = fitting_put rules number rule (get rules number) refl all one

-- ---- a parameter is at another stage

any_stage : (a : Arg) (s t : Stage) → is_settled s ≡ false → SuitsStage a s → SuitsStage a t
any_stage a Free t e h = cc
any_stage a Unasked t e h = whatever t
  where
    whatever : (u : Stage) → SuitsStage a u
    whatever Free = tt
    whatever Unasked = h
    whatever Waiting = h
    whatever Ready = h
any_stage a Waiting t e h = whatever t
  where
    whatever : (u : Stage) → SuitsStage a u
    whatever Free = tt
    whatever Unasked = h
    whatever Waiting = h
    whatever Ready = h
any_stage a Ready t e h = cc

set_fits : (args : List Arg) (stages : List Stage) (p : ℕ) (s : Stage) → option_map is_settled (slice_get stages p) ≡ Some false → AllZip SuitsStage args stages → AllZip SuitsStage args (slice_set stages p s)
set_fits [] [] p s e h = h
set_fits (a ∷ args) [] p s e h = h
set_fits [] (t ∷ stages) p s e h = absurd h
set_fits (a ∷ args) (t ∷ stages) zero s e h = (any_stage a t s (unsome e) h.0, h.1)
set_fits (a ∷ args) (t ∷ stages) (suc p) s e h = (h.0, set_fits args stages p s e h.1)

pub fitting_staged : (rules : Rules) (number parameter : ℕ) (stage : Stage) → option_map is_settled (stage_at rules number parameter) ≡ Some false → AreFitting rules → AreFitting (staged rules number parameter stage)
fitting_staged rules number parameter stage unsettled all =
    let found = open_rule rules number parameter unsettled in
    subst AreFitting (sym (staged_is rules number parameter stage found.0 found.1))
    (fitting_put rules number (at_stage found.0 parameter stage) (Some found.0) found.1 all (set_fits found.0.args found.0.stages parameter stage found.2 (all number found.0 found.1)))

-- ---- a rule is released

pub fitting_gone : (rules : Rules) (number : ℕ) (rule : R) → get rules number ≡ Some rule → AreFitting rules → AreFitting (remove rules number)
fitting_gone rules number rule there all q other e =
    let gone : Changed number (Some rule) None rules (remove rules number) = changed_remove rules number (Some rule) there in
    elim (same_or_apart q number) as (λ _. FitsStages other) [
      | inl same ↦ (let some = subst (λ k. get (remove rules number) k ≡ Some other) same e in let none = gone.here in absurd cc)
      | inr apart ↦ all q other (sym (gone.others q apart) ∙ e)
    ]

-- ---- a parameter that is asked for is a read right

unasked_right : (a : Arg) (s : Stage) → is_unasked s ≡ true → SuitsStage a s → IsSome (read_right a)
unasked_right a Free e h = cc
unasked_right a Unasked e h = h
unasked_right a Waiting e h = cc
unasked_right a Ready e h = cc

first_right : (k : ℕ) (args : List Arg) (stages : List Stage) (p : ℕ) → AllZip SuitsStage args stages → first_unasked k stages ≡ Some p → (i : ℕ) × (p ≡ k + i) × IsSome (option_and_then read_right (slice_get args i))
first_right k [] [] p h e = cc
first_right k (a ∷ args) [] p h e = cc
first_right k [] (s ∷ stages) p h e = absurd h
first_right k (a ∷ args) (s ∷ stages) p h e = by (is_unasked s) refl e (first_right (k + 1) args stages p h.1)
  where
    by : (b : Bool) → is_unasked s ≡ b → cond b (Some k) (first_unasked (k + 1) stages) ≡ Some p → (first_unasked (k + 1) stages ≡ Some p → (i : ℕ) × (p ≡ k + 1 + i) × IsSome (option_and_then read_right (slice_get args i)))
        → (i : ℕ) × (p ≡ k + i) × IsSome (option_and_then read_right (slice_get (a ∷ args) i))
    by true is here rest = let one : k ≡ p = unsome here in (zero, omega (arith, one), unasked_right a s is h.0)
    by false is later rest = let found = rest later in (suc found.0, omega (arith, found.1), found.2)

pub asked_right : (rules : Rules) (number : ℕ) (rule : R) (p : ℕ) → get rules number ≡ Some rule → AreFitting rules → first_unasked 0 rule.stages ≡ Some p → IsSome (right_at rules number p)
asked_right rules number rule p there all e =
    let found = first_right 0 rule.args rule.stages p (all number rule there) e in
    let at : p ≡ found.0 = omega (arith, found.1) in
    subst (λ o. IsSome (option_and_then read_right (option_and_then (λ (r : R). slice_get r.args p) o))) (sym there) (subst (λ k. IsSome (option_and_then read_right (slice_get rule.args k))) (sym at) found.2)

-- ---- arguments that were taken out of registers by the parameters are such as their modes ask for

read_suits : (file : List (Option Held)) (register : ℕ) (values : List Value) (o : Option Held) (one : BundledOne) → read_left file register values o ≡ Some one → IsSome (read_right one.arg)
read_suits file register values None one e = cc
read_suits file register values (Some (held.Read right)) one e = subst (λ (x : BundledOne). IsSome (read_right x.arg)) (unsome e) refl
read_suits file register values (Some (held.Write right)) one e = cc

one_suits : (file : List (Option Held)) (m : Mode) (register : ℕ) (values : List Value) (one : BundledOne) → bundled_one file m register values ≡ Some one → SuitsMode m one.arg
one_suits file mode.Val register values one e = at values e
  where
    at : (xs : List Value) → value_left file xs ≡ Some one → SuitsMode mode.Val one.arg
    at [] h = cc
    at (value ∷ xs) h = subst (λ (x : BundledOne). SuitsMode mode.Val x.arg) (unsome h) tt
one_suits file mode.Closed register values one e = read_suits file register values _ one e
one_suits file mode.Ref register values one e = read_suits file register values _ one e
one_suits file mode.Write register values one e = at _ e
  where
    at : (o : Option Held) → write_left file register values o ≡ Some one → SuitsMode mode.Write one.arg
    at None h = cc
    at (Some (held.Read right)) h = cc
    at (Some (held.Write right)) h = subst (λ (x : BundledOne). SuitsMode mode.Write x.arg) (unsome h) tt

pub bundled_suit : (file : List (Option Held)) (params : List Param) (registers : List ℕ) (values : List Value) (b : Bundled) → bundled file params registers values ≡ Some b → AreArgsOf params b.args
bundled_suit file [] registers values b e = subst (λ (x : Bundled). AreArgsOf [] x.args) (unsome e) tt
bundled_suit file (p ∷ params) [] values b e = cc
bundled_suit file (p ∷ params) (register ∷ registers) values b e = first (bundled_one file p.mode register values) refl (λ one others then. bundled_suit one.file params registers one.values others then) e
  where
    rest : (one : BundledOne) → bundled_one file p.mode register values ≡ Some one → (o : Option Bundled) → ((others : Bundled) → o ≡ Some others → AreArgsOf params others.args) → option_map (with_arg one.arg) o ≡ Some b → AreArgsOf (p ∷ params) b.args
    rest one is None later h = cc
    rest one is (Some others) later h = subst (λ (x : Bundled). AreArgsOf (p ∷ params) x.args) (unsome h) (one_suits file p.mode register values one is, later others refl)

    first : (o : Option BundledOne) → bundled_one file p.mode register values ≡ o → ((one : BundledOne) (others : Bundled) → bundled one.file params registers one.values ≡ Some others → AreArgsOf params others.args)
        → option_and_then (λ one. option_map (with_arg one.arg) (bundled one.file params registers one.values)) o ≡ Some b → AreArgsOf (p ∷ params) b.args
    first None is later h = cc
    first (Some one) is later h = rest one is (bundled one.file params registers one.values) (later one) h
