-- Following main's calls until one leads back takes at most as many steps as there are procedures.
use Rattle.tw_bounds.proofs.Names.{AreReported, AtMost, Bool, Bound, Calls, CallsEnd, CallsEndless, Endless, Instr, IsBoundable, IsCall, IsCircle, IsEndless, LeadsTo, List, None, Option, Over, Procedure, Some, Weights, [], ap, arith, bound_at, eqb, eqb-false, eqb-true, false, greatest_bound, if◌then◌else◌, inl, inr, length, nat_le, option_flatten, option_map, refl, reported, same_Some, slice_get, slice_get-get_or, slice_get-map, slice_get_within, subst, sym, true, ℕ, ◌++◌, ◌<◌, ◌||◌, ◌∙◌, ◌∷◌, ◌≡◌, ◌⊎◌}
use Rattle.std.specs.List.{AllByRecursion, IsDistinct, list_any}
use Rattle.std.proofs.lemmas.Map.Steps.{length-le_from_distinct_below}
use Rattle.tw_code.specs.declared.instr.Instr.TheVariants as instr

-- a call of an instruction is one of its procedure
pub call_at : (program : List Procedure) (k place q : ℕ) (p : Procedure) (i : Instr) → slice_get program k ≡ Some p → slice_get p.code place ≡ Some i → IsCall i q → (call : Calls program k q) × (call.1 ≡ place)
call_at program k place q p (instr.Rule action) here at same = ((p, place, action, here, inl at, same), refl)
call_at program k place q p (instr.Put action) here at same = ((p, place, action, here, inr at, same), refl)
call_at program k place q p (instr.Local i) here at same = absurd same
call_at program k place q p (instr.Data i) here at same = absurd same
call_at program k place q p instr.Ret here at same = absurd same

-- a procedure calls what its code calls
pub called : (program : List Procedure) (bounds : List Bound) (k : ℕ) (p : Procedure) (code : List Instr) (place q : ℕ) → slice_get program k ≡ Some p → code ≡ p.code → CallsEndless bounds code place q → (call : Calls program k q) × (call.1 ≡ place)
called program bounds k p code place q here is calls = call_at program k place q p calls.0 here (subst (λ (c : List Instr). slice_get c place ≡ Some calls.0) is calls.1) calls.2

-- ---- lists of numbers without repetition

either_true : (a b : Bool) → (a || b) ≡ true → (a ≡ true) ⊎ (b ≡ true)
either_true true b e = inl refl
either_true false b e = inr e

either_false : (a b : Bool) → (a || b) ≡ false → (a ≡ false) × (b ≡ false)
either_false true b e = cc
either_false false b e = (refl, e)

eqb_same : (a b : ℕ) → eqb a b ≡ eqb b a
eqb_same a b = by (eqb a b) (eqb b a) refl refl
  where
    by : (x y : Bool) → eqb a b ≡ x → eqb b a ≡ y → eqb a b ≡ eqb b a
    by true true e f = e ∙ sym f
    by false false e f = e ∙ sym f
    by true false e f = absurd (eqb-false b a f (sym (eqb-true a b e)))
    by false true e f = absurd (eqb-false a b e (sym (eqb-true b a f)))

any_same : (q : ℕ) (xs : List ℕ) → list_any (λ y. eqb y q) xs ≡ list_any (eqb q) xs
any_same q [] = refl
any_same q (x ∷ xs) = ap (λ (b : Bool). b || list_any (λ y. eqb y q) xs) (eqb_same x q) ∙ ap (λ (b : Bool). eqb q x || b) (any_same q xs)

pub any_turned : (q : ℕ) (xs : List ℕ) (b : Bool) → b ≡ list_any (λ y. eqb y q) xs → b ≡ list_any (eqb q) xs
any_turned q xs b e = e ∙ any_same q xs

member_snoc : (chain : List ℕ) (here q : ℕ) → list_any (eqb q) (chain ++ here ∷ []) ≡ true → (list_any (eqb q) chain ≡ true) ⊎ (q ≡ here)
member_snoc [] here q e = elim (either_true (eqb q here) false e) [
  | inl same ↦ inr (eqb-true q here same)
  | inr wrong ↦ cc
]
member_snoc (x ∷ chain) here q e = elim (either_true (eqb q x) (list_any (eqb q) (chain ++ here ∷ [])) e) [
  | inl same ↦ inl (ap (λ (b : Bool). b || list_any (eqb q) chain) same)
  | inr rest ↦ elim (member_snoc chain here q rest) [
    | inl among ↦ inl (ap (λ (b : Bool). eqb q x || b) among ∙ or_true (eqb q x))
    | inr same ↦ inr same
  ]
]
  where
    or_true : (b : Bool) → (b || true) ≡ true
    or_true true = refl
    or_true false = refl

all_snoc : (x here : ℕ) (chain : List ℕ) → AllByRecursion (λ y. eqb x y ≡ false) chain → eqb x here ≡ false → AllByRecursion (λ y. eqb x y ≡ false) (chain ++ here ∷ [])
all_snoc x here [] all new = (new, tt)
all_snoc x here (y ∷ chain) all new = (all.0, all_snoc x here chain all.1 new)

distinct_snoc : (chain : List ℕ) (here : ℕ) → IsDistinct eqb chain → list_any (eqb here) chain ≡ false → IsDistinct eqb (chain ++ here ∷ [])
unfolding IsDistinct
distinct_snoc [] here apart new = (tt, tt)
distinct_snoc (x ∷ chain) here apart new =
    let both = either_false (eqb here x) (list_any (eqb here) chain) new in
    (all_snoc x here chain apart.0 (eqb_same x here ∙ both.0), distinct_snoc chain here apart.1 both.1)

all_apart : (chain : List ℕ) (here : ℕ) → list_any (eqb here) chain ≡ false → AllByRecursion (λ y. eqb here y ≡ false) chain
all_apart [] here new = tt
all_apart (x ∷ chain) here new = let both = either_false (eqb here x) (list_any (eqb here) chain) new in (both.0, all_apart chain here both.1)

-- ---- the chain of calls so far, and where it leads

pub record IsChain (program : List Procedure) (bounds : List Bound) (chain : List ℕ) (here : ℕ) : Type 0 where
  pub from_main : LeadsTo program 0 here
  pub leads : (q : ℕ) → list_any (eqb q) chain ≡ true → LeadsTo program q here
  pub apart : IsDistinct eqb chain
  pub fresh : list_any (eqb here) chain ≡ false
  pub below : (q : ℕ) → list_any (eqb q) chain ≡ true → q < length program
  pub endless_here : IsEndless bounds here

-- ---- which procedures are reported to have no bound

none_reported : (o : Option ℕ) → reported o ≡ Endless → o ≡ None
none_reported None e = refl
none_reported (Some n) e = by (nat_le n greatest_bound) e
  where
    by : (b : Bool) → (if b then AtMost n else Over) ≡ Endless → Some n ≡ None
    by true e = cc
    by false e = cc

module _ (program : List Procedure) (weights : Weights) (bounds : List Bound) (are : AreReported program weights bounds) where
  abbrev exact : List (Option ℕ)
  exact = are.0

  at_exact : (q : ℕ) → slice_get bounds q ≡ option_map reported (slice_get exact q)
  at_exact q = ap (λ (xs : List Bound). slice_get xs q) are.2 ∙ slice_get-map reported exact q

  unbound : (q : ℕ) → IsEndless bounds q → slice_get exact q ≡ Some None
  unbound q e = by (slice_get exact q) (sym (at_exact q) ∙ e)
    where
      by : (o : Option (Option ℕ)) → option_map reported o ≡ Some Endless → o ≡ Some None
      by None f = cc
      by (Some x) f = ap Some (none_reported x (same_Some (reported x) Endless f))

  inside : (q : ℕ) → IsEndless bounds q → q < length program
  inside q e = let h = slice_get_within exact q None (unbound q e) in omega (arith, h, are.1.long)

  endless : (q : ℕ) → q < length program → bound_at exact q ≡ None → IsEndless bounds q
  endless q within e =
      let there = slice_get-get_or exact q None (omega (arith, within, are.1.long)) in
      let none : slice_get exact q ≡ Some None = there ∙ ap Some (sym (ap option_flatten there) ∙ e) in
      at_exact q ∙ ap (option_map reported) none

  -- a procedure's calls end if each callee has a bound
  ends_by : (k : ℕ) → ((q : ℕ) → Calls program k q → IsEndless bounds q → ⊥) → ((q : ℕ) → Calls program k q → q < length program) → CallsEnd program k
  ends_by k none within = CallsEnd.end (λ q call. by q call (bound_at exact q) refl)
    where
      by : (q : ℕ) → Calls program k q → (o : Option ℕ) → bound_at exact q ≡ o → CallsEnd program q
      by q call None e = absurd (none q call (endless q (within q call) e))
      by q call (Some b) e = are.1.only q b e

  -- a procedure without a bound calls one without a bound
  pub some_endless : IsBoundable program → (k : ℕ) (p : Procedure) → slice_get program k ≡ Some p → IsEndless bounds k → ((place q : ℕ) → CallsEndless bounds p.code place q → ⊥) → ⊥
  some_endless may k p here e none =
      let ends = ends_by k called (λ q call. may.inside k q call) in
      let found = are.1.found k (inside k e) ends in
      let no : None ≡ Some found.0 = sym (ap option_flatten (unbound k e)) ∙ found.1 in
      cc
    where
      called : (q : ℕ) → Calls program k q → IsEndless bounds q → ⊥
      called q call f = by call.4
        where
          own : call.0 ≡ p
          own = same_Some call.0 p (sym call.3 ∙ here)

          by : ((slice_get call.0.code call.1 ≡ Some (instr.Rule call.2)) ⊎ (slice_get call.0.code call.1 ≡ Some (instr.Put call.2))) → ⊥
          by (inl at) = none call.1 q (instr.Rule call.2, subst (λ (r : Procedure). slice_get r.code call.1 ≡ Some (instr.Rule call.2)) own at, call.5, f)
          by (inr at) = none call.1 q (instr.Put call.2, subst (λ (r : Procedure). slice_get r.code call.1 ≡ Some (instr.Put call.2)) own at, call.5, f)

  -- and the calls of one with a bound end
  pub ends_unless_endless : (IsEndless bounds 0 → ⊥) → CallsEnd program 0
  ends_unless_endless bounded = by (bound_at exact 0) refl
    where
      by : (o : Option ℕ) → bound_at exact 0 ≡ o → CallsEnd program 0
      by (Some b) e = are.1.only 0 b e
      by None e = CallsEnd.end (λ q call. absurd (bounded (endless 0 (slice_get_within program 0 call.0 call.3) e)))

  pub begun : IsEndless bounds 0 → IsChain program bounds [] 0
  unfolding IsDistinct
  begun e = record { from_main = LeadsTo.here; leads = λ q wrong. cc; apart = tt; fresh = refl; below = λ q wrong. cc; endless_here = e }

  pub below_program : (chain : List ℕ) (here : ℕ) → IsChain program bounds chain here → here < length program
  below_program chain here is = inside here is.endless_here

  leads_on : (chain : List ℕ) (here : ℕ) → IsChain program bounds chain here → (q : ℕ) → list_any (eqb q) (chain ++ here ∷ []) ≡ true → LeadsTo program q here
  leads_on chain here is q e = elim (member_snoc chain here q e) [
    | inl among ↦ is.leads q among
    | inr same ↦ subst (λ (n : ℕ). LeadsTo program n here) (sym same) LeadsTo.here
  ]

  pub comes_back : (chain : List ℕ) (here place next : ℕ) → IsChain program bounds chain here → (call : Calls program here next) → call.1 ≡ place → list_any (eqb next) (chain ++ here ∷ []) ≡ true → IsCircle program (record { procedure = here; place = place })
  comes_back chain here place next is call at among = record { from_main = is.from_main; callee = next; call = call; at = at; back = leads_on chain here is next among }

  pub goes_on : (chain : List ℕ) (here next : ℕ) → IsChain program bounds chain here → Calls program here next → IsEndless bounds next → list_any (eqb next) (chain ++ here ∷ []) ≡ false → IsChain program bounds (chain ++ here ∷ []) next
  goes_on chain here next is call e new = record {
    from_main = LeadsTo.on is.from_main call;
    leads = λ q among. LeadsTo.on (leads_on chain here is q among) call;
    apart = distinct_snoc chain here is.apart is.fresh;
    fresh = new;
    below = λ q among. elim (member_snoc chain here q among) [
      | inl old ↦ is.below q old
      | inr same ↦ subst (λ (n : ℕ). n < length program) (sym same) (inside here is.endless_here)
    ];
    endless_here = e;
  }

  pub no_more : (chain : List ℕ) (here : ℕ) → IsChain program bounds chain here → length chain ≡ length program → ⊥
  unfolding IsDistinct
  no_more chain here is long =
      let more = length-le_from_distinct_below (here ∷ chain) (length program) (all_apart chain here is.fresh, is.apart) below in
      absurd (omega (arith, more, long))
    where
      below : (q : ℕ) → list_any (eqb q) (here ∷ chain) ≡ true → q < length program
      below q e = elim (either_true (eqb q here) (list_any (eqb q) chain) e) [
        | inl same ↦ subst (λ (n : ℕ). n < length program) (sym (eqb-true q here same)) (inside here is.endless_here)
        | inr among ↦ is.below q among
      ]
