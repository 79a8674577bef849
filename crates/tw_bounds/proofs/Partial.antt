-- One more bound is known; if none can be, some procedures call one another in a circle.
use Rattle.tw_bounds.proofs.Names.{AreBounds, AreCapped, AreCappedBounds, AreCosts, AreWithin, Bool, Calls, CallsEnd, CallsUnknown, Instr, IsBoundOf, IsBoundable, IsCappedBound, IsFixpoint, IsNext, IsSound, List, None, Option, Procedure, Scalar, Some, Weights, [], ap, arith, bound_at, cap, cases_eq, cost_in, false, flows, get_or, greatest_cost, inl, inr, is_some, length, length-map, length-set, map, map-set, min, not, option_flatten, option_map, refl, replicate, same_Some, set, slice_get, slice_get-get_or, slice_get-map, subst, suc, sym, text_registers, true, weight_of, zero, ℕ, ◌*◌, ◌++◌, ◌+◌, ◌<◌, ◌∙◌, ◌∷◌, ◌≡◌, ◌≢◌, ◌≤◌, ◌⊎◌}
use Rattle.tw_code.specs.declared.instr.Instr.TheVariants as instr
use Rattle.tw_bounds.proofs.Reached.{is_greatest_cost}
use Rattle.tw_bounds.proofs.Numbers.{mapped_some, weighted, same_parts}
use Rattle.tw_bounds.proofs.Capping.{capped_at, costs_alike, greatest_alike, none_alike}

-- the exact bounds that are known are right
pub record IsPartial (program : List Procedure) (weights : Weights) (exact : List (Option ℕ)) : Type 0 where
  pub long : length exact ≡ length program
  pub bounds : AreBounds program weights exact
  pub only : (k b : ℕ) → bound_at exact k ≡ Some b → CallsEnd program k

-- the known numbers are exact bounds, capped
abbrev pub IsSolving : List Procedure → Weights → List (Option ℕ) → Type 0
IsSolving program weights known = (exact : List (Option ℕ)) × AreCapped known exact × IsPartial program weights exact

-- the exact bound of a procedure that wasn't known
record IsExactNext (program : List Procedure) (weights : Weights) (exact : List (Option ℕ)) (k n : ℕ) : Type 0 where
  procedure : Procedure
  here : slice_get program k ≡ Some procedure
  unknown : slice_get exact k ≡ Some None
  is : IsBoundOf program weights exact procedure n

abbrev pub unknown_in : List (Option ℕ) → ℕ
unknown_in [] = 0
unknown_in (None ∷ known) = suc (unknown_in known)
unknown_in (Some b ∷ known) = unknown_in known

-- ---- a list with one place set

get_set_same : {A : Type 0} (xs : List A) (k : ℕ) (x y : A) → slice_get xs k ≡ Some y → slice_get (set xs k x) k ≡ Some x
get_set_same [] k x y e = cc
get_set_same (z ∷ xs) zero x y e = refl
get_set_same (z ∷ xs) (suc k) x y e = get_set_same xs k x y e

get_set_other : {A : Type 0} (xs : List A) (k q : ℕ) (x : A) → q ≢ k → slice_get (set xs k x) q ≡ slice_get xs q
get_set_other [] k q x n = refl
get_set_other (z ∷ xs) zero zero x n = absurd (n refl)
get_set_other (z ∷ xs) zero (suc q) x n = refl
get_set_other (z ∷ xs) (suc k) zero x n = refl
get_set_other (z ∷ xs) (suc k) (suc q) x n = get_set_other xs k q x (λ e. n (ap suc e))

-- ---- how many aren't known

pub unknown_found : (known : List (Option ℕ)) (k : ℕ) → slice_get known k ≡ Some None → 0 < unknown_in known
unknown_found [] k e = cc
unknown_found (None ∷ known) zero e = omega arith
unknown_found (Some b ∷ known) zero e = cc
unknown_found (None ∷ known) (suc k) e = omega arith
unknown_found (Some b ∷ known) (suc k) e = unknown_found known k e

pub unknown_less : (known : List (Option ℕ)) (k b : ℕ) → slice_get known k ≡ Some None → unknown_in (set known k (Some b)) + 1 ≡ unknown_in known
unknown_less [] k b e = cc
unknown_less (None ∷ known) zero b e = omega arith
unknown_less (Some c ∷ known) zero b e = cc
unknown_less (None ∷ known) (suc k) b e = let h = unknown_less known k b e in omega arith
unknown_less (Some c ∷ known) (suc k) b e = unknown_less known k b e

pub unknown_all : (n : ℕ) → unknown_in (replicate n None) ≡ n
unknown_all zero = refl
unknown_all (suc n) = ap suc (unknown_all n)

pub none_there : (known : List (Option ℕ)) (k : ℕ) (d : Option ℕ) → k < length known → (b : Bool) → is_some (get_or known k d) ≡ not b → b ≡ true → slice_get known k ≡ Some None
none_there known k d within b e is = slice_get-get_or known k d within ∙ ap Some (by (get_or known k d) (e ∙ ap not is))
  where
    by : (o : Option ℕ) → is_some o ≡ false → o ≡ None
    by None f = refl
    by (Some n) f = cc

pub replicate_more : {A : Type 0} (n : ℕ) (x : A) → replicate n x ++ x ∷ [] ≡ replicate (suc n) x
replicate_more zero x = refl
replicate_more (suc n) x = ap (λ (xs : List _). x ∷ xs) (replicate_more n x)

none_known : (n q : ℕ) → bound_at (replicate n None) q ≡ None
none_known zero q = refl
none_known (suc n) zero = refl
none_known (suc n) (suc q) = none_known n q

-- ---- costs

-- a known bound stays known
at_kept : (known : List (Option ℕ)) (k b q c : ℕ) → slice_get known k ≡ Some None → bound_at known q ≡ Some c → bound_at (set known k (Some b)) q ≡ Some c
at_kept known k b q c none e = elim (cases_eq q k) [
  | inl same ↦ let no : None ≡ Some c = sym (ap option_flatten (subst (λ (n : ℕ). slice_get known n ≡ Some None) (sym same) none)) ∙ e in cc
  | inr other ↦ ap option_flatten (get_set_other known k q (Some b) other) ∙ e
]

kept_sum : (known more : List (Option ℕ)) (q n : ℕ) (f : ℕ → ℕ) → ((c : ℕ) → bound_at known q ≡ Some c → bound_at more q ≡ Some c) → option_map f (bound_at known q) ≡ Some n → option_map f (bound_at more q) ≡ Some n
kept_sum known more q n f kept e = let m = mapped_some (bound_at known q) n f e in ap (option_map f) (kept m.0 m.1) ∙ ap Some (sym m.2)

weight_kept : (program : List Procedure) (weights : Weights) (known more : List (Option ℕ)) (registers : List Scalar) (i : Instr) (n : ℕ) → ((q c : ℕ) → bound_at known q ≡ Some c → bound_at more q ≡ Some c) → weight_of program weights known registers i ≡ Some n → weight_of program weights more registers i ≡ Some n
weight_kept program weights known more registers (instr.Local i) n kept e = e
weight_kept program weights known more registers (instr.Data i) n kept e = e
weight_kept program weights known more registers (instr.Rule action) n kept e = kept_sum known more action.procedure n _ (kept action.procedure) e
weight_kept program weights known more registers (instr.Put action) n kept e = kept_sum known more action.procedure n _ (kept action.procedure) e
weight_kept program weights known more registers instr.Ret n kept e = e

costs_kept : (program : List Procedure) (weights : Weights) (known more : List (Option ℕ)) (registers : List Scalar) (code : List Instr) (costs : List ℕ) → ((q c : ℕ) → bound_at known q ≡ Some c → bound_at more q ≡ Some c) → AreCosts program weights known registers code costs → AreCosts program weights more registers code costs
costs_kept program weights known more registers [] [] kept e = refl
costs_kept program weights known more registers [] (n ∷ costs) kept e = cc
costs_kept program weights known more registers (i ∷ code) [] kept e = cc
costs_kept program weights known more registers (i ∷ code) (n ∷ costs) kept e =
    let parts = same_parts (weight_of program weights known registers i) (Some n) (map (weight_of program weights known registers) code) (map Some costs) e in
    let first = weight_kept program weights known more registers i n kept parts.0 in
    let rest = costs_kept program weights known more registers code costs kept parts.1 in
    ap (λ (o : Option ℕ). o ∷ map (weight_of program weights more registers) code) first ∙ ap (λ (os : List (Option ℕ)). Some n ∷ os) rest

bound_kept : (program : List Procedure) (weights : Weights) (known more : List (Option ℕ)) (p : Procedure) (b : ℕ) → ((q c : ℕ) → bound_at known q ≡ Some c → bound_at more q ≡ Some c) → IsBoundOf program weights known p b → IsBoundOf program weights more p b
bound_kept program weights known more p b kept o = record { costs = o.costs; are = costs_kept program weights known more p.registers p.code o.costs kept o.are; walk = o.walk; greatest_cost = o.greatest_cost; sum = o.sum }

-- the number that is computed is a bound
pub bound_made : (program : List Procedure) (weights : Weights) (known : List (Option ℕ)) (p : Procedure) → IsSound (flows p.code) → (costs : List ℕ) → AreCosts program weights known p.registers p.code costs → IsBoundOf program weights known p (weights.task + weights.text * text_registers p.registers + greatest_cost (cost_in costs) (flows p.code) 0)
bound_made program weights known p sound costs are = record { costs = costs; are = are; walk = greatest_cost (cost_in costs) (flows p.code) 0; greatest_cost = is_greatest_cost (cost_in costs) (flows p.code) sound; sum = refl }

-- the number that is computed from capped bounds is the exact bound, capped
pub capped_bound_made : (program : List Procedure) (weights : Weights) (known exact : List (Option ℕ)) (p : Procedure) → AreCapped known exact → IsSound (flows p.code) → (costs : List ℕ) → AreCosts program weights known p.registers p.code costs
    → (b : ℕ) → b ≡ min (weights.task + weights.text * text_registers p.registers + min (greatest_cost (cost_in costs) (flows p.code) 0) cap) cap → IsCappedBound program weights exact p b
capped_bound_made program weights known exact p is sound costs are b e =
    let others = costs_alike program weights known exact is p.registers p.code costs are in
    let same = greatest_alike (cost_in costs) (cost_in others.0) (flows p.code) others.2 in
    (weights.task + weights.text * text_registers p.registers + greatest_cost (cost_in others.0) (flows p.code) 0, bound_made program weights exact p sound others.0 others.1, omega (arith, e, same))

-- ---- known bounds so far

module _ (program : List Procedure) (weights : Weights) where
  pub partial_begun : IsPartial program weights (replicate (length program) None)
  partial_begun = record {
    long = length_replicated (length program);
    bounds = record { each = λ k p b here e. let no : None ≡ Some b = sym (none_known (length program) k) ∙ e in cc };
    only = λ k b e. let no : None ≡ Some b = sym (none_known (length program) k) ∙ e in cc;
  }
    where
      length_replicated : (n : ℕ) → length (replicate {A = Option ℕ} n None) ≡ n
      length_replicated zero = refl
      length_replicated (suc n) = ap suc (length_replicated n)

  -- a procedure called by one with a bound has one
  callee_known : (known : List (Option ℕ)) (p : Procedure) (b k q : ℕ) → slice_get program k ≡ Some p → IsBoundOf program weights known p b → Calls program k q → (c : ℕ) × (bound_at known q ≡ Some c)
  callee_known known p b k q here o call = by call.4
    where
      own : call.0 ≡ p
      own = same_Some call.0 p (sym call.3 ∙ here)

      by : ((slice_get call.0.code call.1 ≡ Some (instr.Rule call.2)) ⊎ (slice_get call.0.code call.1 ≡ Some (instr.Put call.2))) → (c : ℕ) × (bound_at known q ≡ Some c)
      by (inl at) =
          let n = weighted program weights known p.registers p.code o.costs o.are call.1 (instr.Rule call.2) (subst (λ (r : Procedure). slice_get r.code call.1 ≡ Some (instr.Rule call.2)) own at) in
          let m = mapped_some (bound_at known call.2.procedure) n.0 _ n.1 in
          (m.0, subst (λ (r : ℕ). bound_at known r ≡ Some m.0) call.5 m.1)
      by (inr at) =
          let n = weighted program weights known p.registers p.code o.costs o.are call.1 (instr.Put call.2) (subst (λ (r : Procedure). slice_get r.code call.1 ≡ Some (instr.Put call.2)) own at) in
          let m = mapped_some (bound_at known call.2.procedure) n.0 _ n.1 in
          (m.0, subst (λ (r : ℕ). bound_at known r ≡ Some m.0) call.5 m.1)

  at_more : (known : List (Option ℕ)) (k b : ℕ) → slice_get known k ≡ Some None → (q c : ℕ) → bound_at (set known k (Some b)) q ≡ Some c → ((q ≡ k) × (c ≡ b)) ⊎ (bound_at known q ≡ Some c)
  at_more known k b unknown q c e = elim (cases_eq q k) [
    | inl same ↦
        let here = ap option_flatten (get_set_same known k (Some b) None unknown) in
        let there : bound_at (set known k (Some b)) k ≡ Some c = subst (λ (n : ℕ). bound_at (set known k (Some b)) n ≡ Some c) same e in
        inl (same, same_Some c b (sym there ∙ here))
    | inr other ↦ inr (sym (ap option_flatten (get_set_other known k q (Some b) other)) ∙ e)
  ]

  bounds_more : (known : List (Option ℕ)) (k b : ℕ) → AreBounds program weights known → IsExactNext program weights known k b → AreBounds program weights (set known k (Some b))
  bounds_more known k b bounds next = record {
    each = λ q p c here e. elim (at_more known k b next.unknown q c e) [
      | inl h ↦
          let own : next.procedure ≡ p = same_Some next.procedure p (sym next.here ∙ subst (λ (n : ℕ). slice_get program n ≡ Some p) h.0 here) in
          let o = bound_kept program weights known (set known k (Some b)) next.procedure b (λ r d f. at_kept known k b r d next.unknown f) next.is in
          subst (λ (n : ℕ). IsBoundOf program weights (set known k (Some b)) p n) (sym h.1) (subst (λ (r : Procedure). IsBoundOf program weights (set known k (Some b)) r b) own o)
      | inr h ↦ bound_kept program weights known (set known k (Some b)) p c (λ r d f. at_kept known k b r d next.unknown f) (bounds.each q p c here h)
    ];
  }

  partial_more : (known : List (Option ℕ)) (k b : ℕ) → IsPartial program weights known → IsExactNext program weights known k b → IsPartial program weights (set known k (Some b))
  partial_more known k b way next = record {
    long = length-set known k (Some b) ∙ way.long;
    bounds = bounds_more known k b way.bounds next;
    only = λ q c e. elim (at_more known k b next.unknown q c e) [
      | inl h ↦ subst (CallsEnd program) (sym h.0) (CallsEnd.end (λ r call. let d = callee_known known next.procedure b k r next.here next.is call in way.only r d.0 d.1))
      | inr h ↦ way.only q c h
    ];
  }

  -- ---- known bounds, capped

  unknown_exact : (known exact : List (Option ℕ)) (k : ℕ) → AreCapped known exact → slice_get known k ≡ Some None → slice_get exact k ≡ Some None
  unknown_exact known exact k is e = by (slice_get exact k) refl (sym (slice_get-map (option_map (λ b. min b cap)) exact k) ∙ sym (ap (λ (xs : List (Option ℕ)). slice_get xs k) is) ∙ e)
    where
      by : (o : Option (Option ℕ)) → slice_get exact k ≡ o → option_map (option_map (λ b. min b cap)) (slice_get exact k) ≡ Some None → slice_get exact k ≡ Some None
      by None at f = let no : None ≡ Some None = sym (ap (option_map (option_map (λ b. min b cap))) at) ∙ f in cc
      by (Some None) at f = at
      by (Some (Some n)) at f = let no : Some (Some (min n cap)) ≡ Some None = sym (ap (option_map (option_map (λ b. min b cap))) at) ∙ f in cc

  unknown_known : (known exact : List (Option ℕ)) (k : ℕ) → AreCapped known exact → slice_get exact k ≡ Some None → slice_get known k ≡ Some None
  unknown_known known exact k is e = ap (λ (xs : List (Option ℕ)). slice_get xs k) is ∙ slice_get-map (option_map (λ b. min b cap)) exact k ∙ ap (option_map (option_map (λ b. min b cap))) e

  exact_next : (known exact : List (Option ℕ)) (k b : ℕ) → AreCapped known exact → (next : IsNext program weights known exact k b) → IsExactNext program weights exact k next.is.0
  exact_next known exact k b is next = record { procedure = next.procedure; here = next.here; unknown = unknown_exact known exact k is next.unknown; is = next.is.1 }

  pub solving_begun : IsSolving program weights (replicate (length program) None)
  solving_begun = (replicate (length program) None, none_capped (length program), partial_begun)
    where
      none_capped : (n : ℕ) → AreCapped (replicate n None) (replicate n None)
      none_capped zero = refl
      none_capped (suc n) = ap (λ (xs : List (Option ℕ)). None ∷ xs) (none_capped n)

  -- one more is known
  pub solving_more : (known : List (Option ℕ)) (k b : ℕ) → (solving : IsSolving program weights known) → IsNext program weights known solving.0 k b → IsSolving program weights (set known k (Some b))
  solving_more known k b solving next =
      let exact = solving.0 in
      let n = next.is.0 in
      let same : set known k (Some b) ≡ map (option_map (λ c. min c cap)) (set exact k (Some n)) =
      ap (λ (xs : List (Option ℕ)). set xs k (Some b)) solving.1 ∙ ap (λ (c : ℕ). set (map (option_map (λ d. min d cap)) exact) k (Some c)) next.is.2 ∙ sym (map-set (option_map (λ c. min c cap)) exact k (Some n)) in
      (set exact k (Some n), same, partial_more exact k n solving.2 (exact_next known exact k b solving.1 next))

  pub solving_long : (known : List (Option ℕ)) → IsSolving program weights known → length known ≡ length program
  solving_long known solving = ap length solving.1 ∙ length-map solving.0 (option_map (λ b. min b cap)) ∙ solving.2.long

  -- a number that is known is no more than the cut
  pub solving_within : (known : List (Option ℕ)) → IsSolving program weights known → AreWithin known
  solving_within known solving q b e = by (bound_at solving.0 q) (sym (capped_at known solving.0 q solving.1) ∙ e)
    where
      by : (o : Option ℕ) → option_map (λ c. min c cap) o ≡ Some b → b ≤ cap
      by None f = cc
      by (Some n) f = let same = same_Some (min n cap) b f in omega (arith, same)

  fixpoint_exact : (known exact : List (Option ℕ)) → AreCapped known exact → IsFixpoint program weights known → IsFixpoint program weights exact
  fixpoint_exact known exact is fixpoint k p here unknown =
      let u = fixpoint k p here (unknown_known known exact k is unknown) in
      (u.0, u.1, u.2, none_alike program weights known exact is p.registers u.1 u.3)

  -- ---- a circle

  -- a procedure that calls an unknown one
  calls_unknown : (known : List (Option ℕ)) (k place : ℕ) (p : Procedure) (i : Instr) → slice_get program k ≡ Some p → slice_get p.code place ≡ Some i → weight_of program weights known p.registers i ≡ None → (q : ℕ) × Calls program k q × (bound_at known q ≡ None)
  calls_unknown known k place p (instr.Local i) here at e = cc
  calls_unknown known k place p (instr.Data i) here at e = cc
  calls_unknown known k place p (instr.Rule action) here at e = (action.procedure, (p, place, action, here, inl at, refl), no_sum (bound_at known action.procedure) _ e)
    where
      no_sum : (o : Option ℕ) (f : ℕ → ℕ) → option_map f o ≡ None → o ≡ None
      no_sum None f e = refl
      no_sum (Some c) f e = cc
  calls_unknown known k place p (instr.Put action) here at e = (action.procedure, (p, place, action, here, inr at, refl), no_sum (bound_at known action.procedure) _ e)
    where
      no_sum : (o : Option ℕ) (f : ℕ → ℕ) → option_map f o ≡ None → o ≡ None
      no_sum None f e = refl
      no_sum (Some c) f e = cc
  calls_unknown known k place p instr.Ret here at e = cc

  -- a procedure of the program whose bound isn't known
  unbound_at : (known : List (Option ℕ)) (q : ℕ) → q < length known → bound_at known q ≡ None → slice_get known q ≡ Some None
  unbound_at known q inside e =
      let there = slice_get-get_or known q None inside in
      there ∙ ap Some (sym (ap option_flatten there) ∙ e)

  procedure_there : (ps : List Procedure) (k : ℕ) → k < length ps → (p : Procedure) × (slice_get ps k ≡ Some p)
  procedure_there [] k h = absurd (omega arith)
  procedure_there (p ∷ ps) zero h = (p, refl)
  procedure_there (p ∷ ps) (suc k) h = procedure_there ps k (omega arith)

  -- if no more can be known, all procedures whose calls end are known
  fixpoint_found : IsBoundable program → (known : List (Option ℕ)) → length known ≡ length program → IsFixpoint program weights known → (k : ℕ) → CallsEnd program k → k < length program → (b : ℕ) × (bound_at known k ≡ Some b)
  fixpoint_found may known long fixpoint k (CallsEnd.end calls) inside = by (λ q call within. fixpoint_found may known long fixpoint q (calls q call) within) (bound_at known k) refl
    where
      by : ((q : ℕ) → Calls program k q → q < length program → (b : ℕ) × (bound_at known q ≡ Some b)) → (o : Option ℕ) → bound_at known k ≡ o → (b : ℕ) × (bound_at known k ≡ Some b)
      by found (Some b) e = (b, e)
      by found None e =
          let p = procedure_there program k inside in
          let u = fixpoint k p.0 p.1 (unbound_at known k (omega (arith, inside, long)) e) in
          let c = calls_unknown known k u.0 p.0 u.1 p.1 u.2 u.3 in
          let f = found c.0 c.1 (may.inside k c.0 c.1) in
          let no : None ≡ Some f.0 = sym c.2 ∙ f.1 in
          cc

  pub solving_done : IsBoundable program → (known : List (Option ℕ)) → IsSolving program weights known → IsFixpoint program weights known → AreCappedBounds program weights known
  solving_done may known solving fixpoint =
      let exact = solving.0 in
      let way = solving.2 in
      (exact, record { each = way.bounds; long = way.long; found = λ k inside ends. fixpoint_found may exact way.long (fixpoint_exact known exact solving.1 fixpoint) k ends inside; only = way.only }, solving.1)

  -- if all are known
  pub none_unknown_left : (known : List (Option ℕ)) → unknown_in known ≡ 0 → IsFixpoint program weights known
  none_unknown_left known none k p here e = let h = unknown_found known k e in absurd (omega arith)

  -- a pass so far
  pub fixpoint_more : (known : List (Option ℕ)) (number : ℕ) (p : Procedure) → slice_get program number ≡ Some p → (slice_get known number ≡ Some None → CallsUnknown program weights known p.registers p.code)
      → ((k : ℕ) (q : Procedure) → k < number → slice_get program k ≡ Some q → slice_get known k ≡ Some None → CallsUnknown program weights known q.registers q.code)
      → (k : ℕ) (q : Procedure) → k < number + 1 → slice_get program k ≡ Some q → slice_get known k ≡ Some None → CallsUnknown program weights known q.registers q.code
  fixpoint_more known number p here this before k q low there none = elim (cases_eq k number) [
    | inl same ↦
        let own : p ≡ q = same_Some p q (sym here ∙ subst (λ (n : ℕ). slice_get program n ≡ Some q) same there) in
        subst (λ (r : Procedure). CallsUnknown program weights known r.registers r.code) own (this (subst (λ (n : ℕ). slice_get known n ≡ Some None) same none))
    | inr other ↦ before k q (omega (arith, low, other)) there none
  ]
