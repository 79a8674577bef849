-- RULE and PUT move rights out of their registers, and make them arguments of the parameters, if their checks hold.
use Rattle.std.proofs.Common.{◌≡◌, ℕ, ◌+◌, ◌<◌, Bool, true, false, not, ◌||◌, if◌then◌else◌, List, [], ◌∷◌, ◌++◌, map, length, slice_get, slice_set, Option, Some, None, is_some, refl, sym, ap, subst, ◌∙◌, arith, inl, inr}
use Rattle.tw_soundness.proofs.MachineNames.{Arg, ArgFits, ArgsFit, Cause, Closed, Datum, EmptyRegister, Free, MovedArgs, Holds, Mode, NestedScalar, Ok, Param, Ref, Result, RightArg, RightType, Rights, RightsFit, RuleArgsFit, Scalar, Store, Typing, Unasked, Val, Value, ValueArg, ValuesFit, Write, WrongRegister, all_pass, and_from, and_parts, requires_args, requires_value, cases_Bool, first_stage, get, moved_args, has_type, held, hits, hits_same, is_asked_for, is_closed, is_closed_if_required, is_closed_mode, is_live, is_of_type, is_read, is_val, is_write, right_fits_param, ok_or, option_flatten, or_left, or_right, over, passes, read_by, right_at, right_of, right_until, same_scalar, same_type, same_types, scalar_itself, scalar_of, suits_mode, type_itself, values_suit, with_arg, without_args, write_by}
use Rattle.tw_types.specs.Result.{◌>>=◌}
use Rattle.tw_soundness.proofs.Over.{over_params}
use Rattle.tw_soundness.proofs.Registers.{Found, found, emptied, rights_set}
use Rattle.tw_soundness.proofs.Steps.{Goes, goes_more, goes}
use Rattle.tw_soundness.proofs.Values.{AllYes, declared_as, value_found, passed}

-- ---- the argument of a parameter

-- a right that suits the parameter, held on this datum
pub record FitsParam (waits : Bool) (s : Store) (p : Param) (id : ℕ) : Type 0 where
  pub right : RightType
  pub suits : suits_mode waits p.mode right ≡ true
  pub ty : right.ty ≡ p.ty
  pub holds : Holds s right id

abbrev pub ArgMatches : Bool → Store → Param → Bool → Arg → Type 0
ArgMatches waits s p true (ValueArg x) = scalar_of x ≡ p.ty.scalar
ArgMatches waits s p true (RightArg id) = ⊥
ArgMatches waits s p false (ValueArg x) = ⊥
ArgMatches waits s p false (RightArg id) = FitsParam waits s p id

abbrev pub ArgsMatch : Bool → Store → List Param → List Arg → Type 0
ArgsMatch waits s [] [] = Unit {0}
ArgsMatch waits s [] (arg ∷ args) = ⊥
ArgsMatch waits s (p ∷ params) [] = ⊥
ArgsMatch waits s (p ∷ params) (arg ∷ args) = ArgMatches waits s p (is_val p.mode) arg × ArgsMatch waits s params args

-- the arguments into which the registers' rights were moved
pub record GivenSo (waits : Bool) (s : Store) (params : List Param) (typing : Typing) (rights : Rights) (left : Typing) (given : MovedArgs) : Type 0 where
  pub args : ArgsMatch waits s params given.args
  pub rights_left : RightsFit s left given.rights
  pub reads : (d : ℕ) → over (read_by d) typing rights ≡ over (read_by d) left given.rights + over_params (read_by d) params given.args
  pub writes : (d : ℕ) → over (write_by d) typing rights ≡ over (write_by d) left given.rights + over_params (write_by d) params given.args

suits_write : (waits : Bool) (mode : Mode) (right : RightType) → suits_mode waits mode right ≡ true → is_write right.mode ≡ is_write mode
suits_write waits mode right e = by mode right.mode e
  where
    by : (mode have : Mode) → suits_mode waits mode (record right { mode = have }) ≡ true → is_write have ≡ is_write mode
    by Val have e = cc
    by Closed have e = closed waits have e
      where
        closed : (b : Bool) (have : Mode) → (if b then is_read have else is_closed_mode have) ≡ true → is_write have ≡ false
        closed true Val e = cc
        closed true Closed e = refl
        closed true Ref e = refl
        closed true Write e = cc
        closed false Val e = cc
        closed false Closed e = refl
        closed false Ref e = cc
        closed false Write e = cc
    by Ref Val e = cc
    by Ref Closed e = refl
    by Ref Ref e = refl
    by Ref Write e = cc
    by Write Val e = cc
    by Write Closed e = cc
    by Write Ref e = cc
    by Write Write e = refl

-- ---- the arguments, one after the other

abbrev value_then : List Value → Rights → List Param → List ℕ → ℕ → Result MovedArgs Cause
value_then values rights params registers r = ok_or (slice_get values r) WrongRegister >>= λ x. (moved_args values rights params registers >>= λ others. Ok (with_arg (ValueArg x) others))

abbrev right_then : List Value → Rights → List Param → List ℕ → ℕ → Result MovedArgs Cause
right_then values rights params registers r = held rights r >>= λ id. (moved_args values (slice_set rights r None) params registers >>= λ others. Ok (with_arg (RightArg id) others))

module _ (waits : Bool) (s : Store) (declared : List Scalar) (values : List Value) (fit : ValuesFit declared values) where
  value_goes : (p : Param) (params : List Param) (r : ℕ) (registers : List ℕ) (typing : Typing) (rights : Rights) → is_val p.mode ≡ true → AllYes (requires_value declared r p.ty.scalar ++ requires_args waits declared params registers typing)
      → Goes (moved_args values rights params registers) (GivenSo waits s params typing rights (without_args params registers typing))
      → Goes (value_then values rights params registers r) (GivenSo waits s (p ∷ params) typing rights (without_args params registers typing))
  value_goes p params r registers typing rights e met rest =
      let x = value_found declared values r p.ty.scalar fit (declared_as (slice_get declared r) p.ty.scalar met.1.0) in
      let none : right_of p ≡ None = ap (λ b. if b then None else Some (record { mode = p.mode; ty = p.ty })) e in
      goes (ok_or (slice_get values r) WrongRegister) _ _ x.0 (ap (λ o. ok_or o WrongRegister) x.1)
      (goes_more (moved_args values rights params registers) _ _ _ rest (λ others so. record {
        args = (subst (λ b. ArgMatches waits s p b (ValueArg x.0)) (sym e) x.2, so.args);
        rights_left = so.rights_left;
        reads = λ d. let z : read_by d (right_of p) None ≡ 0 = ap (λ o. read_by d o None) none in let h = so.reads d in omega arith;
        writes = λ d. let z : write_by d (right_of p) None ≡ 0 = ap (λ o. write_by d o None) none in let h = so.writes d in omega arith;
      }))

  right_goes : (p : Param) (params : List Param) (r : ℕ) (registers : List ℕ) (typing : Typing) (rights : Rights) (q : RightType) → is_val p.mode ≡ false → right_fits_param waits p q ≡ true → (f : Found s rights typing r q)
      → Goes (moved_args values (slice_set rights r None) params registers) (GivenSo waits s params (slice_set typing r None) (slice_set rights r None) (without_args params registers (slice_set typing r None)))
      → Goes (right_then values rights params registers r) (GivenSo waits s (p ∷ params) typing rights (without_args params registers (slice_set typing r None)))
  right_goes p params r registers typing rights q e fits_place f rest =
      let both = and_parts (suits_mode waits p.mode q) (same_type q.ty p.ty) fits_place in
      let some : right_of p ≡ Some (record { mode = p.mode; ty = p.ty }) = ap (λ b. if b then None else Some (record { mode = p.mode; ty = p.ty })) e in
      let kind : is_write q.mode ≡ is_write p.mode = suits_write waits p.mode q both.0 in
      goes (held rights r) _ _ f.id (ap (λ o. ok_or (option_flatten o) EmptyRegister) f.register)
      (goes_more (moved_args values (slice_set rights r None) params registers) _ _ _ rest (λ others so. record {
        args = (subst (λ b. ArgMatches waits s p b (RightArg f.id)) (sym e) (record { right = q; suits = both.0; ty = same_types q.ty p.ty both.1; holds = f.holds }), so.args);
        rights_left = so.rights_left;
        reads = λ d.
            let z : read_by d (right_of p) (Some f.id) ≡ read_by d (Some q) (Some f.id) = ap (λ o. read_by d o (Some f.id)) some ∙ ap (λ b. if b then 0 else hits d f.id) (sym kind) in
            let one = emptied (read_by d) typing rights r q f.id refl f.typed f.register in
            let h = so.reads d in
            omega arith;
        writes = λ d.
            let z : write_by d (right_of p) (Some f.id) ≡ write_by d (Some q) (Some f.id) = ap (λ o. write_by d o (Some f.id)) some ∙ ap (λ b. if b then hits d f.id else 0) (sym kind) in
            let one = emptied (write_by d) typing rights r q f.id refl f.typed f.register in
            let h = so.writes d in
            omega arith;
      }))

  pub moved_goes : (params : List Param) (registers : List ℕ) (typing : Typing) (rights : Rights) → RightsFit s typing rights → AllYes (requires_args waits declared params registers typing) → length registers ≡ length params
      → Goes (moved_args values rights params registers) (GivenSo waits s params typing rights (without_args params registers typing))
  moved_goes [] [] typing rights f met long = record { args = tt; rights_left = f; reads = λ d. omega arith; writes = λ d. omega arith }
  moved_goes [] (r ∷ registers) typing rights f met long = absurd (omega arith)
  moved_goes (p ∷ params) [] typing rights f met long = absurd (omega arith)
  moved_goes (p ∷ params) (r ∷ registers) typing rights f met long = elim (cases_Bool (is_val p.mode)) [
    | inl e ↦
        let asked : AllYes (requires_value declared r p.ty.scalar ++ requires_args waits declared params registers typing) =
        subst (λ b. AllYes (if b then requires_value declared r p.ty.scalar ++ requires_args waits declared params registers typing else (4, passes (right_fits_param waits p) (right_at typing r)) ∷ requires_args waits declared params registers (slice_set typing r None))) e met in
        let rest = moved_goes params registers typing rights f asked.1.1 (omega arith) in
        let done = value_goes p params r registers typing rights e asked rest in
        let one = subst (λ b. Goes (if b then value_then values rights params registers r else right_then values rights params registers r) (GivenSo waits s (p ∷ params) typing rights (without_args params registers typing))) (sym e) done in
        subst (λ b. Goes (moved_args values rights (p ∷ params) (r ∷ registers)) (GivenSo waits s (p ∷ params) typing rights (without_args params registers (if b then typing else slice_set typing r None)))) (sym e) one
    | inr e ↦
        let asked : AllYes ((4, passes (right_fits_param waits p) (right_at typing r)) ∷ requires_args waits declared params registers (slice_set typing r None)) =
        subst (λ b. AllYes (if b then requires_value declared r p.ty.scalar ++ requires_args waits declared params registers typing else (4, passes (right_fits_param waits p) (right_at typing r)) ∷ requires_args waits declared params registers (slice_set typing r None))) e met in
        let q = passed (right_fits_param waits p) (right_at typing r) asked.0 in
        let rest = moved_goes params registers (slice_set typing r None) (slice_set rights r None) (rights_set s typing rights r None None f tt) asked.1 (omega arith) in
        let done = right_goes p params r registers typing rights q.0 e q.2 (found s rights typing r q.0 f q.1) rest in
        let one = subst (λ b. Goes (if b then value_then values rights params registers r else right_then values rights params registers r) (GivenSo waits s (p ∷ params) typing rights (without_args params registers (slice_set typing r None)))) (sym e) done in
        subst (λ b. Goes (moved_args values rights (p ∷ params) (r ∷ registers)) (GivenSo waits s (p ∷ params) typing rights (without_args params registers (if b then typing else slice_set typing r None)))) (sym e) one
  ]

  -- C13 isn't met
  pub values_met : (params : List Param) (registers : List ℕ) (typing : Typing) → AllYes (requires_args waits declared params registers typing) → values_suit values params registers ≡ true
  values_met [] registers typing met = refl
  values_met (p ∷ params) [] typing met = refl
  values_met (p ∷ params) (r ∷ registers) typing met = elim (cases_Bool (is_val p.mode)) [
    | inl e ↦
        let asked : AllYes (requires_value declared r p.ty.scalar ++ requires_args waits declared params registers typing) =
        subst (λ b. AllYes (if b then requires_value declared r p.ty.scalar ++ requires_args waits declared params registers typing else (4, passes (right_fits_param waits p) (right_at typing r)) ∷ requires_args waits declared params registers (slice_set typing r None))) e met in
        let x = value_found declared values r p.ty.scalar fit (declared_as (slice_get declared r) p.ty.scalar asked.1.0) in
        let has : has_type (slice_get values r) p ≡ true = ap (λ o. has_type o p) x.1 ∙ ap (λ (u : Scalar). same_scalar u p.ty.scalar) x.2 ∙ scalar_itself p.ty.scalar in
        and_from (not (is_val p.mode) || has_type (slice_get values r) p) (values_suit values params registers) (or_right (not (is_val p.mode)) (has_type (slice_get values r) p) has) (values_met params registers typing asked.1.1)
    | inr e ↦
        let asked : AllYes ((4, passes (right_fits_param waits p) (right_at typing r)) ∷ requires_args waits declared params registers (slice_set typing r None)) =
        subst (λ b. AllYes (if b then requires_value declared r p.ty.scalar ++ requires_args waits declared params registers typing else (4, passes (right_fits_param waits p) (right_at typing r)) ∷ requires_args waits declared params registers (slice_set typing r None))) e met in
        and_from (not (is_val p.mode) || has_type (slice_get values r) p) (values_suit values params registers) (or_left (not (is_val p.mode)) (has_type (slice_get values r) p) (ap not e)) (values_met params registers (slice_set typing r None) asked.1)
  ]

-- ---- the checks of their data

-- C2: what somebody holds is live
pub all_live : (waits : Bool) (s : Store) (params : List Param) (args : List Arg) → ArgsMatch waits s params args
    → ((d : ℕ) → 0 < over_params (read_by d) params args + over_params (write_by d) params args → (x : Datum) × (get s.live d ≡ Some x)) → all_pass is_live s.live params args ≡ true
all_live waits s [] args h held = refl
all_live waits s (p ∷ params) [] h held = refl
all_live waits s (p ∷ params) (ValueArg x ∷ args) h held = all_live waits s params args h.1 (λ d some. held d (omega arith))
all_live waits s (p ∷ params) (RightArg id ∷ args) h held = elim (cases_Bool (is_val p.mode)) [
  | inl e ↦ absurd (subst (λ b. ArgMatches waits s p b (RightArg id)) e h.0)
  | inr e ↦
      let some : right_of p ≡ Some (record { mode = p.mode; ty = p.ty }) = ap (λ b. if b then None else Some (record { mode = p.mode; ty = p.ty })) e in
      let both : read_by id (right_of p) (Some id) + write_by id (right_of p) (Some id) ≡ 1 = ap (λ o. read_by id o (Some id) + write_by id o (Some id)) some ∙ either (is_write p.mode) in
      let x = held id (omega arith) in
      let rest = all_live waits s params args h.1 (λ d some. held d (omega arith)) in
      and_from (is_some (get s.live id)) (all_pass is_live s.live params args) (ap is_some x.1) rest
]
  where
    either : (b : Bool) → (if b then 0 else hits id id) + (if b then hits id id else 0) ≡ 1
    either true = let one = hits_same id in omega arith
    either false = let one = hits_same id in omega arith

-- C6: it is of its right's type
pub all_typed : (waits : Bool) (s : Store) (params : List Param) (args : List Arg) → ArgsMatch waits s params args → all_pass is_of_type s.live params args ≡ true
all_typed waits s [] args h = refl
all_typed waits s (p ∷ params) [] h = refl
all_typed waits s (p ∷ params) (ValueArg x ∷ args) h = all_typed waits s params args h.1
all_typed waits s (p ∷ params) (RightArg id ∷ args) h = elim (cases_Bool (is_val p.mode)) [
  | inl e ↦ absurd (subst (λ b. ArgMatches waits s p b (RightArg id)) e h.0)
  | inr e ↦ and_from (is_of_type p (get s.live id)) (all_pass is_of_type s.live params args) (one (subst (λ b. ArgMatches waits s p b (RightArg id)) e h.0) (get s.live id) refl) (all_typed waits s params args h.1)
]
  where
    one : FitsParam waits s p id → (o : Option Datum) → get s.live id ≡ o → is_of_type p o ≡ true
    one f None at = refl
    one f (Some x) at = ap (λ (u : NestedScalar). same_type u p.ty) (f.holds.ty x at ∙ f.ty) ∙ type_itself p.ty

-- C10: what PUT gives for a `closed` parameter is closed
pub all_closed : (s : Store) (params : List Param) (args : List Arg) → ArgsMatch false s params args → all_pass is_closed_if_required s.live params args ≡ true
all_closed s [] args h = refl
all_closed s (p ∷ params) [] h = refl
all_closed s (p ∷ params) (ValueArg x ∷ args) h = all_closed s params args h.1
all_closed s (p ∷ params) (RightArg id ∷ args) h = elim (cases_Bool (is_val p.mode)) [
  | inl e ↦ absurd (subst (λ b. ArgMatches false s p b (RightArg id)) e h.0)
  | inr e ↦ and_from (is_closed_if_required p (get s.live id)) (all_pass is_closed_if_required s.live params args) (one (subst (λ b. ArgMatches false s p b (RightArg id)) e h.0) (get s.live id) refl) (all_closed s params args h.1)
]
  where
    one : FitsParam false s p id → (o : Option Datum) → get s.live id ≡ o → is_closed_if_required p o ≡ true
    one f None at = refl
    one f (Some x) at = by p.mode f.suits
      where
        by : (mode : Mode) → suits_mode false mode f.right ≡ true → not (is_closed_mode mode) || is_closed x ≡ true
        by Val suits = refl
        by Closed suits = f.holds.closed x at suits
        by Ref suits = refl
        by Write suits = refl

-- ---- the arguments then

holds_as : (waits : Bool) (s : Store) (p : Param) (id : ℕ) (mode : Mode) → FitsParam waits s p id → (is_closed_mode mode ≡ true → is_closed_mode p.mode ≡ true) → (is_closed_mode mode ≡ true → waits ≡ false) → Holds s (record { mode = mode; ty = p.ty }) id
holds_as waits s p id mode f to now = record {
  given = f.holds.given;
  ty = λ x at. f.holds.ty x at ∙ f.ty;
  closed = λ x at c. f.holds.closed x at (by p.mode (to c) (subst (λ b. suits_mode b p.mode f.right ≡ true) (now c) f.suits));
}
  where
    by : (mode : Mode) → is_closed_mode mode ≡ true → suits_mode false mode f.right ≡ true → is_closed_mode f.right.mode ≡ true
    by Val c suits = cc
    by Closed c suits = suits
    by Ref c suits = cc
    by Write c suits = cc

-- a task's
pub put_fit : (s : Store) (params : List Param) (args : List Arg) → ArgsMatch false s params args → ArgsFit s params args
put_fit s [] [] h = tt
put_fit s [] (arg ∷ args) h = absurd h
put_fit s (p ∷ params) [] h = absurd h
put_fit s (p ∷ params) (arg ∷ args) h = (one (is_val p.mode) arg h.0, put_fit s params args h.1)
  where
    one : (b : Bool) (arg : Arg) → ArgMatches false s p b arg → ArgFits s p (if b then None else Some (record { mode = p.mode; ty = p.ty })) arg
    one true (ValueArg x) f = f
    one true (RightArg id) f = absurd f
    one false (ValueArg x) f = absurd f
    one false (RightArg id) f = holds_as false s p id p.mode f (λ c. c) (λ _. refl)

-- a rule's: `closed` ones are plain reads
pub rule_fit : (s : Store) (params : List Param) (args : List Arg) → ArgsMatch true s params args → RuleArgsFit s params (map (λ q. first_stage q.mode) params) args
rule_fit s [] [] h = tt
rule_fit s [] (arg ∷ args) h = absurd h
rule_fit s (p ∷ params) [] h = absurd h
rule_fit s (p ∷ params) (arg ∷ args) h = (asked p.mode, one arg h.0, rule_fit s params args h.1)
  where
    asked : (mode : Mode) → is_asked_for (first_stage mode) ≡ is_closed_mode mode
    asked Val = refl
    asked Closed = refl
    asked Ref = refl
    asked Write = refl

    as_read : (b : Bool) (arg : Arg) → ArgMatches true s p b arg → ArgFits s p (if b then None else Some (record { mode = Ref; ty = p.ty })) arg
    as_read true (ValueArg x) f = f
    as_read true (RightArg id) f = absurd f
    as_read false (ValueArg x) f = absurd f
    as_read false (RightArg id) f = holds_as true s p id Ref f (λ c. cc) (λ c. cc)

    as_it_is : (b : Bool) (arg : Arg) → is_closed_mode p.mode ≡ false → ArgMatches true s p b arg → ArgFits s p (if b then None else Some (record { mode = p.mode; ty = p.ty })) arg
    as_it_is true (ValueArg x) open_mode f = f
    as_it_is true (RightArg id) open_mode f = absurd f
    as_it_is false (ValueArg x) open_mode f = absurd f
    as_it_is false (RightArg id) open_mode f = holds_as true s p id p.mode f (λ c. c) (λ c. let z : false ≡ true = sym open_mode ∙ c in cc)

    one : (arg : Arg) → ArgMatches true s p (is_val p.mode) arg → ArgFits s p (right_until (first_stage p.mode) p) arg
    one arg f = elim (cases_Bool (is_closed_mode p.mode)) [
      | inl c ↦ subst (λ b. ArgFits s p (right_until (if b then Unasked else Free) p) arg) (sym c) (as_read (is_val p.mode) arg f)
      | inr o ↦ subst (λ b. ArgFits s p (right_until (if b then Unasked else Free) p) arg) (sym o) (as_it_is (is_val p.mode) arg o f)
    ]
