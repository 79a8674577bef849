-- Members and items as definitions see them.
use Rattle.std.proofs.Common.{◌≡◌, ◌+◌, ◌<◌, ℕ, zero, suc, List, [], ◌∷◌, ◌++◌, Bor, Option, Some, None, ap, arith, refl, sym, subst, map, length, take, drop, get_or, slice_index_or, option_map, append_assoc, rules, ◌∙◌}
use Rattle.std.specs.List.{Contains}
use Rattle.std.specs.Prelude.{MatchOption}
use Rattle.std.specs.declared.cmp.Ordering.{Ordering}
use Rattle.std.proofs.lemmas.List.{append-nil, length-map, length-take, map-append, map_more, take-append-drop}
use Rattle.json.specs.Json.{Json, Members, number}
use Rattle.json.specs.Print.{print, print_from, quoted}
use Rattle.json.specs.Token.{Token}
use Rattle.json.specs.Value.{members_view, value_view}
use Rattle.json.specs.declared.value.Value.{Value, Number, the_lemmas}
use Rattle.tw_types.specs.declared.input.Input.{Input}
use Rattle.tw_types.specs.declared.input.Input.TheVariants.{Int}
use Rattle.tw_types.specs.Nesting.{NestedScalar}
use Rattle.tw_types.specs.declared.param.Param.{Param}
use Rattle.tw_inputs.specs.JsonInputs.{AreInputsFrom, AreMembers, IsFirstBad, IsInput, NoMembers, entries, entry_of, int_in, member_in, members_in, type_at}

-- the members of a value are those of the JSON value that it shows
pub seen_members : {A K V : Type 0} (key : List ℕ → Option K) (value : Json → Option V) (ms : List (Bor (List ℕ) × Value A)) → members_in key value (members_view ms) ≡ map (λ m. member_in key value (entry_of m)) ms
seen_members key value [] = refl
seen_members key value (m ∷ ms) = ap (λ es. member_in key value (entry_of m) ∷ es) (seen_members key value ms)

pub members_counted : {A : Type 0} (ms : List (Bor (List ℕ) × Value A)) → length (entries (members_view ms)) ≡ length ms
members_counted [] = refl
members_counted (m ∷ ms) = omega (arith, members_counted ms)

-- the text of a string alone
pub string_printed : (s : List ℕ) → print (Token.string s ∷ []) ≡ quoted s
unfolding print_from
string_printed s = append-nil (quoted s)

-- one more input
pub inputs_more : (params : List Param) (index : ℕ) (js : List Json) (inputs : List Input) (j : Json) (given : Input) → AreInputsFrom params index js inputs → IsInput (type_at params (index + length js)) j given
    → AreInputsFrom params index (js ++ j ∷ []) (inputs ++ given ∷ [])
inputs_more params index [] [] j given h k = (subst (λ (n : ℕ). IsInput (type_at params n) j given) (omega arith) k, tt)
inputs_more params index [] (x ∷ xs) j given h k = absurd h
inputs_more params index (i ∷ js) [] j given h k = absurd h
inputs_more params index (i ∷ js) (x ∷ xs) j given h k = (h.0, inputs_more params (suc index) js xs j given h.1 (subst (λ (n : ℕ). IsInput (type_at params n) j given) (omega arith) k))

-- a list of values has no place without one
none_among : {X : Type 0} (xs : List X) (k : ℕ) → k < length xs → slice_index_or (map Some xs) k None ≡ None → ⊥
none_among [] k lt e = absurd (omega (arith, lt))
none_among (x ∷ xs) zero lt e = absurd cc
none_among (x ∷ xs) (suc k) lt e = none_among xs k (omega (arith, lt)) e

-- a list of values has no absent one
pub no_none : {X : Type 0} (xs : List X) → Contains (map Some xs) None → ⊥
no_none xs (k, lt, e) = none_among xs k (omega (arith, lt, length-map xs Some)) e

-- members are none where one of them is
pub no_members : {K V : Type 0} (order : K → K → Ordering) (key : List ℕ → Option K) (value : Json → Option V) (ms : Members) (es : List (K × V)) → NoMembers key value ms → AreMembers order key value ms es → ⊥
no_members order key value ms es none (read, is, ordered, sorted) = no_none read (subst (λ (l : List (Option _)). Contains l None) (sym is) none)

-- a place without a value
pub none_found : {X Y : Type 0} (f : X → Option Y) (xs : List X) (k : ℕ) (d : X) → k < length xs → f (get_or xs k d) ≡ None → Contains (map f xs) None
none_found f [] k d lt e = absurd (omega (arith, lt))
none_found f (x ∷ xs) zero d lt e = (0, omega arith, e)
none_found f (x ∷ xs) (suc k) d lt e = let rest = none_found f xs k d (omega (arith, lt)) e in (suc rest.0, omega (arith, rest.1), rest.2)

pub view_number : (A : Type 0) (s : Bor (List ℕ)) → value_view {A = A} (Number s) ≡ number s.now
view_number A s = search (rules, the_lemmas)

-- the input that a number is
pub number_read : (ty : NestedScalar) (s : List ℕ) (read : Option Input) → read ≡ option_map Int (int_in s) → MatchOption read ((given : Input) → IsInput ty (number s) given → ⊥) (IsInput ty (number s))
number_read ty s read e = subst (λ (r : Option Input). MatchOption r ((given : Input) → IsInput ty (number s) given → ⊥) (IsInput ty (number s))) (sym e) (by (int_in s) refl)
  where
    by : (o : Option _) → int_in s ≡ o → MatchOption (option_map Int o) ((given : Input) → IsInput ty (number s) given → ⊥) (IsInput ty (number s))
    by None is = λ given h. absurd (none h.1)
      where
        none : {n : _} → int_in s ≡ Some n → ⊥
        none some = cc
    by (Some n) is = (n, is, refl)

module _ {A : Type 0} (params : List Param) (items : List (Value A)) (i : ℕ) (item : Value A) (lt : i < length items) (at : item ≡ get_or items i item) where
  abbrev done : List Json
  done = map value_view (take i items)

  count : length done ≡ i
  count = omega (arith, lt, length-map (take i items) (λ (v : Value A). value_view v), length-take i items)

  from_first : 0 + length done ≡ i
  from_first = omega (arith, count)

  here : (P : Json → Type 0) → P (value_view item) → P (value_view (get_or items i item))
  here P h = subst (λ (v : Value A). P (value_view v)) at h

  -- the inputs of one more item
  pub one_input_more : (inputs new : List Input) (x : Input) (ty : NestedScalar) → ty ≡ type_at params i → AreInputsFrom params 0 done inputs → IsInput ty (value_view item) x → new ≡ inputs ++ x ∷ []
      → AreInputsFrom params 0 (map value_view (take (i + 1) items)) new
  one_input_more inputs new x ty e h k is =
      let j = value_view (get_or items i item) in
      let typed : IsInput (type_at params i) j x = subst (λ (t : NestedScalar). IsInput t j x) e (here (λ (l : Json). IsInput ty l x) k) in
      let last : IsInput (type_at params (0 + length done)) j x = subst (λ (n : ℕ). IsInput (type_at params n) j x) (sym from_first) typed in
      subst (AreInputsFrom params 0 (map value_view (take (i + 1) items))) (sym is)
      (subst (λ (js : List Json). AreInputsFrom params 0 js (inputs ++ x ∷ [])) (sym (map_more (λ (v : Value A). value_view v) items i item lt)) (inputs_more params 0 done inputs j x h last))

  -- the item after those is the first that is none
  pub bad_at : (inputs : List Input) (ty : NestedScalar) → ty ≡ type_at params i → AreInputsFrom params 0 done inputs → ((given : Input) → IsInput ty (value_view item) given → ⊥) → IsFirstBad params (map value_view items) i
  bad_at inputs ty e h none =
      let f = λ (v : Value A). value_view v in
      let later = map f (drop (i + 1) items) in
      record {
        inputs = inputs;
        before = done;
        item = f (get_or items i item);
        later = later;
        parts = sym (ap (map f) (take-append-drop (i + 1) items)) ∙ map-append f (take (i + 1) items) (drop (i + 1) items) ∙ ap (λ (js : List Json). js ++ later) (map_more f items i item lt) ∙ append_assoc done (f (get_or items i item) ∷ []) later;
        count = count;
        read = h;
        bad = here (λ (j : Json). (given : Input) → IsInput (type_at params i) j given → ⊥) (λ given k. none given (subst (λ (t : NestedScalar). IsInput t (value_view item) given) (sym e) k));
      }
