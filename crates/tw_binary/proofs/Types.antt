-- Types and parameters: each is parsed as it was written, and one that is wrong or cut off is reported.
use Rattle.tw_binary.proofs.Names.{AllByRecursion, Bool, Broken, Closed, Err, Five, Four, Int, IsMapOf, IsParamOf, IsSubscriptOf, IsTypeUnderOf, List, MapKind, Mode, NestedScalar, Nesting, NoMap, None, Ok, One, Option, Param, Ref, Result, Scalar, Some, Stop, Sums, Text, Two, Unknown, Val, Values, Version, Write, [], ap, arith, by_of, concat, cond, container_code, container_of, depth_of, eqb, eqb-true, false, has_maps, has_sums, has_texts, if◌then◌else◌, inl, inr, is_scalar, leaf_items, length, map_code, nested_items, param_items, refl, scalar_code, scalar_type, subst, suc, sym, true, type_items, values_items, zero, ℕ, ◌++◌, ◌-◌, ◌<◌, ◌∙◌, ◌∷◌, ◌≡◌, ◌≤◌, ◌⊎◌}
use Rattle.std.specs.Option.{option_map_or}
use Rattle.std.specs.Result.{is_ok, OnOk}
use Rattle.tw_binary.specs.declared.fault.Stop.TheVariants as stop
use Rattle.tw_binary.specs.Reading.{Fails, Reading, as_is, container_in, leaf_at, map_from, map_in, scalar_at, type_at, values_at, type_under, param_at, missing, wrong}
use Rattle.tw_binary.proofs.Formats.{IsBytes, IsBytes-rest, bind_ok, chosen, ok_is, Takes, Takes-then, as_is_takes, as_is_again, IsMade}
use Rattle.tw_binary.proofs.Breaks.{IsStrict, FailsAt, GoesOn, carried, due_after, err_is, refused, as_is_fails, as_is_strict, then_strict}
use Rattle.tw_binary.proofs.Bytes.{a_byte, AnyOf, front, nothing_left, wrong_byte, not_this, scalar_strict, mode_strict, values_strict}

-- at most so many containers, of the version
abbrev pub IsUnder : Version → ℕ → NestedScalar → Type 0
IsUnder version room t = (depth_of t ≤ room) × (AllByRecursion (IsSubscriptOf version) t.containers × IsMapOf version t.scalar t.map)

-- ---- the byte of a container

-- the first byte of a container is its code, and the version has its subscripts
container_is : (version : Version) (b : ℕ) (by : Scalar) → container_in version b ≡ Some by → (b ≡ container_code by) × IsSubscriptOf version by
container_is version b by e =
    elim (chosen (eqb b 3) (Some Int) (cond (eqb b 4) (cond (has_texts version) (Some Text) None) None) (Some by) e) [
      | inl h ↦ subst (λ (s : Scalar). (b ≡ container_code s) × IsSubscriptOf version s) (some_is Int by h.1) (eqb-true b 3 h.0, tt)
      | inr h ↦ elim (chosen (eqb b 4) (cond (has_texts version) (Some Text) None) None (Some by) h.1) [
        | inl g ↦ let known = texts version by g.1 in (subst (λ (s : Scalar). b ≡ container_code s) known.1 (eqb-true b 4 g.0), known.0)
        | inr g ↦ cc
      ]
    ]
  where
    some_is : (x y : Scalar) → Some x ≡ Some y → x ≡ y
    some_is x y h = cc

    texts : (version : Version) (by : Scalar) → cond (has_texts version) (Some Text) None ≡ Some by → IsSubscriptOf version by × (Text ≡ by)
    texts One by h = cc
    texts Two by h = (subst (IsSubscriptOf Two) (some_is Text by h) tt, some_is Text by h)
    texts Four by h = (subst (IsSubscriptOf Four) (some_is Text by h) tt, some_is Text by h)
    texts Five by h = (subst (IsSubscriptOf Five) (some_is Text by h) tt, some_is Text by h)

container_known : (version : Version) (by : Scalar) → IsSubscriptOf version by → container_in version (container_code by) ≡ Some by
container_known version Int h = refl
container_known One Text h = absurd h
container_known Two Text h = refl
container_known Four Text h = refl
container_known Five Text h = refl

-- parsing depends on whether a container begins
begun : {Z : Type 0} (o : Option Scalar) (f : Scalar → Z) (y z : Z) → option_map_or f o y ≡ z → ((by : Scalar) × (o ≡ Some by) × (f by ≡ z)) ⊎ ((o ≡ None) × (y ≡ z))
begun (Some by) f y z e = inl (by, refl, e)
begun None f y z e = inr (refl, e)

-- ---- a parsed type was written so

scalar_type_takes : (version : Version) (room : ℕ) (bytes : List ℕ) (t : NestedScalar) (rest : List ℕ) → IsBytes bytes → as_is scalar_type scalar_at bytes ≡ Ok (t, rest) → Takes bytes (concat (type_items t)) rest × IsUnder version room t
scalar_type_takes version room bytes t rest fits e =
    let a = as_is_takes scalar_strict.format scalar_type bytes t rest fits e in
    subst (λ (u : NestedScalar). Takes bytes (concat (type_items u)) rest × IsUnder version room u) a.3 (a.1, (omega arith, (tt, tt)))

-- the first byte of a map is its code, and the version has maps
map_is : (version : Version) (b : ℕ) (by : Scalar) → map_in version b ≡ Some by → (b ≡ map_code by) × (has_maps version ≡ true)
map_is version b by e = in_version (has_maps version) e
  where
    some_is : (x y : Scalar) → Some x ≡ Some y → x ≡ y
    some_is x y h = cc

    in_version : (has : Bool) → cond has (cond (eqb b 5) (Some Int) (cond (eqb b 6) (Some Text) None)) None ≡ Some by → (b ≡ map_code by) × (has ≡ true)
    in_version false e = cc
    in_version true e = elim (chosen (eqb b 5) (Some Int) (cond (eqb b 6) (Some Text) None) (Some by) e) [
      | inl h ↦ (subst (λ (s : Scalar). b ≡ map_code s) (some_is Int by h.1) (eqb-true b 5 h.0), refl)
      | inr h ↦ elim (chosen (eqb b 6) (Some Text) None (Some by) h.1) [
        | inl g ↦ (subst (λ (s : Scalar). b ≡ map_code s) (some_is Text by g.1) (eqb-true b 6 g.0), refl)
        | inr g ↦ cc
      ]
    ]

map_known : (version : Version) (by : Scalar) → has_maps version ≡ true → map_in version (map_code by) ≡ Some by
map_known version Int has = rw has refl
map_known version Text has = rw has refl

map_items : (by : Scalar) (o : Option Scalar) → type_items (map_from by o) ≡ a_byte (map_code by) ++ values_items o
map_items by None = refl
map_items by (Some s) = refl

map_under : (version : Version) (room : ℕ) (by : Scalar) (o : Option Scalar) → has_maps version ≡ true → IsUnder version room (map_from by o)
map_under One room by o has = absurd cc
map_under Two room by o has = absurd cc
map_under Four room by None has = (omega arith, (tt, tt))
map_under Four room by (Some s) has = (omega arith, (tt, tt))
map_under Five room by None has = (omega arith, (tt, tt))
map_under Five room by (Some s) has = (omega arith, (tt, tt))

leaf_takes : (version : Version) (room : ℕ) (bytes : List ℕ) (t : NestedScalar) (rest : List ℕ) → IsBytes bytes → leaf_at version bytes ≡ Ok (t, rest) → Takes bytes (concat (type_items t)) rest × IsUnder version room t
unfolding leaf_at
leaf_takes version room [] t rest fits e = absurd cc
leaf_takes version room (b ∷ bs) t rest fits e =
    elim (begun (map_in version b) (λ by. as_is (map_from by) values_at bs) (as_is scalar_type scalar_at (b ∷ bs)) (Ok (t, rest)) e) [
      | inl h ↦
          let is = map_is version b h.0 h.1 in
          let a = as_is_takes values_strict.format (map_from h.0) bs t rest (IsBytes-rest b bs fits) h.2 in
          let begin : Takes (b ∷ bs) (concat (a_byte (map_code h.0))) bs = subst (λ (k : ℕ). Takes (b ∷ bs) (concat (a_byte k)) bs) is.0 (front b bs fits) in
          let whole = Takes-then (b ∷ bs) (a_byte (map_code h.0)) bs (values_items a.0) rest begin a.1 in
          let spelled : Takes (b ∷ bs) (concat (type_items (map_from h.0 a.0))) rest = subst (λ (items : List (List ℕ)). Takes (b ∷ bs) (concat items) rest) (sym (map_items h.0 a.0)) whole in
          subst (λ (u : NestedScalar). Takes (b ∷ bs) (concat (type_items u)) rest × IsUnder version room u) a.3 (spelled, map_under version room h.0 a.0 is.1)
      | inr h ↦ scalar_type_takes version room (b ∷ bs) t rest fits h.1
    ]

type_takes : (version : Version) (room : ℕ) (bytes : List ℕ) (t : NestedScalar) (rest : List ℕ) → IsBytes bytes → type_at version room bytes ≡ Ok (t, rest) → Takes bytes (concat (type_items t)) rest × IsUnder version room t
unfolding type_at
type_takes version zero [] t rest fits e = absurd cc
type_takes version (suc room) [] t rest fits e = absurd cc
type_takes version zero (b ∷ bs) t rest fits e =
    elim (begun (container_in version b) (λ by. wrong Nesting (b ∷ bs)) (leaf_at version (b ∷ bs)) (Ok (t, rest)) e) [
      | inl h ↦ cc
      | inr h ↦ leaf_takes version 0 (b ∷ bs) t rest fits h.1
    ]
type_takes version (suc room) (b ∷ bs) t rest fits e =
    elim (begun (container_in version b) (λ by. as_is (container_of by) (type_at version room) bs) (leaf_at version (b ∷ bs)) (Ok (t, rest)) e) [
      | inl h ↦
          let a = bind_ok (type_at version room bs) (λ x. Ok (container_of h.0 x.0, x.1)) (t, rest) h.2 in
          let is = container_is version b h.0 h.1 in
          let inner = type_takes version room bs a.0.0 a.0.1 (IsBytes-rest b bs fits) a.1 in
          let begin : Takes (b ∷ bs) (concat (a_byte (container_code h.0))) bs = subst (λ (k : ℕ). Takes (b ∷ bs) (concat (a_byte k)) bs) is.0 (front b bs fits) in
          subst (λ (y : NestedScalar × List ℕ). Takes (b ∷ bs) (concat (type_items y.0)) y.1 × IsUnder version (suc room) y.0) (ok_is (container_of h.0 a.0.0, a.0.1) (t, rest) a.2)
          (Takes-then (b ∷ bs) (a_byte (container_code h.0)) bs (type_items a.0.0) a.0.1 begin inner.0, (omega (arith, inner.1.0), ((is.1, inner.1.1.0), inner.1.1.1)))
      | inr h ↦ leaf_takes version (suc room) (b ∷ bs) t rest fits h.1
    ]

-- ---- the first byte

pub none_left : (version : Version) (room : ℕ) (bytes : List ℕ) → length bytes ≡ 0 → type_at version room bytes ≡ missing
unfolding type_at
none_left version zero [] h = refl
none_left version (suc room) [] h = refl
none_left version room (b ∷ bs) h = absurd (omega (arith, h))

pub too_deep : (version : Version) (b : ℕ) (by : Scalar) (bs bytes : List ℕ) → bytes ≡ b ∷ bs → container_in version b ≡ Some by → type_at version 0 bytes ≡ wrong Nesting bytes
unfolding type_at
too_deep version b by bs bytes is begins = subst (λ (all : List ℕ). type_at version 0 all ≡ wrong Nesting all) (sym is) (rw begins refl)

pub begins_container : (version : Version) (room b : ℕ) (by : Scalar) (bs bytes : List ℕ) → bytes ≡ b ∷ bs → container_in version b ≡ Some by → 0 < room → type_at version room bytes ≡ as_is (container_of by) (type_at version (room - 1)) bs
unfolding type_at
begins_container version zero b by bs bytes is begins some = absurd (omega (arith, some))
begins_container version (suc room) b by bs bytes is begins some =
    let less : suc room - 1 ≡ room = omega arith in
    subst (λ (all : List ℕ). type_at version (suc room) all ≡ as_is (container_of by) (type_at version (suc room - 1)) bs) (sym is) (rw (begins, less) refl)

pub begins_leaf : (version : Version) (room b : ℕ) (bs bytes : List ℕ) → bytes ≡ b ∷ bs → container_in version b ≡ None → type_at version room bytes ≡ leaf_at version bytes
unfolding type_at
begins_leaf version zero b bs bytes is none = subst (λ (all : List ℕ). type_at version 0 all ≡ leaf_at version all) (sym is) (rw none refl)
begins_leaf version (suc room) b bs bytes is none = subst (λ (all : List ℕ). type_at version (suc room) all ≡ leaf_at version all) (sym is) (rw none refl)

pub no_leaf : (version : Version) (bytes : List ℕ) → length bytes ≡ 0 → leaf_at version bytes ≡ missing
unfolding leaf_at
no_leaf version [] h = refl
no_leaf version (b ∷ bs) h = absurd (omega (arith, h))

pub begins_map : (version : Version) (b : ℕ) (by : Scalar) (bs bytes : List ℕ) → bytes ≡ b ∷ bs → map_in version b ≡ Some by → leaf_at version bytes ≡ as_is (map_from by) values_at bs
unfolding leaf_at
begins_map version b by bs bytes is begins = subst (λ (all : List ℕ). leaf_at version all ≡ as_is (map_from by) values_at bs) (sym is) (rw begins refl)

pub begins_scalar : (version : Version) (b : ℕ) (bs bytes : List ℕ) → bytes ≡ b ∷ bs → map_in version b ≡ None → leaf_at version bytes ≡ as_is scalar_type scalar_at bytes
unfolding leaf_at
begins_scalar version b bs bytes is none = subst (λ (all : List ℕ). leaf_at version all ≡ as_is scalar_type scalar_at all) (sym is) (rw none refl)

-- ---- the bytes that are written

pub map_bytes : (kind : MapKind) (s by : Scalar) (first second : ℕ) → Some by ≡ by_of kind → first ≡ map_code by → second ≡ (if has_sums kind then 3 else scalar_code s) → first ∷ second ∷ [] ≡ concat (leaf_items kind s)
map_bytes NoMap s by first second is e f = cc
map_bytes (Values own) s by first second is e f = let same : by ≡ own = cc in ap (λ n. n ∷ second ∷ []) (e ∙ ap map_code same) ∙ ap (λ n. map_code own ∷ n ∷ []) f
map_bytes (Sums own) s by first second is e f = let same : by ≡ own = cc in ap (λ n. n ∷ second ∷ []) (e ∙ ap map_code same) ∙ ap (λ n. map_code own ∷ n ∷ []) f

pub scalar_bytes : (kind : MapKind) (s : Scalar) (first : ℕ) → None ≡ by_of kind → first ≡ scalar_code s → first ∷ [] ≡ concat (leaf_items kind s)
scalar_bytes NoMap s first is e = ap (λ n. n ∷ []) e
scalar_bytes (Values own) s first is e = cc
scalar_bytes (Sums own) s first is e = cc

-- bytes that are appended are those that are expected
pub appended : {T E : Type 0} (r : Result T E) (old bytes wanted other new : List ℕ) → new ≡ cond (is_ok r) (old ++ bytes) other → bytes ≡ wanted → OnOk r (new ≡ old ++ wanted)
appended (Ok x) old bytes wanted other new e f = e ∙ ap (λ (bs : List ℕ). old ++ bs) f
appended (Err why) old bytes wanted other new e f = tt

-- the result of a function whose test holds
pub made : {A : Type 0} (b : Bool) (x y : A) → (if b then Some x else None) ≡ Some y → x ≡ y
made true x y h = cc
made false x y h = cc

pub inside : (by : Scalar) (t u : NestedScalar) (xs ys : List ℕ) → t ≡ u → xs ≡ ys → ◌≡◌ {A = Result (NestedScalar × List ℕ) Broken} (Ok (container_of by t, xs)) (Ok (container_of by u, ys))
inside by t u xs ys h g = cc

-- if the type of the members fails, the type does
pub fails_within : {A B : Type 0} (stop : Stop) (make : A → B) (read : Reading A) (bytes : List ℕ) → Fails stop (read bytes) → Fails stop (as_is make read bytes)
fails_within stop.NoMemory make read bytes h = tt
fails_within (stop.At f) make read bytes h = rw h refl

-- ---- a written type is parsed

leaf_again : (version : Version) (kind : MapKind) (s : Scalar) (rest : List ℕ) → IsMapOf version s kind → leaf_at version (concat (leaf_items kind s) ++ rest) ≡ Ok (record { containers = []; scalar = s; map = kind }, rest)
unfolding leaf_at scalar_at values_at
leaf_again One NoMap Int rest h = refl
leaf_again One NoMap Text rest h = refl
leaf_again Two NoMap Int rest h = refl
leaf_again Two NoMap Text rest h = refl
leaf_again Four NoMap Int rest h = refl
leaf_again Four NoMap Text rest h = refl
leaf_again Five NoMap Int rest h = refl
leaf_again Five NoMap Text rest h = refl
leaf_again One (Values by) s rest h = absurd h
leaf_again One (Sums by) s rest h = absurd h
leaf_again Two (Values by) s rest h = absurd h
leaf_again Two (Sums by) s rest h = absurd h
leaf_again Four (Values Int) Int rest h = refl
leaf_again Four (Values Int) Text rest h = refl
leaf_again Four (Values Text) Int rest h = refl
leaf_again Four (Values Text) Text rest h = refl
leaf_again Four (Sums Int) Int rest h = refl
leaf_again Four (Sums Text) Int rest h = refl
leaf_again Four (Sums by) Text rest h = absurd h
leaf_again Five (Values Int) Int rest h = refl
leaf_again Five (Values Int) Text rest h = refl
leaf_again Five (Values Text) Int rest h = refl
leaf_again Five (Values Text) Text rest h = refl
leaf_again Five (Sums Int) Int rest h = refl
leaf_again Five (Sums Text) Int rest h = refl
leaf_again Five (Sums by) Text rest h = absurd h

-- a leaf's first byte begins no container
leaf_first : (version : Version) (room : ℕ) (kind : MapKind) (s : Scalar) (rest : List ℕ) → type_at version room (concat (leaf_items kind s) ++ rest) ≡ leaf_at version (concat (leaf_items kind s) ++ rest)
unfolding type_at
leaf_first version zero NoMap Int rest = refl
leaf_first version zero NoMap Text rest = refl
leaf_first version (suc room) NoMap Int rest = refl
leaf_first version (suc room) NoMap Text rest = refl
leaf_first version zero (Values Int) s rest = refl
leaf_first version zero (Values Text) s rest = refl
leaf_first version (suc room) (Values Int) s rest = refl
leaf_first version (suc room) (Values Text) s rest = refl
leaf_first version zero (Sums Int) s rest = refl
leaf_first version zero (Sums Text) s rest = refl
leaf_first version (suc room) (Sums Int) s rest = refl
leaf_first version (suc room) (Sums Text) s rest = refl

type_again : (version : Version) (room : ℕ) (cs : List Scalar) (kind : MapKind) (s : Scalar) (rest : List ℕ) → length cs ≤ room → AllByRecursion (IsSubscriptOf version) cs → IsMapOf version s kind
    → type_at version room (concat (nested_items cs (leaf_items kind s)) ++ rest) ≡ Ok (record { containers = cs; scalar = s; map = kind }, rest)
unfolding type_at
type_again version room [] kind s rest h all has = leaf_first version room kind s rest ∙ leaf_again version kind s rest has
type_again version zero (by ∷ cs) kind s rest h all has = absurd (omega arith)
type_again version (suc room) (by ∷ cs) kind s rest h all has = rw (container_known version by all.0, type_again version room cs kind s rest (omega arith) all.1 has) refl

-- ---- types that fail

int_type : NestedScalar
int_type = scalar_type Int

scalar_wrong : (b : ℕ) (bs : List ℕ) (f : Broken) → as_is scalar_type scalar_at (b ∷ bs) ≡ Err f → (eqb b 1 ≡ false) × (eqb b 2 ≡ false) × (record { no = Unknown; left = suc (length bs) } ≡ f)
unfolding scalar_at
scalar_wrong b bs f e =
    let g = not_this (eqb b 1) (Int, bs) _ f (as_is_fails scalar_type scalar_at (b ∷ bs) f e) in
    let h = refused (eqb b 2) (Text, bs) (record { no = Unknown; left = suc (length bs) }) f g.1 in
    (g.0, h.0, h.1)

-- one container more
in_container : (version : Version) (room : ℕ) (by : Scalar) → IsSubscriptOf version by → GoesOn (IsUnder version room) type_items (type_at version room) (IsUnder version (suc room)) type_items (type_at version (suc room)) (concat (a_byte (container_code by)))
unfolding type_at
in_container version room by has = record {
  due = due_after (container_of by) (λ t h. (omega (arith, h.0), ((has, h.1.0), h.1.1))) (a_byte (container_code by)) (λ t h. refl);
  fails = λ rest d h. rw (container_known version by has, h) refl;
}

-- a map
in_map : (version : Version) (room : ℕ) (by : Scalar) → has_maps version ≡ true → GoesOn AnyOf values_items values_at (IsUnder version room) type_items (type_at version room) (concat (a_byte (map_code by)))
unfolding leaf_at type_at
in_map version room by has = record {
  due = due_after (map_from by) (λ o h. map_under version room by o has) (a_byte (map_code by)) (λ o h. map_items by o);
  fails = λ rest d h. first room by rest ∙ rw (map_known version by has, h) refl;
}
  where
    first : (room : ℕ) (by : Scalar) (rest : List ℕ) → type_at version room (map_code by ∷ rest) ≡ leaf_at version (map_code by ∷ rest)
    first zero Int rest = refl
    first zero Text rest = refl
    first (suc room) Int rest = refl
    first (suc room) Text rest = refl

-- a type whose first byte begins no container
leaf_fails : (version : Version) (room b : ℕ) (bs : List ℕ) (f : Broken) → IsBytes (b ∷ bs) → container_in version b ≡ None → leaf_at version (b ∷ bs) ≡ Err f → FailsAt (IsUnder version room) type_items (type_at version room) (b ∷ bs) f
unfolding type_at leaf_at scalar_at int_type
leaf_fails version room b bs f fits plain e =
    elim (begun (map_in version b) (λ by. as_is (map_from by) values_at bs) (as_is scalar_type scalar_at (b ∷ bs)) (Err f) e) [
      | inl h ↦
          let is = map_is version b h.0 h.1 in
          carried (in_map version room h.0 is.1) bs (b ∷ bs) f (ap (λ (x : ℕ). x ∷ bs) is.0) (values_strict.fails bs f (IsBytes-rest b bs fits) (as_is_fails (map_from h.0) values_at bs f h.2))
      | inr h ↦
          let g = scalar_wrong b bs f h.1 in
          inr (wrong_byte b bs Unknown f int_type (omega arith, (tt, tt)) 1 [] refl tt g.2 (λ rest. stops room rest h.0 g.0 g.1))
    ]
  where
    stops : (room : ℕ) (rest : List ℕ) → map_in version b ≡ None → eqb b 1 ≡ false → eqb b 2 ≡ false → type_at version room (b ∷ rest) ≡ Err (record { no = Unknown; left = suc (length rest) })
    stops zero rest none one two = rw (plain, none, one, two) refl
    stops (suc room) rest none one two = rw (plain, none, one, two) refl

type_fails : (version : Version) (room : ℕ) (bytes : List ℕ) (f : Broken) → IsBytes bytes → type_at version room bytes ≡ Err f → FailsAt (IsUnder version room) type_items (type_at version room) bytes f
unfolding type_at scalar_at int_type
type_fails version zero [] f fits e = inl (nothing_left f int_type (omega arith, (tt, tt)) 1 [] refl (err_is {Z = NestedScalar × List ℕ} _ f e))
type_fails version (suc room) [] f fits e = inl (nothing_left f int_type (omega arith, (tt, tt)) 1 [] refl (err_is {Z = NestedScalar × List ℕ} _ f e))
type_fails version zero (b ∷ bs) f fits e =
    elim (begun (container_in version b) (λ by. wrong Nesting (b ∷ bs)) (leaf_at version (b ∷ bs)) (Err f) e) [
      | inl h ↦ inr (wrong_byte b bs Nesting f int_type (omega arith, (tt, tt)) 1 [] refl tt (err_is {Z = NestedScalar × List ℕ} _ f h.2) (λ rest. rw h.1 refl))
      | inr h ↦ leaf_fails version zero b bs f fits h.0 h.1
    ]
type_fails version (suc room) (b ∷ bs) f fits e =
    elim (begun (container_in version b) (λ by. as_is (container_of by) (type_at version room) bs) (leaf_at version (b ∷ bs)) (Err f) e) [
      | inl h ↦
          let is = container_is version b h.0 h.1 in
          carried (in_container version room h.0 is.1) bs (b ∷ bs) f (ap (λ (x : ℕ). x ∷ bs) is.0) (type_fails version room bs f (IsBytes-rest b bs fits) (as_is_fails (container_of h.0) (type_at version room) bs f h.2))
      | inr h ↦ leaf_fails version (suc room) b bs f fits h.0 h.1
    ]

-- ---- the theorems

pub type_strict : (version : Version) (room : ℕ) → IsStrict (IsUnder version room) type_items (type_at version room)
unfolding int_type
type_strict version room = record {
  format = record { takes = type_takes version room; again = λ t rest h. type_again version room t.containers t.map t.scalar rest h.0 h.1.0 h.1.1 };
  some = int_type;
  some_fits = (omega arith, (tt, tt));
  fails = λ bytes f fits e. type_fails version room bytes f fits e;
}

-- a scalar
abbrev IsScalar : NestedScalar → Type 0
IsScalar t = is_scalar t ≡ true

scalar_type_strict : IsStrict IsScalar type_items (as_is scalar_type scalar_at)
unfolding int_type scalar_at
scalar_type_strict = record {
  format = record { takes = takes; again = λ t rest h. again t.containers t.map t.scalar rest h };
  some = int_type;
  some_fits = refl;
  fails = fails;
} where
  takes : (bytes : List ℕ) (t : NestedScalar) (rest : List ℕ) → IsBytes bytes → as_is scalar_type scalar_at bytes ≡ Ok (t, rest) → Takes bytes (concat (type_items t)) rest × IsScalar t
  takes bytes t rest fits e =
      let a = as_is_takes scalar_strict.format scalar_type bytes t rest fits e in
      subst (λ (u : NestedScalar). Takes bytes (concat (type_items u)) rest × IsScalar u) a.3 (a.1, refl)

  again : (containers : List Scalar) (kind : MapKind) (s : Scalar) (rest : List ℕ) → is_scalar (record { containers = containers; scalar = s; map = kind }) ≡ true
      → as_is scalar_type scalar_at (concat (nested_items containers (leaf_items kind s)) ++ rest) ≡ Ok (record { containers = containers; scalar = s; map = kind }, rest)
  again [] NoMap s rest h = as_is_again scalar_strict.format scalar_type s rest tt
  again [] (Values by) s rest h = absurd cc
  again [] (Sums by) s rest h = absurd cc
  again (by ∷ inner) kind s rest h = absurd cc

  fails : (bytes : List ℕ) (f : Broken) → IsBytes bytes → as_is scalar_type scalar_at bytes ≡ Err f → FailsAt IsScalar type_items (as_is scalar_type scalar_at) bytes f
  fails [] f fits e = inl (nothing_left f int_type refl 1 [] refl (err_is {Z = NestedScalar × List ℕ} _ f e))
  fails (b ∷ bs) f fits e = let g = scalar_wrong b bs f e in inr (wrong_byte b bs Unknown f int_type refl 1 [] refl tt g.2 (λ rest. rw (g.0, g.1) refl))

type_under_strict : (version : Version) (m : Mode) → IsStrict (IsTypeUnderOf version m) type_items (type_under version m)
type_under_strict version Val = scalar_type_strict
type_under_strict version Closed = type_strict version 3
type_under_strict version Ref = type_strict version 3
type_under_strict version Write = type_strict version 3

param_made : (version : Version) → IsMade (λ (x : Mode × NestedScalar). AnyOf x.0 × IsTypeUnderOf version x.0 x.1) (IsParamOf version) (λ x. record { mode = x.0; ty = x.1 }) (λ (p : Param). (p.mode, p.ty))
param_made version = record { made = λ p h. refl; undone = λ x h. refl; fits = λ x h. h.1; parts_fit = λ p h. (tt, h) }

pub param_strict : (version : Version) → IsStrict (IsParamOf version) param_items (param_at version)
unfolding param_at
param_strict version = as_is_strict (param_made version) (then_strict mode_strict (type_under_strict version))
