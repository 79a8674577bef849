-- Reading lists of items, and types.
use Rattle.std.proofs.Common.{◌≡◌, ℕ, suc, ◌≤◌, Bool, true, false, cond, List, [], ◌∷◌, ◌++◌, length, Result, Ok, Err, refl, sym, ap, subst, ◌∙◌, arith, append_assoc, append-nil}
use Rattle.tw_asm.proofs.AsmNames.{AllByRecursion, Bare, Begun, Form, HasType, Int, IsList, IsMapOf, IsSubscriptOf, Limit, MapKind, NestedScalar, NoMap, Reads, Scalar, Sums, TokenError, Values, Version, Word, around, as_is, before, both, carried, contained, container_in, container_of, container_word, depth_of, each, each_from, few, if◌then◌else◌, is_scalar, is_sum, joined, ltb-true, map_in, map_of, map_word, mapped, nat_lt, nat_tests, put_first, scalar_in, scalar_type, scalar_word, sum_word, sums_of, type_from, type_in, typed, whole_type}
use Rattle.tw_asm.specs.declared.gathering.Begun.TheVariants as so_far
use Rattle.tw_asm.proofs.OperandWords.{Free, IsContainerOf, IsMapWordOf, container_read, map_read, scalar_read, sum_is, sum_isnt}
use Rattle.tw_asm.proofs.Readings.{both_read, likewise}
use Rattle.tw_asm.proofs.TypeWords.{first_is, first_no_sum, has_map, has_sums_of, leaf_apart, map_no_container, map_no_scalar, map_since, one_container, one_map, one_type, rest_is, some_words, sum_no_scalar, sums_since, words_of}

-- ---- from the right

abbrev pub together : {A : Type 0} → Result (List A) TokenError → Result (List A) TokenError → Result (List A) TokenError
together front rest = as_is (λ x. x.0 ++ x.1) (both front rest)

abbrev pub each_right : {A : Type 0} → (Word → Result A TokenError) → List Word → Result (List A) TokenError
each_right read [] = Ok []
each_right read (w ∷ ws) = put_first (read w) (each_right read ws)

pub regroup : {A : Type 0} (s : Result (List A) TokenError) (a : Result A TokenError) (r : Result (List A) TokenError) → together (joined s a) r ≡ together s (put_first a r)
regroup s a (Err Form) = refl
regroup s (Err Form) (Ok r) = refl
regroup (Ok s) (Ok a) (Ok r) = ap (λ (xs : List _). Ok xs) (append_assoc s (a ∷ []) r)
regroup (Err e) (Ok a) (Ok r) = refl
regroup (Ok s) (Err Limit) (Ok r) = refl
regroup (Err e) (Err Limit) (Ok r) = refl
regroup s (Err Form) (Err Limit) = refl
regroup (Ok s) (Ok a) (Err Limit) = refl
regroup (Err e) (Ok a) (Err Limit) = refl
regroup (Ok s) (Err Limit) (Err Limit) = refl
regroup (Err e) (Err Limit) (Err Limit) = refl

pub nothing_after : {A : Type 0} (s : Result (List A) TokenError) → s ≡ together s (Ok [])
nothing_after (Ok s) = ap (λ (xs : List _). Ok xs) (sym (append-nil s))
nothing_after (Err e) = refl

pub nothing_before : {A : Type 0} (r : Result (List A) TokenError) → together (Ok []) r ≡ r
nothing_before (Ok r) = refl
nothing_before (Err Form) = refl
nothing_before (Err Limit) = refl

each_same : {A : Type 0} (read : Word → Result A TokenError) (s : Result (List A) TokenError) (ws : List Word) → each_from read s ws ≡ together s (each_right read ws)
each_same read s [] = nothing_after s
each_same read s (w ∷ ws) = each_same read (joined s (read w)) ws ∙ regroup s (read w) (each_right read ws)

pub each_is : {A : Type 0} (read : Word → Result A TokenError) (ws : List Word) → each read ws ≡ each_right read ws
each_is read ws = each_same read (Ok []) ws ∙ nothing_before (each_right read ws)

-- holds if each word has its item
abbrev pub HaveEach : {A : Type 0} → (Word → A → Type 0) → List Word → List A → Type 0
HaveEach Has [] [] = Unit {0}
HaveEach Has [] (a ∷ items) = ⊥
HaveEach Has (w ∷ ws) [] = ⊥
HaveEach Has (w ∷ ws) (a ∷ items) = Has w a × HaveEach Has ws items

module _ {A : Type 0} (Has : Word → A → Type 0) (May : A → Type 0) (read : Word → Result A TokenError) (item_read : (w : Word) → Reads (Has w) May (read w)) where
  split : (w : Word) (ws : List Word) (items : List A) → HaveEach Has (w ∷ ws) items → (x : A × List A) × (Has w x.0 × HaveEach Has ws x.1) × (items ≡ x.0 ∷ x.1)
  split w ws [] h = absurd h
  split w ws (a ∷ items) h = ((a, items), (h.0, h.1), refl)

  each_right_read : (ws : List Word) → Reads (HaveEach Has ws) (AllByRecursion May) (each_right read ws)
  each_right_read [] = (tt, tt)
  each_right_read (w ∷ ws) =
      carried (λ x. x.0 ∷ x.1) (λ x. Has w x.0 × HaveEach Has ws x.1) (λ x. May x.0 × AllByRecursion May x.1) (HaveEach Has (w ∷ ws)) (AllByRecursion May)
      (λ x h. h) (λ items h. split w ws items h) (λ x h m. m) (λ x h m. m) (both (read w) (each_right read ws))
      (both_read (Has w) May (HaveEach Has ws) (AllByRecursion May) (read w) (each_right read ws) (item_read w) (each_right_read ws))

  pub each_read : (ws : List Word) → Reads (HaveEach Has ws) (AllByRecursion May) (each read ws)
  each_read ws = subst (Reads (HaveEach Has ws) (AllByRecursion May)) (sym (each_is read ws)) (each_right_read ws)

-- reading at most this many items
pub few_read : {A : Type 0} (Has : List A → Type 0) (May : A → Type 0) (most : ℕ) (r : Result (List A) TokenError) → ((xs ys : List A) → Has xs → Has ys → length xs ≡ length ys) → Reads Has (AllByRecursion May) r → Reads Has (IsList 0 most May) (few most r)
few_read Has May most (Ok items) one h = by (nat_lt most (length items)) refl
  where
    short : nat_lt most (length items) ≡ false → length items ≤ most
    short e = grind (arith, nat_tests)

    by : (t : Bool) → nat_lt most (length items) ≡ t → Reads Has (IsList 0 most May) (cond t (Err Limit) (Ok items))
    by true long = ((items, h.0), λ xs k m. absurd (omega (arith, ltb-true most (length items) long, one items xs h.0 k, m.0.1)))
    by false is = (h.0, ((omega arith, short is), h.1))
few_read Has May most (Err Form) one h = h
few_read Has May most (Err Limit) one h = (h.0, λ xs k m. h.1 xs k m.1)

pub each_long : {A : Type 0} (Has : Word → A → Type 0) (ws : List Word) (items : List A) → HaveEach Has ws items → length items ≡ length ws
each_long Has [] [] h = refl
each_long Has [] (a ∷ items) h = absurd h
each_long Has (w ∷ ws) [] h = absurd h
each_long Has (w ∷ ws) (a ∷ items) h = ap suc (each_long Has ws items h.1)

-- ---- types

-- holds if these are the words of a type that the version has
abbrev pub IsTypeIn : Version → List Word → NestedScalar → Type 0
IsTypeIn version ws ty = (ws ≡ words_of ty.containers ty.map ty.scalar) × HasType version ty

abbrev pub IsShallow : NestedScalar → Type 0
IsShallow ty = depth_of ty ≤ 3

-- holds for the container of a pair that is read
abbrev IsAround : (Scalar × NestedScalar → Type 0) → NestedScalar → Type 0
IsAround P ty = (x : Scalar × NestedScalar) × P x × (ty ≡ container_of x.0 x.1)

around_read : (P : Scalar × NestedScalar → Type 0) → ((x y : Scalar × NestedScalar) → P x → P y → x ≡ y) → (r : Result (Scalar × NestedScalar) TokenError)
    → Reads P (λ x. Free x.0 × IsShallow x.1) r → Reads (IsAround P) IsShallow (around r)
around_read P one (Ok x) h = by (nat_lt (depth_of x.1) 3) refl
  where
    deeper : (ty : NestedScalar) → IsAround P ty → depth_of ty ≡ suc (depth_of x.1)
    deeper ty (y, k, e) = ap depth_of e ∙ ap (λ (z : Scalar × NestedScalar). suc (depth_of z.1)) (one y x k h.0)

    low : nat_lt (depth_of x.1) 3 ≡ true → suc (depth_of x.1) ≤ 3
    low is = grind (arith, nat_tests)

    high : nat_lt (depth_of x.1) 3 ≡ false → 3 ≤ depth_of x.1
    high is = grind (arith, nat_tests)

    by : (t : Bool) → nat_lt (depth_of x.1) 3 ≡ t → Reads (IsAround P) IsShallow (cond t (Ok (container_of x.0 x.1)) (Err Limit))
    by true is = ((x, h.0, refl), low is)
    by false is = ((container_of x.0 x.1, (x, h.0, refl)), λ ty k m. absurd (omega (arith, high is, deeper ty k, m)))
around_read P one (Err Form) h = λ ty k. h k.0 k.1
around_read P one (Err Limit) h = ((container_of h.0.0.0 h.0.0.1, (h.0.0, h.0.1, refl)), λ ty k m. h.1 k.0 k.1 (tt, inner k.0 (subst IsShallow k.2 m)))
  where
    inner : (x : Scalar × NestedScalar) → IsShallow (container_of x.0 x.1) → IsShallow x.1
    inner x m = omega (arith, m)

no_words : (cs : List Scalar) (kind : MapKind) (s : Scalar) → [] ≡ words_of cs kind s → ⊥
no_words cs kind s e = some_words cs kind s [] (append-nil (words_of cs kind s) ∙ sym e)

-- the words of a type, before nothing
closed_words : (ws : List Word) (cs : List Scalar) (kind : MapKind) (s : Scalar) → ws ≡ words_of cs kind s → words_of cs kind s ++ [] ≡ ws
closed_words ws cs kind s e = append-nil (words_of cs kind s) ∙ sym e

one_typed : (version : Version) (ws : List Word) (t u : NestedScalar) → IsTypeIn version ws t → IsTypeIn version ws u → t ≡ u
one_typed version ws t u h k = (one_type t u [] [] (closed_words ws t.containers t.map t.scalar h.0 ∙ sym (closed_words ws u.containers u.map u.scalar k.0))).0

-- holds for the word of a container and the words of a type
abbrev IsPair : Version → Word → List Word → Scalar × NestedScalar → Type 0
IsPair version w ws x = IsContainerOf version w x.0 × IsTypeIn version ws x.1

one_pair : (version : Version) (w : Word) (ws : List Word) (x y : Scalar × NestedScalar) → IsPair version w ws x → IsPair version w ws y → x ≡ y
one_pair version w ws x y h k =
    let by = one_container x.0 y.0 (sym h.0.0 ∙ k.0.0) in
    let ty = one_typed version ws x.1 y.1 h.1 k.1 in
    ap (λ (c : Scalar). pair c x.1) by ∙ ap (pair y.0) ty
  where
    pair : Scalar → NestedScalar → Scalar × NestedScalar
    pair c t = (c, t)

-- what was read of a type, from its last word on
record IsTyped (version : Version) (ws : List Word) (r : Result NestedScalar TokenError) : Type 0 where
  read : Reads (IsTypeIn version ws) IsShallow r
  some : ws ≡ [] → ⊥
  no_sum : ws ≡ Bare (sum_word Int) ∷ [] → ⊥

abbrev IsBegun : Version → List Word → Begun → Type 0
IsBegun version ws so_far.Nothing = ws ≡ []
IsBegun version ws so_far.Sum = ws ≡ Bare (sum_word Int) ∷ []
IsBegun version ws (so_far.Type r) = IsTyped version ws r

module _ (version : Version) (w : Word) (ws : List Word) where
  -- ---- a container

  module _ (by : Scalar) (is : IsContainerOf version w by) where
    contained_to : (ty : NestedScalar) → IsAround (IsPair version w ws) ty → IsTypeIn version (w ∷ ws) ty
    contained_to ty (p, h, e) = subst (IsTypeIn version (w ∷ ws)) (sym e) (both h.0.0 h.1.0, ((h.0.1, h.1.1.0), h.1.1.1))
      where
        both : {v : Word} {vs : List Word} → w ≡ v → ws ≡ vs → w ∷ ws ≡ v ∷ vs
        both e f = cc

    contained_back : (cs : List Scalar) (kind : MapKind) (s : Scalar) → IsTypeIn version (w ∷ ws) (record { containers = cs; scalar = s; map = kind }) → IsAround (IsPair version w ws) (record { containers = cs; scalar = s; map = kind })
    contained_back [] kind s h = absurd (leaf_apart by kind s ws [] (ap (λ (v : Word). v ∷ ws) (sym is.0) ∙ sym (closed_words (w ∷ ws) [] kind s h.0)))
    contained_back (c ∷ cs) kind s h =
        let first = first_is w (Bare (container_word c)) ws (words_of cs kind s) h.0 in
        let rest = rest_is w (Bare (container_word c)) ws (words_of cs kind s) h.0 in
        ((c, record { containers = cs; scalar = s; map = kind }), ((first, h.1.0.0), (rest, (h.1.0.1, h.1.1))), refl)

    contained_read : (r : Result NestedScalar TokenError) → Reads (IsTypeIn version ws) IsShallow r → Reads (IsTypeIn version (w ∷ ws)) IsShallow (contained (Ok by) r)
    contained_read r h =
        likewise (IsAround (IsPair version w ws)) IsShallow (IsTypeIn version (w ∷ ws)) IsShallow
        contained_to (λ ty k. contained_back ty.containers ty.map ty.scalar k) (λ ty k m. m) (λ ty k m. m) (contained (Ok by) r)
        (around_read (IsPair version w ws) (one_pair version w ws) (both (Ok by) r)
        (both_read (IsContainerOf version w) Free (IsTypeIn version ws) IsShallow (Ok by) r (is, tt) h))

  -- ---- a map

  -- a type whose first word is that of a map
  module _ (by : Scalar) (is : IsMapWordOf version w by) (read : Result NestedScalar TokenError) (t : IsTyped version ws read) where
    -- it is a scalar's word, after that of the map
    leaf_back : (ty : NestedScalar) → IsTypeIn version (w ∷ ws) ty → (s : Scalar) × IsTypeIn version ws (scalar_type s) × (ty ≡ map_of by s)
    leaf_back ty h = each ty.containers ty.map ty.scalar h.0 h.1.1
      where
        each : (cs : List Scalar) (kind : MapKind) (s : Scalar) → w ∷ ws ≡ words_of cs kind s → IsMapOf version s kind
            → (found : Scalar) × IsTypeIn version ws (scalar_type found) × (record { containers = cs; scalar = s; map = kind } ≡ map_of by found)
        each [] NoMap s e k = absurd (map_no_scalar by s (sym is.0 ∙ first_is w (Bare (scalar_word s)) ws [] e))
        each [] (Values own) s e k =
            let same = one_map own by (sym (first_is w (Bare (map_word own)) ws (Bare (scalar_word s) ∷ []) e) ∙ is.0) in
            (s, (rest_is w (Bare (map_word own)) ws (Bare (scalar_word s) ∷ []) e, (tt, tt)), ap (λ (c : Scalar). map_of c s) same)
        each [] (Sums own) s e k =
            let sums = sums_since version s own k in
            absurd (t.no_sum (rest_is w (Bare (map_word own)) ws (Bare (sum_word s) ∷ []) e ∙ ap (λ (c : Scalar). Bare (sum_word c) ∷ []) sums.1))
        each (c ∷ cs) kind s e k = absurd (map_no_container by c (sym is.0 ∙ first_is w (Bare (container_word c)) ws (words_of cs kind s) e))

    leaf_to : (s : Scalar) → IsTypeIn version ws (scalar_type s) → IsTypeIn version (w ∷ ws) (map_of by s)
    leaf_to s h = (ap (λ (v : Word). v ∷ ws) is.0 ∙ ap (λ (vs : List Word). Bare (map_word by) ∷ vs) h.0, (tt, has_map version s by is.1))

    mapped_read : (r : Result NestedScalar TokenError) → Reads (IsTypeIn version ws) IsShallow r → Reads (IsTypeIn version (w ∷ ws)) IsShallow (mapped by r)
    mapped_read (Ok ty) h = choose (is_scalar ty) refl
      where
        leaf_is : (cs : List Scalar) (kind : MapKind) (s : Scalar) → is_scalar (record { containers = cs; scalar = s; map = kind }) ≡ true → record { containers = cs; scalar = s; map = kind } ≡ scalar_type s
        leaf_is [] NoMap s e = refl
        leaf_is [] (Values own) s e = absurd cc
        leaf_is [] (Sums own) s e = absurd cc
        leaf_is (c ∷ cs) kind s e = absurd cc

        apart : false ≡ true → ⊥
        apart e = cc

        choose : (b : Bool) → is_scalar ty ≡ b → Reads (IsTypeIn version (w ∷ ws)) IsShallow (if b then Ok (map_of by ty.scalar) else Err Form)
        choose true e = (leaf_to ty.scalar (subst (IsTypeIn version ws) (leaf_is ty.containers ty.map ty.scalar e) h.0), omega arith)
        choose false e = λ u k. let back = leaf_back u k in apart (sym e ∙ ap is_scalar (one_typed version ws ty (scalar_type back.0) h.0 back.1))
    mapped_read (Err Form) h = λ u k. let back = leaf_back u k in h (scalar_type back.0) back.1
    mapped_read (Err Limit) h = λ u k. let back = leaf_back u k in h.1 (scalar_type back.0) back.1 (omega arith)

  sums_read : ws ≡ Bare (sum_word Int) ∷ [] → Reads (IsTypeIn version (w ∷ ws)) IsShallow (as_is sums_of (map_in version w))
  sums_read alone = carried sums_of (IsMapWordOf version w) Free (IsTypeIn version (w ∷ ws)) IsShallow to (λ ty h. back ty.containers ty.map ty.scalar h.0 h.1.1) (λ by h m. omega arith) (λ by h m. tt) (map_in version w) (map_read version w)
    where
      to : (by : Scalar) → IsMapWordOf version w by → IsTypeIn version (w ∷ ws) (sums_of by)
      to by h = (ap (λ (v : Word). v ∷ ws) h.0 ∙ ap (λ (vs : List Word). Bare (map_word by) ∷ vs) alone, (tt, has_sums_of version by h.1))

      back : (cs : List Scalar) (kind : MapKind) (s : Scalar) → w ∷ ws ≡ words_of cs kind s → IsMapOf version s kind → (by : Scalar) × IsMapWordOf version w by × (record { containers = cs; scalar = s; map = kind } ≡ sums_of by)
      back [] NoMap s e k = absurd (no_more (sym alone ∙ rest_is w (Bare (scalar_word s)) ws [] e))
        where
          no_more : Bare (sum_word Int) ∷ [] ≡ [] → ⊥
          no_more e = cc
      back [] (Values by) s e k =
          let rest = sym alone ∙ rest_is w (Bare (map_word by)) ws (Bare (scalar_word s) ∷ []) e in
          absurd (sum_no_scalar Int s (first_is (Bare (sum_word Int)) (Bare (scalar_word s)) [] [] rest))
      back [] (Sums by) s e k =
          let sums = sums_since version s by k in
          (by, (first_is w (Bare (map_word by)) ws (Bare (sum_word s) ∷ []) e, sums.0), ap (λ (c : Scalar). record { containers = []; scalar = c; map = Sums by }) sums.1)
      back (c ∷ cs) kind s e k =
          let rest = sym (rest_is w (Bare (container_word c)) ws (words_of cs kind s) e) ∙ alone in
          absurd (first_no_sum cs kind s Int [] [] (append-nil (words_of cs kind s) ∙ rest))

  -- neither a container nor a map
  neither : (ws ≡ [] → ⊥) → ((by : Scalar) → IsContainerOf version w by → ⊥) → ((by : Scalar) → IsMapWordOf version w by → ⊥) → (ty : NestedScalar) → IsTypeIn version (w ∷ ws) ty → ⊥
  neither some no_container no_map ty h = each ty.containers ty.map ty.scalar h.0 h.1.0 h.1.1
    where
      each : (cs : List Scalar) (kind : MapKind) (s : Scalar) → w ∷ ws ≡ words_of cs kind s → AllByRecursion (IsSubscriptOf version) cs → IsMapOf version s kind → ⊥
      each [] NoMap s e all k = some (rest_is w (Bare (scalar_word s)) ws [] e)
      each [] (Values by) s e all k = no_map by (first_is w (Bare (map_word by)) ws (Bare (scalar_word s) ∷ []) e, map_since version s by k)
      each [] (Sums by) s e all k = no_map by (first_is w (Bare (map_word by)) ws (Bare (sum_word s) ∷ []) e, (sums_since version s by k).0)
      each (c ∷ cs) kind s e all k = no_container c (first_is w (Bare (container_word c)) ws (words_of cs kind s) e, all.0)

  before_read : (read : Result NestedScalar TokenError) → IsTyped version ws read → (r m : Result Scalar TokenError) → Reads (IsContainerOf version w) Free r → Reads (IsMapWordOf version w) Free m
      → Reads (IsTypeIn version (w ∷ ws)) IsShallow (before r m read)
  before_read read t (Ok by) m h k = contained_read by h.0 read t.read
  before_read read t (Err Form) (Ok by) h k = mapped_read by k.0 read t read t.read
  before_read read t (Err Form) (Err Form) h k = neither t.some h k
  before_read read t (Err Form) (Err Limit) h k = absurd (k.1 k.0.0 k.0.1 tt)
  before_read read t (Err Limit) m h k = absurd (h.1 h.0.0 h.0.1 tt)

-- ---- the last word

scalar_alone : (version : Version) (w : Word) → Reads (IsTypeIn version (w ∷ [])) IsShallow (as_is scalar_type (scalar_in w))
scalar_alone version w =
    carried scalar_type (λ s. w ≡ Bare (scalar_word s)) Free (IsTypeIn version (w ∷ [])) IsShallow (λ s e. (ap (λ (v : Word). v ∷ []) e, (tt, tt))) (λ ty h. back ty.containers ty.map ty.scalar h.0)
    (λ s e m. omega arith) (λ s e m. tt) (scalar_in w) (scalar_read w)
  where
    no_more : {v : Word} → [] ≡ v ∷ [] → ⊥
    no_more e = cc

    back : (cs : List Scalar) (kind : MapKind) (s : Scalar) → w ∷ [] ≡ words_of cs kind s → (found : Scalar) × (w ≡ Bare (scalar_word found)) × (record { containers = cs; scalar = s; map = kind } ≡ scalar_type found)
    back [] NoMap s e = (s, first_is w (Bare (scalar_word s)) [] [] e, refl)
    back [] (Values by) s e = absurd (no_more (rest_is w (Bare (map_word by)) [] (Bare (scalar_word s) ∷ []) e))
    back [] (Sums by) s e = absurd (no_more (rest_is w (Bare (map_word by)) [] (Bare (sum_word s) ∷ []) e))
    back (c ∷ cs) kind s e = absurd (no_words cs kind s (rest_is w (Bare (container_word c)) [] (words_of cs kind s) e))

first_read : (version : Version) (w : Word) → IsBegun version (w ∷ []) (typed version w so_far.Nothing)
first_read version w = by (is_sum w) refl
  where
    some : w ∷ [] ≡ [] → ⊥
    some e = cc

    by : (b : Bool) → is_sum w ≡ b → IsBegun version (w ∷ []) (if b then so_far.Sum else so_far.Type (as_is scalar_type (scalar_in w)))
    by true e = ap (λ (v : Word). v ∷ []) (sum_is w e)
    by false e = record { read = scalar_alone version w; some = some; no_sum = λ h. sum_isnt w e (first_is w (Bare (sum_word Int)) [] [] h) }

-- ---- all words

begun_kept : (version : Version) (ws : List Word) → IsBegun version ws (type_from version ws)
begun_kept version [] = refl
begun_kept version (w ∷ ws) = by (type_from version ws) (begun_kept version ws)
  where
    some : w ∷ ws ≡ [] → ⊥
    some e = cc

    more : (ws ≡ [] → ⊥) → w ∷ ws ≡ Bare (sum_word Int) ∷ [] → ⊥
    more not_alone e = not_alone (rest_is w (Bare (sum_word Int)) ws [] e)

    no_end : Bare (sum_word Int) ∷ [] ≡ [] → ⊥
    no_end e = cc

    by : (b : Begun) → IsBegun version ws b → IsBegun version (w ∷ ws) (typed version w b)
    by so_far.Nothing h = subst (λ (vs : List Word). IsBegun version (w ∷ vs) (typed version w so_far.Nothing)) (sym h) (first_read version w)
    by so_far.Sum h = record { read = sums_read version w ws h; some = some; no_sum = more (λ e. no_end (sym h ∙ e)) }
    by (so_far.Type read) h = record { read = before_read version w ws read h (container_in version w) (map_in version w) (container_read version w) (map_read version w); some = some; no_sum = more h.some }

pub type_read : (version : Version) (ws : List Word) → Reads (IsTypeIn version ws) IsShallow (type_in version ws)
type_read version ws = by (type_from version ws) (begun_kept version ws)
  where
    by : (b : Begun) → IsBegun version ws b → Reads (IsTypeIn version ws) IsShallow (whole_type b)
    by so_far.Nothing h = λ ty k. no_words ty.containers ty.map ty.scalar (sym h ∙ k.0)
    by so_far.Sum h = λ ty k. first_no_sum ty.containers ty.map ty.scalar Int [] [] (append-nil (words_of ty.containers ty.map ty.scalar) ∙ sym k.0 ∙ h)
    by (so_far.Type read) h = h.read
