-- Reading parameters, from the last word on.
use Rattle.std.proofs.Common.{◌≡◌, suc, ◌≤◌, Bool, true, false, cond, List, [], ◌∷◌, ◌++◌, length, Result, Ok, Err, refl, sym, ap, subst, ◌∙◌, arith}
use Rattle.tw_asm.proofs.AsmNames.{AllByRecursion, Bare, Begun, Closed, Form, HasParam, HasType, Int, IsMapOf, Limit, MapKind, Mode, NestedScalar, NoMap, Param, Reads, Ref, Scalar, Sums, TokenError, Val, Values, Version, Word, Write, as_is, both, carried, container_in, container_of, container_word, depth_of, flat_map, if◌then◌else◌, is_scalar, is_sum, ltb-true, map_in, map_of, map_word, mapped, mode_in, mode_word, nat_lt, nat_tests, scalar_in, scalar_type, scalar_word, sum_word, sums_of, with_type}
use Rattle.tw_asm.specs.declared.gathering.Begun.TheVariants as so_far
use Rattle.tw_asm.proofs.OperandWords.{Free, IsContainerOf, IsMapWordOf, container_read, map_read, mode_read, scalar_read, sum_is, sum_isnt}
use Rattle.tw_asm.proofs.Readings.{both_read}
use Rattle.tw_asm.proofs.Sequences.{IsShallow}
use Rattle.tw_asm.proofs.TypeWords.{first_is, first_no_mode, first_no_sum, has_map, has_sums_of, map_no_container, map_no_scalar, map_since, mode_no_map, mode_no_sum, one_mode, one_type, rest_is, some_words, sum_no_scalar, sums_since, words_of}
use Rattle.tw_asm.specs.reading.Lines.{begins, broken, contained, ended, ends, params_with, param_of, params_from, put_first, taken, under}

abbrev pub param_words : Param → List Word
param_words p = Bare (mode_word p.mode) ∷ words_of p.ty.containers p.ty.map p.ty.scalar

-- holds if the words are those of the parameters, which have their form
abbrev pub AreParams : Version → List Word → List Param → Type 0
AreParams version ws ps = (ws ≡ flat_map param_words ps) × AllByRecursion (HasParam version) ps

abbrev pub IsShallowParam : Param → Type 0
IsShallowParam p = IsShallow p.ty

no_first : {A : Type 0} (v : A) (x : List A) → v ∷ x ≡ [] → ⊥
no_first v x e = cc

abbrev with_parts : Mode → NestedScalar → List Param → List Param
with_parts mode ty ps = param_of mode ty ∷ ps

-- ---- the parameters of words are unique

pub one_params : (ps qs : List Param) → flat_map param_words ps ≡ flat_map param_words qs → ps ≡ qs
one_params [] [] e = refl
one_params [] (q ∷ qs) e = absurd (no_first (Bare (mode_word q.mode)) (words_of q.ty.containers q.ty.map q.ty.scalar ++ flat_map param_words qs) (sym e))
one_params (p ∷ ps) [] e = absurd (no_first (Bare (mode_word p.mode)) (words_of p.ty.containers p.ty.map p.ty.scalar ++ flat_map param_words ps) e)
one_params (p ∷ ps) (q ∷ qs) e =
    let x = words_of p.ty.containers p.ty.map p.ty.scalar ++ flat_map param_words ps in
    let y = words_of q.ty.containers q.ty.map q.ty.scalar ++ flat_map param_words qs in
    let mode = one_mode p.mode q.mode (first_is (Bare (mode_word p.mode)) (Bare (mode_word q.mode)) x y e) in
    let ty = one_type p.ty q.ty (flat_map param_words ps) (flat_map param_words qs) (rest_is (Bare (mode_word p.mode)) (Bare (mode_word q.mode)) x y e) in
    ap (λ (m : Mode). with_parts m p.ty ps) mode ∙ (ap (λ (t : NestedScalar). with_parts q.mode t ps) ty.0 ∙ ap (λ (os : List Param). q ∷ os) (one_params ps qs ty.1))

-- ---- the parameters and the type so far

-- returns the type, or an error if it is too deep
abbrev limited : NestedScalar → Result NestedScalar TokenError
limited ty = cond (nat_lt 3 (depth_of ty)) (Err Limit) (Ok ty)

-- holds if no type of the version is before the words of parameters
abbrev NoType : Version → List Word → Type 0
NoType version ws = (ty : NestedScalar) (rest : List Word) (ps : List Param) → ws ≡ words_of ty.containers ty.map ty.scalar ++ rest → HasType version ty → AreParams version rest ps → ⊥

-- holds if no word of sums is before the words of parameters
abbrev NoSum : Version → List Word → Type 0
NoSum version ws = (rest : List Word) (ps : List Param) → ws ≡ Bare (sum_word Int) ∷ rest → AreParams version rest ps → ⊥

abbrev ReadsParams : Version → List Word → Result (List Param) TokenError → Type 0
ReadsParams version ws whole = Reads (AreParams version ws) (AllByRecursion IsShallowParam) whole

-- a type, and the words after it
record IsBegun (version : Version) (ws : List Word) (whole : Result (List Param) TokenError) (read : Result NestedScalar TokenError) : Type 0 where
  ty : NestedScalar
  rest : List Word
  words : ws ≡ words_of ty.containers ty.map ty.scalar ++ rest
  had : HasType version ty
  read_is : read ≡ limited ty
  following : ReadsParams version rest whole

-- the word of sums, and the words after it
record IsSum (version : Version) (ws : List Word) (whole : Result (List Param) TokenError) : Type 0 where
  rest : List Word
  words : ws ≡ Bare (sum_word Int) ∷ rest
  following : ReadsParams version rest whole

abbrev IsKept : Version → List Word → Result (List Param) TokenError → Begun → Type 0
IsKept version ws whole so_far.Nothing = ReadsParams version ws whole × (NoType version ws × NoSum version ws)
IsKept version ws whole so_far.Sum = IsSum version ws whole
IsKept version ws whole (so_far.Type read) = IsBegun version ws whole read

-- the words of parameters begin with a mode
params_no_sum : (rest : List Word) (ps : List Param) → Bare (sum_word Int) ∷ rest ≡ flat_map param_words ps → ⊥
params_no_sum rest [] e = no_first (Bare (sum_word Int)) rest e
params_no_sum rest (p ∷ ps) e = mode_no_sum p.mode Int (sym (first_is (Bare (sum_word Int)) (Bare (mode_word p.mode)) rest (words_of p.ty.containers p.ty.map p.ty.scalar ++ flat_map param_words ps) e))

module _ (version : Version) where
  -- words that begin with a type are no parameters
  no_params_there : (ty : NestedScalar) (ws rest : List Word) (ps : List Param) → ws ≡ words_of ty.containers ty.map ty.scalar ++ rest → ws ≡ flat_map param_words ps → ⊥
  no_params_there ty ws rest [] e f = some_words ty.containers ty.map ty.scalar rest (sym e ∙ f)
  no_params_there ty ws rest (q ∷ qs) e f = first_no_mode ty.containers ty.map ty.scalar q.mode rest (words_of q.ty.containers q.ty.map q.ty.scalar ++ flat_map param_words qs) (sym e ∙ f)

  -- a mode is before a type
  mode_before : (w : Word) (ws : List Word) (ps : List Param) → w ∷ ws ≡ flat_map param_words ps → (p : Param) × (others : List Param) × (ps ≡ p ∷ others) × (w ≡ Bare (mode_word p.mode)) × (ws ≡ words_of p.ty.containers p.ty.map p.ty.scalar ++ flat_map param_words others)
  mode_before w ws [] e = absurd (no_first w ws e)
  mode_before w ws (p ∷ others) e =
      let x = words_of p.ty.containers p.ty.map p.ty.scalar ++ flat_map param_words others in
      (p, others, refl, first_is w (Bare (mode_word p.mode)) ws x e, rest_is w (Bare (mode_word p.mode)) ws x e)

  had_all : (p : Param) (others ps : List Param) → ps ≡ p ∷ others → AllByRecursion (HasParam version) ps → HasParam version p × AllByRecursion (HasParam version) others
  had_all p others ps e h = subst (AllByRecursion (HasParam version)) e h

  -- no mode, and no parameters begin
  no_parameters : (w : Word) (ws : List Word) → ((mode : Mode) → w ≡ Bare (mode_word mode) → ⊥) → (ps : List Param) → AreParams version (w ∷ ws) ps → ⊥
  no_parameters w ws no_mode ps (e, h) = let m = mode_before w ws ps e in no_mode m.0.mode m.3

  -- a word before words of which neither a type nor sums begin
  module _ (w : Word) (ws : List Word) (none : NoType version ws) (no_sums : NoSum version ws) where
    no_whole : (ps : List Param) → AreParams version (w ∷ ws) ps → ⊥
    no_whole ps (e, h) =
        let m = mode_before w ws ps e in
        let forms = had_all m.0 m.1 ps m.2 h in
        none m.0.ty (flat_map param_words m.1) m.1 m.4 forms.0.1 (refl, forms.1)

    no_type : ((s : Scalar) → w ≡ Bare (scalar_word s) → ⊥) → NoType version (w ∷ ws)
    no_type no_scalar ty rest ps e had are = by ty.containers ty.map ty.scalar e had
      where
        by : (cs : List Scalar) (kind : MapKind) (s : Scalar) → w ∷ ws ≡ words_of cs kind s ++ rest → HasType version (record { containers = cs; scalar = s; map = kind }) → ⊥
        by [] NoMap s e had = no_scalar s (first_is w (Bare (scalar_word s)) ws rest e)
        by [] (Values own) s e had = none (scalar_type s) rest ps (rest_is w (Bare (map_word own)) ws (Bare (scalar_word s) ∷ rest) e) (tt, tt) are
        by [] (Sums own) s e had =
            let sums = sums_since version s own had.1 in
            no_sums rest ps (rest_is w (Bare (map_word own)) ws (Bare (sum_word s) ∷ rest) e ∙ ap (λ (c : Scalar). Bare (sum_word c) ∷ rest) sums.1) are
        by (c ∷ cs) kind s e had = none (record { containers = cs; scalar = s; map = kind }) rest ps (rest_is w (Bare (container_word c)) ws (words_of cs kind s ++ rest) e) (had.0.1, had.1) are

  begins_kept : (w : Word) (ws : List Word) (whole : Result (List Param) TokenError) → IsKept version ws whole so_far.Nothing → (b : Bool) → is_sum w ≡ b → (r : Result Scalar TokenError)
      → Reads (λ s. w ≡ Bare (scalar_word s)) Free r → IsKept version (w ∷ ws) (begins whole b r).whole (begins whole b r).begun
  begins_kept w ws whole kept true e r h = record { rest = ws; words = ap (λ (v : Word). v ∷ ws) (sum_is w e); following = kept.0 }
  begins_kept w ws whole kept false e (Ok s) h = record { ty = scalar_type s; rest = ws; words = ap (λ (v : Word). v ∷ ws) h.0; had = (tt, tt); read_is = refl; following = kept.0 }
  begins_kept w ws whole kept false e (Err Form) h =
      (no_whole w ws kept.1.0 kept.1.1, (no_type w ws kept.1.0 kept.1.1 h, λ rest ps is are. sum_isnt w e (first_is w (Bare (sum_word Int)) ws rest is)))
  begins_kept w ws whole kept false e (Err Limit) h = absurd (h.1 h.0.0 h.0.1 tt)

  -- ---- the word of a map before that of sums

  sums_kept : (w : Word) (ws : List Word) (whole : Result (List Param) TokenError) → IsSum version ws whole → (r : Result Scalar TokenError) → Reads (IsMapWordOf version w) Free r
      → IsKept version (w ∷ ws) (with_type whole (as_is sums_of r)).whole (with_type whole (as_is sums_of r)).begun
  sums_kept w ws whole b (Ok by) h = record {
    ty = sums_of by;
    rest = b.rest;
    words = ap (λ (v : Word). v ∷ ws) h.0.0 ∙ ap (λ (vs : List Word). Bare (map_word by) ∷ vs) b.words;
    had = (tt, has_sums_of version by h.0.1);
    read_is = refl;
    following = b.following;
  }
  sums_kept w ws whole b (Err Form) h = (no_whole_there, (no_type_there, λ rest ps e are. params_no_sum b.rest ps (sym b.words ∙ rest_is w (Bare (sum_word Int)) ws rest e ∙ are.0)))
    where
      no_whole_there : (ps : List Param) → AreParams version (w ∷ ws) ps → ⊥
      no_whole_there ps (e, k) =
          let m = mode_before w ws ps e in
          first_no_sum m.0.ty.containers m.0.ty.map m.0.ty.scalar Int (flat_map param_words m.1) b.rest (sym m.4 ∙ b.words)

      no_type_there : NoType version (w ∷ ws)
      no_type_there ty rest ps e had are = by ty.containers ty.map ty.scalar e had
        where
          by : (cs : List Scalar) (kind : MapKind) (s : Scalar) → w ∷ ws ≡ words_of cs kind s ++ rest → HasType version (record { containers = cs; scalar = s; map = kind }) → ⊥
          by [] NoMap s e had = params_no_sum b.rest ps (sym b.words ∙ rest_is w (Bare (scalar_word s)) ws rest e ∙ are.0)
          by [] (Values own) s e had =
              sum_no_scalar Int s (first_is (Bare (sum_word Int)) (Bare (scalar_word s)) b.rest rest (sym b.words ∙ rest_is w (Bare (map_word own)) ws (Bare (scalar_word s) ∷ rest) e))
          by [] (Sums own) s e had = h own (first_is w (Bare (map_word own)) ws (Bare (sum_word s) ∷ rest) e, (sums_since version s own had.1).0)
          by (c ∷ cs) kind s e had = first_no_sum cs kind s Int rest b.rest (sym (rest_is w (Bare (container_word c)) ws (words_of cs kind s ++ rest) e) ∙ b.words)
  sums_kept w ws whole b (Err Limit) h = absurd (h.1 h.0.0 h.0.1 tt)

  -- ---- a mode

  item_read : (mode : Mode) (ty : NestedScalar) → HasType version ty → Reads (λ p. (p ≡ param_of mode ty) × HasParam version p) IsShallowParam (as_is (param_of mode) (under mode (limited ty)))
  item_read mode ty had = by (nat_lt 3 (depth_of ty)) refl mode
    where
      low : nat_lt 3 (depth_of ty) ≡ false → depth_of ty ≤ 3
      low e = grind (arith, nat_tests)

      too_deep : nat_lt 3 (depth_of ty) ≡ true → (m : Mode) (p : Param) → p ≡ param_of m ty → IsShallowParam p → ⊥
      too_deep e m p is shallow = absurd (omega (arith, ltb-true 3 (depth_of ty) e, subst IsShallowParam is shallow))

      no_container : is_scalar ty ≡ false → (p : Param) → p ≡ param_of Val ty → HasParam version p → ⊥
      no_container e p is h = apart (sym e ∙ (subst (HasParam version) is h).0)
        where
          apart : false ≡ true → ⊥
          apart e = cc

      flat : (s : Bool) → is_scalar ty ≡ s → nat_lt 3 (depth_of ty) ≡ false → Reads (λ p. (p ≡ param_of Val ty) × HasParam version p) IsShallowParam (as_is (param_of Val) (cond s (Ok ty) (Err Form)))
      flat true is e = ((refl, (is, had)), low e)
      flat false is e = λ p h. no_container is p h.0 h.1

      deep_no_scalar : nat_lt 3 (depth_of ty) ≡ true → is_scalar ty ≡ false
      deep_no_scalar e = each ty.containers e
        where
          each : (cs : List Scalar) → nat_lt 3 (length cs) ≡ true → is_scalar (record { containers = cs; scalar = ty.scalar; map = ty.map }) ≡ false
          each [] e = absurd cc
          each (c ∷ cs) e = refl

      by : (t : Bool) → nat_lt 3 (depth_of ty) ≡ t → (m : Mode) → Reads (λ p. (p ≡ param_of m ty) × HasParam version p) IsShallowParam (as_is (param_of m) (under m (cond t (Err Limit) (Ok ty))))
      by true e Val = λ p h. no_container (deep_no_scalar e) p h.0 h.1
      by true e Closed = ((param_of Closed ty, (refl, (tt, had))), λ p h m. too_deep e Closed p h.0 m)
      by true e Ref = ((param_of Ref ty, (refl, (tt, had))), λ p h m. too_deep e Ref p h.0 m)
      by true e Write = ((param_of Write ty, (refl, (tt, had))), λ p h m. too_deep e Write p h.0 m)
      by false e Val = flat (is_scalar ty) refl e
      by false e Closed = ((refl, (tt, had)), low e)
      by false e Ref = ((refl, (tt, had)), low e)
      by false e Write = ((refl, (tt, had)), low e)

  module _ (w : Word) (ws : List Word) (whole : Result (List Param) TokenError) (read : Result NestedScalar TokenError) (b : IsBegun version ws whole read) where
    abbrev HasFirst : Mode → Param × List Param → Type 0
    HasFirst mode x = ((x.0 ≡ param_of mode b.ty) × HasParam version x.0) × AreParams version b.rest x.1

    first_to : (mode : Mode) → w ≡ Bare (mode_word mode) → (x : Param × List Param) → HasFirst mode x → AreParams version (w ∷ ws) (x.0 ∷ x.1)
    first_to mode is x h =
        let whole : w ∷ ws ≡ Bare (mode_word mode) ∷ (words_of b.ty.containers b.ty.map b.ty.scalar ++ flat_map param_words x.1) =
        ap (λ (v : Word). v ∷ ws) is ∙ ap (λ (vs : List Word). Bare (mode_word mode) ∷ vs) (b.words ∙ ap (λ (vs : List Word). words_of b.ty.containers b.ty.map b.ty.scalar ++ vs) h.1.0) in
        (whole ∙ ap (λ (p : Param). param_words p ++ flat_map param_words x.1) (sym h.0.0), (h.0.1, h.1.1))

    first_back : (mode : Mode) → w ≡ Bare (mode_word mode) → (ps : List Param) → AreParams version (w ∷ ws) ps → (x : Param × List Param) × HasFirst mode x × (ps ≡ x.0 ∷ x.1)
    first_back mode is ps (e, h) =
        let m = mode_before w ws ps e in
        let forms = had_all m.0 m.1 ps m.2 h in
        let modes = one_mode m.0.mode mode (sym m.3 ∙ is) in
        let types = one_type m.0.ty b.ty (flat_map param_words m.1) b.rest (sym m.4 ∙ b.words) in
        let first : m.0 ≡ param_of mode b.ty = ap (λ (k : Mode). param_of k m.0.ty) modes ∙ ap (param_of mode) types.0 in
        ((m.0, m.1), ((first, forms.0), (sym types.1, forms.1)), m.2)

    no_type_before : (mode : Mode) → w ≡ Bare (mode_word mode) → NoType version (w ∷ ws)
    no_type_before mode is ty rest ps e had are = first_no_mode ty.containers ty.map ty.scalar mode rest ws (sym e ∙ ap (λ (v : Word). v ∷ ws) is)

    no_sum_before : (mode : Mode) → w ≡ Bare (mode_word mode) → NoSum version (w ∷ ws)
    no_sum_before mode is rest ps e are = mode_no_sum mode Int (sym is ∙ first_is w (Bare (sum_word Int)) ws rest e)

    -- the word isn't followed by parameters
    no_sum_after : NoSum version (w ∷ ws)
    no_sum_after rest ps e are = no_params_there b.ty ws b.rest ps b.words (rest_is w (Bare (sum_word Int)) ws rest e ∙ are.0)

    -- neither a container, nor a map, nor a mode
    module _ (no_container : (by : Scalar) → IsContainerOf version w by → ⊥) (no_map : (by : Scalar) → IsMapWordOf version w by → ⊥) (no_mode : (mode : Mode) → w ≡ Bare (mode_word mode) → ⊥) where
      no_more : (ps : List Param) → AreParams version (w ∷ ws) ps → ⊥
      no_more ps are = no_parameters w ws no_mode ps are

      no_more_type : NoType version (w ∷ ws)
      no_more_type ty rest ps e had are = by ty.containers ty.map ty.scalar e had
        where
          by : (cs : List Scalar) (kind : MapKind) (s : Scalar) → w ∷ ws ≡ words_of cs kind s ++ rest → HasType version (record { containers = cs; scalar = s; map = kind }) → ⊥
          by [] NoMap s e had = no_params_there b.ty ws b.rest ps b.words (rest_is w (Bare (scalar_word s)) ws rest e ∙ are.0)
          by [] (Values own) s e had = no_map own (first_is w (Bare (map_word own)) ws (Bare (scalar_word s) ∷ rest) e, map_since version s own had.1)
          by [] (Sums own) s e had = no_map own (first_is w (Bare (map_word own)) ws (Bare (sum_word s) ∷ rest) e, (sums_since version s own had.1).0)
          by (c ∷ cs) kind s e had = no_container c (first_is w (Bare (container_word c)) ws (words_of cs kind s ++ rest) e, had.0.0)

    ends_kept : ((by : Scalar) → IsContainerOf version w by → ⊥) → ((by : Scalar) → IsMapWordOf version w by → ⊥) → (r : Result Mode TokenError) → Reads (λ mode. w ≡ Bare (mode_word mode)) Free r → IsKept version (w ∷ ws) (ends whole read r).whole (ends whole read r).begun
    ends_kept no_container no_map (Ok mode) h = (
      subst (λ (t : Result NestedScalar TokenError). ReadsParams version (w ∷ ws) (put_first (as_is (param_of mode) (under mode t)) whole)) (sym b.read_is)
          (carried (λ x. x.0 ∷ x.1) (HasFirst mode) (λ x. IsShallowParam x.0 × AllByRecursion IsShallowParam x.1) (AreParams version (w ∷ ws)) (AllByRecursion IsShallowParam)
          (first_to mode h.0) (first_back mode h.0) (λ x k m. m) (λ x k m. m) (both (as_is (param_of mode) (under mode (limited b.ty))) whole)
          (both_read (λ p. (p ≡ param_of mode b.ty) × HasParam version p) IsShallowParam (AreParams version b.rest) (AllByRecursion IsShallowParam) (as_is (param_of mode) (under mode (limited b.ty))) whole
          (item_read mode b.ty b.had) b.following)),
      (no_type_before mode h.0, no_sum_before mode h.0),
    )
    ends_kept no_container no_map (Err Form) h = (no_more no_container no_map h, (no_more_type no_container no_map h, no_sum_after))
    ends_kept no_container no_map (Err Limit) h = absurd (h.1 h.0.0 h.0.1 tt)

    -- ---- a container

    deeper : (by : Scalar) (ty : NestedScalar) → contained (Ok by) (limited ty) ≡ limited (container_of by ty)
    deeper by ty = each (nat_lt 3 (depth_of ty)) (nat_lt (depth_of ty) 3) (nat_lt 3 (suc (depth_of ty))) refl refl refl
      where
        each : (a c d : Bool) → nat_lt 3 (depth_of ty) ≡ a → nat_lt (depth_of ty) 3 ≡ c → nat_lt 3 (suc (depth_of ty)) ≡ d → contained (Ok by) (cond a (Err Limit) (Ok ty)) ≡ cond d (Err Limit) (Ok (container_of by ty))
        each true c true e f g = refl
        each true c false e f g = absurd (grind (arith, nat_tests))
        each false true true e f g = absurd (grind (arith, nat_tests))
        each false true false e f g = ap (λ (t : Bool). cond t (Ok (container_of by ty)) (Err Limit)) f
        each false false true e f g = ap (λ (t : Bool). cond t (Ok (container_of by ty)) (Err Limit)) f
        each false false false e f g = absurd (grind (arith, nat_tests))

    -- ---- a map

    -- values of a scalar type, or no type
    mapped_kept : (by : Scalar) → IsMapWordOf version w by → (r : Result NestedScalar TokenError) → r ≡ limited b.ty
        → IsKept version (w ∷ ws) (with_type whole (mapped by r)).whole (with_type whole (mapped by r)).begun
    mapped_kept by is r e = choose (is_scalar b.ty) refl (nat_lt 3 (depth_of b.ty)) refl
      where
        apart : false ≡ true → ⊥
        apart e = cc

        -- a type that begins with the map's word has a scalar's word after it
        scalar_there : (ty : NestedScalar) (rest : List Word) → w ∷ ws ≡ words_of ty.containers ty.map ty.scalar ++ rest → HasType version ty → is_scalar b.ty ≡ true
        scalar_there ty rest e had = each ty.containers ty.map ty.scalar e had.1
          where
            each : (cs : List Scalar) (kind : MapKind) (s : Scalar) → w ∷ ws ≡ words_of cs kind s ++ rest → IsMapOf version s kind → is_scalar b.ty ≡ true
            each [] NoMap s e k = absurd (map_no_scalar by s (sym is.0 ∙ first_is w (Bare (scalar_word s)) ws rest e))
            each [] (Values own) s e k =
                let there = rest_is w (Bare (map_word own)) ws (Bare (scalar_word s) ∷ rest) e in
                ap is_scalar (one_type b.ty (scalar_type s) b.rest rest (sym b.words ∙ there)).0
            each [] (Sums own) s e k = absurd (first_no_sum b.ty.containers b.ty.map b.ty.scalar s b.rest rest (sym b.words ∙ rest_is w (Bare (map_word own)) ws (Bare (sum_word s) ∷ rest) e))
            each (c ∷ cs) kind s e k = absurd (map_no_container by c (sym is.0 ∙ first_is w (Bare (container_word c)) ws (words_of cs kind s ++ rest) e))

        no_mode : (mode : Mode) → w ≡ Bare (mode_word mode) → ⊥
        no_mode mode e = mode_no_map mode by (sym e ∙ is.0)

        broken_kept : is_scalar b.ty ≡ false → IsKept version (w ∷ ws) (broken).whole (broken).begun
        broken_kept isnt = (no_parameters w ws no_mode, (λ ty rest ps e had are. apart (sym isnt ∙ scalar_there ty rest e had), no_sum_after))

        leaf_is : (cs : List Scalar) (kind : MapKind) (s : Scalar) → is_scalar (record { containers = cs; scalar = s; map = kind }) ≡ true → record { containers = cs; scalar = s; map = kind } ≡ scalar_type s
        leaf_is [] NoMap s e = refl
        leaf_is [] (Values own) s e = absurd cc
        leaf_is [] (Sums own) s e = absurd cc
        leaf_is (c ∷ cs) kind s e = absurd cc

        deep_no_scalar : (cs : List Scalar) (kind : MapKind) (s : Scalar) → nat_lt 3 (length cs) ≡ true → is_scalar (record { containers = cs; scalar = s; map = kind }) ≡ false
        deep_no_scalar [] kind s e = absurd cc
        deep_no_scalar (c ∷ cs) kind s e = refl

        choose : (s : Bool) → is_scalar b.ty ≡ s → (deep : Bool) → nat_lt 3 (depth_of b.ty) ≡ deep → IsKept version (w ∷ ws) (with_type whole (mapped by r)).whole (with_type whole (mapped by r)).begun
        choose true flat true deep = absurd (apart (sym (deep_no_scalar b.ty.containers b.ty.map b.ty.scalar deep) ∙ flat))
        choose true flat false deep =
            let leaf = leaf_is b.ty.containers b.ty.map b.ty.scalar flat in
            let ok : r ≡ Ok (scalar_type b.ty.scalar) = e ∙ ap (λ (t : Bool). cond t (Err Limit) (Ok b.ty)) deep ∙ ap (λ (t : NestedScalar). Ok t) leaf in
            subst (λ (x : Result NestedScalar TokenError). IsKept version (w ∷ ws) (with_type whole (mapped by x)).whole (with_type whole (mapped by x)).begun) (sym ok)
            (record {
              ty = map_of by b.ty.scalar;
              rest = b.rest;
              words = ap (λ (v : Word). v ∷ ws) is.0
                  ∙ ap (λ (vs : List Word). Bare (map_word by) ∷ vs) (b.words ∙ ap (λ (t : NestedScalar). words_of t.containers t.map t.scalar ++ b.rest) leaf);
              had = (tt, has_map version b.ty.scalar by is.1);
              read_is = refl;
              following = b.following;
            })
        choose false deep_or_map true deep =
            let limit : r ≡ Err Limit = e ∙ ap (λ (t : Bool). cond t (Err Limit) (Ok b.ty)) deep in
            subst (λ (x : Result NestedScalar TokenError). IsKept version (w ∷ ws) (with_type whole (mapped by x)).whole (with_type whole (mapped by x)).begun) (sym limit) (broken_kept deep_or_map)
        choose false deep_or_map false deep =
            let ok : r ≡ Ok b.ty = e ∙ ap (λ (t : Bool). cond t (Err Limit) (Ok b.ty)) deep in
            subst (λ (x : Result NestedScalar TokenError). IsKept version (w ∷ ws) (with_type whole (mapped by x)).whole (with_type whole (mapped by x)).begun) (sym ok)
            (subst (λ (t : Bool). IsKept version (w ∷ ws) (with_type whole (if t then Ok (map_of by b.ty.scalar) else Err Form)).whole (with_type whole (if t then Ok (map_of by b.ty.scalar) else Err Form)).begun) (sym deep_or_map)
            (broken_kept deep_or_map))

    goes_on_kept : (r m : Result Scalar TokenError) → Reads (IsContainerOf version w) Free r → Reads (IsMapWordOf version w) Free m → (o : Result Mode TokenError) → Reads (λ mode. w ≡ Bare (mode_word mode)) Free o
        → IsKept version (w ∷ ws) (params_with whole read r m o).whole (params_with whole read r m o).begun
    goes_on_kept (Ok by) m h k o l = record {
      ty = container_of by b.ty;
      rest = b.rest;
      words = ap (λ (v : Word). v ∷ ws) h.0.0 ∙ ap (λ (vs : List Word). Bare (container_word by) ∷ vs) b.words;
      had = ((h.0.1, b.had.0), b.had.1);
      read_is = ap (contained (Ok by)) b.read_is ∙ deeper by b.ty;
      following = b.following;
    }
    goes_on_kept (Err Form) (Ok by) h k o l = mapped_kept by k.0 read b.read_is
    goes_on_kept (Err Form) (Err Form) h k o l = ends_kept h k o l
    goes_on_kept (Err Form) (Err Limit) h k o l = absurd (k.1 k.0.0 k.0.1 tt)
    goes_on_kept (Err Limit) m h k o l = absurd (h.1 h.0.0 h.0.1 tt)

  -- ---- all words

  kept : (ws : List Word) → IsKept version ws (params_from version ws).whole (params_from version ws).begun
  kept [] = (((refl, tt), tt), (λ ty rest ps e had are. some_words ty.containers ty.map ty.scalar rest (sym e), λ rest ps e are. no_first (Bare (sum_word Int)) rest (sym e)))
  kept (w ∷ ws) = by (params_from version ws).whole (params_from version ws).begun (kept ws)
    where
      by : (whole : Result (List Param) TokenError) (b : Begun) → IsKept version ws whole b
          → IsKept version (w ∷ ws) (taken version w (record { whole = whole; begun = b })).whole (taken version w (record { whole = whole; begun = b })).begun
      by whole so_far.Nothing k = begins_kept w ws whole k (is_sum w) refl (scalar_in w) (scalar_read w)
      by whole so_far.Sum k = sums_kept w ws whole k (map_in version w) (map_read version w)
      by whole (so_far.Type read) k = goes_on_kept w ws whole read k (container_in version w) (map_in version w) (container_read version w) (map_read version w) (mode_in w) (mode_read w)

  pub params_read : (ws : List Word) → ReadsParams version ws (ended (params_from version ws))
  params_read ws = by (params_from version ws).whole (params_from version ws).begun (kept ws)
    where
      by : (whole : Result (List Param) TokenError) (b : Begun) → IsKept version ws whole b → ReadsParams version ws (ended (record { whole = whole; begun = b }))
      by whole so_far.Nothing k = k.0
      by whole so_far.Sum k = λ ps are. params_no_sum k.rest ps (sym k.words ∙ are.0)
      by whole (so_far.Type read) k = λ ps are. no_params_there k.ty ws k.rest ps k.words are.0
