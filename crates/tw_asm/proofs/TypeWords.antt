-- The words of types: each has one meaning.
use Rattle.tw_asm.proofs.AsmNames.{Bare, Closed, Five, Four, Int, IsMapOf, List, MapKind, Mode, NestedScalar, NoMap, One, Ref, Scalar, Sums, Text, Two, Val, Values, Version, Word, Write, [], ap, bytes_eq, bytes_eq-Decides, codes, container_word, false, has_maps, leaf_words, map, map_word, mode_word, refl, scalar_word, sum_word, sym, true, ℕ, ◌++◌, ◌∙◌, ◌∷◌, ◌≡◌}

pub other_bytes : (text word : List ℕ) → bytes_eq text word ≡ false → Bare text ≡ Bare word → ⊥
other_bytes text word isnt e = no (sym isnt ∙ (bytes_eq-Decides text word).1 (inner e))
  where
    inner : Bare text ≡ Bare word → text ≡ word
    inner e = cc

    no : false ≡ true → ⊥
    no e = cc

-- ---- scalars and containers

-- the word of a scalar isn't that of a container
pub scalar_apart : (scalar by : Scalar) → Bare (scalar_word scalar) ≡ Bare (container_word by) → ⊥
scalar_apart Int Int e = other_bytes (codes "int") (codes "cont") refl e
scalar_apart Int Text e = other_bytes (codes "int") (codes "tcont") refl e
scalar_apart Text Int e = other_bytes (codes "text") (codes "cont") refl e
scalar_apart Text Text e = other_bytes (codes "text") (codes "tcont") refl e

pub one_scalar : (a b : Scalar) → Bare (scalar_word a) ≡ Bare (scalar_word b) → a ≡ b
one_scalar Int Int e = refl
one_scalar Int Text e = absurd (other_bytes (codes "int") (codes "text") refl e)
one_scalar Text Int e = absurd (other_bytes (codes "text") (codes "int") refl e)
one_scalar Text Text e = refl

pub one_container : (a b : Scalar) → Bare (container_word a) ≡ Bare (container_word b) → a ≡ b
one_container Int Int e = refl
one_container Int Text e = absurd (other_bytes (codes "cont") (codes "tcont") refl e)
one_container Text Int e = absurd (other_bytes (codes "tcont") (codes "cont") refl e)
one_container Text Text e = refl

-- ---- maps

pub one_map : (a b : Scalar) → Bare (map_word a) ≡ Bare (map_word b) → a ≡ b
one_map Int Int e = refl
one_map Int Text e = absurd (other_bytes (codes "map") (codes "tmap") refl e)
one_map Text Int e = absurd (other_bytes (codes "tmap") (codes "map") refl e)
one_map Text Text e = refl

pub one_sum : (a b : Scalar) → Bare (sum_word a) ≡ Bare (sum_word b) → a ≡ b
one_sum Int Int e = refl
one_sum Int Text e = absurd (other_bytes (codes "sum") (codes "texts") refl e)
one_sum Text Int e = absurd (other_bytes (codes "texts") (codes "sum") refl e)
one_sum Text Text e = refl

pub map_no_scalar : (by scalar : Scalar) → Bare (map_word by) ≡ Bare (scalar_word scalar) → ⊥
map_no_scalar Int Int e = other_bytes (codes "map") (codes "int") refl e
map_no_scalar Int Text e = other_bytes (codes "map") (codes "text") refl e
map_no_scalar Text Int e = other_bytes (codes "tmap") (codes "int") refl e
map_no_scalar Text Text e = other_bytes (codes "tmap") (codes "text") refl e

pub map_no_container : (by c : Scalar) → Bare (map_word by) ≡ Bare (container_word c) → ⊥
map_no_container Int Int e = other_bytes (codes "map") (codes "cont") refl e
map_no_container Int Text e = other_bytes (codes "map") (codes "tcont") refl e
map_no_container Text Int e = other_bytes (codes "tmap") (codes "cont") refl e
map_no_container Text Text e = other_bytes (codes "tmap") (codes "tcont") refl e

pub sum_no_scalar : (s t : Scalar) → Bare (sum_word s) ≡ Bare (scalar_word t) → ⊥
sum_no_scalar Int Int e = other_bytes (codes "sum") (codes "int") refl e
sum_no_scalar Int Text e = other_bytes (codes "sum") (codes "text") refl e
sum_no_scalar Text Int e = other_bytes (codes "texts") (codes "int") refl e
sum_no_scalar Text Text e = other_bytes (codes "texts") (codes "text") refl e

pub sum_no_container : (s c : Scalar) → Bare (sum_word s) ≡ Bare (container_word c) → ⊥
sum_no_container Int Int e = other_bytes (codes "sum") (codes "cont") refl e
sum_no_container Int Text e = other_bytes (codes "sum") (codes "tcont") refl e
sum_no_container Text Int e = other_bytes (codes "texts") (codes "cont") refl e
sum_no_container Text Text e = other_bytes (codes "texts") (codes "tcont") refl e

pub sum_no_map : (s by : Scalar) → Bare (sum_word s) ≡ Bare (map_word by) → ⊥
sum_no_map Int Int e = other_bytes (codes "sum") (codes "map") refl e
sum_no_map Int Text e = other_bytes (codes "sum") (codes "tmap") refl e
sum_no_map Text Int e = other_bytes (codes "texts") (codes "map") refl e
sum_no_map Text Text e = other_bytes (codes "texts") (codes "tmap") refl e

-- ---- modes

pub mode_no_scalar : (mode : Mode) (scalar : Scalar) → Bare (mode_word mode) ≡ Bare (scalar_word scalar) → ⊥
mode_no_scalar Val Int e = other_bytes (codes "val") (codes "int") refl e
mode_no_scalar Val Text e = other_bytes (codes "val") (codes "text") refl e
mode_no_scalar Closed Int e = other_bytes (codes "closed") (codes "int") refl e
mode_no_scalar Closed Text e = other_bytes (codes "closed") (codes "text") refl e
mode_no_scalar Ref Int e = other_bytes (codes "ref") (codes "int") refl e
mode_no_scalar Ref Text e = other_bytes (codes "ref") (codes "text") refl e
mode_no_scalar Write Int e = other_bytes (codes "write") (codes "int") refl e
mode_no_scalar Write Text e = other_bytes (codes "write") (codes "text") refl e

pub mode_no_container : (mode : Mode) (by : Scalar) → Bare (mode_word mode) ≡ Bare (container_word by) → ⊥
mode_no_container Val Int e = other_bytes (codes "val") (codes "cont") refl e
mode_no_container Val Text e = other_bytes (codes "val") (codes "tcont") refl e
mode_no_container Closed Int e = other_bytes (codes "closed") (codes "cont") refl e
mode_no_container Closed Text e = other_bytes (codes "closed") (codes "tcont") refl e
mode_no_container Ref Int e = other_bytes (codes "ref") (codes "cont") refl e
mode_no_container Ref Text e = other_bytes (codes "ref") (codes "tcont") refl e
mode_no_container Write Int e = other_bytes (codes "write") (codes "cont") refl e
mode_no_container Write Text e = other_bytes (codes "write") (codes "tcont") refl e

pub mode_no_map : (mode : Mode) (by : Scalar) → Bare (mode_word mode) ≡ Bare (map_word by) → ⊥
mode_no_map Val Int e = other_bytes (codes "val") (codes "map") refl e
mode_no_map Val Text e = other_bytes (codes "val") (codes "tmap") refl e
mode_no_map Closed Int e = other_bytes (codes "closed") (codes "map") refl e
mode_no_map Closed Text e = other_bytes (codes "closed") (codes "tmap") refl e
mode_no_map Ref Int e = other_bytes (codes "ref") (codes "map") refl e
mode_no_map Ref Text e = other_bytes (codes "ref") (codes "tmap") refl e
mode_no_map Write Int e = other_bytes (codes "write") (codes "map") refl e
mode_no_map Write Text e = other_bytes (codes "write") (codes "tmap") refl e

pub mode_no_sum : (mode : Mode) (s : Scalar) → Bare (mode_word mode) ≡ Bare (sum_word s) → ⊥
mode_no_sum Val Int e = other_bytes (codes "val") (codes "sum") refl e
mode_no_sum Val Text e = other_bytes (codes "val") (codes "texts") refl e
mode_no_sum Closed Int e = other_bytes (codes "closed") (codes "sum") refl e
mode_no_sum Closed Text e = other_bytes (codes "closed") (codes "texts") refl e
mode_no_sum Ref Int e = other_bytes (codes "ref") (codes "sum") refl e
mode_no_sum Ref Text e = other_bytes (codes "ref") (codes "texts") refl e
mode_no_sum Write Int e = other_bytes (codes "write") (codes "sum") refl e
mode_no_sum Write Text e = other_bytes (codes "write") (codes "texts") refl e

pub one_mode : (a b : Mode) → Bare (mode_word a) ≡ Bare (mode_word b) → a ≡ b
one_mode Val Val e = refl
one_mode Val Closed e = absurd (other_bytes (codes "val") (codes "closed") refl e)
one_mode Val Ref e = absurd (other_bytes (codes "val") (codes "ref") refl e)
one_mode Val Write e = absurd (other_bytes (codes "val") (codes "write") refl e)
one_mode Closed Val e = absurd (other_bytes (codes "closed") (codes "val") refl e)
one_mode Closed Closed e = refl
one_mode Closed Ref e = absurd (other_bytes (codes "closed") (codes "ref") refl e)
one_mode Closed Write e = absurd (other_bytes (codes "closed") (codes "write") refl e)
one_mode Ref Val e = absurd (other_bytes (codes "ref") (codes "val") refl e)
one_mode Ref Closed e = absurd (other_bytes (codes "ref") (codes "closed") refl e)
one_mode Ref Ref e = refl
one_mode Ref Write e = absurd (other_bytes (codes "ref") (codes "write") refl e)
one_mode Write Val e = absurd (other_bytes (codes "write") (codes "val") refl e)
one_mode Write Closed e = absurd (other_bytes (codes "write") (codes "closed") refl e)
one_mode Write Ref e = absurd (other_bytes (codes "write") (codes "ref") refl e)
one_mode Write Write e = refl

-- ---- types

-- returns the words of a type
abbrev pub words_of : List Scalar → MapKind → Scalar → List Word
words_of containers kind scalar = map Bare (map container_word containers ++ leaf_words kind scalar)

pub first_is : {A : Type 0} (v w : A) (x y : List A) → v ∷ x ≡ w ∷ y → v ≡ w
first_is v w x y e = cc

pub rest_is : {A : Type 0} (v w : A) (x y : List A) → v ∷ x ≡ w ∷ y → x ≡ y
rest_is v w x y e = cc

-- the first word of a scalar or of a map isn't that of a container
pub leaf_apart : (c : Scalar) (kind : MapKind) (s : Scalar) (x y : List Word) → Bare (container_word c) ∷ x ≡ words_of [] kind s ++ y → ⊥
leaf_apart c NoMap s x y e = scalar_apart s c (sym (first_is (Bare (container_word c)) (Bare (scalar_word s)) x y e))
leaf_apart c (Values by) s x y e = map_no_container by c (sym (first_is (Bare (container_word c)) (Bare (map_word by)) x (Bare (scalar_word s) ∷ y) e))
leaf_apart c (Sums by) s x y e = map_no_container by c (sym (first_is (Bare (container_word c)) (Bare (map_word by)) x (Bare (sum_word s) ∷ y) e))

same_leaves : (k l : MapKind) (s t : Scalar) (x y : List Word) → words_of [] k s ++ x ≡ words_of [] l t ++ y → (k ≡ l) × (s ≡ t) × (x ≡ y)
same_leaves NoMap NoMap s t x y e = (refl, one_scalar s t (first_is (Bare (scalar_word s)) (Bare (scalar_word t)) x y e), rest_is (Bare (scalar_word s)) (Bare (scalar_word t)) x y e)
same_leaves NoMap (Values by) s t x y e = absurd (map_no_scalar by s (sym (first_is (Bare (scalar_word s)) (Bare (map_word by)) x (Bare (scalar_word t) ∷ y) e)))
same_leaves NoMap (Sums by) s t x y e = absurd (map_no_scalar by s (sym (first_is (Bare (scalar_word s)) (Bare (map_word by)) x (Bare (sum_word t) ∷ y) e)))
same_leaves (Values by) NoMap s t x y e = absurd (map_no_scalar by t (first_is (Bare (map_word by)) (Bare (scalar_word t)) (Bare (scalar_word s) ∷ x) y e))
same_leaves (Sums by) NoMap s t x y e = absurd (map_no_scalar by t (first_is (Bare (map_word by)) (Bare (scalar_word t)) (Bare (sum_word s) ∷ x) y e))
same_leaves (Values a) (Values b) s t x y e =
    let first = one_map a b (first_is (Bare (map_word a)) (Bare (map_word b)) (Bare (scalar_word s) ∷ x) (Bare (scalar_word t) ∷ y) e) in
    let rest = rest_is (Bare (map_word a)) (Bare (map_word b)) (Bare (scalar_word s) ∷ x) (Bare (scalar_word t) ∷ y) e in
    (ap Values first, one_scalar s t (first_is (Bare (scalar_word s)) (Bare (scalar_word t)) x y rest), rest_is (Bare (scalar_word s)) (Bare (scalar_word t)) x y rest)
same_leaves (Sums a) (Sums b) s t x y e =
    let first = one_map a b (first_is (Bare (map_word a)) (Bare (map_word b)) (Bare (sum_word s) ∷ x) (Bare (sum_word t) ∷ y) e) in
    let rest = rest_is (Bare (map_word a)) (Bare (map_word b)) (Bare (sum_word s) ∷ x) (Bare (sum_word t) ∷ y) e in
    (ap Sums first, one_sum s t (first_is (Bare (sum_word s)) (Bare (sum_word t)) x y rest), rest_is (Bare (sum_word s)) (Bare (sum_word t)) x y rest)
same_leaves (Values a) (Sums b) s t x y e =
    let rest = rest_is (Bare (map_word a)) (Bare (map_word b)) (Bare (scalar_word s) ∷ x) (Bare (sum_word t) ∷ y) e in
    absurd (sum_no_scalar t s (sym (first_is (Bare (scalar_word s)) (Bare (sum_word t)) x y rest)))
same_leaves (Sums a) (Values b) s t x y e =
    let rest = rest_is (Bare (map_word a)) (Bare (map_word b)) (Bare (sum_word s) ∷ x) (Bare (scalar_word t) ∷ y) e in
    absurd (sum_no_scalar s t (first_is (Bare (sum_word s)) (Bare (scalar_word t)) x y rest))

same_lists : (cs ds : List Scalar) (k l : MapKind) (s t : Scalar) (x y : List Word) → words_of cs k s ++ x ≡ words_of ds l t ++ y → (cs ≡ ds) × (k ≡ l) × (s ≡ t) × (x ≡ y)
same_lists [] [] k l s t x y e = let same = same_leaves k l s t x y e in (refl, same.0, same.1, same.2)
same_lists [] (d ∷ ds) k l s t x y e = absurd (leaf_apart d k s (words_of ds l t ++ y) x (sym e))
same_lists (c ∷ cs) [] k l s t x y e = absurd (leaf_apart c l t (words_of cs k s ++ x) y e)
same_lists (c ∷ cs) (d ∷ ds) k l s t x y e =
    let first = one_container c d (first_is (Bare (container_word c)) (Bare (container_word d)) (words_of cs k s ++ x) (words_of ds l t ++ y) e) in
    let more = same_lists cs ds k l s t x y (rest_is (Bare (container_word c)) (Bare (container_word d)) (words_of cs k s ++ x) (words_of ds l t ++ y) e) in
    (ap (λ (a : Scalar). a ∷ cs) first ∙ ap (λ (others : List Scalar). d ∷ others) more.0, more.1, more.2, more.3)

-- words that begin with a type begin with no other
pub one_type : (t u : NestedScalar) (x y : List Word) → words_of t.containers t.map t.scalar ++ x ≡ words_of u.containers u.map u.scalar ++ y → (t ≡ u) × (x ≡ y)
one_type t u x y e =
    let same = same_lists t.containers u.containers t.map u.map t.scalar u.scalar x y e in (
      ap (λ (cs : List Scalar). record { containers = cs; scalar = t.scalar; map = t.map }) same.0
          ∙ ap (λ (k : MapKind). record { containers = u.containers; scalar = t.scalar; map = k }) same.1
          ∙ ap (λ (s : Scalar). record { containers = u.containers; scalar = s; map = u.map }) same.2,
      same.3,
    )

-- a type has a first word, which isn't that of sums
pub first_no_sum : (cs : List Scalar) (kind : MapKind) (s sum : Scalar) (x y : List Word) → words_of cs kind s ++ x ≡ Bare (sum_word sum) ∷ y → ⊥
first_no_sum [] NoMap s sum x y e = sum_no_scalar sum s (sym (first_is (Bare (scalar_word s)) (Bare (sum_word sum)) x y e))
first_no_sum [] (Values by) s sum x y e = sum_no_map sum by (sym (first_is (Bare (map_word by)) (Bare (sum_word sum)) (Bare (scalar_word s) ∷ x) y e))
first_no_sum [] (Sums by) s sum x y e = sum_no_map sum by (sym (first_is (Bare (map_word by)) (Bare (sum_word sum)) (Bare (sum_word s) ∷ x) y e))
first_no_sum (c ∷ cs) kind s sum x y e = sum_no_container sum c (sym (first_is (Bare (container_word c)) (Bare (sum_word sum)) (words_of cs kind s ++ x) y e))

pub first_no_mode : (cs : List Scalar) (kind : MapKind) (s : Scalar) (mode : Mode) (x y : List Word) → words_of cs kind s ++ x ≡ Bare (mode_word mode) ∷ y → ⊥
first_no_mode [] NoMap s mode x y e = mode_no_scalar mode s (sym (first_is (Bare (scalar_word s)) (Bare (mode_word mode)) x y e))
first_no_mode [] (Values by) s mode x y e = mode_no_map mode by (sym (first_is (Bare (map_word by)) (Bare (mode_word mode)) (Bare (scalar_word s) ∷ x) y e))
first_no_mode [] (Sums by) s mode x y e = mode_no_map mode by (sym (first_is (Bare (map_word by)) (Bare (mode_word mode)) (Bare (sum_word s) ∷ x) y e))
first_no_mode (c ∷ cs) kind s mode x y e = mode_no_container mode c (sym (first_is (Bare (container_word c)) (Bare (mode_word mode)) (words_of cs kind s ++ x) y e))

pub some_words : (cs : List Scalar) (kind : MapKind) (s : Scalar) (x : List Word) → words_of cs kind s ++ x ≡ [] → ⊥
some_words [] NoMap s x e = cc
some_words [] (Values by) s x e = cc
some_words [] (Sums by) s x e = cc
some_words (c ∷ cs) kind s x e = cc

-- ---- the versions of maps

pub map_since : (version : Version) (s by : Scalar) → IsMapOf version s (Values by) → has_maps version ≡ true
map_since One s by h = absurd h
map_since Two s by h = absurd h
map_since Four s by h = refl
map_since Five s by h = refl

pub sums_since : (version : Version) (s by : Scalar) → IsMapOf version s (Sums by) → (has_maps version ≡ true) × (s ≡ Int)
sums_since One s by h = absurd h
sums_since Two s by h = absurd h
sums_since Four Int by h = (refl, refl)
sums_since Four Text by h = absurd h
sums_since Five Int by h = (refl, refl)
sums_since Five Text by h = absurd h

pub has_map : (version : Version) (s by : Scalar) → has_maps version ≡ true → IsMapOf version s (Values by)
has_map One s by e = absurd cc
has_map Two s by e = absurd cc
has_map Four s by e = tt
has_map Five s by e = tt

pub has_sums_of : (version : Version) (by : Scalar) → has_maps version ≡ true → IsMapOf version Int (Sums by)
has_sums_of One by e = absurd cc
has_sums_of Two by e = absurd cc
has_sums_of Four by e = tt
has_sums_of Five by e = tt
