-- Lines as they are written from left to right.
use Rattle.std.proofs.Common.{arith, ◌≡◌, ℕ, ◌+◌, ◌<◌, ◌≤◌, suc, List, [], ◌∷◌, ◌++◌, length, map, take, get_or, codes, if◌then◌else◌, Some, None, refl, sym, ap, ◌∙◌, append_assoc, append-nil}
use Rattle.tw_asm.proofs.AsmNames.{Err, Int, MapKind, Natural, NestedScalar, NoMap, Ok, OnOk, Part, Result, Scalar, Sums, Text, Values, by_of, container_word, decimal, element_of, flat_map, flat_map-append, has_sums, is_container_by, join_with_byte, leaf_words, map_word, operand_parts, operand_words, part_words, scalar_word, spaced, spaced_all, sum_word, take-suc, take_all, type_words}
use Rattle.tw_code.specs.declared.sink.Operand as operands
use Rattle.tw_code.specs.format.Sink.{seen}

pub line_is : (word : List ℕ) (words : List (List ℕ)) → join_with_byte 32 (word ∷ words) ≡ word ++ spaced_all words
line_is word [] = sym (append-nil word)
line_is word (next ∷ words) = ap (λ (rest : List ℕ). word ++ (32 ∷ rest)) (line_is next words)

pub spaced_more : (out : List ℕ) (words more : List (List ℕ)) → (out ++ spaced_all words) ++ spaced_all more ≡ out ++ spaced_all (words ++ more)
spaced_more out words more = append_assoc out (spaced_all words) (spaced_all more) ∙ ap (λ (xs : List ℕ). out ++ xs) (sym (flat_map-append spaced words more))

pub spaced_param : (out : List ℕ) (word : List ℕ) (words : List (List ℕ)) → (out ++ spaced_all (word ∷ [])) ++ spaced_all words ≡ out ++ spaced_all (word ∷ words ++ [])
spaced_param out word words = spaced_more out (word ∷ []) words ∙ ap (λ (ws : List (List ℕ)). out ++ spaced_all (word ∷ ws)) (sym (append-nil words))

-- ---- the words of a type without containers

pub map_words : (kind : MapKind) (s by : Scalar) (first second : List ℕ) → Some by ≡ by_of kind → first ≡ map_word by → second ≡ (if has_sums kind then sum_word s else scalar_word s) → first ∷ second ∷ [] ≡ leaf_words kind s
map_words NoMap s by first second is e f = cc
map_words (Values own) s by first second is e f = let same : by ≡ own = cc in ap (λ w. w ∷ second ∷ []) (e ∙ ap map_word same) ∙ ap (λ w. map_word own ∷ w ∷ []) f
map_words (Sums own) s by first second is e f = let same : by ≡ own = cc in ap (λ w. w ∷ second ∷ []) (e ∙ ap map_word same) ∙ ap (λ w. map_word own ∷ w ∷ []) f

pub scalar_words : (kind : MapKind) (s : Scalar) → None ≡ by_of kind → scalar_word s ∷ [] ≡ leaf_words kind s
scalar_words NoMap s is = refl
scalar_words (Values own) s is = cc
scalar_words (Sums own) s is = cc

-- the words of a container, from those of its members
pub container_words : (ty element : NestedScalar) (word : List ℕ) → Some element ≡ element_of ty → word ≡ (if is_container_by Text ty then container_word Text else container_word Int) → word ∷ type_words element ≡ type_words ty
container_words ty element word is e = at ty.containers ty.map ty.scalar is e
  where
    outer : (c : Scalar) (cs : List Scalar) (kind : MapKind) (s : Scalar)
        → (if is_container_by Text (record { containers = c ∷ cs; scalar = s; map = kind }) then container_word Text else container_word Int) ≡ container_word c
    outer Int cs kind s = refl
    outer Text cs kind s = refl

    at : (cs : List Scalar) (kind : MapKind) (s : Scalar) → Some element ≡ element_of (record { containers = cs; scalar = s; map = kind })
        → word ≡ (if is_container_by Text (record { containers = cs; scalar = s; map = kind }) then container_word Text else container_word Int) → word ∷ type_words element ≡ map container_word cs ++ leaf_words kind s
    at [] kind s is e = cc
    at (c ∷ cs) kind s is e =
        let inner : element ≡ record { containers = cs; scalar = s; map = kind } = cc in
        ap (λ (w : List ℕ). w ∷ type_words element) (e ∙ outer c cs kind s) ∙ ap (λ (t : NestedScalar). container_word c ∷ type_words t) inner

-- ---- loops over what is written

module _ {X : Type 0} (each : X → List (List ℕ)) (xs : List X) (i : ℕ) where
  -- after one more item its words are written after those of the items before
  pub wrote : (d : X) (there out new : List ℕ) → i < length xs → out ≡ there ++ spaced_all (flat_map each (take i xs)) → new ≡ out ++ spaced_all (each (get_or xs i d)) → new ≡ there ++ spaced_all (flat_map each (take (i + 1) xs))
  wrote d there out new inside before after =
      let next : i + 1 ≡ suc i = omega arith in
      after
      ∙ ap (λ (ys : List ℕ). ys ++ spaced_all (each (get_or xs i d))) before
      ∙ spaced_more there (flat_map each (take i xs)) (each (get_or xs i d))
      ∙ ap (λ (ws : List (List ℕ)). there ++ spaced_all (flat_map each (take i xs) ++ ws)) (sym (append-nil (each (get_or xs i d))))
      ∙ ap (λ (ws : List (List ℕ)). there ++ spaced_all ws) (sym (flat_map-append each (take i xs) (get_or xs i d ∷ [])))
      ∙ ap (λ (ys : List X). there ++ spaced_all (flat_map each ys)) (sym (take-suc xs i d inside) ∙ ap (λ (k : ℕ). take k xs) (sym next))

  pub wrote_item : (x : X) (there out new : List ℕ) → i < length xs → x ≡ get_or xs i x → out ≡ there ++ spaced_all (flat_map each (take i xs)) → new ≡ out ++ spaced_all (each x) → new ≡ there ++ spaced_all (flat_map each (take (i + 1) xs))
  wrote_item x there out new inside is before after = wrote x there out new inside before (after ∙ ap (λ (y : X). out ++ spaced_all (each y)) is)

  -- all words are written, after a first word and some more
  pub wrote_line : {T E : Type 0} (r : Result T E) (old word : List ℕ) (front : List (List ℕ)) (out new : List ℕ) → length xs ≤ i
      → out ≡ ((old ++ word) ++ spaced_all front) ++ spaced_all (flat_map each (take i xs)) → OnOk r (new ≡ out ++ codes "\n") → OnOk r (new ≡ old ++ (join_with_byte 32 (word ∷ front ++ flat_map each xs) ++ codes "\n"))
  wrote_line (Ok x) old word front out new all before after =
      after
      ∙ ap (λ (ys : List ℕ). ys ++ codes "\n")
      (
      before
      ∙ spaced_more (old ++ word) front (flat_map each (take i xs))
      ∙ ap (λ (ys : List X). (old ++ word) ++ spaced_all (front ++ flat_map each ys)) (take_all i xs all)
      ∙ append_assoc old word (spaced_all (front ++ flat_map each xs))
      ∙ ap (λ (line : List ℕ). old ++ line) (sym (line_is word (front ++ flat_map each xs)))
      )
      ∙ append_assoc old (join_with_byte 32 (word ∷ front ++ flat_map each xs)) (codes "\n")
  wrote_line (Err e) old word front out new all before after = after

-- the parts of all parts
pub flat_twice : {X Y Z : Type 0} (f : Y → List Z) (g : X → List Y) (xs : List X) → flat_map (λ x. flat_map f (g x)) xs ≡ flat_map f (flat_map g xs)
flat_twice f g [] = refl
flat_twice f g (x ∷ xs) = ap (λ zs. flat_map f (g x) ++ zs) (flat_twice f g xs) ∙ sym (flat_map-append f (g x) (flat_map g xs))

pub flat_mapped : {X Y Z : Type 0} (f : Y → List Z) (g : X → Y) (xs : List X) → flat_map (λ x. f (g x)) xs ≡ flat_map f (map g xs)
flat_mapped f g [] = refl
flat_mapped f g (x ∷ xs) = ap (λ zs. f (g x) ++ zs) (flat_mapped f g xs)

-- a single part
pub one_part : {X Y : Type 0} (f : X → List Y) (x : X) → flat_map f (x ∷ []) ≡ f x
one_part f x = append-nil (f x)

-- the words of arguments
pub arg_words : (skip_word : ℕ → List ℕ) (args : List ℕ) → flat_map (λ arg. decimal arg ∷ []) args ≡ flat_map (part_words skip_word) (map Natural args)
arg_words skip_word args = flat_mapped (part_words skip_word) Natural args

-- the words of the operands that the code passes are those of the table
pub row_words : (skip_word : ℕ → List ℕ) (given : List operands.Operand) → flat_map (λ o. operand_words skip_word (seen o)) given ≡ flat_map (part_words skip_word) (flat_map operand_parts (map seen given))
row_words skip_word given = flat_twice (part_words skip_word) (λ o. operand_parts (seen o)) given ∙ ap (λ (ps : List Part). flat_map (part_words skip_word) ps) (flat_mapped operand_parts seen given)
