-- The goals of code, each once in the order of the first occurrences: inserting them into a set keeps that order.
use Rattle.std.proofs.Common.{◌≡◌, ◌==◌, ◌||◌, ℕ, Bool, true, false, cond, filter, List, [], ◌∷◌, ◌++◌, length, drop, refl, sym, ap, ◌∙◌, append_assoc, append-nil}
use Rattle.tw_asm.proofs.AsmNames.{Instr, eqb-true, first_ones, goals_from, label_places, list_any, nat_eq, nat_lt, not}
use Rattle.indexmap.specs.IndexSet.{insert_key}

-- returns the keys of a set after goals are inserted one by one
abbrev pub insert_goals : List ℕ → List ℕ → List ℕ
insert_goals keys [] = keys
insert_goals keys (goal ∷ goals) = insert_goals (insert_key nat_eq keys goal) goals

abbrev has : List ℕ → ℕ → Bool
has keys goal = list_any (nat_eq goal) keys

abbrev lacks : List ℕ → ℕ → Bool
lacks keys goal = not (has keys goal)

abbrev other : ℕ → ℕ → Bool
other x y = not (y == x)

-- ---- items that pass two tests

module _ (p q r : ℕ → Bool) (both : (y : ℕ) → r y ≡ cond (q y) (p y) false) where
  filter_twice : (ys : List ℕ) → filter p (filter q ys) ≡ filter r ys
  filter_twice [] = refl
  filter_twice (y ∷ ys) = by (q y) (p y) refl refl (filter_twice ys)
    where
      by : (a b : Bool) → q y ≡ a → p y ≡ b → filter p (filter q ys) ≡ filter r ys → filter p (filter q (y ∷ ys)) ≡ filter r (y ∷ ys)
      by false b qe pe rest =
          ap (λ c. filter p (cond c (y ∷ filter q ys) (filter q ys))) qe
          ∙ rest
          ∙ sym (ap (λ c. cond c (y ∷ filter r ys) (filter r ys)) (both y ∙ ap (λ c. cond c (p y) false) qe))
      by true false qe pe rest =
          ap (λ c. filter p (cond c (y ∷ filter q ys) (filter q ys))) qe
          ∙ ap (λ c. cond c (y ∷ filter p (filter q ys)) (filter p (filter q ys))) pe
          ∙ rest
          ∙ sym (ap (λ c. cond c (y ∷ filter r ys) (filter r ys)) (both y ∙ ap (λ c. cond c (p y) false) qe ∙ pe))
      by true true qe pe rest =
          ap (λ c. filter p (cond c (y ∷ filter q ys) (filter q ys))) qe
          ∙ ap (λ c. cond c (y ∷ filter p (filter q ys)) (filter p (filter q ys))) pe
          ∙ ap (λ (zs : List ℕ). y ∷ zs) rest
          ∙ sym (ap (λ c. cond c (y ∷ filter r ys) (filter r ys)) (both y ∙ ap (λ c. cond c (p y) false) qe ∙ pe))

-- ---- one more key

no_more : (b : Bool) → false ≡ cond b false false
no_more true = refl
no_more false = refl

one_key : (b : Bool) → not (b || false) ≡ cond (not b) true false
one_key true = refl
one_key false = refl

lacks_push : (keys : List ℕ) (x y : ℕ) → lacks (keys ++ x ∷ []) y ≡ cond (other x y) (lacks keys y) false
lacks_push [] x y = one_key (y == x)
lacks_push (k ∷ keys) x y = by (nat_eq y k) refl (lacks_push keys x y)
  where
    by : (b : Bool) → nat_eq y k ≡ b → lacks (keys ++ x ∷ []) y ≡ cond (other x y) (lacks keys y) false → not (nat_eq y k || has (keys ++ x ∷ []) y) ≡ cond (other x y) (not (nat_eq y k || has keys y)) false
    by true e rest = ap (λ c. not (c || has (keys ++ x ∷ []) y)) e ∙ no_more (other x y) ∙ sym (ap (λ c. cond (other x y) (not (c || has keys y)) false) e)
    by false e rest = ap (λ c. not (c || has (keys ++ x ∷ []) y)) e ∙ rest ∙ sym (ap (λ c. cond (other x y) (not (c || has keys y)) false) e)

-- a key that the set has isn't another one
lacks_other : (keys : List ℕ) (x y : ℕ) → has keys x ≡ true → lacks keys y ≡ cond (other x y) (lacks keys y) false
lacks_other keys x y there = by (y == x) refl
  where
    by : (b : Bool) → (y == x) ≡ b → lacks keys y ≡ cond (not (y == x)) (lacks keys y) false
    by true e = ap not (ap (has keys) (eqb-true y x e) ∙ there) ∙ sym (ap (λ c. cond (not c) (lacks keys y) false) e)
    by false e = sym (ap (λ c. cond (not c) (lacks keys y) false) e)

-- ---- all keys

-- the keys that the set lacks are added at its end
inserted : (keys goals : List ℕ) → insert_goals keys goals ≡ keys ++ filter (lacks keys) (first_ones goals)
inserted keys [] = sym (append-nil keys)
inserted keys (x ∷ xs) = by (has keys x) refl (inserted keys xs) (inserted (keys ++ x ∷ []) xs)
  where
    choose : Bool → List ℕ
    choose c = keys ++ cond (not c) (x ∷ filter (lacks keys) (filter (other x) (first_ones xs))) (filter (lacks keys) (filter (other x) (first_ones xs)))

    by : (b : Bool) → has keys x ≡ b → insert_goals keys xs ≡ keys ++ filter (lacks keys) (first_ones xs)
        → insert_goals (keys ++ x ∷ []) xs ≡ (keys ++ x ∷ []) ++ filter (lacks (keys ++ x ∷ [])) (first_ones xs)
        → insert_goals (cond (has keys x) keys (keys ++ x ∷ [])) xs ≡ choose (has keys x)
    by true e there new =
        ap (λ c. insert_goals (cond c keys (keys ++ x ∷ [])) xs) e
        ∙ there
        ∙ ap (λ (zs : List ℕ). keys ++ zs) (sym (filter_twice (lacks keys) (other x) (lacks keys) (λ y. lacks_other keys x y e) (first_ones xs)))
        ∙ sym (ap choose e)
    by false e there new =
        ap (λ c. insert_goals (cond c keys (keys ++ x ∷ [])) xs) e
        ∙ new
        ∙ append_assoc keys (x ∷ []) (filter (lacks (keys ++ x ∷ [])) (first_ones xs))
        ∙ ap (λ (zs : List ℕ). keys ++ x ∷ zs) (sym (filter_twice (lacks keys) (other x) (lacks (keys ++ x ∷ [])) (λ y. lacks_push keys x y) (first_ones xs)))
        ∙ sym (ap choose e)

all_pass : (xs : List ℕ) → filter (lacks []) xs ≡ xs
all_pass [] = refl
all_pass (x ∷ xs) = ap (λ (ys : List ℕ). x ∷ ys) (all_pass xs)

pub ones : (goals : List ℕ) → insert_goals [] goals ≡ first_ones goals
ones goals = inserted [] goals ∙ all_pass (first_ones goals)

-- ---- instruction by instruction

-- returns the keys after the goals of the instructions from a place on are inserted, except those past the code's length
abbrev pub inserted_from : List Instr → ℕ → List ℕ → List ℕ
inserted_from code place keys = insert_goals keys (filter (λ goal. not (nat_lt (length code) goal)) (goals_from place (drop place code)))

pub from_start : (code : List Instr) → inserted_from code 0 [] ≡ label_places code
from_start code = ones (filter (λ goal. not (nat_lt (length code) goal)) (goals_from 0 code))
