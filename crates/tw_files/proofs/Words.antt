-- Arguments, one after the other, and the first bytes of a file.
use Rattle.std.proofs.Common.{◌≡◌, ◌∙◌, ◌++◌, ◌||◌, ℕ, Bool, List, [], ◌∷◌, ap, length, map, min, refl, take}
use Rattle.std.proofs.lemmas.List.{take_min}
use Rattle.std.specs.List.{list_any}
use Rattle.tw_files.specs.Naming.{Naming, after_word, after_words}

pub one_more : (n : Naming) (words : List (List ℕ)) (word : List ℕ) → after_words n (words ++ word ∷ []) ≡ after_word (after_words n words) word
one_more n [] word = refl
one_more n (w ∷ words) word = one_more (after_word n w) words word

pub any_map : {X : Type 0} (p : List ℕ → Bool) (f : X → List ℕ) (xs : List X) → list_any (λ x. p (f x)) xs ≡ list_any p (map f xs)
any_map p f [] = refl
any_map p f (x ∷ xs) = ap (λ (b : Bool). p (f x) || b) (any_map p f xs)

pub cut : (most count : ℕ) (bytes : List ℕ) → count ≡ min most (length bytes) → take count bytes ≡ take most bytes
cut most count bytes e = ap (λ n. take n bytes) e ∙ take_min most bytes
