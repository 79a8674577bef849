-- The line of an instruction depends only on the word of its own skip.
use Rattle.tw_asm.proofs.AsmNames.{Code, Instr, List, None, Option, Part, Skip, Some, Target, [], ap, codes, decimal, flat_map, goal_word, instr_parts, join_with_byte, label_at, line_of, option_and_then, part_words, refl, skip_among, skip_of, true, ℕ, ◌++◌, ◌+◌, ◌∙◌, ◌∷◌, ◌≡◌}
use Rattle.tw_asm.proofs.Rows.{is_last, row, skips_last}

module _ (f g : ℕ → List ℕ) where
  last_words : (n : ℕ) (parts : List Part) → is_last parts ≡ true → f n ≡ g n → flat_map (part_words f) (Skip n ∷ parts) ≡ flat_map (part_words g) (Skip n ∷ parts)
  last_words n [] last e = ap (λ (w : List ℕ). w ∷ []) e
  last_words n (part ∷ parts) last e = absurd cc

  own_words : (parts : List Part) → skips_last parts ≡ true → ((skip : ℕ) → skip_among parts ≡ Some skip → f skip ≡ g skip) → flat_map (part_words f) parts ≡ flat_map (part_words g) parts
  own_words [] last h = refl
  own_words (Skip n ∷ parts) last h = last_words n parts last (h n refl)
  own_words (Target None ∷ parts) last h = ap (λ (ws : List (List ℕ)). codes "any" ∷ ws) (own_words parts last h)
  own_words (Target (Some n) ∷ parts) last h = ap (λ (ws : List (List ℕ)). decimal n ∷ ws) (own_words parts last h)
  own_words (part ∷ parts) last h = ap (λ (ws : List (List ℕ)). part_words f part ++ ws) (own_words parts last h)

-- the words of a goal, by the label at its place
pub words_of_goal : (labels : List ℕ) (place : ℕ) (label : Option ℕ) (i : Instr) → label ≡ option_and_then (λ skip. label_at labels (place + 1 + skip)) (skip_of i)
    → flat_map (part_words (goal_word label)) (instr_parts i) ≡ flat_map (part_words (λ skip. goal_word (label_at labels (place + 1 + skip)) skip)) (instr_parts i)
words_of_goal labels place label i is =
    own_words (goal_word label) (λ skip. goal_word (label_at labels (place + 1 + skip)) skip) (instr_parts i) (row i).last
    (λ skip e. ap (λ (l : Option ℕ). goal_word l skip) (is ∙ ap (option_and_then (λ s. label_at labels (place + 1 + s))) e))

pub label_of_goal : (labels : List ℕ) (place : ℕ) (label : Option ℕ) (i : Instr) → label ≡ option_and_then (λ skip. label_at labels (place + 1 + skip)) (skip_of i)
    → line_of (goal_word label) (Code i) ≡ line_of (λ skip. goal_word (label_at labels (place + 1 + skip)) skip) (Code i)
label_of_goal labels place label i is = ap (λ (ws : List (List ℕ)). join_with_byte 32 ws ++ codes "\n") (words_of_goal labels place label i is)
