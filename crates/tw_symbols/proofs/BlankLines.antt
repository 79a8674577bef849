-- Lines without words.
use Rattle.tw_symbols.proofs.TextNames.{IsTaken, List, Worded, [], is_plainly_blank, refl, true, ℕ, ◌∷◌, ◌≡◌}

pub blank_taken : (line : List ℕ) → is_plainly_blank line ≡ true → IsTaken (Worded [] line) line
blank_taken [] e = (refl, record { gap = []; rest = []; parts = refl; is_gap = tt; is_end = tt })
blank_taken (b ∷ line) e = (refl, record { gap = []; rest = b ∷ line; parts = refl; is_gap = tt; is_end = e })
