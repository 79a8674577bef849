-- Lines without words.
use Rattle.tw_asm.proofs.AsmNames.{IsLine, List, [], is_plainly_blank, refl, true, ℕ, ◌∷◌, ◌≡◌}

pub no_words : (line : List ℕ) → is_plainly_blank line ≡ true → IsLine [] line
no_words [] e = ([], refl, record { gap = []; rest = []; parts = refl; is_gap = tt; is_end = tt })
no_words (b ∷ line) e = (b ∷ line, refl, record { gap = []; rest = b ∷ line; parts = refl; is_gap = tt; is_end = e })
