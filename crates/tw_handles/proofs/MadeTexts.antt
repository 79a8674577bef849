-- A text that was made and is kept.
use Rattle.tw_handles.proofs.Names.{Held, IsTextKept, IsTextMade, List, Option, inl, inr, ℕ}

pub made_text : (Is : List ℕ → Type 0) (made : List ℕ) (old new : Option Held) (code : ℕ) → Is made → IsTextKept made old new code → IsTextMade Is old new code
made_text Is made old new code is (inl kept) = inl (made, is, kept.0, kept.1)
made_text Is made old new code is (inr fails) = inr fails
