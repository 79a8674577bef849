-- Lemmas on `Reads`, which says that a result of reading is right about the words of values and about their limits.
use Rattle.std.proofs.Common.{Result, Ok, Err}
use Rattle.tw_asm.proofs.AsmNames.{Form, Limit, Reads, TokenError, both}

-- readings of equivalent properties
pub likewise : {A : Type 0} (Has May Has' May' : A → Type 0) → ((a : A) → Has a → Has' a) → ((a : A) → Has' a → Has a) → ((a : A) → Has a → May a → May' a) → ((a : A) → Has' a → May' a → May a) → (r : Result A TokenError) → Reads Has May r → Reads Has' May' r
likewise Has May Has' May' to back may may_back (Ok a) h = (to a h.0, may a h.0 h.1)
likewise Has May Has' May' to back may may_back (Err Form) h = λ a k. h a (back a k)
likewise Has May Has' May' to back may may_back (Err Limit) h = ((h.0.0, to h.0.0 h.0.1), λ a k m. h.1 a (back a k) (may_back a k m))

-- two readings, one after another
module _ {A B : Type 0} (Has May : A → Type 0) (Has' May' : B → Type 0) where
  abbrev HaveBoth : A × B → Type 0
  HaveBoth x = Has x.0 × Has' x.1

  abbrev MayBoth : A × B → Type 0
  MayBoth x = May x.0 × May' x.1

  pub both_read : (r : Result A TokenError) (s : Result B TokenError) → Reads Has May r → Reads Has' May' s → Reads HaveBoth MayBoth (both r s)
  both_read (Ok a) (Ok b) h k = ((h.0, k.0), (h.1, k.1))
  both_read (Ok a) (Err Form) h k = λ x y. k x.1 y.1
  both_read (Ok a) (Err Limit) h k = (((a, k.0.0), (h.0, k.0.1)), λ x y m. k.1 x.1 y.1 m.1)
  both_read (Err Form) (Ok b) h k = λ x y. h x.0 y.0
  both_read (Err Form) (Err Form) h k = λ x y. h x.0 y.0
  both_read (Err Form) (Err Limit) h k = λ x y. h x.0 y.0
  both_read (Err Limit) (Ok b) h k = (((h.0.0, b), (h.0.1, k.0)), λ x y m. h.1 x.0 y.0 m.0)
  both_read (Err Limit) (Err Form) h k = λ x y. k x.1 y.1
  both_read (Err Limit) (Err Limit) h k = (((h.0.0, k.0.0), (h.0.1, k.0.1)), λ x y m. h.1 x.0 y.0 m.0)
