-- The buffer into which bytes are read.
use Rattle.tw_each.proofs.Names.{Consumes, IsAtEnd, List, Ok, Option, ReadConsumes, Result, [], drop, length, subst, take, take-append_seam, ℕ, ◌++◌, ◌<◌, ◌≡◌}

-- all of it is passed to a read
pub whole_room : (now old : List ℕ) (len : ℕ) → length now ≡ len → take len (now ++ drop (length now) old) ≡ now
whole_room now old len is = subst (λ (n : ℕ). take n (now ++ drop (length now) old) ≡ now) is (take-append_seam now (drop (length now) old))

-- nothing was read, so all was
pub at_end : {E : Type 0} (old new : Option (List ℕ)) (result : Result ℕ E) (count : ℕ) (room : List ℕ) → ReadConsumes old new result room → result ≡ Ok count → count ≡ 0 → 0 < length room → Consumes old new [] × IsAtEnd new
at_end {E} old new result count room h is none some =
    let k = subst (λ (r : Result ℕ E). ReadConsumes old new r room) is h in
    (subst (λ (n : ℕ). Consumes old new (take n room)) none k.0, k.1 none some)
