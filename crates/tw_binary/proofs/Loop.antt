-- Parsing values in sequence, as a loop does, for any parser.
use Rattle.std.proofs.Common.{◌≡◌, ℕ, suc, ◌-◌, ◌+◌, ◌<◌, ◌≤◌, List, [], ◌∷◌, ◌++◌, Result, Ok, Err, refl, sym, ap, ◌∙◌, append_assoc, append-nil, arith}
use Rattle.tw_binary.proofs.Names.{Broken, Fails, Reading, Stop, many, ◌>>=◌}
use Rattle.tw_binary.specs.declared.fault.Stop.TheVariants as stops

-- the values parsed so far, and those still parsed
abbrev pub with_front : {A : Type 0} → List A → Result (List A × List ℕ) Broken → Result (List A × List ℕ) Broken
with_front front read = read >>= λ x. Ok (front ++ x.0, x.1)

-- so far a loop has parsed these values, and the remaining bytes give the rest of the whole
pub record HasRead {A : Type 0} (read : Reading A) (count i : ℕ) (front : List A) (rest bytes : List ℕ) : Type 0 where
  pub is : with_front front (many read (count - i) rest) ≡ many read count bytes

regroup : {A : Type 0} (front : List A) (n : A) (read : Result (List A × List ℕ) Broken) → with_front front (read >>= λ x. Ok (n ∷ x.0, x.1)) ≡ with_front (front ++ n ∷ []) read
regroup front n (Ok x) = ap (λ ns. Ok (ns, x.1)) (simp append_assoc)
regroup front n (Err f) = refl

pub begins : {A : Type 0} (read : Reading A) (count : ℕ) (bytes : List ℕ) → HasRead read count 0 [] bytes bytes
begins read count bytes = let all : count - 0 ≡ count = omega arith in record { is = rw all (same (many read count bytes)) }
  where
    same : {A : Type 0} (r : Result (List A × List ℕ) Broken) → with_front [] r ≡ r
    same (Ok x) = refl
    same (Err f) = refl

module _ {A : Type 0} (read : Reading A) (count i : ℕ) (front : List A) (rest bytes : List ℕ) (so_far : HasRead read count i front rest bytes) where
  pub goes_on : (n : A) (after : List ℕ) → i < count → read rest ≡ Ok (n, after) → HasRead read count (i + 1) (front ++ n ∷ []) after bytes
  goes_on n after lt h =
      let k : count - i ≡ suc (count - (i + 1)) = omega arith in
      let one : with_front front (many read (count - i) rest) ≡ with_front (front ++ n ∷ []) (many read (count - (i + 1)) after) = rw (k, h) (regroup front n (many read (count - (i + 1)) after)) in
      record { is = sym one ∙ so_far.is }

  pub ends : (e : Stop) → i < count → Fails e (read rest) → Fails e (many read count bytes)
  ends stops.NoMemory lt h = tt
  ends (stops.At f) lt h =
      let k : count - i ≡ suc (count - (i + 1)) = omega arith in
      let one : with_front front (many read (count - i) rest) ≡ Err f = rw (k, h) refl in
      sym so_far.is ∙ one

  pub whole : count ≤ i → many read count bytes ≡ Ok (front, rest)
  whole past = let none : count - i ≡ 0 = omega arith in sym so_far.is ∙ rw none (ap (λ xs. Ok (xs, rest)) (append-nil front))
