-- Lines that are read one by one beside those of the expansion.
use Rattle.tw_symbols.proofs.TextNames.{AreLines, AreTaken, Bool, Bor, IsLine, IsRenamed, IsRenamedBy, IsTaken, Line, List, Names, None, Option, Procedures, Some, YieldsList-from_lines, [], ap, append-nil, append_assoc, arith, cond, false, filter, inl, inr, length, length-append, is_some, line_words, lines, nat_lt, nat_tests, no_names, procedures_of, refl, subst, suc, sym, take, take_all, true, ℕ, ◌++◌, ◌+◌, ◌<◌, ◌==◌, ◌∙◌, ◌∷◌, ◌≡◌, ◌≢◌, ◌≤◌}
use Rattle.std.specs.Prelude.{MatchOption}
use Rattle.std.specs.Str.Iter.{lines_rest, lines_steps}
use Rattle.std.specs.declared.str.Lines.{Lines}
use Rattle.std.proofs.lemmas.Iterator.{YieldsList}
use Rattle.tw_symbols.specs.Answers.{IsBeside}
use Rattle.tw_symbols.specs.Renamed.{AreFilled, AreRead, IsFilled, IsRenamedUpTo, is_written}
use Rattle.tw_symbols.proofs.Taking.{all_once, taken_front}
use Rattle.tw_symbols.proofs.Walk.{taken_length, taken_more}

-- ---- one more line

hidden_more : (p : Procedures) (number : ℕ) (names : Names) (all : List Line) (ks : List (List ℕ)) (now after : Names) (plain : List ℕ) (u : Line) → AreLines p number names all ks now → IsTaken u plain → is_written plain ≡ false
    → IsFilled now (line_words u) after → AreLines p number names all (ks ++ plain ∷ []) after
hidden_more p number names all [] now after plain u (none, same) taken hidden fills = (u, after, taken, inl (hidden, subst (λ (n : Names). IsFilled n (line_words u) after) same fills, (none, refl)))
hidden_more p number names all (k ∷ ks) now after plain u (t, next, is, inl (also, filled, more)) taken hidden fills = (t, next, is, inl (also, filled, hidden_more p number next all ks now after plain u more taken hidden fills))
hidden_more p number names all (k ∷ ks) now after plain u (t, next, is, inr (own, full, line, others, parts, one, more)) taken hidden fills =
    (t, next, is, inr (own, full, line, others, parts, one, hidden_more p (number + 1) next others ks now after plain u more taken hidden fills))

written_more : (p : Procedures) (number : ℕ) (names : Names) (all : List Line) (ks : List (List ℕ)) (now after : Names) (plain : List ℕ) (t u : Line) → AreLines p number names all ks now → IsTaken u plain → is_written plain ≡ true
    → AreFilled now → IsLine p (number + length all) now (line_words t) (line_words u) after → AreLines p number names (all ++ t ∷ []) (ks ++ plain ∷ []) after
written_more p number names all [] now after plain t u (none, same) taken own full one =
    let at : number + length all ≡ number = omega (arith, ap length none) in (
      u,
      after,
      taken,
      inr (
        own,
        subst AreFilled same full,
        t,
        [],
        ap (λ (x : List Line). x ++ t ∷ []) none,
        subst (λ (n : Names). IsLine p number n (line_words t) (line_words u) after) same (subst (λ (k : ℕ). IsLine p k now (line_words t) (line_words u) after) at one),
        (refl, refl),
      ),
    )
written_more p number names all (k ∷ ks) now after plain t u (v, next, is, inl (hidden, filled, more)) taken own full one =
    (v, next, is, inl (hidden, filled, written_more p number next all ks now after plain t u more taken own full one))
written_more p number names all (k ∷ ks) now after plain t u (v, next, is, inr (also, done, line, others, parts, first, more)) taken own full one =
    let at : number + length all ≡ (number + 1) + length others = omega (arith, ap length parts) in (
      v,
      next,
      is,
      inr (
        also,
        done,
        line,
        others ++ t ∷ [],
        ap (λ (x : List Line). x ++ t ∷ []) parts,
        first,
        written_more p (number + 1) next others ks now after plain t u more taken own full (subst (λ (k : ℕ). IsLine p k now (line_words t) (line_words u) after) at one),
      ),
    )

-- ---- a loop over both texts

-- holds if these lines were read beside those ones, and so many are the names after them
abbrev HaveCome : Procedures → List (List ℕ) → List (List ℕ) → Names → ℕ → Type 0
HaveCome p ls ks names count = (all : List Line) × AreTaken all ls × AreLines p 1 no_names all ks names × (count ≡ length all)

-- holds if such lines were read of a text, and the iterator has its other lines
abbrev pub HasCome : Procedures → List (List ℕ) → List (List ℕ) → Names → ℕ → Lines → Type 0
HasCome p ls ks names count s = (before left : List (List ℕ)) × (ls ≡ before ++ left) × YieldsList lines_steps (λ x. x.now) s left × HaveCome p before ks names count

pub none_come : (p : Procedures) (text : List ℕ) (names : Names) (s : Lines) → names ≡ no_names → lines_rest s ≡ text → HasCome p (lines text) [] names 0 s
none_come p text names s e rest = ([], lines text, refl, YieldsList-from_lines text rest, ([], tt, (refl, e), refl))

next_left : (s t : Lines) (r : Option (Bor (List ℕ))) (left : List (List ℕ)) → YieldsList lines_steps (λ x. x.now) s left → lines_steps s r t
    → MatchOption r (left ≡ []) (λ x. (others : List (List ℕ)) × (left ≡ x.now ∷ others) × YieldsList lines_steps (λ x. x.now) t others)
next_left s t None [] y k = refl
next_left s t None (l ∷ left) y k = absurd (y.runs.0 t k)
next_left s t (Some x) [] y k = absurd (y.runs x t k)
next_left s t (Some x) (l ∷ left) y k = let m = y.runs.1 x t k in (left, ap (λ (z : List ℕ). z ∷ left) (sym m.0), record { runs = m.1 })

pub beside_more : (p : Procedures) (ls ks : List (List ℕ)) (plain : List ℕ) (count number : ℕ) (names after : Names) (s t : Lines) → HasCome p ls ks names count s → IsBeside p count names s plain number after t
    → HasCome p ls (ks ++ plain ∷ []) after number t
beside_more p ls ks plain count number names after s t (before, left, parts, y, (all, are, so_far, counted)) (u, taken, inl (hidden, fills, same, stays)) =
    (before, left, parts, subst (λ (x : Lines). YieldsList lines_steps (λ x. x.now) x left) (sym stays) y, (all, are, hidden_more p 1 no_names all ks names after plain u so_far taken hidden fills, same ∙ counted))
beside_more p ls ks plain count number names after s t (before, left, parts, y, (all, are, so_far, counted)) (u, taken, inr (own, full, more, found, line, k, is, one)) =
    let next = next_left s t (Some found) left y k in
    let at : number ≡ 1 + length all = omega (arith, more, counted) in (
      before ++ found.now ∷ [],
      next.0,
      parts ∙ ap (λ (z : List (List ℕ)). before ++ z) next.1 ∙ sym (append_assoc before (found.now ∷ []) next.0),
      next.2,
      (
        all ++ line ∷ [],
        taken_more all before line found.now are is,
        written_more p 1 no_names all ks names after plain line u so_far taken own full (subst (λ (k : ℕ). IsLine p k names (line_words line) (line_words u) after) at one),
        omega (arith, more, counted, length-append all (line ∷ [])),
      ),
    )

-- ---- where the loop ends

pub come_to : (text plain : List ℕ) (p : Procedures) (ks : List (List ℕ)) (names : Names) (count most : ℕ) (s : Lines) → ks ≡ take most (lines plain) → HasCome p (lines text) ks names count s → IsRenamedBy p text plain (Some most)
come_to text plain p ks names count most s are_all (before, left, parts, y, (all, are, so_far, counted)) = (before, left, all, names, parts, are, subst (λ (z : List (List ℕ)). AreLines p 1 no_names all z names) are_all so_far)

-- holds if a count isn't passed
abbrev pub IsWithin : ℕ → Option ℕ → Type 0
IsWithin count up_to = (most : ℕ) → up_to ≡ Some most → count ≤ most

pub within_more : (count : ℕ) (up_to : Option ℕ) → up_to ≢ Some count → IsWithin count up_to → IsWithin (count + 1) up_to
within_more count up_to other within most is = by (nat_lt count most) refl
  where
    by : (t : Bool) → nat_lt count most ≡ t → count + 1 ≤ most
    by true e = let low : count < most = grind (arith, nat_tests) in omega (arith, low)
    by false e =
        let high : most ≤ count = grind (arith, nat_tests) in
        let same : most ≡ count = omega (arith, high, within most is) in
        absurd (other (is ∙ ap (λ (n : ℕ). Some n) same))

pub come_all : (text plain : List ℕ) (p : Procedures) (ks : List (List ℕ)) (names : Names) (count : ℕ) (s : Lines) (up_to : Option ℕ) → ks ≡ lines plain → HasCome p (lines text) ks names count s → IsWithin (length ks) up_to → is_some up_to ≡ true
    → IsRenamedBy p text plain up_to
come_all text plain p ks names count s None are_all come within some = absurd cc
come_all text plain p ks names count s (Some most) are_all come within some =
    let few : length (lines plain) ≤ most = subst (λ (z : List (List ℕ)). length z ≤ most) are_all (within most refl) in
    come_to text plain p ks names count most s (are_all ∙ sym (take_all most (lines plain) few)) come

pub come_end : (text plain : List ℕ) (p : Procedures) (ks : List (List ℕ)) (names : Names) (count : ℕ) (s t : Lines) (r : Option (Bor (List ℕ))) (up_to : Option ℕ) → ks ≡ lines plain → HasCome p (lines text) ks names count s → r ≡ None
    → lines_steps s r t → is_some up_to ≡ false → AreFilled names × AreRead names → IsRenamedBy p text plain up_to
come_end text plain p ks names count s t None None all_are (before, left, parts, y, (all, are, so_far, counted)) none k whole full =
    let end : lines text ≡ before = parts ∙ ap (λ (z : List (List ℕ)). before ++ z) (next_left s t None left y k) ∙ append-nil before in
    (all, names, subst (AreTaken all) (sym end) are, subst (λ (z : List (List ℕ)). AreLines p 1 no_names all z names) all_are so_far, full.0, full.1)
come_end text plain p ks names count s t None (Some most) all_are so_far none k whole full = absurd cc
come_end text plain p ks names count s t (Some x) up_to all_are so_far none k whole full = absurd cc

pub by_heads : (text plain : List ℕ) (p : Procedures) (up_to : Option ℕ) → ((all : List Line) × AreTaken all (lines text) × (p ≡ procedures_of all)) → IsRenamedBy p text plain up_to → IsRenamedUpTo up_to text plain
by_heads text plain p None (heads, taken, is) (all, after, are, so_far, full, done) =
    let same : p ≡ procedures_of all = is ∙ ap procedures_of (all_once heads all (lines text) taken are) in
    (all, after, are, subst (λ (q : Procedures). AreLines q 1 no_names all (lines plain) after) same so_far, full, done)
by_heads text plain p (Some most) (heads, taken, is) (before, left, all, after, parts, are, so_far) =
    let front : all ≡ take (length all) heads = taken_front all heads before left are (subst (AreTaken heads) parts taken) in
    inr (heads, length all, after, taken, subst (λ (ls : List Line). AreLines (procedures_of heads) 1 no_names ls (take most (lines plain)) after) front (subst (λ (q : Procedures). AreLines q 1 no_names all (take most (lines plain)) after) is so_far))

-- ---- as many lines

lines_length : (p : Procedures) (number : ℕ) (names : Names) (all : List Line) (ks : List (List ℕ)) (after : Names) → AreLines p number names all ks after → length (filter is_written ks) ≡ length all
lines_length p number names all [] after (none, same) = sym (ap length none)
lines_length p number names all (k ∷ ks) after (u, next, taken, inl (hidden, fills, more)) = rw hidden (lines_length p number next all ks after more)
lines_length p number names all (k ∷ ks) after (u, next, taken, inr (own, full, line, others, parts, one, more)) = rw own (ap suc (lines_length p (number + 1) next others ks after more) ∙ sym (ap length parts))

pub as_many : (text plain : List ℕ) → IsRenamed text plain → length (filter is_written (lines plain)) ≡ length (lines text)
as_many text plain (all, after, are, is, full, done) = lines_length (procedures_of all) 1 no_names all (lines plain) after is ∙ taken_length all (lines text) are
