-- The lines of what was read, after one more chunk.
use Rattle.tw_each.proofs.Names.{Bool, List, [], ap, append-nil, begun_line, but_last, cond, ended_lines, false, kept, last_of, most_bytes, parts_of, refl, suc, take, true, zero, ℕ, ◌++◌, ◌+◌, ◌==◌, ◌∙◌, ◌∷◌, ◌≡◌}
use Rattle.std.specs.List.{onto_first}

-- ---- parts, and those of more bytes

-- there is a part
abbrev HasFirst : List (List ℕ) → Type 0
HasFirst parts = (first : List ℕ) × (others : List (List ℕ)) × (parts ≡ first ∷ others)

onto_has : (b : ℕ) (parts : List (List ℕ)) → HasFirst (onto_first b parts)
onto_has b [] = (b ∷ [], [], refl)
onto_has b (part ∷ parts) = (b ∷ part, parts, refl)

cond_has : (is : Bool) (b : ℕ) (parts : List (List ℕ)) → HasFirst (cond is ([] ∷ parts) (onto_first b parts))
cond_has true b parts = ([], parts, refl)
cond_has false b parts = onto_has b parts

pub has_first : (bytes : List ℕ) → HasFirst (parts_of bytes)
has_first [] = ([], [], refl)
has_first (b ∷ bytes) = cond_has (b == 10) b (parts_of bytes)

-- the parts of bytes and of those that follow
abbrev joined : List (List ℕ) → List ℕ → List (List ℕ) → List (List ℕ)
joined parts first others = but_last parts ++ (last_of parts ++ first) ∷ others

onto_joined : (b : ℕ) (parts : List (List ℕ)) (first : List ℕ) (others : List (List ℕ)) → HasFirst parts → onto_first b (joined parts first others) ≡ joined (onto_first b parts) first others
onto_joined b [] first others (part, more, is) = refl
onto_joined b (part ∷ []) first others h = refl
onto_joined b (part ∷ next ∷ parts) first others h = refl

after_joined : (parts : List (List ℕ)) (first : List ℕ) (others : List (List ℕ)) → HasFirst parts → [] ∷ joined parts first others ≡ joined ([] ∷ parts) first others
after_joined [] first others (part, more, is) = absurd (let never : [] ≡ part ∷ more = is in cc)
after_joined (part ∷ parts) first others h = refl

one_more : (is : Bool) (b : ℕ) (parts whole : List (List ℕ)) (first : List ℕ) (others : List (List ℕ)) → HasFirst parts → whole ≡ joined parts first others
    → cond is ([] ∷ whole) (onto_first b whole) ≡ joined (cond is ([] ∷ parts) (onto_first b parts)) first others
one_more true b parts whole first others h same = ap (λ (ps : List (List ℕ)). [] ∷ ps) same ∙ after_joined parts first others h
one_more false b parts whole first others h same = ap (onto_first b) same ∙ onto_joined b parts first others h

pub parts_joined : (bytes chunk first : List ℕ) (others : List (List ℕ)) → parts_of chunk ≡ first ∷ others → parts_of (bytes ++ chunk) ≡ joined (parts_of bytes) first others
parts_joined [] chunk first others is = is
parts_joined (b ∷ bytes) chunk first others is = one_more (b == 10) b (parts_of bytes) (parts_of (bytes ++ chunk)) first others (has_first bytes) (parts_joined bytes chunk first others is)

-- ---- the last part

but_last-append : (front : List (List ℕ)) (part : List ℕ) (back : List (List ℕ)) → but_last (front ++ part ∷ back) ≡ front ++ but_last (part ∷ back)
but_last-append [] part back = refl
but_last-append (f ∷ []) part back = refl
but_last-append (f ∷ g ∷ front) part back = ap (λ (ps : List (List ℕ)). f ∷ ps) (but_last-append (g ∷ front) part back)

last_of-append : (front : List (List ℕ)) (part : List ℕ) (back : List (List ℕ)) → last_of (front ++ part ∷ back) ≡ last_of (part ∷ back)
last_of-append [] part back = refl
last_of-append (f ∷ []) part back = refl
last_of-append (f ∷ g ∷ front) part back = last_of-append (g ∷ front) part back

-- ---- one more chunk

-- a chunk without a line feed
pub goes_on : (bytes chunk first : List ℕ) → parts_of chunk ≡ first ∷ [] → (ended_lines (bytes ++ chunk) ≡ ended_lines bytes) × (begun_line (bytes ++ chunk) ≡ begun_line bytes ++ first)
goes_on bytes chunk first is =
    let whole = parts_joined bytes chunk first [] is in (
      ap but_last whole ∙ but_last-append (but_last (parts_of bytes)) (last_of (parts_of bytes) ++ first) [] ∙ append-nil (but_last (parts_of bytes)),
      ap last_of whole ∙ last_of-append (but_last (parts_of bytes)) (last_of (parts_of bytes) ++ first) [],
    )

-- a chunk with one: the line that has begun ends, then other lines end, and a line begins
pub line_ends : (bytes chunk first last : List ℕ) (ended : List (List ℕ)) → parts_of chunk ≡ first ∷ (ended ++ last ∷ [])
    → (ended_lines (bytes ++ chunk) ≡ ended_lines bytes ++ (begun_line bytes ++ first) ∷ ended) × (begun_line (bytes ++ chunk) ≡ last)
line_ends bytes chunk first last ended is =
    let whole = parts_joined bytes chunk first (ended ++ last ∷ []) is in
    let front = but_last (parts_of bytes) in
    let line = last_of (parts_of bytes) ++ first in (
      ap but_last whole ∙ but_last-append front line (ended ++ last ∷ []) ∙ ap (λ (ps : List (List ℕ)). front ++ ps) (but_last-append (line ∷ ended) last [] ∙ append-nil (line ∷ ended)),
      ap last_of whole ∙ last_of-append front line (ended ++ last ∷ []) ∙ last_of-append (line ∷ ended) last [],
    )

-- ---- what is kept of a line

take_take : (n : ℕ) (xs ys : List ℕ) → take n (take n xs ++ ys) ≡ take n (xs ++ ys)
take_take zero xs ys = refl
take_take (suc n) [] ys = refl
take_take (suc n) (x ∷ xs) ys = ap (λ (zs : List ℕ). x ∷ zs) (take_take n xs ys)

pub kept_more : (line more : List ℕ) → kept (kept line ++ more) ≡ kept (line ++ more)
kept_more line more = take_take (most_bytes + 1) line more

-- more bytes end more lines
pub ended_more : (bytes chunk : List ℕ) → (more : List (List ℕ)) × (ended_lines (bytes ++ chunk) ≡ ended_lines bytes ++ more)
ended_more bytes chunk =
    let (first, others, is) = has_first chunk in
    let line = last_of (parts_of bytes) ++ first in
    (but_last (line ∷ others), ap but_last (parts_joined bytes chunk first others is) ∙ but_last-append (but_last (parts_of bytes)) line others)
