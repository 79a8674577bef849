-- The loops over a text's lines.
use Rattle.tw_symbols.proofs.TextNames.{AreTaken, Bor, IsTaken, Line, List, Procedures, [], ap, arith, length, lines, map, map-append, procedures_of, subst, sym, with_line, ℕ, ◌++◌, ◌+◌, ◌<◌, ◌∙◌, ◌∷◌, ◌≡◌}
use Rattle.tw_symbols.specs.Heads.{HasTooMany}
use Rattle.tw_symbols.proofs.Walk.{taken_length, taken_more, with_lines_more}

abbrev pub Items : Type 0
Items = List (ℕ × Bor (List ℕ))

abbrev pub lines_in : Items → List (List ℕ)
lines_in items = map (λ (item : ℕ × Bor (List ℕ)). item.1.now) items

pub one_line_in : (items : Items) (item : ℕ × Bor (List ℕ)) → lines_in (items ++ item ∷ []) ≡ lines_in items ++ item.1.now ∷ []
one_line_in items item = map-append (λ (x : ℕ × Bor (List ℕ)). x.1.now) items (item ∷ [])

-- ---- the procedures so far

abbrev pub no_procedures : Procedures
no_procedures = record { table = []; heads = [] }

abbrev pub AreGathered : List (List ℕ) → Procedures → Type 0
AreGathered ls p = (all : List Line) × AreTaken all ls × (p ≡ procedures_of all)

pub gather_more : (ls : List (List ℕ)) (line : List ℕ) (index : ℕ) (p q : Procedures) → index ≡ length ls → AreGathered ls p → ((t : Line) × IsTaken t line × (q ≡ with_line p (index + 1) t)) → AreGathered (ls ++ line ∷ []) q
gather_more ls line index p q at (all, are, is) (t, taken, e) =
    let count : index + 1 ≡ 1 + length all = omega (arith, at, taken_length all ls are) in (
      all ++ t ∷ [],
      taken_more all ls t line are taken,
      e ∙ ap (λ (x : Procedures). with_line x (index + 1) t) is ∙ ap (λ (k : ℕ). with_line (procedures_of all) k t) count ∙ sym (with_lines_more no_procedures 1 all t),
    )

pub too_many : (text : List ℕ) (ls others : List (List ℕ)) (p : Procedures) → lines text ≡ ls ++ others → AreGathered ls p → 64 < length p.heads → HasTooMany text
too_many text ls others p parts (all, are, is) many = (ls, others, all, parts, are, subst (λ (q : Procedures). 64 < length q.heads) is many)
