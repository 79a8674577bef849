-- The rows of procedures, one more.
use Rattle.tw_program_output.proofs.ReplyNames.{AreRows, IsSomeAnd, List, Option, Procedure, ProcedureRow, Some, [], ap, arith, flows, get_or, length, length-take, refl, slice_get, slice_get-get_or, subst, suc, sym, take, take_more, ℕ, ◌++◌, ◌+◌, ◌<◌, ◌∙◌, ◌∷◌, ◌≡◌}
use Rattle.tw_code.specs.accepting.Walk.{IsBudget}

abbrev row_of : ℕ → Procedure → ℕ → ProcedureRow
row_of number p budget = record { number = number; kind = p.kind; budget = budget }

rows_more : (number budget : ℕ) (ps : List Procedure) (p : Procedure) (rows : List ProcedureRow) → AreRows number ps rows → IsBudget (flows p.code) budget → AreRows number (ps ++ p ∷ []) (rows ++ row_of (number + length ps) p budget ∷ [])
rows_more number budget [] p rows is found =
    let same : number + 0 ≡ number = omega arith in
    (budget, [], found, ap (λ (rs : List ProcedureRow). rs ++ row_of (number + 0) p budget ∷ []) is ∙ ap (λ (n : ℕ). row_of n p budget ∷ []) same, refl)
rows_more number budget (q ∷ ps) p rows (own, rest, has, is, others) found =
    let same : number + length (q ∷ ps) ≡ suc number + length ps = omega arith in
    let last = row_of (suc number + length ps) p budget in (
      own,
      rest ++ last ∷ [],
      has,
      ap (λ (n : ℕ). rows ++ row_of n p budget ∷ []) same ∙ ap (λ (rs : List ProcedureRow). rs ++ last ∷ []) is,
      rows_more (suc number) budget ps p rest others found,
    )

pub read_row : (program items : List Procedure) (i budget : ℕ) (p : Procedure) (now next : List ProcedureRow) → items ≡ program → AreRows 0 (take i program) now → i < length items → p ≡ get_or items i p
    → IsSomeAnd (slice_get program i) (λ q. IsBudget (flows q.code) budget) → next ≡ now ++ row_of i p budget ∷ [] → AreRows 0 (take (i + 1) program) next
read_row program items i budget p now next same has inside here found added =
    let within : i < length program = subst (λ (ps : List Procedure). i < length ps) same inside in
    let there : p ≡ get_or program i p = here ∙ ap (λ (ps : List Procedure). get_or ps i p) same in
    let at : slice_get program i ≡ Some p = slice_get-get_or program i p within ∙ ap Some (sym there) in
    let budget_is = subst (λ (o : Option Procedure). IsSomeAnd o (λ q. IsBudget (flows q.code) budget)) at found in
    let count : 0 + length (take i program) ≡ i = omega (arith, length-take i program) in
    let longer = take_more program i p within ∙ ap (λ (q : Procedure). take i program ++ q ∷ []) (sym there) in
    let more = subst (λ (n : ℕ). AreRows 0 (take i program ++ p ∷ []) (now ++ row_of n p budget ∷ [])) count (rows_more 0 budget (take i program) p now has budget_is) in
    subst (λ (rs : List ProcedureRow). AreRows 0 (take (i + 1) program) rs) (sym added) (subst (λ (ps : List Procedure). AreRows 0 ps (now ++ row_of i p budget ∷ [])) (sym longer) more)
