-- The line of an insertion.
use Rattle.tw_program_output.proofs.ReplyNames.{CopyInsertion, List, MayBeSource, MayBeSourceAt, None, Option, Procedure, Some, SourceText, ap, instr_at, option_and_then, sym, ℕ, ◌∙◌, ◌≡◌}
use Rattle.std.specs.Prelude.{slice_get}
use Rattle.tw_code.specs.declared.instr.Instr.{Instr}
use Rattle.tw_copies.specs.Copies.{IsAt}

some_there : (program : List Procedure) (k place : ℕ) (p : Procedure) (i : Instr) → slice_get program k ≡ Some p → slice_get p.code place ≡ Some i → instr_at program k place ≡ None → ⊥
some_there program k place p i here there none =
    let found : instr_at program k place ≡ Some i = ap (λ (o : Option Procedure). option_and_then (λ (q : Procedure). slice_get q.code place) o) here ∙ there in
    let both : Some i ≡ None = sym found ∙ none in
    cc

pub insertion_at : (source : Option SourceText) (program : List Procedure) (insertion : CopyInsertion) → MayBeSource source program → (i : Instr) → IsAt program insertion.procedure insertion.place i
    → MayBeSourceAt source program insertion.procedure insertion.place
insertion_at None program insertion h i is = tt
insertion_at (Some source) program insertion h i is = (h.1, some_there program insertion.procedure insertion.place is.0 i is.1 is.2, h.3)
