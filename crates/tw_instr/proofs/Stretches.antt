-- How many local instructions a task can execute.
use Rattle.std.proofs.Common.{◌≡◌, ◌<◌, ◌≤◌, ◌+◌, ℕ, zero, suc, List, Some, Result, Ok, Err, IfOk, sym, ap, ◌∙◌, arith}
use Rattle.tw_instr.proofs.Names.{Frame, Instr, Position, Went, local_step, local_steps, same_went, slice_get, went_first, ◌>>=◌}
use Rattle.tw_code.specs.declared.procedure.Procedure.{Procedure}
use Rattle.tw_instr.specs.Stretch.{IsStretch}

-- so many steps and one more: the last begins where the others end
last_step : (n : ℕ) (code : List Instr) (at now next : Position) → local_steps n code at ≡ Went now → local_steps (n + 1) code at ≡ Went next → local_step code now ≡ Went next
last_step zero code at now next went more =
    let one = went_first (local_step code at) Went next more in
    ap (local_step code) (sym (same_went at now went)) ∙ one.1 ∙ one.2
last_step (suc n) code at now next went longer =
    let count : suc (n + 1) ≡ suc n + 1 = omega arith in
    let more : (local_step code at >>= local_steps (n + 1) code) ≡ Went next = ap (λ (k : ℕ). local_steps k code at) count ∙ longer in
    let one = went_first (local_step code at) (local_steps n code) now went in
    let other = went_first (local_step code at) (local_steps (n + 1) code) next more in
    let same = same_went one.0 other.0 (sym one.1 ∙ other.1) in
    last_step n code one.0 now next one.2 (ap (local_steps (n + 1) code) same ∙ other.2)

module _ (program : List Procedure) (frame : Frame) (p : Procedure) (here : slice_get program frame.procedure ≡ Some p) (most n : ℕ) (left : Position) (go : local_steps n p.code frame.position ≡ Went left) where
  pub is_stretch : n ≤ most → (n < most → (at : Position) → local_step p.code left ≡ Went at → ⊥) → IsStretch program frame most n
  is_stretch few whole = record {
    few = few;
    go = λ some. (left, rw here go);
    whole = λ less at more. whole less at (last_step n p.code frame.position left at go (rw here at more));
  }

-- like that, for the code's result
pub stretched : {E : Type 0} (program : List Procedure) (frame : Frame) (p : Procedure) (most : ℕ) (position left : Position) (result : Result ℕ E) → slice_get program frame.procedure ≡ Some p → position ≡ frame.position
    → IfOk result (λ n. n ≤ most) → IfOk result (λ n. local_steps n p.code position ≡ Went left) → IfOk result (λ n. n < most → (at : Position) → local_step p.code left ≡ Went at → ⊥) → IfOk result (IsStretch program frame most)
stretched program frame p most position left (Ok n) here same few go whole = is_stretch program frame p here most n left (ap (local_steps n p.code) (sym same) ∙ go) few whole
stretched program frame p most position left (Err e) here same few go whole = tt
