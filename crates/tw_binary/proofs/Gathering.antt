-- Operands that are parsed one by one.
use Rattle.tw_binary.proofs.Names.{Fails, Form, Instr, List, Ok, Opcode, Operand, Operands, Stop, Value, Version, [], ap, arith, as_is, content_at, contents_at, forms_of, gathers, holds, length, made_again, made_at, operand_at, refl, row_of, sym, ℕ, ◌<◌, ◌∙◌, ◌∷◌, ◌≡◌}
use Rattle.tw_binary.specs.declared.fault.Stop.TheVariants as stop
use Rattle.tw_code.specs.format.Operands.{ArePlain, gathered, made_of, none, with_operand}
use Rattle.tw_binary.proofs.Breaks.{as_is_fails}
use Rattle.tw_binary.proofs.Formats.{bind_ok, ok_is}
use Rattle.tw_binary.proofs.Instructions.{by_row}

same_operand : (version : Version) (form : Form) (bytes : List ℕ) → operand_at version form bytes ≡ as_is (holds form) (content_at version form) bytes
same_operand version Value bytes = refl
same_operand version form bytes = refl

pub nothing_left : (version : Version) (all : List Form) (bytes : List ℕ) → length all < 1 → gathers version all bytes ≡ Ok (none, bytes)
nothing_left version [] bytes few = refl
nothing_left version (form ∷ forms) bytes few = absurd (omega (arith, few))

module _ (version : Version) (form : Form) (forms all : List Form) (is : all ≡ form ∷ forms) (bytes : List ℕ) where
  -- the first fails
  pub none_parsed : (e : Stop) → Fails e (operand_at version form bytes) → Fails e (gathers version all bytes)
  none_parsed stop.NoMemory h = tt
  none_parsed (stop.At f) h = rw (is, as_is_fails (holds form) (content_at version form) bytes f (sym (same_operand version form bytes) ∙ h)) refl

  module _ (x : Operand) (rest : List ℕ) (one : operand_at version form bytes ≡ Ok (x, rest)) where
    -- one of the others fails
    pub one_parsed : (e : Stop) → Fails e (gathers version forms rest) → Fails e (gathers version all bytes)
    one_parsed stop.NoMemory h = tt
    one_parsed (stop.At f) h =
        let a = bind_ok (content_at version form bytes) (λ a. Ok (holds form a.0, a.1)) (x, rest) (sym (same_operand version form bytes) ∙ one) in
        let same = ap (λ (p : Operand × List ℕ). gathers version forms p.1) (ok_is (holds form a.0.0, a.0.1) (x, rest) a.2) in
        rw (is, a.1, as_is_fails (gathered forms) (contents_at version forms) a.0.1 f (same ∙ h)) refl

    pub all_parsed : (o : Operands) (left : List ℕ) → gathers version forms rest ≡ Ok (o, left) → gathers version all bytes ≡ Ok (with_operand x o, left)
    all_parsed o left h =
        let a = bind_ok (content_at version form bytes) (λ a. Ok (holds form a.0, a.1)) (x, rest) (sym (same_operand version form bytes) ∙ one) in
        let same = ok_is (holds form a.0.0, a.0.1) (x, rest) a.2 in
        let b = bind_ok (contents_at version forms a.0.1) (λ b. Ok (gathered forms b.0, b.1)) (o, left) (ap (λ (p : Operand × List ℕ). gathers version forms p.1) same ∙ h) in
        rw (is, a.1, b.1)
        (ap (λ (p : Operand × List ℕ). Ok (with_operand p.0 (gathered forms b.0.0), b.0.1)) same
        ∙ ap (λ (p : Operands × List ℕ). Ok (with_operand x p.0, p.1)) (ok_is (gathered forms b.0.0, b.0.1) (o, left) b.2))

-- ---- the instruction

pub not_made : (version : Version) (o : Opcode) (bytes : List ℕ) (e : Stop) → Fails e (gathers version (forms_of o) bytes) → Fails e (made_at version (row_of o) bytes)
not_made version o bytes stop.NoMemory h = tt
not_made version o bytes (stop.At f) h = by_row version (row_of o) bytes ∙ rw (as_is_fails (gathered (forms_of o)) (contents_at version (forms_of o)) bytes f h) refl

pub made : (version : Version) (o : Opcode) (bytes : List ℕ) (x : Operands) (rest : List ℕ) → ArePlain (forms_of o) → gathers version (forms_of o) bytes ≡ Ok (x, rest) → made_at version (row_of o) bytes ≡ Ok (made_of o x, rest)
made version o bytes x rest plain h =
    let a = bind_ok (contents_at version (forms_of o) bytes) (λ a. Ok (gathered (forms_of o) a.0, a.1)) (x, rest) h in
    by_row version (row_of o) bytes
    ∙ rw a.1
    (ap (λ (i : Instr). Ok (i, a.0.1)) (sym (made_again o a.0.0 plain))
    ∙ ap (λ (p : Operands × List ℕ). Ok (made_of o p.0, p.1)) (ok_is (gathered (forms_of o) a.0.0, a.0.1) (x, rest) a.2))
