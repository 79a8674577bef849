-- A rejected place is one of the program's.
use Rattle.tw_program_output.proofs.ReplyNames.{IsFirstRejection, IsProcedure, IsProcedureRejection, IsProgram, List, MayBeSource, MayBeSourceAt, None, Option, Procedure, Some, SourceText, [], ap, arith, flow_of, flows, inl, inr, instr_at, option_and_then, option_map, slice_get-map, subst, sym, ℕ, ◌∙◌, ◌∷◌, ◌≡◌}
use Rattle.tw_soundness.proofs.Accepted.{all_found}
use Rattle.tw_verify.proofs.Lists.{get_none}
use Rattle.std.specs.List.{slice_get}
use Rattle.tw_code.specs.accepting.Structure.{structure_rejection}

none_some : {X Z : Type 0} {x : X} → None ≡ Some x → Z
none_some e = absurd cc

first_there : (p : Procedure) → IsProcedure p → slice_get p.code 0 ≡ None → ⊥
first_there p fits none = let long = get_none p.code 0 none in absurd (omega (arith, long, fits.code.0.0))

procedure_there : (program : List Procedure) (p : Procedure) (number place : ℕ) → IsProcedure p → IsProcedureRejection program p number place → slice_get p.code place ≡ None → ⊥
procedure_there program p number place fits (inl structure) none =
    none_some (sym (ap (option_and_then (structure_rejection (flows p.code) place)) (slice_get-map flow_of p.code place ∙ ap (option_map flow_of) none)) ∙ structure.here)
procedure_there program p number place fits (inr (structured, inl typing)) none = let long = get_none p.code place none in absurd (omega (arith, long, typing.inside))
procedure_there program p number place fits (inr (structured, inr (typable, budget))) none = first_there p fits (subst (λ (k : ℕ). slice_get p.code k ≡ None) budget.first none)

instr_is : (program : List Procedure) (procedure place : ℕ) (p : Procedure) → slice_get program procedure ≡ Some p → instr_at program procedure place ≡ slice_get p.code place
instr_is program procedure place p e = ap (option_and_then (λ (q : Procedure). slice_get q.code place)) e

pub main_there : (program : List Procedure) → IsProgram program → instr_at program 0 0 ≡ None → ⊥
main_there [] fits none = absurd (omega (arith, fits.0.0))
main_there (p ∷ others) fits none = first_there p fits.1.0 none

inside : (program : List Procedure) (number procedure place : ℕ) → IsProgram program → IsFirstRejection program number procedure place → instr_at program procedure place ≡ None → ⊥
inside program number procedure place fits (inl main) none =
    main_there program fits (subst (λ (k : ℕ). instr_at program 0 k ≡ None) main.start (subst (λ (k : ℕ). instr_at program k place ≡ None) main.first none))
inside program number procedure place fits (inr later) none =
    procedure_there program later.p number place (all_found IsProcedure program procedure later.p fits.1 later.here) later.rejection (sym (instr_is program procedure place later.p later.here) ∙ none)

-- a rejected place of a program that was read from a text is one of the program's
pub placed : (source : Option SourceText) (program : List Procedure) (number procedure place : ℕ) → MayBeSource source program → IsFirstRejection program number procedure place
    → MayBeSourceAt source program procedure place
placed None program number procedure place is refused = tt
placed (Some source) program number procedure place is refused = (is.1, inside program number procedure place is.0 refused, is.3)
