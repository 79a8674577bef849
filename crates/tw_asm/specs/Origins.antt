-- Which line of a text each instruction of its program comes from.
use Rattle.std.specs.Prelude.{◌≡◌, ℕ, ◌+◌, List, ◌∷◌, ◌++◌, length, Option, Some, None, slice_get, MatchOption}
use Rattle.std.specs.Option.{option_and_then}
use Rattle.std.specs.Str.Lines.{lines}
use Rattle.tw_code.specs.declared.instr.Instr.{Instr}
use Rattle.tw_code.specs.declared.procedure.Procedure.{Procedure}
use Rattle.tw_asm.specs.Statement.{Statement, Code}
use Rattle.tw_asm.specs.Fault.{HaveStatements, at_start, situation}

-- The line with this number, counted from 1 over all lines, has the instruction at this place of this procedure, both counted from 0. When the line
-- is read, `procedure + 1` procedures have begun, and the last one has `place` instructions.
pub record ComesFrom (text : List ℕ) (procedure place number : ℕ) : Type 0 where
  pub said : List (Option Statement)
  pub say : HaveStatements 1 at_start (lines text) said
  pub before : List (Option Statement)
  pub i : Instr
  pub after : List (Option Statement)
  pub parts : said ≡ before ++ (Some (Code i) ∷ after)
  pub number_is : number ≡ length before + 1
  pub procedure_is : (situation before).procedures ≡ procedure + 1
  pub place_is : (situation before).instructions ≡ place

-- returns the item of a list for each procedure, at a place
abbrev pub at_place : {X : Type 0} → List (List X) → ℕ → ℕ → Option X
at_place lists procedure place = option_and_then (λ items. slice_get items place) (slice_get lists procedure)

abbrev pub instr_at : List Procedure → ℕ → ℕ → Option Instr
instr_at program procedure place = option_and_then (λ p. slice_get p.code place) (slice_get program procedure)

-- holds if each instruction of the program comes from the line whose number is at its place
abbrev pub AreOrigins : List ℕ → List Procedure → List (List ℕ) → Type 0
AreOrigins text program numbers = (procedure place : ℕ)
    → MatchOption (at_place numbers procedure place) (instr_at program procedure place ≡ None) (ComesFrom text procedure place)
