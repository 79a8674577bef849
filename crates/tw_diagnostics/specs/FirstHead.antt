-- The line that begins a text's first procedure.
use Rattle.std.specs.Prelude.{◌≡◌, ℕ, ◌+◌, Bool, true, false, List, ◌∷◌, ◌++◌, length, Option, Some, None}
use Rattle.std.specs.List.{AllByRecursion}
use Rattle.std.specs.Str.Lines.{lines}
use Rattle.tw_types.specs.declared.actor.Kind.{Kind}
use Rattle.tw_types.specs.declared.param.Param.{Param}
use Rattle.tw_asm.specs.Fault.{HaveStatements, at_start}
use Rattle.tw_asm.specs.Statement.{Statement, OfVersion, Head, Registers, Label, Code}

-- returns whether a line with this statement begins a procedure
abbrev pub is_head : Option Statement → Bool
is_head None = false
is_head (Some (OfVersion number)) = false
is_head (Some (Head kind params)) = true
is_head (Some (Registers registers)) = false
is_head (Some (Label name)) = false
is_head (Some (Code i)) = false

-- holds if none of these lines begins a procedure
abbrev pub HasNoHead : List (Option Statement) → Type 0
HasNoHead said = AllByRecursion (λ s. is_head s ≡ false) said

-- the number of the first line that begins a procedure, counted from 1
pub record IsFirstHead (text : List ℕ) (number : ℕ) : Type 0 where
  pub said : List (Option Statement)
  pub say : HaveStatements 1 at_start (lines text) said
  pub before : List (Option Statement)
  pub kind : Kind
  pub params : List Param
  pub after : List (Option Statement)
  pub parts : said ≡ before ++ (Some (Head kind params) ∷ after)
  pub number_is : number ≡ length before + 1
  pub first : HasNoHead before
