-- The rights among arguments, and the file whose first registers have them.
use Rattle.std.specs.Prelude.{◌-◌, List, [], ◌∷◌, ◌++◌, map as each, length, replicate, Option, Some, None}
use Rattle.tw_rights.specs.declared.arg.Arg.{Arg}
use Rattle.tw_rights.specs.declared.arg.Arg.TheVariants as arg
use Rattle.tw_rights.specs.declared.held.Held.{Held}
use Rattle.tw_rights.specs.declared.held.Held.TheVariants as held

abbrev pub rights_in : List Arg → List Held
rights_in [] = []
rights_in (arg.Val value ∷ args) = rights_in args
rights_in (arg.Read right ∷ args) = held.Read right ∷ rights_in args
rights_in (arg.Write right ∷ args) = held.Write right ∷ rights_in args

-- puts these into the first of the sixteen registers, and leaves the others empty
abbrev pub filed : List Held → List (Option Held)
filed rights = each Some rights ++ replicate (16 - length rights) None
