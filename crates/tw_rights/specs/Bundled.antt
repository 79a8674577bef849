-- Arguments of a task or a rule, which leave the right registers.
use Rattle.std.specs.Prelude.{ℕ, List, [], ◌∷◌, Option, Some, None, slice_index_or, slice_set}
use Rattle.std.specs.Option.{option_and_then, option_map}
use Rattle.tw_types.specs.declared.param.Mode.{Mode}
use Rattle.tw_types.specs.declared.param.Mode.TheVariants as mode
use Rattle.tw_types.specs.declared.param.Param.{Param}
use Rattle.tw_types.specs.declared.value.Value.{Value}
use Rattle.tw_rights.specs.declared.arg.Arg.{Arg}
use Rattle.tw_rights.specs.declared.arg.Arg.TheVariants as arg
use Rattle.tw_rights.specs.declared.held.Held.{Held}
use Rattle.tw_rights.specs.declared.held.Held.TheVariants.{Read, Write}

-- an argument, the registers after it has left them, and the remaining values
pub record BundledOne : Type 0 where
  pub arg : Arg
  pub file : List (Option Held)
  pub values : List Value

-- returns the argument, and the register empty
abbrev pub left : List (Option Held) → ℕ → List Value → Arg → Option BundledOne
left file register values arg = Some (record { arg = arg; file = slice_set file register None; values = values })

-- return the read right in the register, or the write right
abbrev pub read_left : List (Option Held) → ℕ → List Value → Option Held → Option BundledOne
read_left file register values None = None
read_left file register values (Some (Read right)) = left file register values (arg.Read right)
read_left file register values (Some (Write right)) = None

abbrev pub write_left : List (Option Held) → ℕ → List Value → Option Held → Option BundledOne
write_left file register values None = None
write_left file register values (Some (Read right)) = None
write_left file register values (Some (Write right)) = left file register values (arg.Write right)

abbrev pub value_left : List (Option Held) → List Value → Option BundledOne
value_left file [] = None
value_left file (value ∷ values) = Some (record { arg = arg.Val value; file = file; values = values })

-- returns the argument for a parameter of this mode: the next value, or the right in the register, if it is of the kind
abbrev pub bundled_one : List (Option Held) → Mode → ℕ → List Value → Option BundledOne
bundled_one file mode.Val register values = value_left file values
bundled_one file mode.Closed register values = read_left file register values (slice_index_or file register None)
bundled_one file mode.Ref register values = read_left file register values (slice_index_or file register None)
bundled_one file mode.Write register values = write_left file register values (slice_index_or file register None)

-- arguments, and the registers after they have left them
pub record Bundled : Type 0 where
  pub args : List Arg
  pub file : List (Option Held)

abbrev pub with_arg : Arg → Bundled → Bundled
with_arg arg others = record others { args = arg ∷ others.args }

-- returns the arguments for the parameters in order, each from its register, if all are there
abbrev pub bundled : List (Option Held) → List Param → List ℕ → List Value → Option Bundled
bundled file [] registers values = Some (record { args = []; file = file })
bundled file (p ∷ params) [] values = None
bundled file (p ∷ params) (register ∷ registers) values =
    option_and_then (λ one. option_map (with_arg one.arg) (bundled one.file params registers one.values)) (bundled_one file p.mode register values)
