-- Equality of typings.
use Rattle.std.specs.Prelude.{ℕ, ◌==◌, Bool, ◌&&◌}
use Rattle.std.specs.Option.{option_eq}
use Rattle.std.specs.Cmp.Lexicographic.{pointwise}
use Rattle.tw_types.specs.declared.param.Mode.{Mode}
use Rattle.tw_types.specs.declared.param.Mode.TheVariants.{Val, Closed, Ref, Write}
use Rattle.tw_types.specs.DataType.{same_type}
use Rattle.tw_code.specs.machine.Rights.{RightType, Typing}

abbrev pub mode_rank : Mode → ℕ
mode_rank Val = 0
mode_rank Closed = 1
mode_rank Ref = 2
mode_rank Write = 3

abbrev pub same_right : RightType → RightType → Bool
same_right a b = (mode_rank a.mode == mode_rank b.mode) && same_type a.ty b.ty

abbrev pub same_typing : Typing → Typing → Bool
same_typing a b = pointwise (option_eq same_right) a b
