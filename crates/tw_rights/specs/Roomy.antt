-- Memory for arguments.
use Rattle.std.specs.Prelude.{◌≡◌, ◌≤◌, ℕ, [], vec_capacity}
use Rattle.std.specs.declared.vec.Vec.{Vec}
use Rattle.std.specs.declared.alloc.Global.{Global}
use Rattle.tw_rights.specs.declared.arg.Arg.{Arg}

-- no items yet, and capacity for `count`
pub record IsRoom (count : ℕ) (args : Vec Arg Global) : Type 0 where
  pub empty : args.items ≡ []
  pub fits : count ≤ vec_capacity args
