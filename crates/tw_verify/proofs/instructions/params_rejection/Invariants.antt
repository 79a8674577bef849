use Rattle.std.proofs.Common.{◌≡◌, ◌≤◌, length, take}
use Rattle.tw_code.specs.accepting.Typing.{value_types, values_fit}
use Rattle.tw_verify.proofs.instructions.params_rejection.Given as goal

-- the value parameters so far
abbrev pub invariant-loop-param : goal.invariant-loop-param
invariant-loop-param l = record {
  given : l.given ≡ length (value_types (take l.param-index l.param-items));
  few : l.given ≤ l.param-index;
  fits : l.fits ≡ values_fit (value_types (take l.param-index l.param-items)) l.registers;
}
