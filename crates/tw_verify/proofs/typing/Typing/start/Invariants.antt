use Rattle.std.proofs.Common.{◌≡◌, ◌≤◌, length, take}
use Rattle.tw_code.specs.accepting.Typing.{rights_given, start_typing}
use Rattle.tw_verify.proofs.typing.Typing.start.Given as goal

-- the rights of the parameters so far are in their registers
abbrev pub invariant-loop-param : goal.invariant-loop-param
invariant-loop-param l = record {
  rights : l.rights ≡ start_typing (take l.param-index l.params);
  given : l.given ≡ length (rights_given (take l.param-index l.params));
  few : l.given ≤ l.param-index;
}
