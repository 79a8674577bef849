use Rattle.std.proofs.Common.{◌≡◌, ◌≤◌, length}
use Rattle.std.specs.Prelude.{vec_capacity}
use Rattle.tw_case_lines.proofs.parts.eight.Given as goal

abbrev pub invariant-loop-id : goal.invariant-loop-id
invariant-loop-id l = (8 ≤ vec_capacity l.args) × (length l.args.items ≡ l.id)
