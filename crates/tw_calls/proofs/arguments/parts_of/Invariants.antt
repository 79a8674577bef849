use Rattle.std.proofs.Common.{◌≡◌, map, string_bytes}
use Rattle.tw_calls.proofs.arguments.parts_of.Given as goal

abbrev pub invariant-loop-part : goal.invariant-loop-part
invariant-loop-part l = record {
  next : (goal.iterator-loop-part).can_next l.part-iterator;
  finite : (goal.iterator-loop-part).is_finite l.part-iterator;
  parts : map string_bytes l.parts.items ≡ map (λ part. part.now) l.yielded;
}
