use Rattle.std.proofs.Common.{◌≡◌, ◌+◌, drop}
use Rattle.tw_code.specs.machine.Texts.{count_in}
use Rattle.tw_code.proofs.searching.count_in.Given as goal

abbrev pub invariant-loop-byte : goal.invariant-loop-byte
invariant-loop-byte l = record {
  count : l.count ≡ l.byte-index;
  is : l.count + count_in l.set (drop l.byte-index l.text) ≡ count_in l.set l.text;
}
