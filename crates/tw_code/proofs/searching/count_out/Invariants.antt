use Rattle.std.proofs.Common.{◌≡◌, ◌+◌, drop}
use Rattle.tw_code.specs.machine.Texts.{count_out}
use Rattle.tw_code.proofs.searching.count_out.Given as goal

abbrev pub invariant-loop-byte : goal.invariant-loop-byte
invariant-loop-byte l = record {
  count : l.count ≡ l.byte-index;
  is : l.count + count_out l.set (drop l.byte-index l.text) ≡ count_out l.set l.text;
}
