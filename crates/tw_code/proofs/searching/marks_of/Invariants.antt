use Rattle.std.proofs.Common.{◌≡◌, ◌<◌, ℕ, length, false, drop}
use Rattle.std.specs.Prelude.{slice_index_or, ◌||◌}
use Rattle.tw_code.specs.machine.Texts.{is_among}
use Rattle.tw_code.proofs.searching.marks_of.Given as goal

abbrev pub invariant-loop-byte : goal.invariant-loop-byte
invariant-loop-byte l = record {
  long : length l.marks ≡ 256;
  marks : (byte : ℕ) → byte < 256 → (slice_index_or l.marks byte false || is_among (drop l.byte-index l.set) byte) ≡ is_among l.set byte;
}
