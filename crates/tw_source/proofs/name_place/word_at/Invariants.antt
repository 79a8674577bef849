use Rattle.std.proofs.Common.{◌+◌, ◌≤◌, length, IsUtf8}
use Rattle.tw_source.proofs.NamePlaces.{Passed}
use Rattle.tw_source.proofs.name_place.word_at.Given as goal

abbrev pub invariant-loop-after : goal.invariant-loop-after
invariant-loop-after l = record {
  utf8 : IsUtf8 l.rest;
  passed : Passed l.line l.rest l.count;
  ended : length l.line ≤ l.index + length l.rest;
  room : l.count + length l.rest ≤ length l.line;
}

abbrev pub decreases-loop-after : goal.decreases-loop-after
decreases-loop-after l = length l.rest
