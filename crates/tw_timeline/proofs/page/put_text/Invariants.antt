use Rattle.std.proofs.Common.{take}
use Rattle.std.specs.List.{flat_map}
use Rattle.tw_timeline.specs.Xml.{escaped}
use Rattle.tw_writer.specs.Appended.{IsAppended}
use Rattle.tw_timeline.proofs.page.put_text.Given as goal

abbrev pub invariant-loop-byte : goal.invariant-loop-byte
invariant-loop-byte l = IsAppended l.fn.out l.out (flat_map escaped (take l.byte-index l.text))
