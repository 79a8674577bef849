use Rattle.std.proofs.Common.{take}
use Rattle.std.specs.List.{flat_map}
use Rattle.tw_timeline.specs.Xml.{attribute_text}
use Rattle.tw_writer.specs.Appended.{IsAppended}
use Rattle.tw_timeline.proofs.page.put_attributes.Given as goal

abbrev pub invariant-loop-attribute : goal.invariant-loop-attribute
invariant-loop-attribute l = IsAppended l.fn.out l.out (flat_map attribute_text (take l.attribute-index l.attributes))
