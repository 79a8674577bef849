use Rattle.tw_timeline.specs.Xml.{attribute_text}
use Rattle.tw_writer.proofs.Pieces.{all_of}
use Rattle.tw_timeline.proofs.page.put_attributes.Goals as goal

pub returns : goal.returns
returns c = all_of attribute_text c.args.attributes.now c.loop-attribute.attribute-index _ _ c.loop-attribute-test.false c.loop-attribute.invariant
