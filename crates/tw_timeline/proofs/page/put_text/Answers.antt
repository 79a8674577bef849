use Rattle.tw_timeline.specs.Xml.{escaped}
use Rattle.tw_writer.proofs.Pieces.{all_of}
use Rattle.tw_timeline.proofs.page.put_text.Goals as goal

pub returns : goal.returns
returns c = all_of escaped c.args.text.now c.loop-byte.byte-index _ _ c.loop-byte-test.false c.loop-byte.invariant
