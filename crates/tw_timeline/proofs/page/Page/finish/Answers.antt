use Rattle.tw_timeline.specs.Xml.{IsPrinted, IsXml}
use Rattle.tw_timeline.proofs.Printed.{printed}
use Rattle.tw_writer.proofs.Pieces.{finished}
use Rattle.tw_timeline.proofs.page.Page.finish.Goals as goal

pub returns-clause-xml : goal.returns-clause-xml
returns-clause-xml c = finished c.finish.result c.args.self.text IsXml c.finish.ensures.all c.finish.ensures.fine c.args.self.form

pub returns-clause-printed : goal.returns-clause-printed
returns-clause-printed c =
    finished c.finish.result c.args.self.text IsPrinted c.finish.ensures.all c.finish.ensures.fine (λ fine. printed c.args.self.text.bytes.items (c.args.self.form fine))
