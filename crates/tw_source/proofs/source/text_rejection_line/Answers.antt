use Rattle.std.proofs.Common.{◌∙◌, ap, sym}
use Rattle.std.specs.Prelude.{Some}
use Rattle.tw_source.specs.Source.{plain_of}
use Rattle.tw_source.proofs.Rejections.{none_there, written_rejection}
use Rattle.tw_source.proofs.source.text_rejection_line.Goals as goal

pub returns-in-Some : goal.returns-in-Some
returns-in-Some c = λ is.
    let found = rw c.in-Some.is at (c.in_ok-number.ensures is) in
    written_rejection c.args.source.now c.args.refused.now.no c.args.refused.now.procedure c.args.refused.now.place c.in-Some.number c.written.result is.2 found c.written.ensures

pub returns-in-None : goal.returns-in-None
returns-in-None c = λ is.
    let found = rw c.in-None.is at (c.in_ok-number.ensures is) in
    absurd (none_there found.0 found.2)
