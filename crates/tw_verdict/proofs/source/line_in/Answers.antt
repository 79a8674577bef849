use Rattle.tw_verdict.proofs.Sources.{line_of}
use Rattle.tw_verdict.proofs.source.line_in.Goals as goal

pub returns-in-Some : goal.returns-in-Some
returns-in-Some c = λ program is. rw c.in-Some.is at (line_of c.args.source.now.text.now program c.args.procedure c.args.place c.line.result (c.line.ensures program is.1 is.3))

pub returns-in-None : goal.returns-in-None
returns-in-None c = λ program is. rw c.in-None.is at (line_of c.args.source.now.text.now program c.args.procedure c.args.place c.line.result (c.line.ensures program is.1 is.3))
