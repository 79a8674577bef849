use Rattle.tw_source.proofs.source.rejection_line.Goals as goal

pub returns-in-Some : goal.returns-in-Some
returns-in-Some c = rw c.in-Some.is c.text_rejection_line.ensures
