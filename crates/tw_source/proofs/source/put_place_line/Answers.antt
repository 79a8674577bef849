use Rattle.tw_source.proofs.source.put_place_line.Goals as goal

pub returns-in-Some : goal.returns-in-Some
returns-in-Some c = rw c.in-Some.is c.put_source_line.ensures
