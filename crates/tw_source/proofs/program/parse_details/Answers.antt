use Rattle.tw_source.proofs.Nones.{no_details}
use Rattle.tw_source.proofs.program.parse_details.Goals as goal

pub returns-in-Text : goal.returns-in-Text
returns-in-Text c = rw c.in-Text.is c.fault_details.ensures

pub returns-in-Named : goal.returns-in-Named
returns-in-Named c = rw c.in-Named.is c.name_details.ensures

pub returns-in_default : goal.returns-in_default
returns-in_default c = rw c.new.ensures.items (no_details c.args.why.now c.in_default.not-Text c.in_default.not-Named)
