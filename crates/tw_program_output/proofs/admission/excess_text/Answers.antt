use Rattle.std.proofs.Common.{◌∙◌, sym}
use Rattle.tw_program_output.proofs.Admissions.{uncapped_stays}
use Rattle.tw_program_output.proofs.admission.excess_text.Goals as goal

pub returns-then-has_cap-clause-lines : goal.returns-then-has_cap-clause-lines
returns-then-has_cap-clause-lines c = rw (sym c.has_cap.ensures ∙ c.if-has_cap.true) c.capped_text.ensures.lines

pub returns-else-has_cap-clause-lines : goal.returns-else-has_cap-clause-lines
returns-else-has_cap-clause-lines c = rw (sym c.has_cap.ensures ∙ c.if-has_cap.false) c.new.ensures.items

pub returns-else-has_cap-clause-admitted : goal.returns-else-has_cap-clause-admitted
returns-else-has_cap-clause-admitted c = λ none. uncapped_stays c.args.verified.now.program c.args.limit c.args.caps (sym c.has_cap.ensures ∙ c.if-has_cap.false)
