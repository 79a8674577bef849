use Rattle.tw_program_output.proofs.CheckObjects.{circle_of}
use Rattle.tw_program_output.proofs.answer.all_bounds.Goals as goal

pub returns : goal.returns
returns c = (c.in_ok-bounds.ensures.are, circle_of c.args.verified.now.program c.in_ok-circle.circle c.in_ok-circle.ensures.found c.in_ok-circle.ensures.none, c.limited_by.ensures)
