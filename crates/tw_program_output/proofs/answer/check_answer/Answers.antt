use Rattle.tw_program_output.proofs.answer.check_answer.Goals as goal

pub returns : goal.returns
returns c = record {
  listing = c.in_ok-listing.ensures;
  procedures = c.in_ok-procedure_rows.ensures;
  engines = c.needs.ensures.engines;
  workers = c.needs.ensures.workers;
  searches = c.searching.ensures;
  bounds = c.in_ok-bounds.ensures;
  insertion = c.in_ok-insertion.ensures;
}
