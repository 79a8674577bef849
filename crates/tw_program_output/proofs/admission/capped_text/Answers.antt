use Rattle.tw_program_output.proofs.ReplyNames.{AreExcessLines, AreLeastBounds, LeastRuns, List, Option, StaysWithinCaps, [], excess_lines, finished, from_empty, subst, sym, true, ℕ, ◌∙◌, ◌≡◌}
use Rattle.tw_program_output.proofs.Admissions.{stays_within}
use Rattle.tw_program_output.proofs.admission.capped_text.Goals as goal

pub returns-clause-lines : goal.returns-clause-lines
returns-clause-lines c =
    let program = c.args.verified.now.program in
    let bounds = c.in_ok-bounds.bounds in
    let least = subst (λ (o : Option ℕ). AreLeastBounds program o bounds) c.events_in.ensures c.in_ok-bounds.ensures.are in
    finished c.finish.result c.put_excess_lines.new.out (AreExcessLines true program c.args.limit c.args.caps) c.finish.ensures.all c.finish.ensures.fine
    (λ fine. (bounds, c.largest_budget.result, least, c.largest_budget.ensures.is, from_empty _ _ _ c.new-text.ensures.empty c.put_excess_lines.ensures fine))

pub returns-clause-admitted : goal.returns-clause-admitted
returns-clause-admitted c =
    let program = c.args.verified.now.program in
    let bounds = c.in_ok-bounds.bounds in
    let budget = c.largest_budget.result in
    let runs = subst (λ (o : Option ℕ). LeastRuns program o bounds) c.events_in.ensures c.in_ok-bounds.ensures.runs in
    finished c.finish.result c.put_excess_lines.new.out (λ (t : List ℕ). t ≡ [] → StaysWithinCaps program c.args.limit c.args.caps) c.finish.ensures.all c.finish.ensures.fine
    (λ fine none.
    let lines : c.put_excess_lines.new.out.bytes.items ≡ excess_lines c.args.caps bounds budget = from_empty _ _ _ c.new-text.ensures.empty c.put_excess_lines.ensures fine in
    stays_within program c.args.limit c.args.caps bounds budget runs c.largest_budget.ensures.is (sym lines ∙ none))
