use Rattle.std.proofs.Common.{◌∙◌, ◌++◌, List, Option, ℕ, ap}
use Rattle.tw_types.specs.declared.pending.Link.{Link}
use Rattle.tw_types.specs.Store.{Store}
use Rattle.tw_report.specs.Report.{report}
use Rattle.tw_run_output.specs.Ends.{closing_lines}
use Rattle.tw_run_output.proofs.end_report.report_as.Goals as goal

pub returns : goal.returns
returns c p history shut =
    let program = p.program.program in
    let final = c.args.left.now in
    let s = shut.state in
    let text = c.deref.result.now in
    let closing = c.deref.ensures.value ∙ c.in_ok-closing.ensures
    ∙ ap (λ (found : Option (List Link)). closing_lines c.args.over found) (c.in_ok-circle.ensures p history shut) in
    c.in_ok-put_report.ensures
    ∙ ap (λ (t : List ℕ). t ++ report final.store.store.live final.outputs text) c.new-text.ensures.items
    ∙ ap (λ (store : Store). report store.live final.outputs text) shut.left.store
    ∙ ap (λ (outputs : List ℕ). report s.store.live outputs text) shut.left.outputs
    ∙ ap (λ (t : List ℕ). report s.store.live s.outputs t) closing
