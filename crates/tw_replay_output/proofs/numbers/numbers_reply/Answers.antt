use Rattle.std.proofs.Common.{◌++◌, ◌∙◌, ℕ, List, ap}
use Rattle.tw_replay_output.proofs.ReplayNames.{close_of, reply}
use Rattle.tw_report.specs.Report.{state_report}
use Rattle.tw_source.specs.declared.close.Close.{Close}
use Rattle.tw_replay_output.proofs.numbers.numbers_reply.Goals as goal

pub returns : goal.returns
returns c =
    let numbers = c.deref.result.now in (
      numbers,
      ap (λ (text : List ℕ). reply text c.close_of-close.result) (c.in_ok-put_bytes.ensures ∙ ap (λ (text : List ℕ). text ++ numbers) c.in_ok-text.ensures)
          ∙ ap (λ (close : Close). reply (state_report c.args.plain.now.program c.args.plain.now.state ++ numbers) close) (c.close_of-close.ensures ∙ ap close_of c.ending.ensures),
    )
