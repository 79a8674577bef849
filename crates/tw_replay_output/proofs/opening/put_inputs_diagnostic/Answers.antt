use Rattle.tw_visible.specs.Visible.{visible_bytes}
use Rattle.tw_replay_output.proofs.Behinds.{hides_nothing}
use Rattle.tw_replay_output.proofs.opening.put_inputs_diagnostic.Goals as goal

pub returns : goal.returns
returns c =
    let reason = c.deref.result.now in
    (visible_bytes reason, (c.wrong_input-at.ensures, hides_nothing reason), c.in_ok-put_visible.ensures)
