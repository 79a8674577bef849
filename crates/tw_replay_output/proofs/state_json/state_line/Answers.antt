use Rattle.std.proofs.Common.{◌∙◌, List, Option, ℕ, ap, length, option_map}
use Rattle.tw_types.specs.declared.pending.Link.{Link}
use Rattle.tw_code.specs.machine.Ending.{ending}
use Rattle.tw_code.specs.machine.Pending.{circle}
use Rattle.tw_json_output.specs.Run.{json_line, run_json}
use Rattle.tw_replay_output.specs.Replay.{pending_of, status_of}
use Rattle.tw_replay_output.proofs.ReplayNames.{IfOk-weaker, State}
use Rattle.tw_replay_output.proofs.state_json.state_line.Goals as goal

pub returns : goal.returns
returns c =
    let program = c.args.plain.now.program in
    let s = c.args.plain.now.state in
    let events = c.args.events.now in
    let found = option_map (λ v. v.items) c.in_ok-circle_state.field-0 in
    let count = length events in
    let sum = c.instructions_in.result in
    let word = status_of (ending s) in
    let rules = pending_of (ending s) in
    IfOk-weaker c.run_line.result _ _
    (λ line is.
    is
    ∙ ap (λ (t : State). json_line (run_json c.status_of.result.now c.pending_of.result found count sum t.store.live t.outputs)) c.state.ensures
    ∙ ap (λ (status : List ℕ). json_line (run_json status c.pending_of.result found count sum s.store.live s.outputs)) (c.status_of.ensures ∙ ap status_of c.ending.ensures)
    ∙ ap (λ (pending : Option ℕ). json_line (run_json word pending found count sum s.store.live s.outputs)) (c.pending_of.ensures ∙ ap pending_of c.ending-2.ensures)
    ∙ ap (λ (links : Option (List Link)). json_line (run_json word rules links count sum s.store.live s.outputs)) c.in_ok-circle_state.ensures
    ∙ ap (λ (n : ℕ). json_line (run_json word rules (circle program s) count n s.store.live s.outputs)) c.instructions_in.ensures) c.run_line.ensures
