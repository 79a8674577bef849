use Rattle.std.proofs.Common.{◌+◌, ◌∙◌, List, Option, ℕ, ap, length, option_map}
use Rattle.std.proofs.lemmas.Result.{IfOk-weaker}
use Rattle.tw_types.specs.declared.pending.Link.{Link}
use Rattle.tw_types.specs.Store.{Store}
use Rattle.tw_bounds.specs.Runs.{instructions_in}
use Rattle.tw_json_output.specs.Run.{end_members}
use Rattle.tw_run_output.specs.Json.{circle_in, cut_at, pending_of, status_of}
use Rattle.tw_run_output.proofs.json.end_members.Goals as goal

pub returns-clause-are : goal.returns-clause-are
returns-clause-are c =
    IfOk-weaker c.end_members.result _ _
    (λ members is p history shut.
    let program = p.program.program in
    let final = c.args.left.now in
    let s = shut.state in
    let closing = c.args.closing in
    let events = c.args.history.now.events in
    let found = option_map (λ v. v.items) c.in_ok-circle_of.field-0 in
    let count = c.len.result in
    let sum = c.instructions_in.result + c.from.result in
    is
    ∙ ap (λ (word : List ℕ). end_members word c.pending_of.result found count sum final.store.store.live final.outputs) c.status_of.ensures
    ∙ ap (λ (rules : Option ℕ). end_members (status_of closing) rules found count sum final.store.store.live final.outputs) c.pending_of.ensures
    ∙ ap (λ (links : Option (List Link)). end_members (status_of closing) (pending_of closing) links count sum final.store.store.live final.outputs) (c.in_ok-circle_of.ensures p history shut)
    ∙ ap (λ (n : ℕ). end_members (status_of closing) (pending_of closing) (circle_in program s closing) n sum final.store.store.live final.outputs) c.len.ensures
    ∙ ap (λ (n : ℕ). end_members (status_of closing) (pending_of closing) (circle_in program s closing) (length events) n final.store.store.live final.outputs) (ap (λ (n : ℕ). n + c.from.result) c.instructions_in.ensures.is ∙ ap (λ (n : ℕ). instructions_in events + n) (c.from.ensures ∙ c.cut_at.ensures))
    ∙ ap (λ (store : Store). end_members (status_of closing) (pending_of closing) (circle_in program s closing) (length events) (instructions_in events + cut_at closing c.args.cut) store.live final.outputs) shut.left.store
    ∙ ap (λ (outputs : List ℕ). end_members (status_of closing) (pending_of closing) (circle_in program s closing) (length events) (instructions_in events + cut_at closing c.args.cut) s.store.live outputs) shut.left.outputs) c.end_members.ensures.is
