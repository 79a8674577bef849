use Rattle.tw_pool_state.proofs.PartNames.{IsLayout, IsMade, IsProgram, List, MainWaits, Param, RunningView, ap, main_params, nothing_opened, opened, rules, subst, ℕ, ◌∙◌, ◌≡◌}
use Rattle.std.specs.FinMap as map
use Rattle.tw_pool_state.proofs.Openings.{is_opening}
use Rattle.tw_pool_state.proofs.parts.Parts.open.Goals as goal

pub returns : goal.returns
returns c =
    let verified = c.args.verified.now in
    let inputs = c.args.inputs.now in
    let layout = c.args.layout in
    let o = c.in-Ok-of.opened in
    let params = c.main_params-params.result.now in
    let counts : IsLayout layout = search rules in
    let same : params ≡ main_params verified.program = c.main_params-params.ensures ∙ ap main_params (c.procedures.ensures.is ∙ c.program.ensures.is) in
    let servers : c.servers.result ≡ layout.servers = c.servers.ensures in
    let made : IsMade layout.servers params o (opened nothing_opened params inputs) = subst (λ (n : ℕ). IsMade n params o (opened nothing_opened params inputs)) servers c.in-Ok-of.ensures in
    let waits : MainWaits (record { layout = layout; tasks = map.empty }) o c.begun.result = subst (λ (s : RunningView). MainWaits s o c.begun.result) c.in_ok-running_tasks.ensures c.begun.ensures in
    is_opening verified inputs layout o c.begun.result
    (subst (λ (ps : List Param). IsMade layout.servers ps o (opened nothing_opened ps inputs)) same made) waits
    (subst IsProgram c.program.ensures.is c.procedures.ensures.within) c.program.ensures.right counts c.requires.targets c.requires.given
