use Rattle.tw_pool_state.proofs.PartNames.{Call, RunningView, Some, ap, arith, bundled, frame_after, frame_at_next, insert, number_in_kind, of_z, refl, sym, to_z, to_z-of_z, w64, with_done, ◌+◌, ◌∙◌, ◌≡◌}
use Rattle.tw_code.specs.declared.instr.Instr.TheVariants as instr
use Rattle.tw_rules.specs.Table.{new_rule}
use Rattle.tw_rules.proofs.Fitting.{bundled_suit}
use Rattle.tw_pool_state.proofs.AfterJob.{few, here_too, params_of_callee, runs_there, runs_too, slot_there, is_running_ready, so_bundled, so_valued, there}
use Rattle.tw_pool_state.proofs.Goings.{is_issued, issued_goes}
use Rattle.tw_pool_state.proofs.Law.{engine_low}
use Rattle.tw_pool_state.proofs.NewRules.{rule, rule_goes, rule_named, rule_fits}
use Rattle.tw_pool_state.proofs.Runners.{again}
use Rattle.tw_pool_state.proofs.ValueRegisters.{ok_ints}
use Rattle.tw_pool_state.proofs.parts.Parts.rule.Goals as goal

pub action_operands-requires-clause-suits : goal.action_operands-requires-clause-suits
action_operands-requires-clause-suits c =
    let s = c.requires.fits_place in
    let u = rule_named c.args.done.before.program s.layout (there c.args.self.now c.args.actor c.args.done (instr.Rule c.args.action.now) c.requires.fits_place) s.notices s.parts c.args.actor (frame_after s.f c.args.done) s.q c.args.action.now (runs_there c.args.self.now c.args.actor c.args.done (instr.Rule c.args.action.now) c.requires.fits_place) s.here s.following_is in
    (u.procedure, u.is, u.long, u.values)

pub action_operands-requires-clause-priority : goal.action_operands-requires-clause-priority
action_operands-requires-clause-priority c =
    let s = c.requires.fits_place in
    let u = rule_named c.args.done.before.program s.layout (there c.args.self.now c.args.actor c.args.done (instr.Rule c.args.action.now) c.requires.fits_place) s.notices s.parts c.args.actor (frame_after s.f c.args.done) s.q c.args.action.now (runs_there c.args.self.now c.args.actor c.args.done (instr.Rule c.args.action.now) c.requires.fits_place) s.here s.following_is in
    (u.priority, u.priority_is)

pub take_args-args-requires-clause-task_slot : goal.take_args-args-requires-clause-task_slot
take_args-args-requires-clause-task_slot c = slot_there c.args.self.now c.args.actor c.args.done (instr.Rule c.args.action.now) c.requires.fits_place

pub take_args-args-requires-clause-few : goal.take_args-args-requires-clause-few
take_args-args-requires-clause-few c =
    let s = c.requires.fits_place in
    let u = rule_named c.args.done.before.program s.layout (there c.args.self.now c.args.actor c.args.done (instr.Rule c.args.action.now) c.requires.fits_place) s.notices s.parts c.args.actor (frame_after s.f c.args.done) s.q c.args.action.now (runs_there c.args.self.now c.args.actor c.args.done (instr.Rule c.args.action.now) c.requires.fits_place) s.here s.following_is in
    let params = params_of_callee c.args.done.before.program.program c.args.action.now.procedure c.in-Ok.asked.callee.now c.in-Ok.ensures.callee u.procedure u.is in
    few c.args.self.now c.args.actor c.args.done (instr.Rule c.args.action.now) c.requires.fits_place c.args.action.now u c.in-Ok.asked.callee.now.params params c.as_slice-registers.result.now c.as_slice-registers.ensures

pub take_args-args-requires-clause-is_running : goal.take_args-args-requires-clause-is_running
take_args-args-requires-clause-is_running c =
    let s = c.requires.fits_place in
    let u = rule_named c.args.done.before.program s.layout (there c.args.self.now c.args.actor c.args.done (instr.Rule c.args.action.now) c.requires.fits_place) s.notices s.parts c.args.actor (frame_after s.f c.args.done) s.q c.args.action.now (runs_there c.args.self.now c.args.actor c.args.done (instr.Rule c.args.action.now) c.requires.fits_place) s.here s.following_is in
    let params = params_of_callee c.args.done.before.program.program c.args.action.now.procedure c.in-Ok.asked.callee.now c.in-Ok.ensures.callee u.procedure u.is in
    is_running_ready c.args.self.now c.args.actor c.args.done (instr.Rule c.args.action.now) c.requires.fits_place c.args.action.now u c.in-Ok.asked.callee.now.params params c.as_slice-registers.result.now c.as_slice-registers.ensures c.in-Ok.asked.vals.items c.in-Ok.ensures.values
    (rule_fits c.args.done.before.program s.layout (there c.args.self.now c.args.actor c.args.done (instr.Rule c.args.action.now) c.requires.fits_place) s.notices s.parts c.args.actor (frame_after s.f c.args.done) s.q c.args.action.now (runs_there c.args.self.now c.args.actor c.args.done (instr.Rule c.args.action.now) c.requires.fits_place) s.here s.following_is)

pub reserve-requires : goal.reserve-requires
reserve-requires c =
    let s = c.requires.fits_place in
    let u = rule_named c.args.done.before.program s.layout (there c.args.self.now c.args.actor c.args.done (instr.Rule c.args.action.now) c.requires.fits_place) s.notices s.parts c.args.actor (frame_after s.f c.args.done) s.q c.args.action.now (runs_there c.args.self.now c.args.actor c.args.done (instr.Rule c.args.action.now) c.requires.fits_place) s.here s.following_is in
    engine_low c.args.done.before.program s.layout (there c.args.self.now c.args.actor c.args.done (instr.Rule c.args.action.now) c.requires.fits_place) s.notices s.parts c.args.actor (frame_after s.f c.args.done) s.q (runs_there c.args.self.now c.args.actor c.args.done (instr.Rule c.args.action.now) c.requires.fits_place) s.here u.control c.number-engine.result c.number-engine.ensures

pub add-requires-clause-engine : goal.add-requires-clause-engine
add-requires-clause-engine c =
    let s = c.requires.fits_place in
    let u = rule_named c.args.done.before.program s.layout (there c.args.self.now c.args.actor c.args.done (instr.Rule c.args.action.now) c.requires.fits_place) s.notices s.parts c.args.actor (frame_after s.f c.args.done) s.q c.args.action.now (runs_there c.args.self.now c.args.actor c.args.done (instr.Rule c.args.action.now) c.requires.fits_place) s.here s.following_is in
    engine_low c.args.done.before.program s.layout (there c.args.self.now c.args.actor c.args.done (instr.Rule c.args.action.now) c.requires.fits_place) s.notices s.parts c.args.actor (frame_after s.f c.args.done) s.q (runs_there c.args.self.now c.args.actor c.args.done (instr.Rule c.args.action.now) c.requires.fits_place) s.here u.control c.number-engine.result c.number-engine.ensures

pub add-requires-clause-few : goal.add-requires-clause-few
add-requires-clause-few c =
    let s = c.requires.fits_place in
    let u = rule_named c.args.done.before.program s.layout (there c.args.self.now c.args.actor c.args.done (instr.Rule c.args.action.now) c.requires.fits_place) s.notices s.parts c.args.actor (frame_after s.f c.args.done) s.q c.args.action.now (runs_there c.args.self.now c.args.actor c.args.done (instr.Rule c.args.action.now) c.requires.fits_place) s.here s.following_is in
    let params = params_of_callee c.args.done.before.program.program c.args.action.now.procedure c.in-Ok.asked.callee.now c.in-Ok.ensures.callee u.procedure u.is in
    few c.args.self.now c.args.actor c.args.done (instr.Rule c.args.action.now) c.requires.fits_place c.args.action.now u c.as_slice-params.result.now (c.as_slice-params.ensures ∙ params) c.as_slice-registers.result.now c.as_slice-registers.ensures

pub add-requires-clause-args : goal.add-requires-clause-args
add-requires-clause-args c =
    let s = c.requires.fits_place in
    let over = c.take_args-args.ensures s.f s.owed.is_running in
    bundled_suit s.f.held c.as_slice-params.result.now c.as_slice-registers.result.now c.in-Ok.asked.vals.items _ (ap (λ ps. bundled s.f.held ps c.as_slice-registers.result.now c.in-Ok.asked.vals.items) c.as_slice-params.ensures ∙ over.1)

pub returns-clause-rule : goal.returns-clause-rule
returns-clause-rule c = λ layout f owed notices h.
    let old = c.args.self.now in
    let s = c.requires.fits_place in
    let program = c.args.done.before.program in
    let action = c.args.action.now in
    let here = here_too c.args.self.now c.args.actor c.args.done (instr.Rule c.args.action.now) c.requires.fits_place f owed in
    let runs = runs_too c.args.self.now c.args.actor c.args.done (instr.Rule c.args.action.now) c.requires.fits_place f owed in
    let u = rule_named program layout (with_done old c.args.actor f c.args.done) notices h c.args.actor (frame_after f c.args.done) s.q action runs here s.following_is in
    let params = params_of_callee c.args.done.before.program.program c.args.action.now.procedure c.in-Ok.asked.callee.now c.in-Ok.ensures.callee u.procedure u.is in
    let over = c.take_args-args.ensures f owed.is_running in
    let vals = so_valued c.args.done.after.values c.in-Ok.asked.callee.now.params u.procedure.params params action.args c.in-Ok.asked.vals.items c.in-Ok.ensures.values in
    let bundle = so_bundled f.held c.in-Ok.asked.callee.now.params u.procedure.params params c.as_slice-registers.result.now action.args c.as_slice-registers.ensures c.in-Ok.asked.vals.items (Some (record { args = c.take_args-args.result.0; file = over.0 })) over.1 in
    let running_tasks = sym (again old.running_tasks.tasks c.args.actor (frame_after f c.args.done) (frame_at_next (frame_after f c.args.done) over.0)) in
    let bits : to_z w64 (of_z w64 c.in-Ok.asked.priority) ≡ c.in-Ok.asked.priority = grind (arith, to_z-of_z) in
    let key : to_z w64 (of_z w64 c.in-Ok.asked.priority) ≡ u.priority = bits ∙ ok_ints c.in-Ok.asked.priority u.priority (sym c.in-Ok.ensures.priority ∙ u.priority_is) in
    let made : c.add.new.self.rules ≡ insert old.rules.rules old.rules.next (rule program layout (with_done old c.args.actor f c.args.done) notices h c.args.actor (frame_after f c.args.done) s.q action runs here s.following_is c.in-Ok.asked.vals.items vals c.take_args-args.result.0 over.0 bundle) =
    c.in-Ok-add.ensures.added
    ∙ ap (λ z. insert c.reserve.new.self.rules c.reserve.new.self.next (new_rule c.number-engine.result c.as_slice-params.result.now (record { procedure = action.procedure; priority = z; target = action.target }) c.take_args-args.result.0)) key
    ∙ ap (λ e. insert c.reserve.new.self.rules c.reserve.new.self.next (new_rule e c.as_slice-params.result.now (record { procedure = action.procedure; priority = u.priority; target = action.target }) c.take_args-args.result.0)) c.number-engine.ensures
    ∙ ap (λ ps. insert c.reserve.new.self.rules c.reserve.new.self.next (new_rule (number_in_kind c.args.actor) ps (record { procedure = action.procedure; priority = u.priority; target = action.target }) c.take_args-args.result.0)) (c.as_slice-params.ensures ∙ params)
    ∙ ap (λ rs. insert rs c.reserve.new.self.next (new_rule (number_in_kind c.args.actor) u.procedure.params (record { procedure = action.procedure; priority = u.priority; target = action.target }) c.take_args-args.result.0)) c.in-Ok-reserve.ensures.rules
    ∙ ap (λ n. insert old.rules.rules n (new_rule (number_in_kind c.args.actor) u.procedure.params (record { procedure = action.procedure; priority = u.priority; target = action.target }) c.take_args-args.result.0)) c.in-Ok-reserve.ensures.next in
    issued_goes _ old.running_tasks.tasks c.args.actor (frame_at_next (frame_after f c.args.done) over.0) c.args.event_no (ap (λ (r : RunningView). r.tasks) over.2) program layout (Call c.args.actor) refl (with_done old c.args.actor f c.args.done) notices
    (rule_goes program layout (with_done old c.args.actor f c.args.done) notices h c.args.actor (frame_after f c.args.done) s.q action runs here s.following_is c.in-Ok.asked.vals.items vals c.take_args-args.result.0 over.0 bundle _
    made (c.in-Ok-add.ensures.next ∙ ap (λ n. n + 1) c.in-Ok-reserve.ensures.next) running_tasks (ap (λ (r : RunningView). r.layout) over.2) refl refl refl refl)

pub returns-clause-lent : goal.returns-clause-lent
returns-clause-lent c =
    let s = c.requires.fits_place in
    let over = c.take_args-args.ensures s.f s.owed.is_running in
    is_issued _ c.args.self.now.running_tasks.tasks c.args.actor (frame_at_next (frame_after s.f c.args.done) over.0) c.args.event_no (ap (λ (r : RunningView). r.tasks) over.2) _ over.3
