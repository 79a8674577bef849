use Rattle.tw_pool_state.proofs.PartNames.{Adds, Bor, Input, List, OpenedParts, Some, ap, next_param, subst, sym, with_given, with_output, ◌∙◌, ◌∷◌}
use Rattle.tw_pool_state.proofs.MainParameters.{begun_first, given_begun, may_add, output_begun}
use Rattle.tw_pool_state.proofs.open.Opened.add_all.Goals as goal
use Rattle.tw_pool_state.proofs.open.Opened.add_all.Goals.{then-is_write+in_ok-add_output, else-is_write+in-Some+in_ok-add_given}

pub loop-param-init : goal.loop-param-init
loop-param-init c = begun_first c.args.self.now c.args.params.now c.args.inputs.now c.requires.all

pub add_output-requires-clause-room : goal.add_output-requires-clause-room
add_output-requires-clause-room c =
    let here = next_param c.args.params.now c.loop-param.param-index c.param-item.result c.loop-param-test.true c.param-item.is in
    may_add c.args.self.now c.args.params.now c.args.inputs.now c.loop-param.param-index c.loop-param.self c.loop-param.rest.now c.param-item.result here c.loop-param.invariant
    c.requires.all.few c.requires.first.0 c.requires.first.1

pub add_given-requires-clause-room : goal.add_given-requires-clause-room
add_given-requires-clause-room c =
    let here = next_param c.args.params.now c.loop-param.param-index c.param-item.result c.loop-param-test.true c.param-item.is in
    may_add c.args.self.now c.args.params.now c.args.inputs.now c.loop-param.param-index c.loop-param.self c.loop-param.rest.now c.param-item.result here c.loop-param.invariant
    c.requires.all.few c.requires.first.0 c.requires.first.1

pub loop-param-preserved : goal.loop-param-preserved
loop-param-preserved c =
    let p = c.param-item.result in
    let here = next_param c.args.params.now c.loop-param.param-index p c.loop-param-test.true c.param-item.is in
    elim c.if-is_write.branch [
      | then-is_write+in_ok-add_output w ↦
          output_begun c.args.self.now c.args.params.now c.args.inputs.now c.loop-param.param-index c.loop-param.self c.loop-param.rest.now p here c.loop-param.invariant
          c.if-is_write.self c.if-is_write.rest.now (sym c.is_write.ensures ∙ w.if-is_write.true)
          (subst (λ (o : OpenedParts). Adds p (λ m. with_output m p.ty) c.loop-param.self o) (sym w.self-is) w.in_ok-add_output.ensures)
          (ap (λ (r : Bor (List Input)). r.now) w.rest-is)
      | else-is_write+in-Some+in_ok-add_given w ↦
          given_begun c.args.self.now c.args.params.now c.args.inputs.now c.loop-param.param-index c.loop-param.self c.loop-param.rest.now p here c.loop-param.invariant
          (sym c.is_write.ensures ∙ w.if-is_write.false) w.in-Some.input.now c.if-is_write.rest.now
          (w.in-Some.ensures.cases.0 ∙ ap (λ (r : Bor (List Input)). w.in-Some.input.now ∷ r.now) (sym w.rest-is))
          c.if-is_write.self
          (subst (λ (o : OpenedParts). Adds p (λ m. with_given m p.ty (Some w.in-Some.input.now)) c.loop-param.self o) (sym w.self-is) w.in_ok-add_given.ensures)
    ]
