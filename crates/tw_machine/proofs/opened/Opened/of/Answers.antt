use Rattle.tw_machine.proofs.Names.{Bor, Input, List, ap, next_param, sym, ◌∙◌, ◌∷◌}
use Rattle.tw_machine.proofs.Parameters.{input_begun, nothing_begun, output_begun}
use Rattle.tw_machine.proofs.opened.Opened.of.Goals as goal
use Rattle.tw_machine.proofs.opened.Opened.of.Goals.{then-is_write+in_ok-add_output, else-is_write+in-Some+in_ok-add_input, else-is_write+in_default}

pub loop-param-preserved : goal.loop-param-preserved
loop-param-preserved c =
    let here = next_param c.args.params.now c.loop-param.param-index c.param-item.result c.loop-param-test.true c.param-item.is in
    elim c.if-is_write.branch [
      | then-is_write+in_ok-add_output w ↦
          output_begun c.args.params.now c.args.inputs.now c.loop-param.param-index c.loop-param.opened c.if-is_write.opened c.loop-param.rest.now c.if-is_write.rest.now c.param-item.result here c.loop-param.invariant
          (sym c.is_write.ensures ∙ w.if-is_write.true)
          (w.opened-is ∙ w.in_ok-add_output.ensures)
          (ap (λ (r : Bor (List Input)). r.now) w.rest-is)
      | else-is_write+in-Some+in_ok-add_input w ↦
          input_begun c.args.params.now c.args.inputs.now c.loop-param.param-index c.loop-param.opened c.if-is_write.opened c.loop-param.rest.now c.if-is_write.rest.now c.param-item.result here c.loop-param.invariant
          (sym c.is_write.ensures ∙ w.if-is_write.false) w.in-Some.input.now
          (w.in-Some.ensures.cases.0 ∙ ap (λ (r : Bor (List Input)). w.in-Some.input.now ∷ r.now) (sym w.rest-is))
          (w.opened-is ∙ w.in_ok-add_input.ensures)
      | else-is_write+in_default w ↦
          nothing_begun c.args.params.now c.args.inputs.now c.loop-param.param-index c.loop-param.opened c.if-is_write.opened c.loop-param.rest.now c.if-is_write.rest.now c.param-item.result here c.loop-param.invariant
          (sym c.is_write.ensures ∙ w.if-is_write.false) w.in_default.ensures.cases
          w.opened-is
          (ap (λ (r : Bor (List Input)). r.now) w.rest-is)
    ]
