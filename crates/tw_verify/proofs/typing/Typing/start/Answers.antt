use Rattle.std.proofs.Common.{◌-◌, List, ◌++◌, map, replicate, Some, None, ap, sym, ◌∙◌, arith, length, length-append, set, take, ◌∷◌, []}
use Rattle.tw_verify.proofs.VerifierNames.{RightType, Typing, rights_given}
use Rattle.tw_verify.proofs.OneMore.{next_value, next_right, next_typing, as_right}
use Rattle.tw_verify.proofs.typing.Typing.start.Goals as goal
use Rattle.tw_verify.proofs.typing.Typing.start.Goals.{then-not-is_val, else-not-is_val}

pub loop-param-preserved : goal.loop-param-preserved
loop-param-preserved c =
    let ps = c.args.params.now in
    let i = c.loop-param.param-index in
    let p = c.param-item.result in
    elim c.if-not-is_val.branch [
      | then-not-is_val w ↦
          let right = sym c.is_val.ensures ∙ w.if-not-is_val.true in
          let more = next_right ps i p c.loop-param-test.true c.param-item.is right in
          let typing = next_typing ps i c.loop-param.given p c.loop-param-test.true c.param-item.is right c.loop-param.invariant.given (omega arith) in
          record { rights = w.rights-is ∙ ap (λ (t : Typing). set t c.loop-param.given (Some (as_right p))) c.loop-param.invariant.rights ∙ sym typing; given = omega (arith, ap length more.1, length-append (rights_given (take i ps)) (as_right p ∷ [])); few = omega arith }
      | else-not-is_val w ↦
          let more = next_value ps i p c.loop-param-test.true c.param-item.is (sym c.is_val.ensures ∙ w.if-not-is_val.false) in
          record { rights = w.rights-is ∙ c.loop-param.invariant.rights ∙ sym (ap (λ (given : List RightType). map Some given ++ replicate (16 - length given) None) more.1); given = omega (arith, ap length more.1); few = omega arith }
    ]
