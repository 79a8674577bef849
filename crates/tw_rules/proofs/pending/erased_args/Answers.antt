use Rattle.tw_rules.proofs.Names.{[], ap, arith, erased_arg, map, sym, take, ◌++◌, ◌+◌, ◌∙◌, ◌∷◌}
use Rattle.tw_rules.proofs.Numbered.{taken_next}
use Rattle.tw_rules.proofs.pending.erased_args.Goals as goal

pub loop-place-preserved : goal.loop-place-preserved
loop-place-preserved c =
    let args = c.args.args.now in
    let place = c.loop-place.place in
    record {
      plain = c.push.ensures
          ∙ ap (λ xs. xs ++ c.erased_arg.result ∷ []) c.loop-place.invariant.plain
          ∙ ap (λ x. map erased_arg (take place args) ++ x ∷ []) c.erased_arg.ensures
          ∙ sym (taken_next erased_arg args place (place + 1) c.in-Some.arg.now (omega arith) (sym c.in-Some.ensures));
      end = c.loop-place.invariant.end;
      few = c.loop-place.invariant.few;
    }
