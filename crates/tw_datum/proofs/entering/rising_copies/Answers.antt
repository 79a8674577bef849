use Rattle.std.proofs.Common.{◌≡◌, ◌∙◌, ◌++◌, ◌∷◌, [], T, true, arith, subst, sym, ap}
use Rattle.std.specs.FinMap.{is_sorted}
use Rattle.tw_types.specs.ValueOrder.{value_cmp}
use Rattle.tw_datum.specs.Run.{IsAbove}
use Rattle.tw_datum.proofs.EnteredValues.{one_more_member, short_entry}
use Rattle.tw_datum.proofs.Runs.{above_sorted}
use Rattle.tw_datum.proofs.entering.rising_copies.Goals as goal

pub entry_copy-requires : goal.entry_copy-requires
entry_copy-requires g c = short_entry g.K.AsValue.value g.V.AsValue.value c.args.members.now c.loop-member.member-index c.member-item.result c.member-item.is c.loop-member-test.true c.requires

pub loop-member-preserved : goal.loop-member-preserved
loop-member-preserved g c =
    let run = c.loop-member.run.items in
    let copy = c.in_ok-subscript in
    let is_above : c.is_above.result ≡ true = grind (arith, c.if-not-is_above.false) in
    let above = subst (λ k. IsAbove k run) c.borrowed.ensures.is (subst (IsAbove _) c.as_slice.ensures.value (c.is_above.ensures is_above)) in
    record {
      copied =
          c.in_ok-push.ensures.items ∙ ap (λ k. run ++ (k, copy.value) ∷ []) copy.ensures.subscript ∙ ap (λ v. run ++ (g.K.AsValue.value c.member-item.result.0, v) ∷ []) copy.ensures.value
          ∙ ap (λ es. es ++ (g.K.AsValue.value c.member-item.result.0, g.V.AsValue.value c.member-item.result.1) ∷ []) c.loop-member.invariant.copied
          ∙ sym (one_more_member g.K.AsValue.value g.V.AsValue.value c.args.members.now c.loop-member.member-index c.member-item.result c.member-item.is c.loop-member-test.true);
      rising = subst (λ es. T (is_sorted value_cmp es)) (sym c.in_ok-push.ensures.items) (above_sorted copy.subscript run copy.value above c.loop-member.invariant.rising);
    }
