use Rattle.std.proofs.Common.{◌∙◌, ◌++◌, ℕ, List, Option, ap, refl, subst, sym}
use Rattle.tw_copies.specs.declared.check.CopyInsertion.{CopyInsertion}
use Rattle.tw_certificate.specs.FirstContest.{MayBeInsertion}
use Rattle.tw_program_output.specs.EventOrder.{insertion_line}
use Rattle.tw_run_output.specs.EventOrder.{IsOrderText, calm_line}
use Rattle.tw_run_output.proofs.RunNames.{on_ok_weaker, text_of}
use Rattle.tw_run_output.proofs.event_order.put_answer.Goals as goal

pub returns-in-Some : goal.returns-in-Some
returns-in-Some c = λ program source there.
    let at = c.in-Some.insertion in
    let inserts = subst (MayBeInsertion program) c.in-Some.is there in
    on_ok_weaker c.put_insertion.result
    (λ h.
    let lines = insertion_line at ++ h.0 in
    (lines, subst (λ (o : Option CopyInsertion). IsOrderText (text_of c.args.source.now) c.args.closing o lines) (sym c.in-Some.is) (h.0, h.1, refl), h.2)) (c.put_insertion.ensures program source inserts.i inserts.is)

pub returns-in-None : goal.returns-in-None
returns-in-None c = λ program source there.
    let lines = calm_line c.args.closing in
    on_ok_weaker c.put.result
    (λ added. (lines, subst (λ (o : Option CopyInsertion). IsOrderText (text_of c.args.source.now) c.args.closing o lines) (sym c.in-None.is) refl, added ∙ ap (λ (t : List ℕ). c.args.out.now.items ++ t) c.calm_line.ensures)) c.put.ensures
