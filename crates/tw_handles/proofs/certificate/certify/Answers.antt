use Rattle.tw_handles.proofs.Names.{Event, IsCertificate, List, Went, ap, certificate_of, reached, subst, sym, ◌∙◌, ◌≡◌}
use Rattle.tw_handles.specs.declared.certificate.Certificate.{Certificate}
use Rattle.tw_handles.proofs.Certified.{certified}
use Rattle.tw_handles.proofs.certificate.certify.Goals as goal

pub first_contest-requires-clause-goes : goal.first_contest-requires-clause-goes
first_contest-requires-clause-goes c =
    let all = c.deref.ensures.value ∙ c.in_ok-events.ensures in
    (c.requires.state, subst (λ (es : List Event). reached c.args.verified.now.program c.args.inputs.now c.args.layout es ≡ Went c.requires.state) (sym all) c.requires.reaches)

pub returns : goal.returns
returns c =
    let program = c.args.verified.now.program in
    let same = c.certificate_of.ensures ∙ ap (certificate_of c.in_ok-found.found) c.closing.ensures in
    subst (λ (made : Certificate). IsCertificate program c.args.inputs.now c.args.layout c.args.left.now made) (sym same)
    (certified program c.args.inputs.now c.args.layout c.args.left.now c.requires c.deref.result.now c.in_ok-found.found (c.deref.ensures.value ∙ c.in_ok-events.ensures) c.in_ok-found.ensures.first c.in_ok-found.ensures.same)
