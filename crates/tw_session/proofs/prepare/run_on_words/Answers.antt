use Rattle.tw_session.proofs.SessionNames.{AreEncodedWords, GivenInputs, Input, List, RepliesByProgram, RepliesByWords, Reply, inl, inr, lines, run_with, seen, subst, words_in, ℕ}
use Rattle.tw_session.specs.declared.action.GivenInputs.TheVariants as given
use Rattle.tw_session.proofs.Leading.{awaits}
use Rattle.tw_session.proofs.prepare.run_on_words.Goals as goal

pub returns-in-Inputs : goal.returns-in-Inputs
returns-in-Inputs c =
    let source = c.args.source in
    let p = seen c.args.parts in
    let Answers : List Input → Reply → Type 0 = λ given. RepliesByProgram source (run_with c.args.options given) p in
    let spelled = subst (λ (text : List ℕ). AreEncodedWords (words_in (lines text)) (given.Inputs c.in-Inputs.inputs)) c.requires
    (subst (λ (g : GivenInputs). AreEncodedWords (words_in (lines c.args.text.now)) g) c.in-Inputs.is c.in_ok-inputs.ensures) in
    awaits c.read.result (Answers c.in-Inputs.inputs) (RepliesByWords (words_in (lines p.inputs)) Answers) (λ r answers. inl (c.in-Inputs.inputs, spelled, answers)) c.read.ensures

pub returns-in-Fault : goal.returns-in-Fault
returns-in-Fault c =
    inr (subst (λ (text : List ℕ). AreEncodedWords (words_in (lines text)) (given.Fault c.in-Fault.reply)) c.requires
    (subst (λ (g : GivenInputs). AreEncodedWords (words_in (lines c.args.text.now)) g) c.in-Fault.is c.in_ok-inputs.ensures))
