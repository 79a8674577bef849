use Rattle.tw_session.proofs.SessionNames.{Awaits, IfOk, List, RepliesByInputs, RepliesByJsonRun, RepliesByProgram, RepliesBySource, RepliesByTexts, RepliesByWords, Reply, coded, failed, inl, inr, lines, refl, run_with, seen, source_text, subst, sym, words_in, ℕ}
use Rattle.tw_order.specs.declared.runs.RunInputs.{RunInputs}
use Rattle.tw_source.specs.declared.failure.Position.TheVariants as position
use Rattle.tw_session.proofs.Leading.{awaits, finished}
use Rattle.tw_session.proofs.prepare.prepare_run_with.Goals as goal

pub returns-in-Given : goal.returns-in-Given
returns-in-Given c = subst (λ (g : RunInputs). IfOk c.read.result (Awaits (RepliesByInputs c.args.source c.args.options g (seen c.args.parts)))) (sym c.in-Given.is) c.read.ensures

pub returns-in-Some : goal.returns-in-Some
returns-in-Some c =
    let p = seen c.args.parts in
    let Answers : Reply → Type 0 = RepliesByWords (words_in (lines p.inputs)) (λ given. RepliesByProgram c.args.source (run_with c.args.options given) p) in
    subst (λ (g : RunInputs). IfOk c.run_on_words.result (Awaits (RepliesByInputs c.args.source c.args.options g p))) (sym c.in-Words.is)
    (awaits c.run_on_words.result Answers (RepliesByTexts p Answers) (λ r answers. inl (c.in-Some.ensures.0, answers)) c.run_on_words.ensures)

pub returns-in-None : goal.returns-in-None
returns-in-None c =
    let p = seen c.args.parts in
    let no_text = failed (coded 72 3 position.Nowhere) in
    let Answers : Reply → Type 0 = RepliesByWords (words_in (lines p.inputs)) (λ given. RepliesByProgram c.args.source (run_with c.args.options given) p) in
    subst (λ (g : RunInputs). IfOk c.no_text.result (Awaits (RepliesByInputs c.args.source c.args.options g p))) (sym c.in-Words.is)
    (finished c.no_text.result (RepliesByTexts p Answers) no_text (inr (c.in-None.ensures, refl)) c.no_text.ensures)

pub returns-in-Some-inputs_text : goal.returns-in-Some-inputs_text
returns-in-Some-inputs_text c =
    let source = c.args.source in
    let p = seen c.args.parts in
    let program = c.args.parts.program.now in
    let Answers : List ℕ → Reply → Type 0 = λ json. RepliesBySource source program (RepliesByJsonRun (source_text source program) c.args.options json) in
    let read = subst (λ (json : List ℕ). IfOk c.read-in-Some-inputs_text.result (Awaits (Answers json))) c.in-Some-inputs_text.ensures.1 c.read-in-Some-inputs_text.ensures in
    subst (λ (g : RunInputs). IfOk c.read-in-Some-inputs_text.result (Awaits (RepliesByInputs source c.args.options g p))) (sym c.in-Json.is)
    (awaits c.read-in-Some-inputs_text.result (Answers p.inputs) (RepliesByTexts p (Answers p.inputs)) (λ r answers. inl (c.in-Some-inputs_text.ensures.0, answers)) read)

pub returns-in-None-inputs_text : goal.returns-in-None-inputs_text
returns-in-None-inputs_text c =
    let source = c.args.source in
    let p = seen c.args.parts in
    let Answers : Reply → Type 0 = RepliesBySource source p.program (RepliesByJsonRun (source_text source p.program) c.args.options p.inputs) in
    subst (λ (g : RunInputs). IfOk c.no_text-in-None-inputs_text.result (Awaits (RepliesByInputs source c.args.options g p))) (sym c.in-Json.is)
    (finished c.no_text-in-None-inputs_text.result (RepliesByTexts p Answers) (failed (coded 72 3 position.Nowhere)) (inr (c.in-None-inputs_text.ensures, refl)) c.no_text-in-None-inputs_text.ensures)
