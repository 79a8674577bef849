use Rattle.std.proofs.Common.{◌≡◌, ◌≢◌, ◌∙◌, IsUtf8, List, Some, ℕ, ap, subst, sym}
use Rattle.tw_source.proofs.ReplyNames.{Assembly, IfErr-weaker, IfOk-weaker, NoProgram, HasProgram, HasNoProgram, TextHasProgram, text_of}
use Rattle.tw_source.specs.declared.program.NoProgram.TheVariants.{NoMemory}
use Rattle.tw_source.specs.declared.program.ReadProgram.{ReadProgram}
use Rattle.tw_source.proofs.program.program_in_text.Goals as goal

pub returns-in-Ok-clause-spells : goal.returns-in-Ok-clause-spells
returns-in-Ok-clause-spells c =
    let text = c.in-Ok.ensures.cases in
    IfOk-weaker c.program_of_text.result (λ (read : ReadProgram). TextHasProgram c.in-Ok.text.now read.program) (λ (read : ReadProgram). HasProgram Assembly c.args.input.now read.program)
    (λ (read : ReadProgram) h. (text.1, subst (λ (t : List ℕ). TextHasProgram t read.program) text.0 h)) c.program_of_text.ensures.spells

pub returns-in-Ok-clause-text : goal.returns-in-Ok-clause-text
returns-in-Ok-clause-text c =
    let text = c.in-Ok.ensures.cases in
    IfOk-weaker c.program_of_text.result (λ (read : ReadProgram). text_of read.source ≡ Some c.in-Ok.text.now) (λ (read : ReadProgram). text_of read.source ≡ Some c.args.input.now)
    (λ (read : ReadProgram) h. h ∙ ap (λ (t : List ℕ). Some t) text.0) c.program_of_text.ensures.text

pub returns-in-Ok-clause-none : goal.returns-in-Ok-clause-none
returns-in-Ok-clause-none c =
    let text = c.in-Ok.ensures.cases in
    IfErr-weaker c.program_of_text.result (λ (why : NoProgram). why ≢ NoMemory → IsUtf8 c.in-Ok.text.now → HasNoProgram Assembly c.in-Ok.text.now why) (λ (why : NoProgram). why ≢ NoMemory → HasNoProgram Assembly c.args.input.now why)
    (λ (why : NoProgram) h other. subst (λ (t : List ℕ). HasNoProgram Assembly t why) text.0 (h other (subst IsUtf8 (sym text.0) text.1))) c.program_of_text.ensures.none

pub returns-in-Err-clause-none : goal.returns-in-Err-clause-none
returns-in-Err-clause-none c = λ other. c.in-Err.ensures.cases.0
