use Rattle.std.proofs.Common.{◌≡◌, ◌≢◌, Ok, Err, rules, subst, sym}
use Rattle.tw_source.proofs.ReplyNames.{Hex, IfErr-weaker, IfOk-weaker, NoProgram, HasProgram, HasNoProgram, Versioned}
use Rattle.hex.specs.Hex.{decode_of}
use Rattle.tw_binary.specs.declared.fault.Fault.{Fault}
use Rattle.tw_binary.specs.Reading.{program_of}
use Rattle.tw_source.specs.Input.{digits_in}
use Rattle.tw_source.specs.declared.program.NoProgram.TheVariants.{Bytes, NoMemory}
use Rattle.tw_source.proofs.program.program_in_hex.Goals as goal

pub returns-in-Ok-clause-spells : goal.returns-in-Ok-clause-spells
returns-in-Ok-clause-spells c =
    let input = c.args.input.now in
    let bytes = c.deref.result.now in
    let digits : decode_of (digits_in c.args.input.now) ≡ Ok c.deref.result.now = search rules in
    IfOk-weaker c.program_in_bytes.result (λ (program : Versioned). program_of bytes ≡ Ok program) (λ (program : Versioned). HasProgram Hex input program) (λ (program : Versioned) h. (bytes, digits, h)) c.program_in_bytes.ensures.spells

pub returns-in-Ok-clause-none : goal.returns-in-Ok-clause-none
returns-in-Ok-clause-none c =
    let input = c.args.input.now in
    let bytes = c.deref.result.now in
    let digits : decode_of (digits_in c.args.input.now) ≡ Ok c.deref.result.now = search rules in
    IfErr-weaker c.program_in_bytes.result (λ (why : NoProgram). why ≢ NoMemory → (fault : Fault) × (why ≡ Bytes fault) × (program_of bytes ≡ Err fault)) (λ (why : NoProgram). why ≢ NoMemory → HasNoProgram Hex input why)
    (λ (why : NoProgram) h other. let f = h other in subst (λ (w : NoProgram). HasNoProgram Hex input w) (sym f.1) (bytes, digits, f.2)) c.program_in_bytes.ensures.none
