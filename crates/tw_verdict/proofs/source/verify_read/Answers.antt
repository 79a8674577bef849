use Rattle.std.proofs.Common.{List, Option, ap, subst, sym, ℕ, ◌∙◌}
use Rattle.tw_code.specs.accepting.WellTyped.{IsAccepted}
use Rattle.tw_code.specs.format.Program.{Versioned}
use Rattle.tw_source.specs.Source.{MayBeSource}
use Rattle.tw_verdict.specs.Source.{IsErrorIn, without_line}
use Rattle.tw_verdict.proofs.Sources.{rejected}
use Rattle.tw_verdict.proofs.source.verify_read.Goals as goal

pub words_of-requires : goal.words_of-requires
words_of-requires c = subst (λ (program : Versioned). MayBeSource c.args.read.source program.procedures) (sym c.in-Err.ensures.back) c.requires

pub returns-in-Ok-clause-is : goal.returns-in-Ok-clause-is
returns-in-Ok-clause-is c = λ form input encodes text.
    let made = c.in-Ok.ensures in
    let right = subst IsAccepted (sym made.kept) made.sound in
    (record { read = c.args.read.program; encodes = encodes; program = made.kept; version = made.version; accepted_is = right }, c.without_line.ensures ∙ ap without_line c.accepted-verdict.ensures)

pub returns-clause-is : goal.returns-clause-is
returns-clause-is c = λ form input encodes text.
    let refused = c.in-Err.refused in
    let read = c.args.read.program in
    let verdict = c.rejection_verdict-verdict.result in
    rejected form input read refused.no refused.procedure refused.place verdict encodes c.in-Err.ensures.first
    (subst (λ (t : Option (List ℕ)). IsErrorIn t read.procedures refused.no refused.procedure refused.place verdict) text (c.rejection_verdict-verdict.ensures read.procedures c.requires))
