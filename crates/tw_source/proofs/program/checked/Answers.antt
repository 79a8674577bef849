use Rattle.tw_code.proofs.Widening.{widened}
use Rattle.tw_source.proofs.Sources.{expanded, expands}
use Rattle.tw_source.specs.Source.{IsExpanded, plain_or}
use Rattle.tw_source.proofs.program.checked.Goals as goal

pub returns-in-Ok-None-clause-spells : goal.returns-in-Ok-None-clause-spells
returns-in-Ok-None-clause-spells c =
    let is : IsExpanded c.args.text.now c.args.plain = expanded c.args.text.now c.args.plain c.requires.kept (c.in-Ok-None.ensures c.in-Ok-None.field-0-is) in
    (plain_or c.args.text.now c.args.plain, expands c.args.text.now c.args.plain is, c.requires.lined.0)

pub returns-in-Ok-None-clause-source : goal.returns-in-Ok-None-clause-source
returns-in-Ok-None-clause-source c =
    let lined = c.args.lined in
    let is : IsExpanded c.args.text.now c.args.plain = expanded c.args.text.now c.args.plain c.requires.kept (c.in-Ok-None.ensures c.in-Ok-None.field-0-is) in
    (widened lined.program.version lined.program.procedures c.requires.lined.0.is_program, c.requires.lined.1, (lined.program.version, c.requires.lined.0), is)
