use Rattle.std.proofs.Common.{◌∙◌}
use Rattle.tw_symbols.proofs.Tables.{meaning_seen}
use Rattle.tw_symbols.proofs.names.meaning.Goals as goal

pub returns-in-Some : goal.returns-in-Some
returns-in-Some c = c.in-Some.ensures.value ∙ meaning_seen c.args.name.now c.args.table.now.entries

pub returns-in-None : goal.returns-in-None
returns-in-None c = c.in-None.ensures.value ∙ meaning_seen c.args.name.now c.args.table.now.entries
