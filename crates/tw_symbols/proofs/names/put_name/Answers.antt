use Rattle.tw_symbols.proofs.TextNames.{bytes_eq, ◌∙◌}
use Rattle.indexmap.proofs.CallerLemmas.{insert_entry-new}
use Rattle.tw_symbols.proofs.Tables.{meaning_seen, name_more}
use Rattle.tw_symbols.proofs.names.put_name.Goals as goal

pub returns : goal.returns
returns c =
    name_more c.args.name c.args.binding c.args.table.now.entries c.insert.new.self.entries
    (c.in_ok-insert.ensures.entries ∙ insert_entry-new (λ x y. bytes_eq x.now y.now) c.args.table.now c.args.name c.args.binding (meaning_seen c.args.name.now c.args.table.now.entries ∙ c.requires))
