-- Views of the code's data.
use Rattle.std.specs.Prelude.{ℕ, List, map}
use denote.Ref.{Bor}
use Rattle.tw_symbols.specs.Meanings.{Head, Names, Procedures, Table}
use Rattle.tw_symbols.specs.declared.meaning.Binding.{Binding}
use Rattle.tw_symbols.specs.declared.names.Names as names
use Rattle.tw_symbols.specs.declared.procedures.Head as heads
use Rattle.tw_symbols.specs.declared.procedures.Procedures as procedures

abbrev pub now : Bor (List ℕ) → List ℕ
now word = word.now

abbrev pub texts : List (Bor (List ℕ)) → List (List ℕ)
texts words = map now words

abbrev pub seen_entry : Bor (List ℕ) × Binding → List ℕ × Binding
seen_entry entry = (entry.0.now, entry.1)

abbrev pub seen_table : List (Bor (List ℕ) × Binding) → Table
seen_table entries = map seen_entry entries

abbrev pub seen_head : heads.Head → Head
seen_head head = record { banks = head.banks.items; line = head.line }

abbrev pub seen_procedures : procedures.Procedures → Procedures
seen_procedures p = record { table = seen_table p.table.entries; heads = map seen_head p.heads.items }

abbrev pub seen_names : names.Names → Names
seen_names n = record {
  constants = seen_table n.constants.entries;
  registers = seen_table n.registers.entries;
  types = texts n.types.items;
  rights = n.rights;
  values = n.values;
  first = n.first;
  hidden = texts n.hidden.items;
  literals = texts n.literals.items;
  read = n.read;
}
