use Rattle.tw_symbols.specs.Seen.{seen_names, seen_procedures}
use Rattle.tw_symbols.proofs.Naming.{free_register}
use Rattle.tw_symbols.proofs.names.add_register.Goals as goal

pub put_name-requires : goal.put_name-requires
put_name-requires c = free_register (seen_procedures c.args.procedures.now) (seen_names c.args.names.now) c.args.name.now c.in_ok-may_name.ensures
