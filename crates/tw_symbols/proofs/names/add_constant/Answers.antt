use Rattle.tw_symbols.specs.Seen.{seen_names, seen_procedures}
use Rattle.tw_symbols.proofs.Naming.{free_constant}
use Rattle.tw_symbols.proofs.names.add_constant.Goals as goal

pub put_name-requires : goal.put_name-requires
put_name-requires c = free_constant (seen_procedures c.args.procedures.now) (seen_names c.args.names.now) c.args.name.now c.in_ok-may_name.ensures
