use Rattle.tw_binary.proofs.Names.{ap, scalar_code, ◌∙◌}
use Rattle.tw_binary.proofs.Types.{appended, map_bytes, scalar_bytes}
use Rattle.tw_binary.proofs.writing.put_leaf.Goals as goal

pub returns-in-Some : goal.returns-in-Some
returns-in-Some c =
    appended c.extend_from_slice.result c.args.out.now.items _ _ _ _ c.extend_from_slice.ensures.items
    (map_bytes c.args.ty.map c.args.ty.scalar c.in-Some.by _ _ c.in-Some.ensures c.code_of_map.ensures c.code_of_values.ensures)

pub returns-in-None : goal.returns-in-None
returns-in-None c =
    appended c.extend_from_slice-in-None.result c.args.out.now.items _ _ _ _ c.extend_from_slice-in-None.ensures.items
    (scalar_bytes c.args.ty.map c.args.ty.scalar _ c.in-None.ensures (c.code_of_scalar.ensures ∙ ap scalar_code c.scalar.ensures))
