use Rattle.tw_program_output.proofs.ReplyNames.{IsAppended, cell_of, take, value_text, ◌++◌}
use Rattle.std.specs.List.{flat_map}
use Rattle.tw_program_output.proofs.rows.put_row.Given as goal

abbrev pub invariant-loop-cell : goal.invariant-loop-cell
invariant-loop-cell l = IsAppended l.fn.out l.out (flat_map (λ c. (cell_of c).0 ++ value_text (cell_of c).1) (take l.cell-index l.cells))
