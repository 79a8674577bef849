use Rattle.tw_program_output.proofs.ReplyNames.{List, Value, all_of, cell_of, same_added, sym, value_text, ℕ, ◌++◌}
use Rattle.std.proofs.lemmas.List.Folds.{flat_map-map}
use Rattle.tw_program_output.specs.declared.rows.Cell.{Cell}
use Rattle.tw_program_output.proofs.rows.put_row.Goals as goal

abbrev text : List ℕ × Value → List ℕ
text c = c.0 ++ value_text c.1

pub returns : goal.returns
returns c = same_added _ _ _ _ (sym (flat_map-map text cell_of c.args.cells.now)) (all_of (λ (x : Cell). text (cell_of x)) c.args.cells.now c.loop-cell.cell-index _ _ c.loop-cell-test.false c.loop-cell.invariant)
