use Rattle.tw_cli.proofs.Names.{app_of, bare_line, fold, take, with_row, ◌≡◌}
use Rattle.tw_cli.proofs.command.line_of.Given as goal

abbrev pub invariant-loop-row : goal.invariant-loop-row
invariant-loop-row l = app_of l.line ≡ fold with_row bare_line (take l.row-index l.rows)
