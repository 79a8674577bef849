use Rattle.tw_cli.specs.Rows.{command_line}
use Rattle.tw_cli.proofs.command.command.Goals as goal

pub returns : goal.returns
unfolding command_line
returns c = c.line_of.ensures
