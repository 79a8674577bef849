use Rattle.tw_cli.proofs.Names.{AddsSubcommand, App, ap, app_of, with_subcommand, ◌∙◌}
use Rattle.std.proofs.lemmas.Result.{IfOk-weaker}
use Rattle.clap.specs.declared.Command.{Command}
use Rattle.tw_cli.proofs.command.joined.Goals as goal

pub returns-in-Ok : goal.returns-in-Ok
returns-in-Ok c =
    IfOk-weaker c.subcommand.result _ _
    (λ (whole : Command) (h : AddsSubcommand c.args.line c.in-Ok.added whole) app is.
    h.shape (rw c.in-Ok.is at c.requires) ∙ ap (λ (a : App). with_subcommand (app_of c.args.line) a.top) (rw c.in-Ok.is at is))
    c.subcommand.ensures
