use Rattle.std.proofs.Common.{◌∙◌, Option, ap, subst, sym}
use Rattle.std.specs.Option.{option_copied}
use Rattle.tw_run_output.proofs.RunNames.{on_ok_weaker, start_of}
use Rattle.tw_source.specs.Source.{MayBeSource}
use Rattle.tw_source.specs.declared.source.SourceText.{SourceText}
use Rattle.tw_run_output.proofs.Closings.{circle_printed, circle_reached, no_circle, stuck_is}
use Rattle.tw_run_output.proofs.run_details.put_closing_details.Goals as goal

pub returns-in-Some : goal.returns-in-Some
returns-in-Some c =
    let source = c.args.source.now in
    let old = c.args.out.now.items in
    let new = c.put_circle.new.out.items in
    let text = c.in-Some.source.now in
    let at = sym c.stuck_source.ensures ∙ ap option_copied c.in-Some.is in
    on_ok_weaker c.put_circle.result
    (λ printed program order events s may replay goes.
    let start = start_of program order in
    let is = subst (λ (o : Option SourceText). MayBeSource o program) (stuck_is source c.args.closing text at) may in
    circle_printed program order events s source c.args.closing text old new at (circle_reached text.text.now start events c.args.replaying.now s old new replay goes (printed start events is replay))) c.put_circle.ensures

pub returns-in-None : goal.returns-in-None
returns-in-None c = λ program order events s may replay goes.
    no_circle program order events s c.args.source.now c.args.closing c.args.out.now.items (sym c.stuck_source.ensures ∙ ap option_copied c.in-None.is)
