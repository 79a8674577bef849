use Rattle.std.proofs.Common.{◌≡◌, ◌∙◌, List, Some, ap, subst, sym}
use Rattle.std.specs.Prelude.{option_map}
use Rattle.tw_replay_output.proofs.ReplayNames.{AreMade, on_ok_weaker}
use Rattle.tw_code.specs.machine.Pending.{circle}
use Rattle.tw_types.specs.declared.pending.Link.{Link}
use Rattle.tw_replay_output.proofs.Making.{circle_there}
use Rattle.tw_replay_output.proofs.stuck.put_circle.Goals as goal

pub returns-in-Some : goal.returns-in-Some
returns-in-Some c =
    let r = c.args.replaying.now in
    let found = subst (λ o. option_map (λ v. v.items) o ≡ circle r.plain.program r.plain.state) c.in-Some.is c.in_ok-links.ensures in
    on_ok_weaker c.put_links.result
    (λ printed start events source is.
    let made = subst (AreMade start events) (sym c.deref.ensures.value) is.made in
    circle_there c.args.source.now.text.now start events (Some c.deref-in-Some.result.now) r c.args.out.now.items c.put_links.new.out.items (ap (λ (ls : List Link). Some ls) c.deref-in-Some.ensures.value ∙ found) is (printed start events source made))
    c.put_links.ensures
