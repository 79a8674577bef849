use Rattle.std.proofs.Common.{◌≡◌, ◌∙◌, ℕ, ap, arith, nat_eq, sym}
use Rattle.json.specs.Json.{object}
use Rattle.json.specs.Value.{members_view, value_view}
use Rattle.json.proofs.Trees.{view-Object}
use Rattle.tw_inputs.specs.JsonLines.{has_two_members}
use Rattle.tw_inputs.proofs.Seen.{members_counted}
use Rattle.tw_inputs.proofs.json_lines.has_two_members.Goals as goal

pub returns-in-Object : goal.returns-in-Object
returns-in-Object c =
    let ms = c.in-Object.members.items in
    let is : value_view c.args.line.now ≡ object (members_view ms) = ap value_view c.in-Object.is ∙ view-Object c.in-Object.members in
    ap (λ (n : ℕ). nat_eq n 2) (omega (arith, c.len.ensures, c.in-Object.members.ok.0, members_counted ms)) ∙ ap has_two_members (sym is)
