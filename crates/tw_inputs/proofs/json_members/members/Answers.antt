use Rattle.std.proofs.Common.{◌∙◌, List, None, Option, subst, sym}
use Rattle.std.specs.List.{Contains}
use Rattle.tw_inputs.proofs.Seen.{seen_members}
use Rattle.tw_inputs.proofs.json_members.members.Goals as goal

pub returns-in-Some : goal.returns-in-Some
returns-in-Some g c = (c.in-Some.members.items, (rw c.in-Some.is at c.in_ok-members.ensures) ∙ sym (seen_members g.K.Part.of_key g.V.Part.of_value c.args.object.now), c.ordered.ensures.permutation, c.ordered.ensures.sorted)

pub returns-in-None : goal.returns-in-None
returns-in-None g c =
    subst (λ (os : List (Option (g.row.K.Denot × g.row.V.Denot))). Contains os None) (sym (seen_members g.K.Part.of_key g.V.Part.of_value c.args.object.now)) (rw c.in-None.is at c.in_ok-members.ensures)
