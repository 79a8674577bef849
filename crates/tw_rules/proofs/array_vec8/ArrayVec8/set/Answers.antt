use Rattle.std.proofs.Common.{ap, ◌∙◌, slice_set}
use Rattle.std.proofs.Math.Seq.{take-set-lt}
use Rattle.tw_rules.proofs.array_vec8.ArrayVec8.set.Goals as goal

pub returns-then-place-self : goal.returns-then-place-self
returns-then-place-self g c = take-set-lt c.self.inside.len c.self.inside.places c.args.place c.args.item c.if-place-self.true ∙ ap (λ xs. slice_set xs c.args.place c.args.item) c.self.view_is
