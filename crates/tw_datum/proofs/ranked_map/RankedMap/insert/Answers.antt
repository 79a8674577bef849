use Rattle.std.proofs.Common.{ap, ◌∙◌}
use Rattle.std.specs.FinMap as map
use Rattle.tw_datum.specs.Run.{all_in}
use Rattle.tw_datum.proofs.Entries.{still_sorted, inserted}
use Rattle.tw_datum.proofs.ranked_map.RankedMap.insert.Goals as goal

pub invariant_of-self-2 : goal.invariant_of-self-2
invariant_of-self-2 g c = still_sorted (all_in c.self.inside.entries) (all_in c.insert.new.self) _ c.args.value c.self.invariant (c.in_ok-insert.ensures.added c.self.invariant)

pub returns-clause-added : goal.returns-clause-added
returns-clause-added g c =
    inserted (all_in c.self.inside.entries) (all_in c.insert.new.self) c.args.key c.args.value c.self.invariant (c.in_ok-insert.ensures.added c.self.invariant)
    ∙ ap (λ m. map.insert m c.args.key c.args.value) c.self.view_is
