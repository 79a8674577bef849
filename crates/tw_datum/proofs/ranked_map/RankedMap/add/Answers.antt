use Rattle.std.proofs.Common.{◌≡◌, subst, sym, ap, ◌∙◌, refl, IsSome}
use Rattle.std.specs.FinMap as map
use Rattle.std.specs.Option.{option_copied}
use Rattle.std.specs.FinMap.{get-from_sorted}
use Rattle.tw_types.specs.ValueOrder.{named, value_cmp}
use Rattle.tw_datum.specs.Kept.{IsAddition, KeptMembers}
use Rattle.tw_datum.specs.Run.{all_in}
use Rattle.tw_datum.proofs.Entries.{map_of, added_sorted, added}
use Rattle.tw_datum.proofs.ranked_map.RankedMap.add.Goals as goal
use Rattle.tw_datum.proofs.ranked_map.RankedMap.add.Goals.{in-Some, in-None}

pub invariant_of-self : goal.invariant_of-self
invariant_of-self g c = added_sorted c.add.result (named c.args.key) c.args.value (all_in c.self.inside.entries) (all_in c.add.new.self) c.self.invariant c.add.ensures

pub returns : goal.returns
returns g c =
    subst (λ (m : KeptMembers g.row.V.Denot). IsAddition c.add.result (named c.args.key) c.args.value m (map_of (all_in c.add.new.self))) c.self.view_is
    (added c.add.result (named c.args.key) c.args.value (all_in c.self.inside.entries) (all_in c.add.new.self) c.self.invariant c.add.ensures)

pub returns-then-len : goal.returns-then-len
returns-then-len g c =
    let is : option_copied c.get.result ≡ map.get c.args.self.now (named c.args.key) = c.get.ensures c.self.invariant ∙ sym (get-from_sorted value_cmp (all_in c.self.inside.entries) (named c.args.key) c.self.invariant) ∙ ap (λ m. map.get m (named c.args.key)) c.self.view_is in
    elim c.match-get.branch [
      | in-Some w ↦ rw w.result-is (subst IsSome (sym (ap option_copied w.in-Some.is) ∙ is) refl, refl)
      | in-None w ↦ rw w.result-is (sym is ∙ ap option_copied w.in-None.is, refl)
    ]
