use Rattle.tw_machine.proofs.Names.{IsMarkedAt, Sets, false, subst, sym}
use Rattle.tw_machine.proofs.RankSets.{nothing_there, written_at}
use Rattle.tw_machine.proofs.ranks.remove_at.Goals as goal

pub returns-in_default : goal.returns-in_default
returns-in_default c =
    subst (λ (new : Sets). IsMarkedAt c.args.target c.args.rank false c.args.sets.now new) (sym c.get_mut.follows.holds-at-none)
    (nothing_there c.args.target c.args.sets.now c.args.rank (sym c.in_default.ensures.value))

pub returns : goal.returns
returns c =
    written_at c.args.target c.args.sets.now (c.get_mut.follows.lender c.remove_in.new.ranks) c.in-Some.set.now c.remove_in.new.ranks c.in-Some.ensures.value (c.get_mut.follows.holds c.remove_in.new.ranks)
    c.args.rank false c.remove_in.ensures
