use Rattle.tw_machine.proofs.Names.{AreSameIn, IsMarkedAt, OnErr, OnOk, Sets, ap, subst, sym, target_cmp, true, ◌∙◌}
use Rattle.std.specs.BTreeMap.{get}
use Rattle.tw_machine.proofs.RankSets.{added_there, refused_there}
use Rattle.tw_machine.proofs.ranks.add_at.Goals as goal

pub add_set-requires : goal.add_set-requires
add_set-requires c = ap (λ (sets : Sets). get target_cmp sets c.args.target) c.get_mut.follows.holds-at-none ∙ sym c.in_default.ensures.value

pub returns-in_default-clause-added : goal.returns-in_default-clause-added
returns-in_default-clause-added c = subst (λ (old : Sets). OnOk c.add_set.result (IsMarkedAt c.args.target c.args.rank true old c.add_set.new.sets)) c.get_mut.follows.holds-at-none c.add_set.ensures.added

pub returns-in_default-clause-refused : goal.returns-in_default-clause-refused
returns-in_default-clause-refused c = subst (λ (old : Sets). OnErr c.add_set.result (AreSameIn old c.add_set.new.sets)) c.get_mut.follows.holds-at-none c.add_set.ensures.refused

pub returns-clause-added : goal.returns-clause-added
returns-clause-added c =
    added_there c.args.target c.args.sets.now (c.get_mut.follows.lender c.add_in.new.ranks) c.in-Some.set.now c.add_in.new.ranks c.in-Some.ensures.value (c.get_mut.follows.holds c.add_in.new.ranks)
    c.args.rank c.add_in.result c.add_in.ensures.added

pub returns-clause-refused : goal.returns-clause-refused
returns-clause-refused c =
    refused_there c.args.target c.args.sets.now (c.get_mut.follows.lender c.add_in.new.ranks) c.in-Some.set.now c.add_in.new.ranks c.in-Some.ensures.value (c.get_mut.follows.holds c.add_in.new.ranks)
    c.args.rank c.add_in.result c.add_in.ensures.refused
