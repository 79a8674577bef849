use Rattle.tw_binary.proofs.Names.{None, Some, map_in, rules, ◌≡◌}
use Rattle.tw_binary.proofs.Types.{begins_map, begins_scalar}
use Rattle.tw_binary.proofs.items.leaf_of.Goals as goal

pub returns-in-Some-map_of-clause-reads : goal.returns-in-Some-map_of-clause-reads
returns-in-Some-map_of-clause-reads c =
    let begins : map_in c.args.version c.in-Some.code.now ≡ Some c.in-Some-map_of.by = search rules in
    rw (begins_map _ _ _ _ _ c.in-Some.ensures.cases.0 begins) c.map_after.ensures.reads

pub returns-in-None-clause-reads : goal.returns-in-None-clause-reads
returns-in-None-clause-reads c =
    let none : map_in c.args.version c.in-Some.code.now ≡ None = search rules in
    rw (begins_scalar _ _ _ _ c.in-Some.ensures.cases.0 none) c.scalar_type_of.ensures.reads
