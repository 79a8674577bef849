use Rattle.tw_instr.proofs.Names.{None, Some, ap, data_of, drop_read_within, each_same, fold, if_none, if_some, remove, settled_gone, settled_held, sym, ◌∙◌}
use Rattle.std.specs.FinMap as map
use Rattle.tw_instr.proofs.Live.{found, removed, same_kept}
use Rattle.tw_instr.proofs.freeing.free_unheld.Goals as goal

pub returns-in_default : goal.returns-in_default
returns-in_default c = if_none _ _ (found c.args.live.now c.args.id None c.in_default.ensures.value)

pub returns-then-not-is_unheld : goal.returns-then-not-is_unheld
returns-then-not-is_unheld c =
    let there = found c.args.live.now c.args.id (Some c.in-Some.datum.now) c.in-Some.ensures.value in
    if_some _ c.in-Some.datum.now.datum _ there (settled_held _ _ _ there (sym c.is_unheld.ensures ∙ c.if-not-is_unheld.true))

pub returns-in-Some-into_members : goal.returns-in-Some-into_members
returns-in-Some-into_members c =
    let there = found c.args.live.now c.args.id (Some c.in-Some.datum.now) c.in-Some.ensures.value in
    let gone = removed c.args.live.now c.remove.new.self c.args.id c.remove.ensures.updates in
    let members = sym (each_same (map.values c.in-Some-into_members.members)) ∙ c.in-Some-into_members.ensures.ids ∙ same_kept c.in-Some-remove.gone c.in-Some.datum.now _ c.in-Some-remove.ensures.value (sym c.in-Some.ensures.value) in
    if_some _ c.in-Some.datum.now.datum _ there (c.drop_each.ensures
    ∙ ap (λ m. fold (drop_read_within 2) m (map.values c.in-Some-into_members.members)) gone
    ∙ ap (fold (drop_read_within 2) (remove (data_of c.args.live.now.entries) c.args.id)) members
    ∙ settled_gone _ _ c.in-Some.datum.now.datum (sym c.is_unheld.ensures ∙ c.if-not-is_unheld.false))

pub returns-in_default-into_members : goal.returns-in_default-into_members
returns-in_default-into_members c =
    let there = found c.args.live.now c.args.id (Some c.in-Some.datum.now) c.in-Some.ensures.value in
    let gone = removed c.args.live.now c.remove.new.self c.args.id c.remove.ensures.updates in
    let members = c.in_default-into_members.ensures.ids ∙ same_kept c.in-Some-remove.gone c.in-Some.datum.now _ c.in-Some-remove.ensures.value (sym c.in-Some.ensures.value) in
    if_some _ c.in-Some.datum.now.datum _ there (gone
    ∙ ap (fold (drop_read_within 2) (remove (data_of c.args.live.now.entries) c.args.id)) members
    ∙ settled_gone _ _ c.in-Some.datum.now.datum (sym c.is_unheld.ensures ∙ c.if-not-is_unheld.false))
