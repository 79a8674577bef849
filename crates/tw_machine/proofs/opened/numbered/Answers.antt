use Rattle.tw_machine.proofs.Names.{IsProper, arith, length, subst, sym, ◌-◌, ◌<◌}
use Rattle.tw_machine.proofs.InputData.{short_subscript}
use Rattle.tw_machine.proofs.opened.numbered.Goals as goal

pub try_to_value-requires : goal.try_to_value-requires
try_to_value-requires g c =
    let low : c.loop-index.index - 1 < length c.args.members.now = omega (arith, c.loop-index-test.true, c.loop-index.auto.index) in
    subst IsProper (sym c.as_value.ensures.is)
    (c.as_value.ensures.proper (short_subscript g.K.AsValue.value g.V.AsValue.value c.args.members.now (c.loop-index.index - 1) c.index-members-index.result c.index-members-index.is low c.requires.short))
