use Rattle.std.proofs.Common.{◌<◌, ◌-◌, arith, length}
use Rattle.tw_datum.proofs.EnteredValues.{short_entry}
use Rattle.tw_datum.proofs.entering.entered_by_one.Goals as goal

pub entry_copy-requires : goal.entry_copy-requires
entry_copy-requires g c =
    let low : c.loop-index.index - 1 < length c.args.members.now = omega (arith, c.loop-index-test.true, c.loop-index.auto.index) in
    short_entry g.K.AsValue.value g.V.AsValue.value c.args.members.now (c.loop-index.index - 1) c.index-members-index.result c.index-members-index.is low c.requires
