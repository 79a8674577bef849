use Rattle.tw_instr.proofs.Names.{Loop, vec_len, ◌∙◌}
use Rattle.tw_instr.proofs.Turns.{turn_last}
use Rattle.tw_instr.proofs.position.last_turn_in.Goals as goal

pub returns : goal.returns
returns c =
    let inner : Loop = record { first = c.inner.inside.first; left = c.inner.inside.left } in
    let item = c.in-Some.ensures.item in
    turn_last 0 (vec_len c.args.loops.now) c.args.loops.now.items inner item.3.0 (c.inner.view_is ∙ item.3.1 inner) c.args.loops.now.ok.0
