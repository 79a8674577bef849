use Rattle.tw_instr.proofs.Names.{Loop, vec_len, ◌∙◌}
use Rattle.tw_instr.proofs.Turns.{turn_again, turn_over}
use Rattle.tw_instr.proofs.position.end_turn_in.Goals as goal

pub returns-then-inner-gt1-clause-next : goal.returns-then-inner-gt1-clause-next
returns-then-inner-gt1-clause-next c =
    let inner : Loop = record { first = c.inner.inside.first; left = c.inner.inside.left } in
    let item = c.in_ok-inner.ensures.item in
    turn_again c.args.place (vec_len c.args.loops.now) c.args.loops.now.items inner item.3.0 (c.inner.view_is ∙ item.3.1 inner) c.args.loops.now.ok.0 c.if-inner-gt1.true

pub returns-else-inner-gt1-clause-next : goal.returns-else-inner-gt1-clause-next
returns-else-inner-gt1-clause-next c =
    let inner : Loop = record { first = c.inner.inside.first; left = c.inner.inside.left } in
    let item = c.in_ok-inner.ensures.item in
    turn_over c.args.place (vec_len c.args.loops.now) c.args.loops.now.items inner item.3.0 (c.inner.view_is ∙ item.3.1 inner) c.args.loops.now.ok.0 c.in_ok-inner.inner.now c.pop-ended.new.self.items c.pop-ended.ensures.rest c.if-inner-gt1.false
