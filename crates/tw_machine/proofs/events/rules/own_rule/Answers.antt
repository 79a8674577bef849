use Rattle.tw_machine.proofs.Names.{Engine, actor_cmp-IsAntisymmetric, actor_cmp_total, ap, found_view, frames_of, is_some, refl, sym, with_frames, with_tables, ◌∙◌}
use Rattle.tw_machine.proofs.Pending.{own_busy, own_is}
use Rattle.tw_machine.proofs.events.rules.own_rule.Goals as goal

pub returns-then-contains_key : goal.returns-then-contains_key
returns-then-contains_key c = λ s.
    let at = found_view actor_cmp_total actor_cmp-IsAntisymmetric c.args.frames.now (Engine c.args.engine) _ refl in
    own_busy c.args.engine c.args.number (with_frames (with_tables s c.args.tables.now) (frames_of c.args.frames.now.entries)) (ap is_some at ∙ sym c.if-contains_key.ensures)

pub returns : goal.returns
returns c = λ s.
    let at = found_view actor_cmp_total actor_cmp-IsAntisymmetric c.args.frames.now (Engine c.args.engine) _ refl in
    own_is c.args.engine c.args.number (with_frames (with_tables s c.args.tables.now) (frames_of c.args.frames.now.entries)) c.in-Some.rule.now (ap is_some at ∙ sym c.if-contains_key.ensures) (sym c.in-Some.ensures) (sym c.engine.ensures ∙ c.if-engine.false)
