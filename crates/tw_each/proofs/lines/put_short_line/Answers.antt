use Rattle.tw_each.proofs.Names.{IfOk-weaker, [], append-nil, sym, way, ◌∙◌}
use Rattle.tw_each.proofs.LineAnswers.{blank_line, other_line, text_line}
use Rattle.tw_each.proofs.lines.put_short_line.Goals as goal

pub returns-then-is_blank : goal.returns-then-is_blank
returns-then-is_blank g c = ([], blank_line (way c.args.run.now) c.args.number c.args.line.now (sym c.is_blank.ensures ∙ c.if-is_blank.true), sym (append-nil c.args.out.now.items))

pub returns-in-Ok : goal.returns-in-Ok
returns-in-Ok g c =
    let blank = sym c.is_blank.ensures ∙ c.if-is_blank.false in
    let text = c.in-Ok.ensures.cases in
    IfOk-weaker _ _ _ (λ worst h. text_line (way c.args.run.now) c.args.number c.args.line.now _ c.args.out.now.items c.put_answer.new.out.items worst blank text.0 text.1 h) c.put_answer.ensures

pub returns-in-Err : goal.returns-in-Err
returns-in-Err g c =
    let blank = sym c.is_blank.ensures ∙ c.if-is_blank.false in
    IfOk-weaker _ _ _ (λ worst h. other_line (way c.args.run.now) c.args.number c.args.line.now c.args.out.now.items c.put_unread.new.out.items worst blank c.in-Err.ensures.cases.0 h) c.put_unread.ensures
