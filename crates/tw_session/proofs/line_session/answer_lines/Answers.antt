use Rattle.tw_session.proofs.line_session.answer_lines.Goals as goal

pub returns : goal.returns
returns g c =
    let made = c.obey_each-made in
    c.finish.ensures c.args.source c.args.order.now c.args.program.now (g.R.Read.remaining c.args.reader.now) (g.R.Read.remaining made.new.reader) (g.W.Write.contents c.args.writer.now) made.ensures
