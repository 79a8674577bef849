use Rattle.tw_calls.proofs.Kept.{kept_answer}
use Rattle.tw_calls.proofs.texts.session_text.Goals as goal

pub returns-in-Ok : goal.returns-in-Ok
returns-in-Ok c =
    let r = c.in-Ok.reply in
    kept_answer c.args.words.now c.args.input.now r.close r.text.items c.args.output.now.held c.keep_reply.new.output.held c.keep_reply.result c.in-Ok.ensures c.keep_reply.ensures
