use Rattle.tw_replay_output.proofs.ReplayNames.{IfOk-weaker, Reply, reply}
use Rattle.tw_order.specs.declared.runs.Answer.TheVariants.{Json, Numbers, Picture, Report}
use Rattle.tw_replay_output.proofs.Behinds.{picture_from, with_answer}
use Rattle.tw_replay_output.proofs.replay.answer_of.Goals as goal

pub returns-in-Report : goal.returns-in-Report
returns-in-Report c =
    IfOk-weaker _ _ _ (λ (r : Reply) h. with_answer c.args.source.now Report c.args.first c.args.events.now (reply r.text.items r.close) c.args.answer c.in-Report.is h) c.report_reply.ensures

pub returns-in-Numbers : goal.returns-in-Numbers
returns-in-Numbers c =
    IfOk-weaker _ _ _ (λ (r : Reply) h. with_answer c.args.source.now Numbers c.args.first c.args.events.now (reply r.text.items r.close) c.args.answer c.in-Numbers.is h) c.counted_reply.ensures

pub returns-in-Json : goal.returns-in-Json
returns-in-Json c =
    IfOk-weaker _ _ _ (λ (r : Reply) h. with_answer c.args.source.now Json c.args.first c.args.events.now (reply r.text.items r.close) c.args.answer c.in-Json.is h) c.json_reply.ensures

pub returns-in-Picture : goal.returns-in-Picture
returns-in-Picture c =
    IfOk-weaker _ _ _ (λ (r : Reply) h. with_answer c.args.source.now (Picture c.in-Picture.shown) c.args.first c.args.events.now (reply r.text.items r.close) c.args.answer c.in-Picture.is (picture_from c.args.source.now c.in-Picture.shown c.args.first c.args.events.now (reply r.text.items r.close) h)) c.draw.ensures
