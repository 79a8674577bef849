use Rattle.tw_each.proofs.Names.{IfOk-weaker, IsRejectedLine, string_bytes, way}
use Rattle.tw_each.proofs.answer.rejected_line.Goals as goal

pub returns : goal.returns
returns c =
    IfOk-weaker _ _ (λ line. IsRejectedLine (way c.args.run.now) c.args.inputs.now (string_bytes line))
    (λ line made. (c.args.why, c.requires.rejected, c.requires.other, made)) c.error_line.ensures
