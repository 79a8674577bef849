use Rattle.std.proofs.Common.{◌∙◌, List, Option, ℕ, subst}
use Rattle.tw_source.proofs.ReplyNames.{HaveStatements, IfOk-weaker, at_start, lines, plain_of}
use Rattle.std.proofs.Common.{MatchOption}
use Rattle.tw_asm.specs.Statement.{Statement}
use Rattle.tw_diagnostics.specs.FirstHead.{HasNoHead, IsFirstHead}
use Rattle.tw_source.proofs.Sources.{main_line, other_line, some_origin}
use Rattle.tw_source.proofs.source.own_rejection_line.Goals as goal

pub returns-in-MainShape : goal.returns-in-MainShape
returns-in-MainShape c =
    let source = c.args.source.now in
    let refused = c.args.refused.now in
    let plain = plain_of source in
    rw c.in-MainShape.is (IfOk-weaker c.head_line.result _ _
    (λ at found is.
    let origin = some_origin plain refused.program.procedures source.lines.procedures refused.procedure refused.place is.0 is.1 in
    let found_in = subst (λ (t : List ℕ). (said : List (Option Statement)) → HaveStatements 1 at_start (lines t) said → MatchOption at (HasNoHead said) (IsFirstHead t)) c.plain.ensures found in
    let first = main_line plain refused.procedure refused.place origin.0 at origin.1 found_in in
    (first.0, first.1, first.2)) c.head_line.ensures)

pub returns-in_default : goal.returns-in_default
returns-in_default c = λ is.
    let source = c.args.source.now in
    let refused = c.args.refused.now in
    let plain = plain_of source in
    let origin = some_origin plain refused.program.procedures source.lines.procedures refused.procedure refused.place is.0 is.1 in
    (origin.0, other_line refused.no plain refused.procedure refused.place origin.0 c.in_default.not-MainShape origin.1, c.at.ensures ∙ origin.2)
