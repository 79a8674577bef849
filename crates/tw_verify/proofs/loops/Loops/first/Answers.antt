use Rattle.std.proofs.Common.{◌≡◌, length, Some, refl, sym, ◌∙◌, arith}
use Rattle.tw_verify.proofs.VerifierNames.{same_Some, slice_get, slice_get_read}
use Rattle.tw_verify.proofs.Places.{loop_within}
use Rattle.tw_verify.proofs.loops.Loops.first.Goals as goal

pub returns-clause-all : goal.returns-clause-all
returns-clause-all c = λ first is.
    let firsts = c.args.self.now.firsts.items in
    let known = c.requires.known.firsts in
    let within = loop_within c.args.code.now first c.args.place is in
    let at : slice_get firsts c.args.place ≡ Some (Some first) = known.all c.args.place first (omega (arith, within.1, within.2)) is in
    let read : slice_get firsts c.args.place ≡ Some c.index.result.now = slice_get_read firsts (length firsts) c.args.place c.index.result.now refl (omega (arith, known.long, within.2)) c.index.ensures in
    same_Some c.index.result.now (Some first) (sym read ∙ at)
