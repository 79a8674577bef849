use Rattle.tw_lexer.proofs.Texts.{rest_utf8}
use Rattle.tw_lexer.specs.Seen.{seen}
use Rattle.tw_lexer.specs.Words.{IsFirstWord}
use Rattle.tw_diagnostics.proofs.error_position.token_of.Goals as goal
use Rattle.tw_diagnostics.proofs.error_position.token_of.Goals.{in-Found, in-End, in-Broken+in_ok-break_of-in-Broken}

pub returns : goal.returns
returns c =
    elim c.match-branch-2.branch [
      | in-Found w ↦
          let first : IsFirstWord (seen w.in-Found.field-0) c.args.here.now w.in-Found.after.now = rw w.in-Found.is at c.in_ok-after.ensures in
          rw w.result-is (rest_utf8 (seen w.in-Found.field-0) c.args.here.now w.in-Found.after.now first c.requires)
      | in-End w ↦ rw w.result-is c.requires
      | in-Broken+in_ok-break_of-in-Broken w ↦ rw w.result-is c.requires
    ]
