use Rattle.std.proofs.Common.{◌≡◌, ℕ, ◌-◌, List, MatchOption, Option, Some, None, slice_get, subst}
use denote.Ref.{Bor}
use Rattle.std.specs.Str.Lines.{lines}
use Rattle.tw_source.proofs.source.trimmed_line.Goals as goal

pub returns-in_err-line : goal.returns-in_err-line
returns-in_err-line c =
    let here = slice_get (lines c.args.text.now) (c.args.number - 1) in
    let none : here ≡ None = subst (λ (r : Option (Bor (List ℕ))). MatchOption r (here ≡ None) (λ line. here ≡ Some line.now)) c.in_err-line.was c.line_numbered.ensures in
    rw c.from_residual.ensures none

pub returns : goal.returns
returns c =
    let here = slice_get (lines c.args.text.now) (c.args.number - 1) in
    let found : here ≡ Some c.in_ok-line.line.now = subst (λ (r : Option (Bor (List ℕ))). MatchOption r (here ≡ None) (λ line. here ≡ Some line.now)) c.in_ok-line.was c.line_numbered.ensures in
    (c.in_ok-line.line.now, found, c.trim_ascii.ensures.value)
