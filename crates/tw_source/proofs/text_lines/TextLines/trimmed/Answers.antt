use Rattle.std.proofs.Common.{◌≡◌, ◌∙◌, ℕ, ◌-◌, List, Some, None, ap, map, sym, option_map, slice_get}
use denote.Ref.{Bor}
use Rattle.tw_source.proofs.text_lines.TextLines.trimmed.Goals as goal

pub returns-in_err-line : goal.returns-in_err-line
returns-in_err-line c =
    let none : slice_get (map (λ (line : Bor (List ℕ)). line.now) c.args.self.now.lines.items) (c.args.number - 1) ≡ None = sym c.at.ensures ∙ ap (option_map (λ (line : Bor (List ℕ)). line.now)) c.in_err-line.was in
    rw c.from_residual.ensures none

pub returns : goal.returns
returns c =
    let here : slice_get (map (λ (line : Bor (List ℕ)). line.now) c.args.self.now.lines.items) (c.args.number - 1) ≡ Some c.in_ok-line.line.now = sym c.at.ensures ∙ ap (option_map (λ (line : Bor (List ℕ)). line.now)) c.in_ok-line.was in
    (c.in_ok-line.line.now, here, c.trim_ascii.ensures.value)
