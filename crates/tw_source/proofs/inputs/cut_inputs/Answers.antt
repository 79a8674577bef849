use Rattle.std.proofs.Common.{◌≡◌, ◌∙◌, Bor, List, [], ℕ, Some, ap, sym, take}
use Rattle.std.specs.Prelude.{unwrap_or}
use Rattle.std.specs.Option.{option_map}
use Rattle.tw_source.proofs.InputLines.{cut_found, cut_more, unwrapped}
use Rattle.tw_source.proofs.inputs.cut_inputs.Goals as goal

pub returns-then-begins_inputs : goal.returns-then-begins_inputs
returns-then-begins_inputs c =
    let after = option_map (λ (r : Bor (List ℕ)). r.now) c.first_line.result.1 in
    let kept : c.unwrap_or.result.now ≡ unwrap_or after [] = ap (λ (r : Bor (List ℕ)). r.now) c.unwrap_or.ensures ∙ unwrapped c.first_line.result.1 _ in
    ap (λ (t : List ℕ). Some (take c.loop-line.count c.args.text.now, t)) kept
    ∙ cut_found c.args.text.now c.loop-line.rest.now c.first_line.result.0.now after c.loop-line.count c.loop-line.invariant c.first_line.ensures (sym c.begins_inputs.ensures ∙ c.if-begins_inputs.true)

pub loop-line-preserved : goal.loop-line-preserved
loop-line-preserved c =
    let first = rw c.in-Some.is at c.first_line.ensures in
    cut_more c.args.text.now c.loop-line.rest.now c.first_line.result.0.now c.in-Some.others.now c.loop-line.count c.loop-line.invariant first (sym c.begins_inputs.ensures ∙ c.if-begins_inputs.false)
