use Rattle.std.proofs.Common.{◌≡◌, ◌==◌, ◌++◌, ◌∙◌, List, ap, append_assoc, codes, false, ℕ}
use Rattle.std.specs.List.{list_any}
use Rattle.tw_replay_output.proofs.ReplayNames.{on_ok_weaker}
use Rattle.tw_replay_output.proofs.Behinds.{is_reason}
use Rattle.tw_replay_output.proofs.replay_details.put_why.Goals as goal

pub returns : goal.returns
returns c =
    let line = c.in_ok-line.line.items in
    let out = c.args.out.now.items in
    let none : list_any (λ (b : ℕ). b == 10) line ≡ false = cc in
    let added : c.extend_from_slice.new.self.items ≡ out ++ line = c.in_ok-extend_from_slice.ensures.items ∙ ap (λ (t : List ℕ). out ++ t) c.deref-2.ensures.value in
    on_ok_weaker c.put.result (λ put. (line ++ codes "\n", is_reason line c.in_ok-line.ensures.seen none, put ∙ ap (λ (t : List ℕ). t ++ codes "\n") added ∙ append_assoc out line (codes "\n"))) c.put.ensures
