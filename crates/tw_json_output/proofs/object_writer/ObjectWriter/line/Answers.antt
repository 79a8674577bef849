use Rattle.std.proofs.Common.{◌≡◌, ◌++◌, ◌∙◌, ℕ, List, Some, ap, codes, subst}
use Rattle.serde_json.specs.Read.{read}
use Rattle.serde_json.specs.View.{view}
use Rattle.tw_json_output.proofs.object_writer.ObjectWriter.line.Goals as goal

pub returns : goal.returns
returns c =
    let value = view c.in_ok-value.value in
    let text = c.in_ok-line.ensures.text c.in_ok-value.ensures in
    record {
      value = value;
      is = c.in_ok-push_str.ensures.bytes ∙ ap (λ (t : List ℕ). t ++ codes "\n") text;
      reads_back = λ shallow. subst (λ (t : List ℕ). read t ≡ Some value) text (c.in_ok-line.ensures.reads_back shallow);
    }
