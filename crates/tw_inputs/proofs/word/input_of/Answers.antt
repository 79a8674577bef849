use Rattle.std.proofs.Common.{ℕ, List, IfOk, MatchOption, codes, subst}
use Rattle.tw_types.specs.declared.input.Input.{Input as GivenInput}
use Rattle.tw_inputs.specs.InputWords.{EncodesInput}
use Rattle.tw_inputs.proofs.InputReading.{head_utf8}
use Rattle.tw_inputs.proofs.word.input_of.Goals as goal

pub text_of-requires : goal.text_of-requires
text_of-requires c = head_utf8 (codes "text") c.as_bytes-bytes.result.now c.in-Some-after.text.now c.as_bytes-bytes.ensures.utf8 c.in-Some-after.ensures

pub returns : goal.returns
returns c =
    subst (λ (word : List ℕ). IfOk c.container_of.result (λ read. MatchOption read ((given : GivenInput) → EncodesInput given word → ⊥) (λ given. EncodesInput given word)))
    c.as_bytes-bytes.ensures.value c.container_of.ensures
