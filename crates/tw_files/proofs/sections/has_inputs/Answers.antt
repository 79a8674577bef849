use Rattle.std.proofs.Common.{◌==◌, ℕ, rules, tests}
use Rattle.std.proofs.lemmas.Iterator.Search.{any_from_yields_List}
use Rattle.std.proofs.lemmas.Iterator.Splits.{YieldsList-from_slice_split}
use Rattle.tw_files.specs.Input.{begins_inputs}
use Rattle.tw_files.proofs.sections.has_inputs.Goals as goal

pub returns : goal.returns
returns c =
    any_from_yields_List begins_inputs _ _ _ c.any.ensures.ran
    (YieldsList-from_slice_split _ (λ (b : ℕ). b == 10) c.args.program.now c.split.ensures.rest c.split.ensures.done c.split.ensures.closure (λ x b q k. search (rules, tests)))
    (λ x b q k. search (rules, tests))
