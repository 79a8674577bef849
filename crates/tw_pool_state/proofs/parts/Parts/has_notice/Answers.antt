use Rattle.std.proofs.Common.{sym, ◌∙◌}
use Rattle.tw_pool_state.proofs.Fronts.{empty_front}
use Rattle.tw_pool_state.proofs.parts.Parts.has_notice.Goals as goal

pub returns : goal.returns
returns c = λ none. empty_front c.oldest_notice.result _ c.oldest_notice.ensures (sym c.is_some.ensures ∙ none)
