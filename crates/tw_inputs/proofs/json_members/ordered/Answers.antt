use Rattle.std.proofs.Common.{rules}
use Rattle.std.proofs.lemmas.List.Sorted.{answers_always, ranks_by}
use Rattle.tw_inputs.proofs.json_members.ordered.Goals as goal

pub returns-clause-sorted : goal.returns-clause-sorted
returns-clause-sorted g c = c.sort_unstable_by.ensures.sorted _ (ranks_by g.K.Part.total (λ e. e.0)) (answers_always _ _ _ (λ f a r h called. search rules))
