use Rattle.std.proofs.Common.{◌==◌, ℕ, rules, tests}
use Rattle.std.proofs.lemmas.Iterator.{YieldsList-from_slice}
use Rattle.std.proofs.lemmas.Iterator.Search.{any_from_yields_List}
use Rattle.tw_replay_output.proofs.replay_details.has_feed.Goals as goal

pub returns : goal.returns
returns c = any_from_yields_List (λ (b : ℕ). b == 10) _ _ _ c.any.ensures.ran (YieldsList-from_slice c.args.text.now cc) (λ x b q k. search (rules, tests))
