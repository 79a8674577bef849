use Rattle.tw_pool.proofs.Names.{actor_of_place, ap, ◌∙◌}
use Rattle.tw_pool.proofs.Round.{actor_back}
use Rattle.tw_pool.proofs.words.maker_of.Goals as goal

pub returns : goal.returns
returns c = c.actor_of_place.ensures ∙ ap actor_of_place c.requires.1 ∙ actor_back _ c.requires.0
