use Rattle.tw_pool.proofs.Names.{[], ap, events_in, map-append, option_to_list, sym, unpack, ◌++◌, ◌∙◌, ◌∷◌}
use Rattle.tw_pool.proofs.events.Events.push_from.Goals as goal

pub returns-clause-items : goal.returns-clause-items
returns-clause-items c =
    let words = c.self.inside.words.items in
    let word = c.word.result in
    rw (← c.self.view_is) (ap events_in c.push_reserved.ensures.items ∙ map-append unpack words (word ∷ []) ∙ ap (λ o. events_in words ++ option_to_list o) (sym c.word.ensures))
