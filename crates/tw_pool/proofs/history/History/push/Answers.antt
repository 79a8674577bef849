use Rattle.tw_pool.proofs.Names.{HistoryView, ap, arith, events_in, length, ◌%◌, ◌/◌, ◌∙◌}
use Rattle.tw_pool.proofs.Counting.{all_placed, below, counted_more}
use Rattle.tw_pool.proofs.Round.{traced}
use Rattle.tw_pool.proofs.history.History.push.Goals as goal

pub returns : goal.returns
returns c = rw (← c.self.view_is) (ap (λ es. record { events = es; limit = c.self.inside.limit }) (traced c.self.inside.words.items c.push_reserved.new.self.items c.pack-word.result c.args.event c.requires.fits c.pack-word.ensures c.push_reserved.ensures.items))

pub overflow_add-self : goal.overflow_add-self
overflow_add-self c =
    let counts = c.self.inside.counts in
    let few = below counts (events_in c.self.inside.words.items) c.args.event c.self.told c.self.invariant.1 c.requires.fits c.maker.result (c.maker.ensures ∙ ap (λ w. w / 8 % 32) c.pack-word.ensures) in
    let seen = ap (λ (h : HistoryView). length h.events) c.self.view_is in
    let most = ap (λ (h : HistoryView). h.limit) c.self.view_is in
    omega (arith, few, seen, most, c.requires.room, c.self.ranges)

pub invariant_of-self : goal.invariant_of-self
invariant_of-self c =
    let counts = c.self.inside.counts in (
      omega (arith, c.self.invariant.0, c.push_reserved.ensures.capacity),
      counted_more counts (events_in c.self.inside.words.items) c.args.event c.self.told c.self.invariant.1 c.requires.fits c.maker.result (events_in c.push_reserved.new.self.items)
          (c.maker.ensures ∙ ap (λ w. w / 8 % 32) c.pack-word.ensures)
          (traced c.self.inside.words.items c.push_reserved.new.self.items c.pack-word.result c.args.event c.requires.fits c.pack-word.ensures c.push_reserved.ensures.items),
      all_placed c.self.inside.words.items c.push_reserved.new.self.items c.pack-word.result c.args.event c.requires.fits c.pack-word.ensures c.push_reserved.ensures.items c.self.invariant.2,
    )
