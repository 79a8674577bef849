use Rattle.tw_pool_state.proofs.PartNames.{ap, queue_at, refl, set, sym, ◌∙◌}
use Rattle.tw_pool_state.proofs.Notes.{first_of}
use Rattle.tw_pool_state.proofs.Delivers.{may_mark, delivers}
use Rattle.tw_pool_state.proofs.parts.Parts.deliver.Goals as goal

pub mark_ready-requires : goal.mark_ready-requires
mark_ready-requires c =
    let p = c.requires.parts in
    let first = first_of (queue_at c.args.self.now.store.queues c.args.server) c.in_ok-notice.notice (sym c.take_note.ensures.oldest ∙ c.in_ok-notice.was) in
    may_mark p.0 p.1 c.args.self.now p.2 p.3 c.args.server c.requires.server c.in_ok-notice.notice first.rest first.is

pub returns : goal.returns
returns c = (
  sym c.take_note.ensures.oldest ∙ c.in_ok-notice.was,
  λ verified layout notices h.
      let first = first_of (queue_at c.args.self.now.store.queues c.args.server) c.in_ok-notice.notice (sym c.take_note.ensures.oldest ∙ c.in_ok-notice.was) in
      delivers verified layout c.args.self.now notices h c.args.server c.requires.server c.in_ok-notice.notice first.rest first.is _
      c.take_note.ensures.store c.take_note.ensures.places (c.take_note.ensures.rest ∙ ap (set c.args.self.now.store.queues c.args.server) first.dropped)
      c.mark_ready.ensures.rules c.mark_ready.ensures.next refl refl refl refl,
)
