use Rattle.tw_rules.proofs.Names.{IsLeast, heap_items, subst, sym, ◌∙◌}
use Rattle.tw_rules.proofs.Heaps.{peeked}
use Rattle.tw_rules.proofs.release_heap.Releases.first.Goals as goal

pub returns : goal.returns
returns c = subst (λ l. IsLeast l.numbers c.in_ok-least.field-0.0) c.self.view_is
    (peeked (heap_items c.self.inside.heap) c.peek.result c.in_ok-least.field-0 (sym c.copied.ensures ∙ c.in_ok-least.was) c.peek.ensures.item c.peek.ensures.greatest c.self.invariant.ordered)
