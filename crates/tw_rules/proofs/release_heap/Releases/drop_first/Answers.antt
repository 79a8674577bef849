use Rattle.tw_rules.proofs.Names.{IsLeast, IsPermutation, ap, arith, heap_items, heap_len, length, numbers_in, subst, sym, ◌∙◌, ◌∷◌, ◌≡◌}
use Rattle.tw_rules.proofs.Heaps.{emptied, popped}
use Rattle.tw_rules.proofs.release_heap.Releases.drop_first.Goals as goal

pub returns-clause-rest : goal.returns-clause-rest
returns-clause-rest c = λ least is.
    let heap = c.self.inside.heap in
    let size : heap_len heap ≡ length (heap_items heap) = omega (arith, heap.data.ok.0) in
    let was : IsLeast (numbers_in heap) least = subst (λ l. IsLeast l.numbers least) (sym c.self.view_is) is in
    subst (λ l. IsPermutation l.numbers (least ∷ numbers_in c.pop-least.new.self)) c.self.view_is
    (popped (heap_items heap) (heap_items c.pop-least.new.self) c.pop-least.result least (heap_len heap) was size c.pop-least.ensures.none c.pop-least.ensures.permutation c.pop-least.ensures.below_top c.self.invariant.ordered)

pub returns-clause-none : goal.returns-clause-none
returns-clause-none c = λ none.
    emptied (heap_items c.self.inside.heap) (heap_items c.pop-least.new.self) c.pop-least.result _ (ap (λ l. l.numbers) c.self.view_is ∙ none) c.pop-least.ensures.permutation c.pop-least.ensures.unchanged
