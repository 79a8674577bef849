use Rattle.tw_frame.proofs.Names.{List, [], ap, arith, get_or, map-append, sym, take, take_more, text_in, ℕ, ◌++◌, ◌∙◌, ◌∷◌, ◌≡◌}
use Rattle.std.proofs.Math.ListN.{get_or-map}
use Rattle.tw_frame.proofs.texts.Texts.try_clone.Goals as goal

pub loop-index-preserved : goal.loop-index-preserved
loop-index-preserved c =
    let text = text_in c.index.result.now in
    let read : get_or c.args.self.now c.loop-index.index text ≡ text =
    ap (λ (texts : List (List ℕ)). get_or texts c.loop-index.index text) (sym c.self.view_is) ∙ get_or-map text_in c.self.inside.slots.items c.loop-index.index c.index.result.now ∙ ap text_in (sym c.index.ensures) in
    rw c.in_ok-push.ensures.items (map-append text_in c.loop-index.slots.items (c.in_ok-try_clone.field-0 ∷ [])
    ∙ ap (λ (texts : List (List ℕ)). texts ++ text_in c.in_ok-try_clone.field-0 ∷ []) c.loop-index.invariant
    ∙ ap (λ (bytes : List ℕ). take c.loop-index.index c.args.self.now ++ bytes ∷ []) (c.in_ok-try_clone.ensures ∙ sym read)
    ∙ sym (take_more c.args.self.now c.loop-index.index text (omega (arith, c.loop-index-test.true, c.len-index-end.ensures))))
