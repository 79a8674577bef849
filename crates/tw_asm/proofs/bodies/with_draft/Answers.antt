use Rattle.tw_asm.proofs.AsmNames.{[], arith, inr, length-map, map-append, refl, seen_draft, ◌∷◌}
use Rattle.tw_asm.proofs.bodies.with_draft.Goals as goal

pub returns-then-len-from : goal.returns-then-len-from
returns-then-len-from c =
    inr ((c.new.ensures.no, c.new.ensures.line, c.new.ensures.found), omega (arith, length-map c.args.section.now.drafts.items seen_draft, c.args.section.now.drafts.ok))

pub returns : goal.returns
returns c = (
  omega (arith, length-map c.args.section.now.drafts.items seen_draft, c.args.section.now.drafts.ok),
  rw (c.in_ok-push.ensures.items, map-append seen_draft c.args.section.now.drafts.items (c.args.line ∷ [])) refl,
)
