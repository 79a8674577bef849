use Rattle.tw_instr.proofs.Names.{FitsType, added, ap, closed_datum, on_ok, subst, sym, ◌∙◌}
use Rattle.tw_instr.proofs.Live.{content_kept}
use Rattle.tw_instr.proofs.data.Data.add_closed.Goals as goal

pub new_closed-requires : goal.new_closed-requires
new_closed-requires c = subst (FitsType c.args.ty) (sym (content_kept c.args.content)) c.requires.fits

pub returns-clause-made : goal.returns-clause-made
returns-clause-made c = on_ok c.add.result c.add.ensures.made (λ made. made ∙ ap (added c.args.self.now) (c.new_closed.ensures.datum ∙ ap (closed_datum c.args.ty) (content_kept c.args.content)))
