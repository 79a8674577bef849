use Rattle.std.proofs.Common.{◌∙◌, Global, Ok, ap, ℕ}
use Rattle.std.proofs.lemmas.Iterator.{YieldsList-from_zip, items_from_collect}
use Rattle.std.proofs.lemmas.Iterator.Adapters.{YieldsList-from_vec}
use Rattle.std.specs.declared.vec.IntoIter.{IntoIter}
use Rattle.tw_handles.proofs.lists.pair.Goals as goal

pub returns-in-Ok : goal.returns-in-Ok
returns-in-Ok g c =
    let first = ap (λ (it : IntoIter g.row.A.Denot Global). it.rest.items) c.zip.ensures.first ∙ c.into_iter.ensures.rest in
    let many = ap (λ (it : IntoIter g.row.A.Denot Global). it.rest.len) c.zip.ensures.first ∙ (c.into_iter.ensures.len ∙ c.args.subscripts.ok.0) in
    items_from_collect {E = ℕ} (Ok c.in-Ok.members) c.in-Ok.ensures.ran
    (YieldsList-from_zip (YieldsList-from_vec c.args.subscripts.items first many) (YieldsList-from_vec c.args.values.items c.zip.ensures.second.0 (c.zip.ensures.second.1 ∙ c.args.values.ok.0)))
