use Rattle.std.proofs.Common.{sym, ap, ◌∙◌}
use Rattle.tw_types.specs.StoreCalls.{count_in}
use Rattle.tw_types.proofs.Mapped.{len_mapped}
use Rattle.tw_datum.specs.Kept.{KeptDatum, content_of}
use Rattle.tw_datum.proofs.datum.Datum.count.Goals as goal

pub returns-in-Contains : goal.returns-in-Contains
returns-in-Contains g c = let id = g.M.Member.id in c.len.ensures ∙ sym (len_mapped id c.in-Contains.members) ∙ ap (λ x. count_in (content_of id x)) (sym c.in-Contains.is) ∙ ap (λ (d : KeptDatum g.row.M.Denot). count_in d.datum.content) c.self.view_is
