use Rattle.std.proofs.Common.{sym, ap, ◌∙◌}
use Rattle.tw_types.specs.Store.{members_of}
use Rattle.tw_datum.specs.Kept.{KeptDatum, content_of}
use Rattle.tw_types.proofs.Mapped.{values_mapped}
use Rattle.tw_datum.proofs.datum.Datum.into_members.Goals as goal

pub returns-in-Contains-clause-ids : goal.returns-in-Contains-clause-ids
returns-in-Contains-clause-ids g c = let id = g.M.Member.id in sym (values_mapped id c.in-Contains.members) ∙ ap (λ x. members_of (content_of id x)) (sym c.in-Contains.is) ∙ ap (λ (d : KeptDatum g.row.M.Denot). members_of d.datum.content) c.self.view_is
