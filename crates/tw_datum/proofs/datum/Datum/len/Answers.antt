use Rattle.std.proofs.Common.{sym, ap, ◌∙◌}
use Rattle.std.specs.FinMap as map
use Rattle.tw_types.proofs.Mapped.{len_mapped}
use Rattle.tw_datum.proofs.Members.{no_members}
use Rattle.tw_datum.proofs.datum.Datum.len.Goals as goal

pub returns-in-Some : goal.returns-in-Some
returns-in-Some g c = c.len.ensures ∙ sym (len_mapped g.M.Member.id c.in-Some.members.now) ∙ ap map.len (sym c.in-Some.ensures.0)

pub returns-in-None : goal.returns-in-None
returns-in-None g c = sym no_members ∙ ap map.len (sym c.in-None.ensures.0)
