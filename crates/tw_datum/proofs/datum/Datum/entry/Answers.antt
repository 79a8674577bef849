use Rattle.std.proofs.Common.{sym, ap, ◌∙◌, slice_get, option_map}
use Rattle.std.specs.FinMap as map
use Rattle.tw_types.specs.Mapped.{entry_by}
use Rattle.tw_types.proofs.Mapped.{nth_mapped}
use Rattle.tw_datum.proofs.Members.{no_entries}
use Rattle.tw_datum.proofs.datum.Datum.entry.Goals as goal

pub returns-in-Some : goal.returns-in-Some
returns-in-Some g c = let id = g.M.Member.id in c.borrowed_entry.ensures ∙ ap (option_map (entry_by id)) c.nth.ensures ∙ sym (nth_mapped id c.in-Some.members.now c.args.index) ∙ ap (λ m. slice_get (map.entries m) c.args.index) (sym c.in-Some.ensures.0)

pub returns-in-None : goal.returns-in-None
returns-in-None g c = ap (λ es. slice_get es c.args.index) (sym no_entries) ∙ ap (λ m. slice_get (map.entries m) c.args.index) (sym c.in-None.ensures.0)
