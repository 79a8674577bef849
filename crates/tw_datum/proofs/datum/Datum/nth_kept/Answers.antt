use Rattle.std.proofs.Common.{sym, ap, subst, ◌∙◌, slice_get, option_map, IfSome, Some, ◌≡◌}
use Rattle.std.specs.FinMap as map
use Rattle.std.specs.Option.{option_copied}
use Rattle.tw_types.specs.Mapped.{entry_by}
use Rattle.tw_types.proofs.Mapped.{nth_mapped}
use Rattle.tw_datum.proofs.Members.{no_entries, nth_there}
use Rattle.tw_datum.specs.Kept.{KeptMembers}
use Rattle.tw_datum.proofs.datum.Datum.nth_kept.Goals as goal

pub returns-in-Some-clause-member : goal.returns-in-Some-clause-member
returns-in-Some-clause-member g c =
    let id = g.M.Member.id in
    ap (option_map (entry_by id)) c.nth.ensures ∙ sym (nth_mapped id c.in-Some.members.now c.args.index) ∙ ap (λ m. slice_get (map.entries m) c.args.index) (sym c.in-Some.ensures.0)

pub returns-in-Some-clause-kept : goal.returns-in-Some-clause-kept
returns-in-Some-clause-kept g c =
    subst (λ (m : KeptMembers g.row.M.Denot). IfSome (option_copied c.nth.result) (λ e. map.get m e.0 ≡ Some e.1)) (sym c.in-Some.ensures.1)
    (nth_there c.in-Some.members.now c.args.index (option_copied c.nth.result) c.nth.ensures)

pub returns-in-None-clause-member : goal.returns-in-None-clause-member
returns-in-None-clause-member g c = ap (λ es. slice_get es c.args.index) (sym no_entries) ∙ ap (λ m. slice_get (map.entries m) c.args.index) (sym c.in-None.ensures.0)
