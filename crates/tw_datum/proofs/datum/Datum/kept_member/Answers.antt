use Rattle.std.proofs.Common.{sym, ap, ◌∙◌, option_map}
use Rattle.std.specs.FinMap as map
use Rattle.tw_types.specs.ValueOrder.{named, value_cmp}
use Rattle.tw_types.proofs.Mapped.{get_mapped}
use Rattle.tw_datum.proofs.datum.Datum.kept_member.Goals as goal

pub returns-in-Some-clause-member : goal.returns-in-Some-clause-member
returns-in-Some-clause-member g c =
    let id = g.M.Member.id in
    ap (option_map id) (c.copied.ensures ∙ c.get.ensures) ∙ sym (get_mapped id c.in-Some.members.now (named c.args.subscript)) ∙ ap (λ m. map.get m (named c.args.subscript)) (sym c.in-Some.ensures.0)

pub returns-in-None-clause-member : goal.returns-in-None-clause-member
returns-in-None-clause-member g c = sym (map.get-empty value_cmp (named c.args.subscript)) ∙ ap (λ m. map.get m (named c.args.subscript)) (sym c.in-None.ensures.0)

pub returns-in-None-clause-kept : goal.returns-in-None-clause-kept
returns-in-None-clause-kept g c = sym (map.get-empty value_cmp (named c.args.subscript)) ∙ ap (λ m. map.get m (named c.args.subscript)) (sym c.in-None.ensures.1)
