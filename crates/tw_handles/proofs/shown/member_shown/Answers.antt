use Rattle.tw_handles.proofs.Names.{AtSubscript, Datum, Item, Option, Some, ap, at_member, datum_if, item_of, option_copied, option_map, sym, value_of, ◌∙◌}
use Rattle.tw_types.specs.declared.value.Value.{Value}
use Rattle.tw_handles.proofs.Contents.{member_shown_at}
use Rattle.tw_handles.proofs.shown.member_shown.Goals as goal

pub returns-in-Some : goal.returns-in-Some
returns-in-Some c =
    let final = c.args.outcome.now in
    let shown = c.in-Some.shown in
    let datum : Option Datum = datum_if (option_copied shown.datum) in
    let is : Item → Option Value → AtSubscript = λ item value. record { subscript = shown.subscript.now; item = item; value = value } in
    member_shown_at final c.args.container.now.datum.content c.args.place c.requires.members
    ∙ ap (option_map (at_member final)) c.in-Some.ensures.0
    ∙ ap (λ (d : Option Datum). Some (is (item_of d) (value_of d))) (sym c.in-Some.ensures.1)
    ∙ ap (λ (item : Item). Some (is item (value_of datum))) (sym c.item_of.ensures)
    ∙ ap (λ (value : Option Value). Some (is c.item_of.result value)) (sym c.value_of.ensures)

pub returns-in-None : goal.returns-in-None
returns-in-None c =
    let final = c.args.outcome.now in
    member_shown_at final c.args.container.now.datum.content c.args.place c.requires.members ∙ ap (option_map (at_member final)) c.in-None.ensures
