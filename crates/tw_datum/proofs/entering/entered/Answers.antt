use Rattle.std.proofs.Common.{◌∙◌, ap, sym, subst, T}
use Rattle.std.specs.FinMap.{is_sorted}
use Rattle.tw_types.specs.ValueOrder.{value_cmp}
use Rattle.tw_datum.proofs.EnteredValues.{entered_rising}
use Rattle.tw_datum.proofs.Entries.{map_of}
use Rattle.tw_datum.proofs.entering.entered.Goals as goal

pub returns-in-Some : goal.returns-in-Some
returns-in-Some g c =
    let copies = rw c.in-Some.is at c.in_ok-run.ensures in
    c.of_rising.ensures ∙ ap map_of copies.0 ∙ sym (entered_rising _ (subst (λ es. T (is_sorted value_cmp es)) copies.0 copies.1))
