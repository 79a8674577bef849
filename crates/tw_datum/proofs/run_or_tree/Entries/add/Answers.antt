use Rattle.std.proofs.Common.{◌≡◌, IsSome, T, ap, subst, sym}
use Rattle.std.specs.FinMap.{find, is_sorted}
use Rattle.tw_types.specs.ValueOrder.{named, value_cmp}
use Rattle.tw_datum.specs.Run.{IsAbove, IsEntryAt, all_in}
use Rattle.tw_datum.proofs.Runs.{there}
use Rattle.tw_datum.proofs.run_or_tree.Entries.add.Goals as goal

pub append-requires-clause-above : goal.append-requires-clause-above
append-requires-clause-above g c = subst (IsAbove (named c.args.key)) c.as_slice.ensures.value (c.is_above.ensures c.if-is_above.true)

pub returns-in-Some : goal.returns-in-Some
returns-in-Some g c =
    let is : all_in c.args.self.now ≡ c.in-Run.run'.items = ap all_in c.in-Run.is in
    let at = subst (λ es. IsEntryAt (named c.args.key) es c.in-Some.field-0) c.as_slice-in-Run.ensures.value c.in-Some.ensures in
    (sym is, λ sorted. subst (λ es. IsSome (find value_cmp (named c.args.key) es)) (sym is) (there (named c.args.key) c.in-Run.run'.items c.in-Some.field-0 at (subst (λ es. T (is_sorted value_cmp es)) is sorted)))
