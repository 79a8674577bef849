use Rattle.std.proofs.Common.{◌≡◌, ◌∙◌, ◌++◌, ◌∷◌, [], T, ap, subst, sym}
use Rattle.std.specs.FinMap.{is_sorted, put}
use Rattle.tw_types.specs.ValueOrder.{named, value_cmp}
use Rattle.tw_datum.specs.Run.{IsAbove, IsEntryAt, all_in}
use Rattle.tw_datum.proofs.Runs.{above_put, put_at}
use Rattle.tw_datum.proofs.run_or_tree.Entries.insert.Goals as goal

pub returns-then-is_above-clause-added : goal.returns-then-is_above-clause-added
returns-then-is_above-clause-added g c =
    let key = c.args.key in
    let run = c.in-Run.run'.items in
    let is : all_in c.args.self.now ≡ run = ap all_in c.in-Run.is in
    let above = subst (λ k. IsAbove k run) c.borrowed.ensures.is (subst (IsAbove _) c.as_slice.ensures.value (c.is_above.ensures c.if-is_above.true)) in
    λ sorted.
    c.push_reserved.ensures.items ∙ ap (λ es. es ++ (key, c.args.value) ∷ []) c.make_room.ensures.items
    ∙ sym (above_put key run c.args.value above (subst (λ es. T (is_sorted value_cmp es)) is sorted)) ∙ ap (put value_cmp key c.args.value) (sym is)

pub returns-in-Some-clause-added : goal.returns-in-Some-clause-added
returns-in-Some-clause-added g c =
    let key = c.args.key in
    let run = c.in-Run.run'.items in
    let is : all_in c.args.self.now ≡ run = ap all_in c.in-Run.is in
    let at = subst (λ k. IsEntryAt k run c.in-Some.place) c.borrowed-in-Run.ensures.is (subst (λ es. IsEntryAt (named c.borrowed-in-Run.result) es c.in-Some.place) c.as_slice-in-Run.ensures.value c.in-Some.ensures) in
    λ sorted.
    put_at key c.args.value run c.in-Some.place c.index_mut.result.now c.index_mut.ensures.value at (subst (λ es. T (is_sorted value_cmp es)) is sorted)
    ∙ ap (put value_cmp key c.args.value) (sym is)
