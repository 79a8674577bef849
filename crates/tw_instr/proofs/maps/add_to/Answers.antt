use Rattle.tw_instr.proofs.Names.{Subscript, TakesValue, add_takes, ap, arith, entry_at, get, of_z, on_ok, scalar_of, subst, sym, to_z, value_put, w64, ◌∙◌, ◌≡◌}
use Rattle.std.proofs.lemmas.Int.{to_z-of_z}
use Rattle.tw_code.specs.machine.Data.{sum_with}
use Rattle.tw_code.proofs.Computing.{sum_int}
use Rattle.tw_instr.proofs.maps.add_to.Goals as goal

pub put-requires : goal.put-requires
put-requires c =
    let live = get c.args.store.now.live c.args.id in
    subst (λ (k : Subscript). TakesValue k c.sum_with-sum.result live) (sym c.in_ok-own.ensures.copy)
    (add_takes c.args.subscript.now c.sum_with-sum.result live (ap scalar_of c.sum_with-sum.ensures ∙ sum_int _ _) c.requires)

pub returns-clause-added : goal.returns-clause-added
returns-clause-added c =
    let s = c.args.store.now in
    let key : to_z w64 (of_z w64 c.args.number) ≡ c.args.number = grind (arith, to_z-of_z) in
    let found = c.entry.ensures ∙ ap (entry_at s c.args.id) c.borrowed.ensures.is in
    let sum = c.sum_with-sum.ensures ∙ ap (λ o. sum_with o (to_z w64 (of_z w64 c.args.number))) found ∙ ap (sum_with (entry_at s c.args.id c.args.subscript.now)) key in
    on_ok c.put.result c.put.ensures.put (λ e. e
    ∙ ap (λ (k : Subscript). value_put s c.args.id k c.sum_with-sum.result) c.in_ok-own.ensures.copy
    ∙ ap (value_put s c.args.id c.args.subscript.now) sum)
