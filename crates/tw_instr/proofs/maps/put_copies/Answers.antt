use Rattle.tw_instr.proofs.Names.{Subscript, TakesValue, Value, ap, get, on_ok, put_takes, subst, sym, value_put, ◌∙◌}
use Rattle.tw_instr.proofs.maps.put_copies.Goals as goal

pub put-requires : goal.put-requires
put-requires c =
    let live = get c.args.store.now.live c.args.id in
    subst (λ (k : Subscript). TakesValue k c.in_ok-value.value live) (sym c.in_ok-subscript.ensures.copy)
    (subst (λ (x : Value). TakesValue c.args.subscript.now x live) (sym c.in_ok-value.ensures.copy) (put_takes c.args.subscript.now c.args.value.now live c.requires))

pub returns-clause-put : goal.returns-clause-put
returns-clause-put c =
    on_ok c.put.result c.put.ensures.put (λ e. e
    ∙ ap (λ (k : Subscript). value_put c.args.store.now c.args.id k c.in_ok-value.value) c.in_ok-subscript.ensures.copy
    ∙ ap (value_put c.args.store.now c.args.id c.args.subscript.now) c.in_ok-value.ensures.copy)
