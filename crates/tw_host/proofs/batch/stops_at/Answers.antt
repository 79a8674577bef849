use Rattle.tw_host.proofs.Names.{Some, ap, slice_get-get_or, sym, ◌∙◌}
use Rattle.tw_host.proofs.Holding.{none_there}
use Rattle.tw_host.proofs.batch.stops_at.Goals as goal

pub returns-in-Some : goal.returns-in-Some
returns-in-Some c = λ holds.
    let i = c.in-Some.instr.now in
    let lookup = c.in-Some.ensures.lookup in
    record { here = i; is = slice_get-get_or c.args.code.now c.args.place i lookup.3.0 ∙ ap Some (sym (lookup.3.1 i)); other = none_there _ _ c.is_local.ensures holds }
