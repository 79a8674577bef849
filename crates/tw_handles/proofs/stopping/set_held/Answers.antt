use Rattle.tw_handles.proofs.Names.{Held, Some, refl, subst, sym}
use Rattle.tw_handles.specs.Stops.{IsStopSet}
use Rattle.tw_handles.specs.declared.held.Held.TheVariants.{Stop}
use Rattle.tw_handles.proofs.stopping.set_held.Goals as goal

pub returns-in-Stop : goal.returns-in-Stop
returns-in-Stop c =
    let flag = c.set.new.self in
    subst (λ (held : Held). IsStopSet c.args.raised (Some held) (Some (Stop flag)) 0) (sym c.in-Stop.is) (flag, c.set.ensures, refl, refl)
