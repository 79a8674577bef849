use Rattle.tw_workers.proofs.Names.{AllDrove, [], actors_of, ap, map, seen_by, subst, sym}
use Rattle.tw_workers.proofs.Threading.{one_each, opened}
use Rattle.tw_workers.proofs.threads.run_named.Goals as goal

pub returns-clause-closes : goal.returns-clause-closes
returns-clause-closes g c =
    let run = g.N.Named.run in
    let unwatched = g.G.Gate.unwatched in
    let stoppable = g.G.Gate.stoppable in
    let e = c.run_all.ensures in
    let memory = c.run_all.result.1 in
    let host = c.in_ok-host in
    let all = subst (λ seats. AllDrove run unwatched stoppable seats e.0 memory) (opened (λ s. s.actor) (λ s. s.events.items) host.seats.items _ host.ensures.actors host.ensures.events) e.1 in
    let each = one_each run unwatched stoppable e.0 memory (subst (λ actors. AllDrove run unwatched stoppable (map (λ a. seen_by a []) actors) e.0 memory) (sym (ap (λ r. actors_of r.layout) c.requires.run)) all) in
    (e.0, all, e.2, e.3 each)
