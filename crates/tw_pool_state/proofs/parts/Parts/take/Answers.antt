use Rattle.tw_pool_state.proofs.PartNames.{ActorCounts, ap, begun, get, is_in, refl, unchanged, ◌∙◌}
use Rattle.tw_pool_state.proofs.Runners.{get_own}
use Rattle.tw_pool_state.proofs.Takes.{begun_fits, may_start, taken, takes}
use Rattle.tw_pool_state.proofs.parts.Parts.take.Goals as goal

pub start-requires-clause-in_layout : goal.start-requires-clause-in_layout
start-requires-clause-in_layout c = let p = c.requires.parts in ap (λ (l : ActorCounts). is_in l c.args.actor) p.2.layout_is ∙ p.3

pub start-requires-clause-may : goal.start-requires-clause-may
start-requires-clause-may c = λ e due. let p = c.requires.parts in may_start c.args.verified.now p.0 c.args.self.now p.1 p.2 c.args.actor p.3 c.requires.free e due

pub start-requires-clause-fits_place : goal.start-requires-clause-fits_place
start-requires-clause-fits_place c = λ e values due starts machine. let p = c.requires.parts in begun_fits c.args.verified.now p.0 c.args.self.now p.1 p.2 c.args.actor p.3 c.requires.free e due values starts machine

pub returns-clause-taken : goal.returns-clause-taken
returns-clause-taken c =
    taken c.args.verified.now c.args.actor c.args.event_no c.args.self.now.running_tasks.tasks c.args.self.now.tasks.tasks c.start.new.self.tasks c.start.new.tasks.tasks _ _ c.start.result c.start.ensures.begun
    (λ job b.
    let f = begun c.args.verified.now c.args.actor c.args.event_no b.e b.values in (
      record { f = f; is_running = ap (λ m. get m c.args.actor) b.is_running ∙ get_own c.args.self.now.running_tasks.tasks c.args.actor f; number = refl; job_is = b.lent },
      λ layout there notices h.
          takes c.args.verified.now layout c.args.self.now notices h c.args.actor there c.requires.free b.e b.due b.values b.starts b.machine c.args.event_no _
          b.rest b.is_running c.start.ensures.layout refl refl refl refl,
    ))
    (λ running_tasks tasks. record { store = unchanged c.args.self.now.store; rules = refl; next_rule = refl; tasks = tasks; next_task = refl; running_tasks = λ i. record { layout = c.start.ensures.layout i; tasks = running_tasks i }; outputs = refl })
