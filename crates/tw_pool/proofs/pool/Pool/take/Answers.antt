use Rattle.tw_pool.proofs.Names.{Idle, JobView, NoMemory, None, Run, Take, TurnsFree, [], ap, arith, state_of, subst, sym, ◌+◌, ◌∙◌, ◌∷◌}
use Rattle.tw_pool.proofs.Counting.{few}
use Rattle.tw_pool.proofs.Freely as free
use Rattle.tw_pool.proofs.Freely.{taken_none, taken_some}
use Rattle.tw_pool.proofs.pool.Pool.take.Goals as goal

pub overflow_add-event_no : goal.overflow_add-event_no
overflow_add-event_no c =
    let low = few c.args.actor c.self.inside.history.events in
    omega (arith, low, c.count-event_no.ensures, c.self.invariant.within, c.self.invariant.few)

pub take-requires-clause-free : goal.take-requires-clause-free
take-requires-clause-free c = free.taker_free _ _ _ c.self.inside.stopped c.self.inside.history c.self.inside.parts c.self.invariant c.args.self.now c.self.view_is c.args.actor c.requires.actor c.requires.room c.requires.free c.requires.first

pub take-requires-clause-parts : goal.take-requires-clause-parts
take-requires-clause-parts c = (c.self.inside.layout, c.self.invariant.notices, c.self.invariant.parts, free.there_here _ _ _ c.self.inside.stopped c.self.inside.history c.self.inside.parts c.self.invariant c.args.self.now c.self.view_is c.args.actor c.requires.actor c.requires.room c.requires.free c.requires.first)

pub invariant_of-self : goal.invariant_of-self
invariant_of-self c = free.kept_still _ _ _ c.self.inside.stopped c.self.inside.history c.self.inside.parts c.self.invariant c.args.self.now c.self.view_is c.take.new.self c.in_default.ensures.taken.1

pub returns-in_default : goal.returns-in_default
returns-in_default c = free.line_still _ _ _ c.self.inside.stopped c.self.inside.history c.self.inside.parts c.self.invariant c.args.self.now c.self.view_is (λ s. TurnsFree c.args.self.now s c.args.actor) (NoMemory None) (free.take_refused _ _ _ c.self.inside.stopped c.self.inside.history c.self.inside.parts c.self.invariant c.args.self.now c.self.view_is c.args.actor c.requires.actor c.requires.room c.requires.free c.requires.first c.in_default.ensures.memory)

pub invariant_of-self-in_default-taken : goal.invariant_of-self-in_default-taken
invariant_of-self-in_default-taken c = free.kept_still _ _ _ c.self.inside.stopped c.self.inside.history c.self.inside.parts c.self.invariant c.args.self.now c.self.view_is c.take.new.self (taken_none _ _ _ c.in-Ok.taken c.in_default-taken.is c.in-Ok.ensures.taken).1

pub returns-in_default-taken : goal.returns-in_default-taken
returns-in_default-taken c = free.line_still _ _ _ c.self.inside.stopped c.self.inside.history c.self.inside.parts c.self.invariant c.args.self.now c.self.view_is (λ s. TurnsFree c.args.self.now s c.args.actor) Idle (free.take_idle _ _ _ c.self.inside.stopped c.self.inside.history c.self.inside.parts c.self.invariant c.args.self.now c.self.view_is c.args.actor c.requires.actor c.requires.room c.requires.free c.requires.first (taken_none _ _ _ c.in-Ok.taken c.in_default-taken.is c.in-Ok.ensures.taken).0)

pub invariant_of-self-2 : goal.invariant_of-self-2
invariant_of-self-2 c =
    let t = taken_some _ _ _ c.in-Ok.taken c.in-Some.job c.in-Some.is c.in-Ok.ensures.taken in
    free.kept_traced _ _ _ c.self.inside.stopped c.self.inside.history c.self.inside.parts c.self.invariant c.args.self.now c.self.view_is _ c.push.new.self c.take.new.self c.push.ensures (free.take_kept _ _ _ c.self.inside.stopped c.self.inside.history c.self.inside.parts c.self.invariant c.args.self.now c.self.view_is c.args.actor c.requires.actor c.requires.room c.requires.free c.requires.first t.0 t.1 c.take.new.self (t.2.1 _ (free.there_here _ _ _ c.self.inside.stopped c.self.inside.history c.self.inside.parts c.self.invariant c.args.self.now c.self.view_is c.args.actor c.requires.actor c.requires.room c.requires.free c.requires.first)) t.2.0.f t.2.0.is_running (t.2.0.number ∙ ap (λ n. n + 1) c.count-event_no.ensures))

pub returns : goal.returns
returns c =
    let t = taken_some _ _ _ c.in-Ok.taken c.in-Some.job c.in-Some.is c.in-Ok.ensures.taken in
    free.line_traced _ _ _ c.self.inside.stopped c.self.inside.history c.self.inside.parts c.self.invariant c.args.self.now c.self.view_is (λ s. TurnsFree c.args.self.now s c.args.actor) (Run c.in-Some.job) _ c.push.new.self c.push.ensures
    (subst (λ (j : JobView). TurnsFree c.args.self.now (state_of c.self.inside.parts c.self.invariant.notices) c.args.actor (Run j) (Take c.args.actor ∷ [])) (sym t.2.0.job_is) (free.take_line _ _ _ c.self.inside.stopped c.self.inside.history c.self.inside.parts c.self.invariant c.args.self.now c.self.view_is c.args.actor c.requires.actor c.requires.room c.requires.free c.requires.first t.0 t.1 c.take.new.self (t.2.1 _ (free.there_here _ _ _ c.self.inside.stopped c.self.inside.history c.self.inside.parts c.self.invariant c.args.self.now c.self.view_is c.args.actor c.requires.actor c.requires.room c.requires.free c.requires.first)) t.2.0.f t.2.0.is_running (t.2.0.number ∙ ap (λ n. n + 1) c.count-event_no.ensures)))
