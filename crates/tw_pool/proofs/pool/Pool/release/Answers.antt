use Rattle.tw_pool.proofs.Names.{Engine, None, TurnsFree}
use Rattle.tw_pool.specs.declared.answer.Turn.TheVariants.{NoMemory, Went}
use Rattle.tw_pool.proofs.Freely as free
use Rattle.tw_pool.proofs.Freely.{tried_none, tried_some}
use Rattle.tw_pool.proofs.pool.Pool.release.Goals as goal

pub release-requires-clause-free : goal.release-requires-clause-free
release-requires-clause-free c = free.slot_free _ _ _ c.self.inside.stopped c.self.inside.history c.self.inside.parts c.self.invariant c.args.self.now c.self.view_is c.args.engine c.requires.engine c.requires.room c.requires.free

pub release-requires-clause-number : goal.release-requires-clause-number
release-requires-clause-number c = free.next_task_small _ _ _ c.self.inside.stopped c.self.inside.history c.self.inside.parts c.self.invariant c.args.self.now c.self.view_is c.args.engine c.requires.engine c.requires.room c.requires.free

pub invariant_of-self : goal.invariant_of-self
invariant_of-self c = free.kept_still _ _ _ c.self.inside.stopped c.self.inside.history c.self.inside.parts c.self.invariant c.args.self.now c.self.view_is c.release.new.self c.in_default.ensures.1

pub returns-in_default : goal.returns-in_default
returns-in_default c = free.line_still _ _ _ c.self.inside.stopped c.self.inside.history c.self.inside.parts c.self.invariant c.args.self.now c.self.view_is (λ s. TurnsFree c.args.self.now s (Engine c.args.engine)) (NoMemory None) (free.release_refused_for _ _ _ c.self.inside.stopped c.self.inside.history c.self.inside.parts c.self.invariant c.args.self.now c.self.view_is c.args.engine c.requires.engine c.requires.room c.requires.free c.requires.asked c.in_default.ensures.0)

pub invariant_of-self-in_default-released : goal.invariant_of-self-in_default-released
invariant_of-self-in_default-released c = free.kept_still _ _ _ c.self.inside.stopped c.self.inside.history c.self.inside.parts c.self.invariant c.args.self.now c.self.view_is c.release.new.self (tried_none _ _ _ c.in-Ok.released c.in_default-released.is c.in-Ok.ensures).1

pub returns-in_default-released : goal.returns-in_default-released
returns-in_default-released c = (c.self.view_is, free.releases_none _ _ _ c.self.inside.stopped c.self.inside.history c.self.inside.parts c.self.invariant c.args.self.now c.self.view_is c.args.engine c.requires.engine c.requires.room c.requires.free (tried_none _ _ _ c.in-Ok.released c.in_default-released.is c.in-Ok.ensures).0)

pub push-requires-clause-fits : goal.push-requires-clause-fits
push-requires-clause-fits c =
    let t = tried_some _ _ _ c.in-Ok.released c.in-Some.rule c.in-Some.is c.in-Ok.ensures in
    free.release_fits _ _ _ c.self.inside.stopped c.self.inside.history c.self.inside.parts c.self.invariant c.args.self.now c.self.view_is c.args.engine c.requires.engine c.requires.room c.requires.free c.requires.asked c.in-Some.rule t.0 c.release.new.self (t.1 _)

pub invariant_of-self-2 : goal.invariant_of-self-2
invariant_of-self-2 c =
    let t = tried_some _ _ _ c.in-Ok.released c.in-Some.rule c.in-Some.is c.in-Ok.ensures in
    free.kept_traced _ _ _ c.self.inside.stopped c.self.inside.history c.self.inside.parts c.self.invariant c.args.self.now c.self.view_is _ c.push.new.self c.release.new.self c.push.ensures (free.release_kept _ _ _ c.self.inside.stopped c.self.inside.history c.self.inside.parts c.self.invariant c.args.self.now c.self.view_is c.args.engine c.requires.engine c.requires.room c.requires.free c.requires.asked c.in-Some.rule t.0 c.release.new.self (t.1 _))

pub returns : goal.returns
returns c =
    let t = tried_some _ _ _ c.in-Ok.released c.in-Some.rule c.in-Some.is c.in-Ok.ensures in
    free.line_traced _ _ _ c.self.inside.stopped c.self.inside.history c.self.inside.parts c.self.invariant c.args.self.now c.self.view_is (λ s. TurnsFree c.args.self.now s (Engine c.args.engine)) Went _ c.push.new.self c.push.ensures (free.release_line _ _ _ c.self.inside.stopped c.self.inside.history c.self.inside.parts c.self.invariant c.args.self.now c.self.view_is c.args.engine c.requires.engine c.requires.room c.requires.free c.requires.asked c.in-Some.rule t.0 c.release.new.self (t.1 _))
