use Rattle.tw_pool.proofs.Names.{Server, TurnsFree}
use Rattle.tw_pool.specs.declared.answer.Turn.TheVariants.{Idle, Went}
use Rattle.tw_pool.proofs.Freely as free
use Rattle.tw_pool.proofs.pool.Pool.deliver.Goals as goal

pub invariant_of-self : goal.invariant_of-self
invariant_of-self c = free.kept_still _ _ _ c.self.inside.stopped c.self.inside.history c.self.inside.parts c.self.invariant c.args.self.now c.self.view_is c.deliver.new.self c.in_default.ensures.1

pub returns-in_default : goal.returns-in_default
returns-in_default c =
    free.line_still _ _ _ c.self.inside.stopped c.self.inside.history c.self.inside.parts c.self.invariant c.args.self.now c.self.view_is (λ s. TurnsFree c.args.self.now s (Server c.args.server)) Idle
    (free.deliver_idle _ _ _ c.self.inside.stopped c.self.inside.history c.self.inside.parts c.self.invariant c.args.self.now c.self.view_is c.args.server c.requires.server c.requires.room c.requires.free c.in_default.ensures.0)

pub push-requires-clause-fits : goal.push-requires-clause-fits
push-requires-clause-fits c =
    free.deliver_fits _ _ _ c.self.inside.stopped c.self.inside.history c.self.inside.parts c.self.invariant c.args.self.now c.self.view_is c.args.server c.requires.server c.requires.room c.requires.free c.in-Some.notice c.deliver.new.self (c.in-Some.ensures.1 _ _)

pub invariant_of-self-2 : goal.invariant_of-self-2
invariant_of-self-2 c =
    free.kept_traced _ _ _ c.self.inside.stopped c.self.inside.history c.self.inside.parts c.self.invariant c.args.self.now c.self.view_is _ c.push.new.self c.deliver.new.self c.push.ensures
    (free.deliver_kept _ _ _ c.self.inside.stopped c.self.inside.history c.self.inside.parts c.self.invariant c.args.self.now c.self.view_is c.args.server c.requires.server c.requires.room c.requires.free c.in-Some.notice c.deliver.new.self (c.in-Some.ensures.1 _ _))

pub returns : goal.returns
returns c =
    free.line_traced _ _ _ c.self.inside.stopped c.self.inside.history c.self.inside.parts c.self.invariant c.args.self.now c.self.view_is (λ s. TurnsFree c.args.self.now s (Server c.args.server)) Went _ c.push.new.self c.push.ensures
    (free.deliver_line _ _ _ c.self.inside.stopped c.self.inside.history c.self.inside.parts c.self.invariant c.args.self.now c.self.view_is c.args.server c.requires.server c.requires.room c.requires.free c.in-Some.notice c.deliver.new.self (c.in-Some.ensures.1 _ _) c.in-Some.ensures.0)
