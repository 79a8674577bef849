use Rattle.tw_pool.proofs.Names.{Engine, None, TurnsFree}
use Rattle.tw_pool.specs.declared.answer.Turn.TheVariants.{NoMemory, Went}
use Rattle.tw_pool.proofs.Freely as free
use Rattle.tw_pool.proofs.Freely.{tried_none, tried_some}
use Rattle.tw_pool.proofs.pool.Pool.ask.Goals as goal

pub ask-requires-clause-free : goal.ask-requires-clause-free
ask-requires-clause-free c = free.slot_free _ _ _ c.self.inside.stopped c.self.inside.history c.self.inside.parts c.self.invariant c.args.self.now c.self.view_is c.args.engine c.requires.engine c.requires.room c.requires.free

pub invariant_of-self : goal.invariant_of-self
invariant_of-self c = free.kept_still _ _ _ c.self.inside.stopped c.self.inside.history c.self.inside.parts c.self.invariant c.args.self.now c.self.view_is c.ask.new.self c.in_default.ensures.asked.1

pub returns-in_default : goal.returns-in_default
returns-in_default c = free.line_still _ _ _ c.self.inside.stopped c.self.inside.history c.self.inside.parts c.self.invariant c.args.self.now c.self.view_is (λ s. TurnsFree c.args.self.now s (Engine c.args.engine)) (NoMemory None) (free.ask_refused_for _ _ _ c.self.inside.stopped c.self.inside.history c.self.inside.parts c.self.invariant c.args.self.now c.self.view_is c.args.engine c.requires.engine c.requires.room c.requires.free c.in_default.ensures.asked.0 c.in_default.ensures.memory)

pub invariant_of-self-in_default-asked : goal.invariant_of-self-in_default-asked
invariant_of-self-in_default-asked c = free.kept_still _ _ _ c.self.inside.stopped c.self.inside.history c.self.inside.parts c.self.invariant c.args.self.now c.self.view_is c.ask.new.self (tried_none _ _ _ c.in-Ok.asked c.in_default-asked.is c.in-Ok.ensures.asked).1

pub returns-in_default-asked : goal.returns-in_default-asked
returns-in_default-asked c = (c.self.view_is, free.asks_none _ _ _ c.self.inside.stopped c.self.inside.history c.self.inside.parts c.self.invariant c.args.self.now c.self.view_is c.args.engine c.requires.engine c.requires.room c.requires.free (tried_none _ _ _ c.in-Ok.asked c.in_default-asked.is c.in-Ok.ensures.asked).0)

pub push-requires-clause-fits : goal.push-requires-clause-fits
push-requires-clause-fits c =
    let t = tried_some _ _ _ c.in-Ok.asked c.in-Some.next c.in-Some.is c.in-Ok.ensures.asked in
    free.ask_fits _ _ _ c.self.inside.stopped c.self.inside.history c.self.inside.parts c.self.invariant c.args.self.now c.self.view_is c.args.engine c.requires.engine c.requires.room c.requires.free c.in-Some.next.0 c.in-Some.next.1 t.0 c.ask.new.self (t.1 _ _)

pub invariant_of-self-2 : goal.invariant_of-self-2
invariant_of-self-2 c =
    let t = tried_some _ _ _ c.in-Ok.asked c.in-Some.next c.in-Some.is c.in-Ok.ensures.asked in
    free.kept_traced _ _ _ c.self.inside.stopped c.self.inside.history c.self.inside.parts c.self.invariant c.args.self.now c.self.view_is _ c.push.new.self c.ask.new.self c.push.ensures (free.ask_kept _ _ _ c.self.inside.stopped c.self.inside.history c.self.inside.parts c.self.invariant c.args.self.now c.self.view_is c.args.engine c.requires.engine c.requires.room c.requires.free c.in-Some.next.0 c.in-Some.next.1 t.0 c.ask.new.self (t.1 _ _))

pub returns : goal.returns
returns c =
    let t = tried_some _ _ _ c.in-Ok.asked c.in-Some.next c.in-Some.is c.in-Ok.ensures.asked in
    free.line_traced _ _ _ c.self.inside.stopped c.self.inside.history c.self.inside.parts c.self.invariant c.args.self.now c.self.view_is (λ s. TurnsFree c.args.self.now s (Engine c.args.engine)) Went _ c.push.new.self c.push.ensures (free.ask_line _ _ _ c.self.inside.stopped c.self.inside.history c.self.inside.parts c.self.invariant c.args.self.now c.self.view_is c.args.engine c.requires.engine c.requires.room c.requires.free c.in-Some.next.0 c.in-Some.next.1 t.0 c.ask.new.self (t.1 _ _))
