use Rattle.std.proofs.Common.{◌≡◌, ◌∙◌, sym, ap, refl, true, false}
use Rattle.tw_pool.proofs.Turning as turning
use Rattle.tw_pool.proofs.pool.Pool.submit.Goals as goal

pub returns-in_default : goal.returns-in_default
returns-in_default c =
    turning.stray_line _ _ _ c.self.inside.stopped c.self.inside.history c.self.inside.parts c.self.invariant c.args.self.now c.self.view_is c.args.actor c.args.done
    (turning.is_free _ _ _ c.self.inside.stopped c.self.inside.history c.self.inside.parts c.self.invariant c.args.self.now c.self.view_is c.args.actor (sym c.in_default.ensures))

pub is_current-requires : goal.is_current-requires
is_current-requires c = ap (λ j. j.program) c.before-2.ensures ∙ c.requires.program ∙ turning.program_is _ _ _ c.self.inside.stopped c.self.inside.history c.self.inside.parts c.self.invariant c.args.self.now c.self.view_is c.args.actor c.in-Some.frame.now (sym c.in-Some.ensures)

pub returns-then-not-is_current : goal.returns-then-not-is_current
returns-then-not-is_current c = turning.foreign_line _ _ _ c.self.inside.stopped c.self.inside.history c.self.inside.parts c.self.invariant c.args.self.now c.self.view_is c.args.actor c.in-Some.frame.now (sym c.in-Some.ensures) c.args.done (λ own. let no : false ≡ true = c.if-not-is_current.ensures.1 (c.before-2.ensures ∙ own) in cc)

pub complete-requires-clause-owed : goal.complete-requires-clause-owed
complete-requires-clause-owed c = turning.is_owed _ _ _ c.self.inside.stopped c.self.inside.history c.self.inside.parts c.self.invariant c.args.self.now c.self.view_is c.args.actor c.in-Some.frame.now (sym c.in-Some.ensures) c.args.done (sym c.before-2.ensures ∙ c.if-not-is_current.ensures.0 refl)
