use Rattle.tw_pool_state.proofs.PartNames.{Succeeds, ap, arith, nat_tests, subst, sym, with_done, ◌<◌, ◌≡◌}
use Rattle.tw_types.specs.declared.event.Event.TheVariants as event
use Rattle.tw_pool_state.proofs.Goings.{gone, leads, stayed}
use Rattle.tw_pool_state.proofs.parts.Parts.event_of.Goals as goal

pub returns-then-steps-eq0 : goal.returns-then-steps-eq0
returns-then-steps-eq0 c =
    let done = c.args.done.now in
    let none : done.steps ≡ 0 = grind (arith, nat_tests, c.steps-steps.ensures.is, c.if-steps-eq0.true) in
    (none, λ f owed. stayed done.before.program.program c.args.self.now c.args.actor f owed.is_running done (leads c.args.self.now c.args.actor f done owed c.steps-steps.ensures.done) none)

pub returns-else-steps-eq0 : goal.returns-else-steps-eq0
returns-else-steps-eq0 c =
    let done = c.args.done.now in
    let some : 0 < done.steps = grind (arith, nat_tests, c.steps-steps.ensures.is, c.if-steps-eq0.false) in (
      some,
      ap (event.Local c.args.actor) c.steps-steps.ensures.is,
      λ layout f owed notices h.
          subst (λ n. Succeeds done.before.program layout (event.Local c.args.actor n) c.args.self.now notices (with_done c.args.self.now c.args.actor f done)) (sym c.steps-steps.ensures.is)
          (gone done.before.program layout c.args.self.now notices h c.args.actor f owed.is_running done (leads c.args.self.now c.args.actor f done owed c.steps-steps.ensures.done) some),
    )
