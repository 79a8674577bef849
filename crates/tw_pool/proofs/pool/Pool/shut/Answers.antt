use Rattle.tw_pool.proofs.Names.{HasState, PoolView, Served, State, ap, bare_rule, entries, erasure, map, mapped, pending_of, pending_with_data, state_of, subst, ◌∙◌, ◌≡◌}
use Rattle.tw_soundness.specs.EndsWell.{EndsWell}
use Rattle.tw_pool.proofs.Pendings.{pending_is}
use Rattle.tw_pool.proofs.Turning as turning
use Rattle.tw_pool.proofs.pool.Pool.shut.Goals as goal

pub returns-clause-left : goal.returns-clause-left
returns-clause-left c = record {
  state = state_of c.self.inside.parts c.self.invariant.notices;
  has_state = turning.at_here _ _ _ c.self.inside.stopped c.self.inside.history c.self.inside.parts c.self.invariant c.args.self c.self.view_is;
  left = record {
    store = ap (λ (s : Served). s.store) c.shut-remains.ensures.store;
    outputs = c.shut-remains.ensures.outputs;
    pending = ap (map pending_with_data) c.shut-remains.ensures.pending
        ∙ subst (λ (p : PoolView). map pending_with_data (map erasure (entries c.self.inside.parts.rules.rules)) ≡ map (pending_of p.program.program) (entries (mapped bare_rule c.self.inside.parts.rules.rules))) c.self.view_is
        (pending_is c.self.inside.verified.now.program c.self.inside.parts.store.places c.self.inside.parts.rules.rules c.self.invariant.parts.rights_fit.rules);
  };
  closing = c.closing-closing.ensures _ (turning.at_here _ _ _ c.self.inside.stopped c.self.inside.history c.self.inside.parts c.self.invariant c.args.self c.self.view_is);
  events = ap (λ (p : PoolView). p.history) c.self.view_is;
}

pub returns-clause-ends_well : goal.returns-clause-ends_well
returns-clause-ends_well c =
    subst (λ (p : PoolView). (s : State) → HasState p s → EndsWell p.program.program s) c.self.view_is (λ s has. c.ends_well.ensures _ _ _ s c.self.invariant.given has)
