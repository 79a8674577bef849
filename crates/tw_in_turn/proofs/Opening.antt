-- Before the first event no actor has anything to submit.
use Rattle.tw_in_turn.proofs.Names.{Actor, ActorCounts, Event, HasDone, Input, JobView, Keeps, List, None, Option, PoolView, Procedure, State, Went, [], actor_cmp, ap, get, get-empty, refl, same_went, subst, sym, ◌∙◌, ◌≡◌}
use Rattle.tw_code.specs.machine.Machine.{run}
use Rattle.tw_code.specs.machine.Opening.{opening, reached}
use Rattle.tw_in_turn.proofs.Moving.{issued_none}

nobody : (program : List Procedure) (inputs : List Input) (layout : ActorCounts) (s : State) (actor : Actor) → reached program inputs layout [] ≡ Went s → get s.frames actor ≡ None
unfolding run opening
nobody program inputs layout s actor e = ap (λ (t : State). get t.frames actor) (sym (same_went (opening program inputs) s e)) ∙ get-empty actor_cmp actor

pub keeps_nothing : (p : PoolView) → p.history ≡ [] → (actor : Actor) → Keeps p actor None
keeps_nothing p first actor = record {
  has = λ s at. subst (λ (o : Option JobView). HasDone o None) (sym (issued_none p s actor (nobody p.program.program p.inputs p.layout s actor (subst (λ (es : List Event). reached p.program.program p.inputs p.layout es ≡ Went s) first at)))) refl;
  program = tt;
}
