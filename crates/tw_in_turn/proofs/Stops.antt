-- The end of a run, at its last look.
use Rattle.tw_in_turn.proofs.Names.{Continues, End, Ends, EndsAfter, IsAfter, IsReachedAfter, Option, PoolView, subst, suc, sym, ℕ}
use Rattle.tw_in_turn.specs.declared.rounds.End.TheVariants.{Over, NoMemory, Stopped}
use Rattle.tw_in_turn.proofs.Watching.{with_last}

pub ends_after : (seed : Option ℕ) (first : PoolView) (turns : ℕ) (end : End) (p : PoolView) → IsReachedAfter seed first turns (Ends end p) p → EndsAfter seed first (with_last end turns) end p
ends_after seed first turns Over p comes = comes
ends_after seed first turns NoMemory p comes = comes
ends_after seed first turns (Stopped cut) p (c, count) =
    let on : Continues c.answer = subst Continues (sym c.is.1) tt in
    (subst (λ n. IsAfter seed first (suc n) p) count (c.before, c.actor, c.answer, c.after, c.next, c.last, on), c.is.2)
