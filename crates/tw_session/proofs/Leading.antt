-- Weakening: what awaits replies with a condition awaits replies with a weaker condition.
use Rattle.tw_session.proofs.SessionNames.{Awaits, Err, IfOk, IsFinishedBy, Ok, Prepared, Reply, Result, reply, subst, sym}
use Rattle.tw_session.specs.declared.programs.Prepared.TheVariants as left

pub awaits : {E : Type 0} (made : Result Prepared E) (P Q : Reply → Type 0) → ((r : Reply) → P r → Q r) → IfOk made (Awaits P) → IfOk made (Awaits Q)
awaits (Ok (left.Finished r)) P Q on h = on (reply r.text.items r.close) h
awaits (Ok (left.Run run)) P Q on h = (h.0, λ r is. on r (h.1 r is))
awaits (Ok (left.Lines source order input)) P Q on h = λ r is. on r (h r is)
awaits (Err e) P Q on h = tt

pub finished : {E : Type 0} (made : Result Prepared E) (P : Reply → Type 0) (is : Reply) → P is → IfOk made (IsFinishedBy is) → IfOk made (Awaits P)
finished (Ok (left.Finished r)) P is h same = subst P (sym same) h
finished (Ok (left.Run run)) P is h never = absurd never
finished (Ok (left.Lines source order input)) P is h never = absurd never
finished (Err e) P is h never = tt
