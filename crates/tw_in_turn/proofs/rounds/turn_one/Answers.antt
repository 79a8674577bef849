use Rattle.tw_in_turn.proofs.Names.{Continues, ContinuesOrEnds, DoneView, IfSome, IsOutOfMemory, IsOwedBy, IsTurn, IsWorkOf, JobView, Keeps, None, Option, Some, arith, false, inl, inr, refl, rules, slice_get, subst, sym, true, ◌≡◌}
use Rattle.tw_in_turn.specs.declared.rounds.End.TheVariants.{NoMemory, Over, Stopped}
use Rattle.tw_in_turn.proofs.Cutting as cutting
use Rattle.tw_in_turn.proofs.Moving as moving
use Rattle.tw_in_turn.proofs.Watching as watching
use Rattle.tw_in_turn.proofs.rounds.turn_one.Goals as goal

pub turn_owed-requires-clause-owed : goal.turn_owed-requires-clause-owed
turn_owed-requires-clause-owed g c = subst (λ (o : Option DoneView). IfSome o (λ d. IsOwedBy c.args.pool.now c.args.actor d)) (sym c.take.ensures.value) (moving.owed_if c.args.pool.now c.args.actor c.args.kept.now c.requires.keeps.has)

pub returns-then-short-clause-turned : goal.returns-then-short-clause-turned
returns-then-short-clause-turned g c =
    let t = subst (λ (o : Option DoneView). IsTurn c.args.pool.now c.args.actor o c.turn_owed.result c.turn_owed.new.self) c.take.ensures.value c.turn_owed.ensures in
    let work : IsWorkOf c.in-Run.job true c.in-Ok.done = moving.work_of c.in-Run.job c.in-Ok.done true c.in-Ok.ensures.before (sym c.if-short.ensures) c.steps-steps.ensures.done in
    let comes : ContinuesOrEnds c.turn_owed.new.self c.args.actor c.turn_owed.result c.take.new.self (Some NoMemory) = subst IsOutOfMemory (sym c.in-Run.is) (c.in-Ok.done, work) in
    moving.turned_is c.args.pool.now c.turn_owed.new.self c.args.actor c.args.kept.now c.turn_owed.result t c.requires.keeps.has c.requires.may.within c.take.new.self (Some NoMemory) comes

pub returns-in-Run-clause-turned : goal.returns-in-Run-clause-turned
returns-in-Run-clause-turned g c =
    let t = subst (λ (o : Option DoneView). IsTurn c.args.pool.now c.args.actor o c.turn_owed.result c.turn_owed.new.self) c.take.ensures.value c.turn_owed.ensures in
    let work : IsWorkOf c.in-Run.job false c.in-Ok.done = moving.work_of c.in-Run.job c.in-Ok.done false c.in-Ok.ensures.before (sym c.if-short.ensures) c.steps-steps.ensures.done in
    let comes : ContinuesOrEnds c.turn_owed.new.self c.args.actor c.turn_owed.result (Some c.in-Ok.done) None = (subst Continues (sym c.in-Run.is) tt, moving.keeps_work c.args.pool.now c.turn_owed.new.self c.args.actor c.args.kept.now c.turn_owed.result t c.requires.keeps.has c.requires.keeps.program c.in-Run.job c.in-Ok.done c.in-Run.is work) in
    moving.turned_is c.args.pool.now c.turn_owed.new.self c.args.actor c.args.kept.now c.turn_owed.result t c.requires.keeps.has c.requires.may.within (Some c.in-Ok.done) None comes

pub returns-in-Err-clause-turned : goal.returns-in-Err-clause-turned
returns-in-Err-clause-turned g c =
    let t = subst (λ (o : Option DoneView). IsTurn c.args.pool.now c.args.actor o c.turn_owed.result c.turn_owed.new.self) c.take.ensures.value c.turn_owed.ensures in
    let steps = c.in-Err.cut.steps in
    let more = cutting.may_execute c.args.pool.now c.turn_owed.new.self c.args.actor c.args.kept.now c.turn_owed.result t c.requires.keeps.has c.in-Run.job c.in-Run.is steps c.in-Err.ensures.cut in
    let comes : ContinuesOrEnds c.turn_owed.new.self c.args.actor c.turn_owed.result c.take.new.self (Some (Stopped steps)) = (c.in-Run.job, c.in-Run.is, more) in
    moving.turned_is c.args.pool.now c.turn_owed.new.self c.args.actor c.args.kept.now c.turn_owed.result t c.requires.keeps.has c.requires.may.within c.take.new.self (Some (Stopped steps)) comes

pub returns-in-Ended-clause-turned : goal.returns-in-Ended-clause-turned
returns-in-Ended-clause-turned g c =
    let t = subst (λ (o : Option DoneView). IsTurn c.args.pool.now c.args.actor o c.turn_owed.result c.turn_owed.new.self) c.take.ensures.value c.turn_owed.ensures in
    let rests = moving.rests_of c.turn_owed.result c.in-Ended.is in
    let keeps = subst (λ (o : Option DoneView). Keeps c.turn_owed.new.self c.args.actor o) (sym c.take.ensures.after) (moving.keeps_none c.args.pool.now c.turn_owed.new.self c.args.actor c.args.kept.now c.turn_owed.result t c.requires.keeps.has rests) in
    let comes : ContinuesOrEnds c.turn_owed.new.self c.args.actor c.turn_owed.result c.take.new.self None = (moving.goes_on c.turn_owed.result rests, keeps) in
    moving.turned_is c.args.pool.now c.turn_owed.new.self c.args.actor c.args.kept.now c.turn_owed.result t c.requires.keeps.has c.requires.may.within c.take.new.self None comes

pub returns-in-Over-clause-turned : goal.returns-in-Over-clause-turned
returns-in-Over-clause-turned g c =
    let t = subst (λ (o : Option DoneView). IsTurn c.args.pool.now c.args.actor o c.turn_owed.result c.turn_owed.new.self) c.take.ensures.value c.turn_owed.ensures in
    let comes : ContinuesOrEnds c.turn_owed.new.self c.args.actor c.turn_owed.result c.take.new.self (Some Over) = search rules in
    moving.turned_is c.args.pool.now c.turn_owed.new.self c.args.actor c.args.kept.now c.turn_owed.result t c.requires.keeps.has c.requires.may.within c.take.new.self (Some Over) comes

pub returns-in-NoMemory-clause-turned : goal.returns-in-NoMemory-clause-turned
returns-in-NoMemory-clause-turned g c =
    let t = subst (λ (o : Option DoneView). IsTurn c.args.pool.now c.args.actor o c.turn_owed.result c.turn_owed.new.self) c.take.ensures.value c.turn_owed.ensures in
    let comes : ContinuesOrEnds c.turn_owed.new.self c.args.actor c.turn_owed.result c.take.new.self (Some NoMemory) = search rules in
    moving.turned_is c.args.pool.now c.turn_owed.new.self c.args.actor c.args.kept.now c.turn_owed.result t c.requires.keeps.has c.requires.may.within c.take.new.self (Some NoMemory) comes

pub unreachable-requires : goal.unreachable-requires
unreachable-requires g c =
    let t = subst (λ (o : Option DoneView). IsTurn c.args.pool.now c.args.actor o c.turn_owed.result c.turn_owed.new.self) c.take.ensures.value c.turn_owed.ensures in
    elim c.in-Foreign.is [
      | inl h ↦ moving.never_foreign c.args.pool.now c.turn_owed.new.self c.args.actor c.args.kept.now c.turn_owed.result t c.requires.keeps.has h.0 h.1
      | inr h ↦ moving.never_owed c.args.pool.now c.turn_owed.new.self c.args.actor c.args.kept.now c.turn_owed.result t c.requires.keeps.has h
    ]

-- ---- looks

pub returns-then-short-clause-watched : goal.returns-then-short-clause-watched
returns-then-short-clause-watched g c =
    let t = subst (λ (o : Option DoneView). IsTurn c.args.pool.now c.args.actor o c.turn_owed.result c.turn_owed.new.self) c.take.ensures.value c.turn_owed.ensures in
    let more = watching.in_step c.args.pool.now c.turn_owed.new.self c.args.actor c.args.kept.now c.turn_owed.result t in
    let law = c.steps-steps.ensures.done in
    let seen = c.in-Ok.ensures.seen law.p (subst (λ (j : JobView). slice_get j.program.program j.procedure ≡ Some law.p) c.in-Ok.ensures.before law.here) in
    (seen.count, seen.looked, watching.kept_none c.args.pool.now c.turn_owed.new.self c.args.kept.now c.take.new.self seen.count more c.take.ensures.after)

pub returns-in-Err-clause-watched : goal.returns-in-Err-clause-watched
returns-in-Err-clause-watched g c =
    let t = subst (λ (o : Option DoneView). IsTurn c.args.pool.now c.args.actor o c.turn_owed.result c.turn_owed.new.self) c.take.ensures.value c.turn_owed.ensures in
    let more = watching.in_step c.args.pool.now c.turn_owed.new.self c.args.actor c.args.kept.now c.turn_owed.result t in
    let seen = c.in-Err.ensures.seen c.in-Err.ensures.cut.p c.in-Err.ensures.cut.here in
    (seen.count, seen.looked, watching.kept_none c.args.pool.now c.turn_owed.new.self c.args.kept.now c.take.new.self seen.count more c.take.ensures.after)

pub returns-in-Run-clause-watched : goal.returns-in-Run-clause-watched
returns-in-Run-clause-watched g c =
    let t = subst (λ (o : Option DoneView). IsTurn c.args.pool.now c.args.actor o c.turn_owed.result c.turn_owed.new.self) c.take.ensures.value c.turn_owed.ensures in
    let more = watching.in_step c.args.pool.now c.turn_owed.new.self c.args.actor c.args.kept.now c.turn_owed.result t in
    let law = c.steps-steps.ensures.done in
    let seen = c.in-Ok.ensures.seen law.p (subst (λ (j : JobView). slice_get j.program.program j.procedure ≡ Some law.p) c.in-Ok.ensures.before law.here) in
    let mine = watching.owed_by _ c.in-Ok.done seen.count seen.few in
    (seen.count, seen.looked, omega (arith, more, mine))

pub returns-in-Ended-clause-watched : goal.returns-in-Ended-clause-watched
returns-in-Ended-clause-watched g c =
    let t = subst (λ (o : Option DoneView). IsTurn c.args.pool.now c.args.actor o c.turn_owed.result c.turn_owed.new.self) c.take.ensures.value c.turn_owed.ensures in
    let more = watching.in_step c.args.pool.now c.turn_owed.new.self c.args.actor c.args.kept.now c.turn_owed.result t in
    (0, refl, watching.kept_none c.args.pool.now c.turn_owed.new.self c.args.kept.now c.take.new.self 0 more c.take.ensures.after)

pub returns-in-Over-clause-watched : goal.returns-in-Over-clause-watched
returns-in-Over-clause-watched g c =
    let t = subst (λ (o : Option DoneView). IsTurn c.args.pool.now c.args.actor o c.turn_owed.result c.turn_owed.new.self) c.take.ensures.value c.turn_owed.ensures in
    let more = watching.in_step c.args.pool.now c.turn_owed.new.self c.args.actor c.args.kept.now c.turn_owed.result t in
    (0, refl, watching.kept_none c.args.pool.now c.turn_owed.new.self c.args.kept.now c.take.new.self 0 more c.take.ensures.after)

pub returns-in-NoMemory-clause-watched : goal.returns-in-NoMemory-clause-watched
returns-in-NoMemory-clause-watched g c =
    let t = subst (λ (o : Option DoneView). IsTurn c.args.pool.now c.args.actor o c.turn_owed.result c.turn_owed.new.self) c.take.ensures.value c.turn_owed.ensures in
    let more = watching.in_step c.args.pool.now c.turn_owed.new.self c.args.actor c.args.kept.now c.turn_owed.result t in
    (0, refl, watching.kept_none c.args.pool.now c.turn_owed.new.self c.args.kept.now c.take.new.self 0 more c.take.ensures.after)
