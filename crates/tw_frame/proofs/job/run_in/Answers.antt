use Rattle.tw_frame.proofs.Names.{Context, HasText, Instr, IsReached, IsSeen, IsSeenCut, List, Position, Scalar, ap, arith, has_slow, length, position_at, position_of, subst, sym, ◌<◌, ◌∙◌}
use Rattle.tw_frame.proofs.Lending.{done_before, done_run, found_slow, known, ready, short_before, there}
use Rattle.tw_frame.proofs.Pacing.{nothing, unseen}
use Rattle.tw_frame.proofs.Running.{is_below}
use Rattle.tw_frame.proofs.job.run_in.Goals as goal

pub offset_bounds-as_slice-at : goal.offset_bounds-as_slice-at
offset_bounds-as_slice-at g c =
    let k = known c.args.verified.now c.args.procedure c.args.at.now.registers.types (position_of c.args.at.now) c.requires c.procedure_of-p.result.now c.procedure_of-p.ensures.is c.procedure_of-p.ensures.accepted in
    omega (arith, k.place_in, k.few_places)

pub bounds-as_slice-at : goal.bounds-as_slice-at
bounds-as_slice-at g c =
    let k = known c.args.verified.now c.args.procedure c.args.at.now.registers.types (position_of c.args.at.now) c.requires c.procedure_of-p.result.now c.procedure_of-p.ensures.is c.procedure_of-p.ensures.accepted in
    subst (λ (code : List Instr). c.args.at.now.place < length code) (sym c.as_slice.ensures) k.place_in

pub returns-then-not-is_local-clause-run : goal.returns-then-not-is_local-clause-run
returns-then-not-is_local-clause-run g c =
    let k = known c.args.verified.now c.args.procedure c.args.at.now.registers.types (position_of c.args.at.now) c.requires c.procedure_of-p.result.now c.procedure_of-p.ensures.is c.procedure_of-p.ensures.accepted in
    done_before c.args.verified.now c.args.procedure c.args.at.now.registers.types (position_of c.args.at.now) c.procedure_of-p.result.now k c.index-as_slice-at.result (there c.args.verified.now c.args.procedure c.args.at.now.registers.types (position_of c.args.at.now) c.procedure_of-p.result.now k c.as_slice.result.now c.index-as_slice-at.result c.as_slice.ensures c.index-as_slice-at.is) (sym c.is_local.ensures ∙ c.if-not-is_local.true)

pub returns-in_default-clause-run : goal.returns-in_default-clause-run
returns-in_default-clause-run g c =
    let k = known c.args.verified.now c.args.procedure c.args.at.now.registers.types (position_of c.args.at.now) c.requires c.procedure_of-p.result.now c.procedure_of-p.ensures.is c.procedure_of-p.ensures.accepted in
    short_before c.args.verified.now c.args.procedure c.args.at.now.registers.types (position_of c.args.at.now) c.procedure_of-p.result.now k c.index-as_slice-at.result (there c.args.verified.now c.args.procedure c.args.at.now.registers.types (position_of c.args.at.now) c.procedure_of-p.result.now k c.as_slice.result.now c.index-as_slice-at.result c.as_slice.ensures c.index-as_slice-at.is) (sym c.is_local.ensures ∙ c.if-not-is_local.false) c.in_default.ensures.texts

pub quick-requires : goal.quick-requires
quick-requires g c =
    let k = known c.args.verified.now c.args.procedure c.args.at.now.registers.types (position_of c.args.at.now) c.requires c.procedure_of-p.result.now c.procedure_of-p.ensures.is c.procedure_of-p.ensures.accepted in
    omega (arith, c.from-procedure.ensures, k.in_program)

pub budget-requires : goal.budget-requires
budget-requires g c =
    let k = known c.args.verified.now c.args.procedure c.args.at.now.registers.types (position_of c.args.at.now) c.requires c.procedure_of-p.result.now c.procedure_of-p.ensures.is c.procedure_of-p.ensures.accepted in
    omega (arith, c.from-procedure.ensures, k.in_program)

pub run_watched-watched-requires-clause-ready : goal.run_watched-watched-requires-clause-ready
run_watched-watched-requires-clause-ready g c =
    let k = known c.args.verified.now c.args.procedure c.args.at.now.registers.types (position_of c.args.at.now) c.requires c.procedure_of-p.result.now c.procedure_of-p.ensures.is c.procedure_of-p.ensures.accepted in
    ready c.args.verified.now c.args.procedure c.args.at.now.registers.types (position_of c.args.at.now) c.procedure_of-p.result.now k c.from-procedure.result c.from-procedure.ensures c.quick.result.now c.budget.result c.quick.ensures c.budget.ensures.is

pub run_watched-watched-requires-clause-typed : goal.run_watched-watched-requires-clause-typed
run_watched-watched-requires-clause-typed g c =
    let k = known c.args.verified.now c.args.procedure c.args.at.now.registers.types (position_of c.args.at.now) c.requires c.procedure_of-p.result.now c.procedure_of-p.ensures.is c.procedure_of-p.ensures.accepted in
    ap (λ (x : Context). x.registers.types) c.in-Ok.ensures.copy ∙ k.typed

pub run_watched-watched-requires-clause-fits_place : goal.run_watched-watched-requires-clause-fits_place
run_watched-watched-requires-clause-fits_place g c =
    let k = known c.args.verified.now c.args.procedure c.args.at.now.registers.types (position_of c.args.at.now) c.requires c.procedure_of-p.result.now c.procedure_of-p.ensures.is c.procedure_of-p.ensures.accepted in
    rw c.in-Ok.ensures.copy k.fits_place

pub returns-in_default-copy_from-clause-run : goal.returns-in_default-copy_from-clause-run
returns-in_default-copy_from-clause-run g c =
    let k = known c.args.verified.now c.args.procedure c.args.at.now.registers.types (position_of c.args.at.now) c.requires c.procedure_of-p.result.now c.procedure_of-p.ensures.is c.procedure_of-p.ensures.accepted in
    short_before c.args.verified.now c.args.procedure c.args.at.now.registers.types (position_of c.args.at.now) c.procedure_of-p.result.now k c.index-as_slice-at.result (there c.args.verified.now c.args.procedure c.args.at.now.registers.types (position_of c.args.at.now) c.procedure_of-p.result.now k c.as_slice.result.now c.index-as_slice-at.result c.as_slice.ensures c.index-as_slice-at.is) (sym c.is_local.ensures ∙ c.if-not-is_local.false)
    (subst (λ (ts : List Scalar). HasText ts) (c.run_watched-watched.ensures.typed ∙ sym k.typed) c.in_default-copy_from.ensures.texts)

pub returns-clause-run : goal.returns-clause-run
returns-clause-run g c =
    let k = known c.args.verified.now c.args.procedure c.args.at.now.registers.types (position_of c.args.at.now) c.requires c.procedure_of-p.result.now c.procedure_of-p.ensures.is c.procedure_of-p.ensures.accepted in
    let came : Position = position_at c.in-Ok-watched.loop_exit.place c.run_watched-watched.new.registers c.run_watched-watched.new.loops in
    let reached : IsReached c.procedure_of-p.result.now (position_of c.args.at.now) c.in-Ok-watched.loop_exit.steps came =
    subst (λ (x : Context). IsReached c.procedure_of-p.result.now (position_at c.args.at.now.place x.registers x.loops) c.in-Ok-watched.loop_exit.steps came) c.in-Ok.ensures.copy c.in-Ok-watched.ensures.reached in
    let below = is_below c.procedure_of-p.result.now c.quick.result.now c.budget.result (ready c.args.verified.now c.args.procedure c.args.at.now.registers.types (position_of c.args.at.now) c.procedure_of-p.result.now k c.from-procedure.result c.from-procedure.ensures c.quick.result.now c.budget.result c.quick.ensures c.budget.ensures.is) (position_of c.args.at.now) c.in-Ok-watched.loop_exit.steps came reached in (
      record {
        p = c.procedure_of-p.result.now;
        here = k.here;
        reached = reached;
        stops = c.in-Ok-watched.ensures.stops;
        few = omega (arith, below, c.budget.ensures.within);
      },
      λ q there. record {
        typed = c.run_watched-watched.ensures.typed ∙ done_run c.args.verified.now c.args.procedure c.args.at.now.registers.types (position_of c.args.at.now) c.procedure_of-p.result.now k q there;
        same = ap (λ (x : Context). x.registers) c.in-Ok-copy_from.ensures.copy;
      },
    )

pub returns-in-Err-clause-cut : goal.returns-in-Err-clause-cut
returns-in-Err-clause-cut g c =
    let k = known c.args.verified.now c.args.procedure c.args.at.now.registers.types (position_of c.args.at.now) c.requires c.procedure_of-p.result.now c.procedure_of-p.ensures.is c.procedure_of-p.ensures.accepted in
    let came = c.in-Err.ensures.cut in
    let steps = c.in-Err.cut.steps in
    let reached : IsReached c.procedure_of-p.result.now (position_of c.args.at.now) steps came.0 =
    subst (λ (x : Context). IsReached c.procedure_of-p.result.now (position_at c.args.at.now.place x.registers x.loops) steps came.0) c.in-Ok.ensures.copy came.1 in
    let below = is_below c.procedure_of-p.result.now c.quick.result.now c.budget.result (ready c.args.verified.now c.args.procedure c.args.at.now.registers.types (position_of c.args.at.now) c.procedure_of-p.result.now k c.from-procedure.result c.from-procedure.ensures c.quick.result.now c.budget.result c.quick.ensures c.budget.ensures.is) (position_of c.args.at.now) steps came.0 reached in
    record { p = c.procedure_of-p.result.now; here = k.here; at = came.0; reached = reached; few = omega (arith, below, c.budget.ensures.within) }

pub has_slow-requires : goal.has_slow-requires
has_slow-requires g c =
    let k = known c.args.verified.now c.args.procedure c.args.at.now.registers.types (position_of c.args.at.now) c.requires c.procedure_of-p.result.now c.procedure_of-p.ensures.is c.procedure_of-p.ensures.accepted in
    omega (arith, c.from-procedure.ensures, k.in_program)

pub returns-then-not-is_local-clause-seen : goal.returns-then-not-is_local-clause-seen
returns-then-not-is_local-clause-seen g c = λ p here. unseen g.S.StopSignal.says (has_slow p.code) c.args.stop.now

pub returns-in_default-clause-seen : goal.returns-in_default-clause-seen
returns-in_default-clause-seen g c = λ p here. unseen g.S.StopSignal.says (has_slow p.code) c.args.stop.now

pub returns-in_default-copy_from-clause-seen : goal.returns-in_default-copy_from-clause-seen
returns-in_default-copy_from-clause-seen g c = λ p here.
    let is = found_slow c.args.verified.now c.args.procedure p here c.from-procedure.result c.from-procedure.ensures c.has_slow.result c.has_slow.ensures in
    nothing g.S.StopSignal.says (has_slow p.code) c.args.stop.now c.run_watched-watched.new.stop c.in-Ok-watched.loop_exit.steps
    (subst (λ b. IsSeen b g.S.StopSignal.says c.args.stop.now c.run_watched-watched.new.stop c.in-Ok-watched.loop_exit.steps) is c.in-Ok-watched.ensures.seen)

pub returns-clause-seen : goal.returns-clause-seen
returns-clause-seen g c = λ p here.
    let is = found_slow c.args.verified.now c.args.procedure p here c.from-procedure.result c.from-procedure.ensures c.has_slow.result c.has_slow.ensures in
    subst (λ b. IsSeen b g.S.StopSignal.says c.args.stop.now c.run_watched-watched.new.stop c.in-Ok-watched.loop_exit.steps) is c.in-Ok-watched.ensures.seen

pub returns-in-Err-clause-seen : goal.returns-in-Err-clause-seen
returns-in-Err-clause-seen g c = λ p here.
    let is = found_slow c.args.verified.now c.args.procedure p here c.from-procedure.result c.from-procedure.ensures c.has_slow.result c.has_slow.ensures in
    subst (λ b. IsSeenCut b g.S.StopSignal.says c.args.stop.now c.run_watched-watched.new.stop c.in-Err.cut.steps) is c.in-Err.ensures.seen
