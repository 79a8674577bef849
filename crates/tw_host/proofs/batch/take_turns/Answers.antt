use Rattle.tw_host.proofs.Names.{IsDoneOf, IsTurn, PoolView, Turn, TypedProgram, [], ap, arith, is_in, length-append, refl, subst, sym, ◌++◌, ◌∙◌, ◌∷◌}
use Rattle.tw_host.proofs.Holding as holding
use Rattle.tw_host.proofs.batch.take_turns.Goals as goal

pub loop-made-init : goal.loop-made-init
loop-made-init c =
    let a = holding.one c.args.pool.now c.turn-answer.new.self c.args.actor c.args.given c.turn-answer.result c.turn-answer.ensures c.requires.program in
    record {
      actor = ap (λ (x : PoolView). is_in x.layout c.args.actor) a.appended ∙ c.requires.actor;
      before = c.args.pool.now;
      had = c.args.given;
      program = c.requires.program;
      last = c.turn-answer.ensures;
      so_far = ([], refl, λ rest answer new are. are);
    }

pub turn_owed-answer-requires-clause-owed : goal.turn_owed-answer-requires-clause-owed
turn_owed-answer-requires-clause-owed c =
    let inv = c.loop-made.invariant in
    holding.next_owed inv.before c.loop-made.pool c.args.actor inv.had c.loop-made.answer c.in-Ok.next inv.last inv.program c.in-Ok.ensures.on

pub turn_owed-answer-requires-clause-program : goal.turn_owed-answer-requires-clause-program
turn_owed-answer-requires-clause-program c =
    let inv = c.loop-made.invariant in
    let a = holding.one inv.before c.loop-made.pool c.args.actor inv.had c.loop-made.answer inv.last inv.program in
    subst (λ (program : TypedProgram). IsDoneOf program c.in-Ok.next) (sym (ap (λ (x : PoolView). x.program) a.appended)) (holding.next_done inv.before.program c.loop-made.answer c.in-Ok.next a.answers c.in-Ok.ensures.on)

pub loop-made-preserved : goal.loop-made-preserved
loop-made-preserved c =
    let inv = c.loop-made.invariant in
    let p = c.loop-made.pool in
    let q = c.turn_owed-answer.new.self in
    let next = c.in-Ok.next in
    let goes = c.in-Ok.ensures.on in
    let a = holding.one inv.before p c.args.actor inv.had c.loop-made.answer inv.last inv.program in
    let program = subst (λ (program : TypedProgram). IsDoneOf program next) (sym (ap (λ (x : PoolView). x.program) a.appended)) (holding.next_done inv.before.program c.loop-made.answer next a.answers goes) in
    let b = holding.one p q c.args.actor next c.turn_owed-answer.result c.turn_owed-answer.ensures program in
    let so_far = inv.so_far in
    record {
      actor = ap (λ (x : PoolView). is_in x.layout c.args.actor) b.appended ∙ inv.actor;
      before = p;
      had = next;
      program = program;
      last = c.turn_owed-answer.ensures;
      so_far = (so_far.0 ++ c.loop-made.answer ∷ [], omega (arith, so_far.1, length-append so_far.0 (c.loop-made.answer ∷ [])), holding.on c.args.pool.now c.args.actor c.args.given inv.before inv.had so_far.0 so_far.2 c.loop-made.answer next p inv.last goes);
    }

pub returns-in-Err : goal.returns-in-Err
returns-in-Err c =
    let inv = c.loop-made.invariant in
    let back = subst (λ (answer : Turn). IsTurn inv.before c.args.actor inv.had answer c.loop-made.pool) (sym c.in-Err.ensures.back) inv.last in
    holding.last c.args.pool.now c.args.actor c.args.given inv.before inv.had inv.so_far.0 inv.so_far.2 c.args.most c.in-Err.last c.loop-made.pool back (omega (arith, inv.so_far.1, c.loop-made-test.true))

pub returns-then-has_ended : goal.returns-then-has_ended
returns-then-has_ended c =
    let inv = c.loop-made.invariant in
    holding.last c.args.pool.now c.args.actor c.args.given inv.before inv.had inv.so_far.0 inv.so_far.2 c.args.most c.loop-made.answer c.loop-made.pool inv.last (omega (arith, inv.so_far.1, c.loop-made-test.true))

pub returns : goal.returns
returns c =
    let inv = c.loop-made.invariant in
    holding.last c.args.pool.now c.args.actor c.args.given inv.before inv.had inv.so_far.0 inv.so_far.2 c.args.most c.loop-made.answer c.loop-made.pool inv.last (omega (arith, inv.so_far.1, c.loop-made-test.false, c.requires.some))
