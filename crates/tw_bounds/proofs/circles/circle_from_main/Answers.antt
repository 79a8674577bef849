use Rattle.tw_bounds.proofs.Names.{CallsEndless, Instr, List, Procedure, [], ap, arith, eqb, false, length, length-append, list_any, refl, slice_get_read, subst, sym, tasks_alone, true, ℕ, ◌+◌, ◌∙◌, ◌∷◌, ◌≡◌}
use Rattle.tw_bounds.proofs.Circling.{IsChain, any_turned, begun, below_program, called, comes_back, goes_on, no_more, some_endless}
use Rattle.tw_bounds.proofs.circles.circle_from_main.Goals as goal

pub loop-init : goal.loop-init
loop-init c = (
  subst (λ (chain : List ℕ). IsChain c.args.program.now c.args.bounds.now chain 0) (sym c.new-chain.ensures.items) (begun c.args.program.now tasks_alone c.args.bounds.now c.requires.reported c.requires.endless),
  ap length c.new-chain.ensures.items,
)

pub offset_bounds-program-procedure : goal.offset_bounds-program-procedure
offset_bounds-program-procedure c = let inside = below_program c.args.program.now tasks_alone c.args.bounds.now c.requires.reported c.loop.chain.items c.loop.procedure c.loop.invariant.0 in omega (arith, inside, c.well_formed)

pub bounds-program-procedure : goal.bounds-program-procedure
bounds-program-procedure c = below_program c.args.program.now tasks_alone c.args.bounds.now c.requires.reported c.loop.chain.items c.loop.procedure c.loop.invariant.0

pub unreachable-requires : goal.unreachable-requires
unreachable-requires c =
    let here = slice_get_read c.args.program.now _ c.loop.procedure c.index-program-procedure.result refl (below_program c.args.program.now tasks_alone c.args.bounds.now c.requires.reported c.loop.chain.items c.loop.procedure c.loop.invariant.0) c.index-program-procedure.is in
    let code : c.as_slice.result.now ≡ c.index-program-procedure.result.code = c.as_slice.ensures ∙ ap (λ (p : Procedure). p.code) (sym c.index-program-procedure.is) in
    some_endless c.args.program.now tasks_alone c.args.bounds.now c.requires.reported c.requires.boundable c.loop.procedure c.index-program-procedure.result here c.loop.invariant.0.endless_here
    (subst (λ (code : List Instr). (place q : ℕ) → CallsEndless c.args.bounds.now code place q → ⊥) code c.in_default.ensures)

pub returns-then-contains : goal.returns-then-contains
returns-then-contains c =
    let here = slice_get_read c.args.program.now _ c.loop.procedure c.index-program-procedure.result refl (below_program c.args.program.now tasks_alone c.args.bounds.now c.requires.reported c.loop.chain.items c.loop.procedure c.loop.invariant.0) c.index-program-procedure.is in
    let code : c.as_slice.result.now ≡ c.index-program-procedure.result.code = c.as_slice.ensures ∙ ap (λ (p : Procedure). p.code) (sym c.index-program-procedure.is) in
    let call = called c.args.program.now c.args.bounds.now c.loop.procedure c.index-program-procedure.result c.as_slice.result.now c.in-Some.place c.in-Some.next here code (c.in-Some.ensures {u = tt}) in
    let among = any_turned c.in-Some.next c.deref.result.now true (c.if-contains.ensures {u = tt}).value in
    comes_back c.args.program.now tasks_alone c.args.bounds.now c.requires.reported c.loop.chain.items c.loop.procedure c.in-Some.place c.in-Some.next c.loop.invariant.0 call.0 call.1
    (subst (λ (chain : List ℕ). list_any (eqb c.in-Some.next) chain ≡ true) (c.deref.ensures.value ∙ (c.in_ok-push.ensures {u = tt}).items) (sym among))

pub loop-preserved : goal.loop-preserved
loop-preserved c =
    let here = slice_get_read c.args.program.now _ c.loop.procedure c.index-program-procedure.result refl (below_program c.args.program.now tasks_alone c.args.bounds.now c.requires.reported c.loop.chain.items c.loop.procedure c.loop.invariant.0) c.index-program-procedure.is in
    let code : c.as_slice.result.now ≡ c.index-program-procedure.result.code = c.as_slice.ensures ∙ ap (λ (p : Procedure). p.code) (sym c.index-program-procedure.is) in
    let calls : CallsEndless c.args.bounds.now c.as_slice.result.now c.in-Some.place c.in-Some.next = c.in-Some.ensures {u = tt} in
    let call = called c.args.program.now c.args.bounds.now c.loop.procedure c.index-program-procedure.result c.as_slice.result.now c.in-Some.place c.in-Some.next here code calls in
    let among = any_turned c.in-Some.next c.deref.result.now false (c.if-contains.ensures {u = tt}).value in
    let items = (c.in_ok-push.ensures {u = tt}).items in
    let new = subst (λ (chain : List ℕ). list_any (eqb c.in-Some.next) chain ≡ false) (c.deref.ensures.value ∙ items) (sym among) in (
      subst (λ (chain : List ℕ). IsChain c.args.program.now c.args.bounds.now chain c.in-Some.next) (sym items) (goes_on c.args.program.now tasks_alone c.args.bounds.now c.requires.reported c.loop.chain.items c.loop.procedure c.in-Some.next c.loop.invariant.0 call.0 calls.3 new),
      ap length items ∙ length-append c.loop.chain.items (c.loop.procedure ∷ []) ∙ ap (λ (n : ℕ). n + 1) c.loop.invariant.1,
    )

pub unreachable-requires-2 : goal.unreachable-requires-2
unreachable-requires-2 c = no_more c.args.program.now tasks_alone c.args.bounds.now c.requires.reported c.loop.chain.items c.loop.procedure c.loop.invariant.0 (omega (arith, c.loop.invariant.1, c.loop-test.false, c.loop.auto.counter-end))
