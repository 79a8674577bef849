use Rattle.std.proofs.Common.{◌≡◌, ℕ, ◌+◌, Option, sym, subst, arith, length, Vec, Global}
use Rattle.tw_verify.specs.Loops.{AreFirsts}
use Rattle.tw_verify.proofs.Places.{loop_within, firsts_more, firsts_same}
use Rattle.tw_verify.proofs.loops.all_firsts.Goals as goal
use Rattle.tw_verify.proofs.loops.all_firsts.Goals.{in-Some, in_default}

pub loop-place-preserved : goal.loop-place-preserved
loop-place-preserved c =
    let code = c.args.code.now in
    let place = c.loop-place.place in
    elim c.match-end_of_begin.branch [
      | in-Some w ↦
          subst (λ (v : Vec (Option ℕ) Global). AreFirsts code v.items (place + 1)) (sym w.firsts-is)
          (firsts_more code c.loop-place.firsts.items place w.in-Some.end c.loop-place.invariant (c.end_of_begin.ensures.found w.in-Some.end w.in-Some.is))
      | in_default w ↦
          subst (λ (v : Vec (Option ℕ) Global). AreFirsts code v.items (place + 1)) (sym w.firsts-is)
          (firsts_same code c.loop-place.firsts.items place c.loop-place.invariant (λ end is. w.in_default.not-Some end (c.end_of_begin.ensures.all end is)))
    ]

pub index_mut-requires : goal.index_mut-requires
index_mut-requires c =
    let is = c.end_of_begin.ensures.found c.in-Some.end c.in-Some.is in
    omega (arith, (loop_within c.args.code.now (c.loop-place.place + 1) c.in-Some.end is).2, c.loop-place.invariant.long, c.loop-place.firsts.ok.0)

pub returns : goal.returns
returns c =
    let all : c.loop-place.place ≡ length c.args.code.now = omega arith in
    subst (λ (n : ℕ). AreFirsts c.args.code.now c.loop-place.firsts.items n) all c.loop-place.invariant
