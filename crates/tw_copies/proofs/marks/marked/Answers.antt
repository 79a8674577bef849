use Rattle.tw_copies.proofs.Names.{AllMet, Bool, List, SomeUnmet, ap, arith, length, subst, true, ◌∙◌}
use Rattle.tw_copies.proofs.Marked.{fewer, inside, length_set, still_copies}
use Rattle.tw_copies.proofs.marks.marked.Goals as goal

pub index_mut-requires : goal.index_mut-requires
index_mut-requires c =
    let found = subst (λ (marks : List Bool). SomeUnmet c.args.program.now marks c.in-Some.slot) c.deref.ensures.value c.in-Some.ensures in
    let low = inside c.args.program.now c.requires c.loop-slot.marks.items c.loop-slot.invariant.long c.in-Some.slot found in
    let same = ap length c.deref.ensures.value in
    let len = c.deref.ensures.len in
    omega (arith, low, same, len)

pub loop-slot-smaller : goal.loop-slot-smaller
loop-slot-smaller c =
    let found = subst (λ (marks : List Bool). SomeUnmet c.args.program.now marks c.in-Some.slot) c.deref.ensures.value c.in-Some.ensures in
    fewer c.args.program.now c.requires c.loop-slot.marks.items c.loop-slot.invariant.long c.in-Some.slot found

pub loop-slot-preserved : goal.loop-slot-preserved
loop-slot-preserved c =
    let found = subst (λ (marks : List Bool). SomeUnmet c.args.program.now marks c.in-Some.slot) c.deref.ensures.value c.in-Some.ensures in
    record {
      only = still_copies c.args.program.now c.requires c.loop-slot.marks.items c.loop-slot.invariant.long c.in-Some.slot found c.loop-slot.invariant.only;
      long = length_set c.loop-slot.marks.items c.in-Some.slot true ∙ c.loop-slot.invariant.long;
    }

pub returns-clause-met : goal.returns-clause-met
returns-clause-met c = subst (AllMet c.args.program.now) c.deref.ensures.value c.in_default.ensures
