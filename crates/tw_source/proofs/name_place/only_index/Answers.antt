use Rattle.std.proofs.Common.{◌≡◌, ◌+◌, length, arith, subst, sym, ◌∙◌}
use Rattle.tw_source.proofs.NamePlaces.{IsSoFar, all_seen, none_here, one_here, parted_nowhere, two_here}
use Rattle.tw_source.proofs.name_place.only_index.Goals as goal
use Rattle.tw_source.proofs.name_place.only_index.Goals.{then-is_at+else-is_some, else-is_at}

pub returns-then-is_parted : goal.returns-then-is_parted
returns-then-is_parted c = parted_nowhere c.args.line.now c.args.word.now (sym c.is_parted.ensures ∙ c.if-is_parted.true)

pub returns-then-is_some : goal.returns-then-is_some
returns-then-is_some c =
    two_here c.args.line.now c.args.word.now c.loop-index.index c.loop-index.found (sym c.is_some.ensures ∙ c.if-is_some.true) c.loop-index-test.true (sym c.is_at.ensures ∙ c.if-is_at.true) c.loop-index.invariant

pub loop-index-preserved : goal.loop-index-preserved
loop-index-preserved c =
    let line = c.args.line.now in
    let word = c.args.word.now in
    let i = c.loop-index.index in
    elim c.if-is_at.branch [
      | then-is_at+else-is_some w ↦ subst (IsSoFar line word (i + 1)) (sym w.found-is) (one_here line word i c.loop-index.found (sym w.is_some.ensures ∙ w.if-is_some.false) (sym c.is_at.ensures ∙ w.if-is_at.true) c.loop-index.invariant)
      | else-is_at w ↦ subst (IsSoFar line word (i + 1)) (sym w.found-is) (none_here line word i c.loop-index.found (sym c.is_at.ensures ∙ w.if-is_at.false) c.loop-index.invariant)
    ]

pub returns : goal.returns
returns c =
    let all : c.loop-index.index ≡ length c.args.line.now = omega arith in
    all_seen c.args.line.now c.args.word.now c.loop-index.index c.loop-index.found (sym c.is_parted.ensures ∙ c.if-is_parted.false) all c.loop-index.invariant
