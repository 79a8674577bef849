use Rattle.tw_source.proofs.NamePlaces.{IsSoFar}
use Rattle.tw_source.proofs.name_place.only_index.Given as goal

abbrev pub invariant-loop-index : goal.invariant-loop-index
invariant-loop-index l = IsSoFar l.line l.word l.index l.found
