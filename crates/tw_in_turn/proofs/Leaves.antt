-- A finished run, without its looks.
use Rattle.tw_in_turn.proofs.Names.{Bool, IsLeftBy, IsLeftIf, List, Option, PoolView, refl, true, ℕ}
use Rattle.tw_in_turn.specs.declared.run.EndedRun.{EndedRun}

pub left_if : (seed : Option ℕ) (first : PoolView) (answers : List Bool) (left : EndedRun) → IsLeftBy seed first answers left → IsLeftIf true seed first left
left_if seed first answers left (turns, count, many, is, after) = (turns, after, λ stopped. refl)
