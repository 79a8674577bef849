-- For a text that can't be assembled its first fault is returned.
use Rattle.tw_asm.proofs.AsmNames.{AreNotRead, AsmFault, FirstUnlinked, HasSections, IsFirstFault, IsMemory, List, Section, Version, flat_map, inl, inr, section_goals, ℕ, ◌⊎◌}
use Rattle.tw_asm.specs.Answers.{IsFault}
use Rattle.tw_asm.proofs.FirstGoals.{first_goal_fault}
use Rattle.tw_asm.proofs.Linked.{found_last}
use Rattle.tw_asm.proofs.Unspelled.{fault_none}

pub as_fault : (text : List ℕ) (f : AsmFault) → IsMemory f ⊎ IsFirstFault text f.no f.line f.found → IsFault text f.no f.line f.found
as_fault text f (inl m) = inl m
as_fault text f (inr x) = inr (record { first = x; none = λ program s. fault_none text f.no f.line f.found program x s })

pub not_read : (text : List ℕ) (f : AsmFault) → AreNotRead text f → IsFault text f.no f.line f.found
not_read text f (inl m) = as_fault text f (inl m)
not_read text f (inr (inl l)) = as_fault text f (inr (inl l))
not_read text f (inr (inr e)) = as_fault text f (inr (inr (e.0, inl e.1)))

pub not_linked : (text : List ℕ) (version : Version) (all : List Section) (f : AsmFault) → HasSections text version all → IsMemory f ⊎ FirstUnlinked (flat_map section_goals all) f → IsFault text f.no f.line f.found
not_linked text version all f h (inl m) = as_fault text f (inl m)
not_linked text version all f h (inr u) = as_fault text f (inr (inr (found_last (flat_map section_goals all) f u, inr (first_goal_fault text version all f h u))))
