-- Whether a state is quiet.
use Rattle.std.proofs.Common.{◌≡◌, Bool, true, false, ◌&&◌, ◌==◌, refl, IsTrue, ◌↔◌}
use Rattle.tw_machine.proofs.Names.{Actor, BTreeMap, Frame, State, actor_cmp-IsAntisymmetric, actor_cmp_total, btree_map_len, frames_of, is_empty_view, len, with_frames}
use Rattle.std.specs.FinSet as set
use Rattle.tw_code.specs.machine.Ending.{has_idle_rules, is_quiet}

and_all : (a b c d : Bool) → (((a && b) && c) && d) ≡ (a && (b && (c && d)))
and_all true true c d = refl
and_all true false c d = refl
and_all false b c d = refl

module _ (s : State) (frames : BTreeMap Actor Frame) (f t n i : Bool) where
  pub quiet_is : IsTrue f ↔ (btree_map_len frames ≡ 0) → t ≡ (len s.tasks == 0) → n ≡ (set.len s.notices == 0) → i ≡ has_idle_rules s
      → (((f && t) && n) && i) ≡ is_quiet (with_frames s (frames_of frames.entries))
  quiet_is no_frame no_task no_notice are_idle =
      let e = is_empty_view actor_cmp_total actor_cmp-IsAntisymmetric f frames.entries no_frame in
      rw (e, ← no_task, ← no_notice, ← are_idle) (and_all f t n i)
