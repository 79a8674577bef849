-- The slots have memory for their tasks, whenever tasks start and end.
use Rattle.std.proofs.Common.{◌≡◌, ◌<◌, ◌∙◌, ℕ, Bool, true, false, nat_eq, List, length, length-set, Option, Some, None, is_some, get_or, set, refl, sym, ap, subst, arith}
use Rattle.tw_pool_state.proofs.PartNames.{Actor, ActorCounts, AreKept, AreTaskSlots, Arg, Engine, FrameView, HasSlot, IsSome, RunningView, Server, TaskOf, TasksOf, Worker, actor_of, best, best_found, get, get_or-set_other, get_or-set_same, is_in, nat_tests, slot_of, takes_tasks}
use Rattle.tw_pool_state.proofs.Runners.{actor_is, low_slot, seen_as, still_running}

abbrev RunningTasks : Type 0
RunningTasks = List (Option FrameView)

abbrev FrameBuffers : Type 0
FrameBuffers = List (Option (Unit {0}))

-- this slot, or another
by_slot : {P : Type 0} (j k : ℕ) → (j ≡ k → P) → ((j ≡ k → ⊥) → P) → P
by_slot {P} j k same other = by (nat_eq j k) refl
  where
    by : (t : Bool) → nat_eq j k ≡ t → P
    by true e = same (grind (arith, nat_tests, e))
    by false e = other (λ is. let yes : nat_eq j k ≡ true = grind (arith, nat_tests, is) in let t : true ≡ false = sym yes ∙ e in cc)

-- ---- the slot of an actor that takes a task

best_is_there : (layout : ActorCounts) (actor : Actor) (waiting : TasksOf Arg) (e : ℕ × TaskOf Arg) → best actor waiting ≡ Some e → is_in layout actor ≡ true → takes_tasks layout actor ≡ true
best_is_there layout (Engine number) waiting e due there = there
best_is_there layout (Server number) waiting e due there = let no : false ≡ true = (best_found (Server number) waiting e due).1 in cc
best_is_there layout (Worker number) waiting e due there = there

module _ (layout : ActorCounts) (running_tasks : RunningTasks) (frame_buffers : FrameBuffers) (kept : AreKept layout running_tasks frame_buffers) where
  pub room_there : (actor : Actor) → HasSlot actor → (waiting : TasksOf Arg) (e : ℕ × TaskOf Arg) → best actor waiting ≡ Some e → is_in layout actor ≡ true → (k : ℕ) → k ≡ slot_of actor → k < 24
      → get_or running_tasks k None ≡ None → IsSome (get_or frame_buffers k None)
  room_there actor h waiting e due there k here low empty =
      kept.there k low (ap (λ j. takes_tasks layout (actor_of j)) here ∙ ap (takes_tasks layout) (actor_is actor h) ∙ best_is_there layout actor waiting e due there) empty

  -- ---- one slot changes
  module _ (k : ℕ) (inside : k < 24) where
    changed_at : (new_tasks : RunningTasks) (new_buffers : FrameBuffers) → length new_buffers ≡ 24 → ((j : ℕ) → (j ≡ k → ⊥) → get_or new_tasks j None ≡ get_or running_tasks j None)
        → ((j : ℕ) → (j ≡ k → ⊥) → get_or new_buffers j None ≡ get_or frame_buffers j None) → (get_or new_tasks k None ≡ None → IsSome (get_or new_buffers k None)) → AreKept layout new_tasks new_buffers
    changed_at new_tasks new_buffers many tasks buffers own = record {
      many = many;
      there = λ j low takes empty. by_slot j k
          (λ same. subst (λ i. IsSome (get_or new_buffers i None)) (sym same) (own (subst (λ i. get_or new_tasks i None ≡ None) same empty)))
          (λ other. subst IsSome (sym (buffers j other)) (kept.there j low takes (sym (tasks j other) ∙ empty)));
    }

    buffers_set : (o : Option (Unit {0})) → length (set frame_buffers k o) ≡ 24
    buffers_set o = length-set frame_buffers k o ∙ kept.many

    room_inside : k < length frame_buffers
    room_inside = omega (arith, inside, kept.many)

    -- a task starts, and takes the memory
    pub kept_begun : (f : FrameView) → length running_tasks ≡ 24 → AreKept layout (set running_tasks k (Some f)) (set frame_buffers k None)
    kept_begun f long = changed_at (set running_tasks k (Some f)) (set frame_buffers k None) (buffers_set None)
        (λ j other. get_or-set_other running_tasks k j (Some f) None other) (λ j other. get_or-set_other frame_buffers k j None None other)
        (λ empty. let no : Some f ≡ None = sym (get_or-set_same running_tasks k (Some f) None (omega (arith, inside, long))) ∙ empty in cc)

    -- its task changes
    still_kept : (f : FrameView) → length running_tasks ≡ 24 → AreKept layout (set running_tasks k (Some f)) frame_buffers
    still_kept f long = changed_at (set running_tasks k (Some f)) frame_buffers kept.many
        (λ j other. get_or-set_other running_tasks k j (Some f) None other) (λ j other. refl)
        (λ empty. let no : Some f ≡ None = sym (get_or-set_same running_tasks k (Some f) None (omega (arith, inside, long))) ∙ empty in cc)

    -- a task that ends leaves its memory
    pub kept_ended : AreKept layout (set running_tasks k None) (set frame_buffers k (Some tt))
    kept_ended = changed_at (set running_tasks k None) (set frame_buffers k (Some tt)) (buffers_set (Some tt))
        (λ j other. get_or-set_other running_tasks k j None None other) (λ j other. get_or-set_other frame_buffers k j (Some tt) None other)
        (λ empty. ap is_some (get_or-set_same frame_buffers k (Some tt) None room_inside))

    -- memory that was taken is put there again
    pub kept_laid : AreKept layout running_tasks (set (set frame_buffers k None) k (Some tt))
    kept_laid = changed_at running_tasks (set (set frame_buffers k None) k (Some tt)) (length-set (set frame_buffers k None) k (Some tt) ∙ buffers_set None)
        (λ j other. refl) (λ j other. get_or-set_other (set frame_buffers k None) k j (Some tt) None other ∙ get_or-set_other frame_buffers k j None None other)
        (λ empty. ap is_some (get_or-set_same (set frame_buffers k None) k (Some tt) None (let long = buffers_set None in omega (arith, inside, long))))

-- the slots and their memory after an actor's task changes
pub slots_kept : {layout : ActorCounts} {running_tasks : RunningTasks} {frame_buffers : FrameBuffers} {taken : ℕ} → AreTaskSlots running_tasks taken × AreKept layout running_tasks frame_buffers
    → {view : RunningView} → seen_as layout running_tasks ≡ view → (a : Actor) → HasSlot a → {k : ℕ} → k ≡ slot_of a → {f : FrameView} → get view.tasks a ≡ Some f → (g : FrameView)
    → AreTaskSlots (set running_tasks k (Some g)) taken × AreKept layout (set running_tasks k (Some g)) frame_buffers
slots_kept {layout} {running_tasks} {frame_buffers} (slots, kept) same a h {k} here at g =
    (still_running slots same a h here at g, still_kept layout running_tasks frame_buffers kept k (omega (arith, here, low_slot a h)) g slots.many)
