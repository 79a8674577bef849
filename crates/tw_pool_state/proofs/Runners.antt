-- The slots, seen as a finite map by actors.
use Rattle.std.proofs.Common.{◌≡◌, ◌≢◌, ◌<◌, ◌≤◌, ◌+◌, ◌-◌, ℕ, zero, suc, Bool, true, false, cond, nat_lt, if◌then◌else◌, List, [], ◌∷◌, length, Option, Some, None, is_some, count_by, length-set, refl, sym, ap, subst, ◌∙◌, get_or, set, arith}
use Rattle.tw_pool_state.proofs.PartNames.{Actor, ActorCounts, AreTaskSlots, Engine, Equal-is, FinMap, FrameView, HasSlot, RunningView, Server, TasksByActor, Worker, actor_cmp, actor_cmp-IsAntisymmetric, actor_cmp_total, actor_of, by_actor, by_actor_from, eq_by_cmp, find, from_entries, get, get-from_entries, get-insert, get-remove, get_or-set_other, get_or-set_same, insert, len, len-empty, len-insert, nat_tests, other_key, own_key, remove, same_map, slot_of, with_running}
use Rattle.std.proofs.lemmas.List.Sums.{sum_by-cons}

abbrev RunningTasks : Type 0
RunningTasks = List (Option FrameView)

pub slot_is : (n : ℕ) → slot_of (actor_of n) ≡ n
slot_is n = by (nat_lt n 4) (nat_lt n 8) refl refl
  where
    by : (a b : Bool) → nat_lt n 4 ≡ a → nat_lt n 8 ≡ b → slot_of (if a then Engine n else (if b then Server (n - 4) else Worker (n - 8))) ≡ n
    by true b e f = refl
    by false true e f = grind (arith, nat_tests)
    by false false e f = grind (arith, nat_tests)

pub actor_is : (a : Actor) → HasSlot a → actor_of (slot_of a) ≡ a
actor_is (Engine n) h = let low : nat_lt n 4 ≡ true = grind (arith, nat_tests) in rw low refl
actor_is (Server n) h =
    let low : nat_lt (4 + n) 4 ≡ false = grind (arith, nat_tests) in
    let high : nat_lt (4 + n) 8 ≡ true = grind (arith, nat_tests) in
    let same : 4 + n - 4 ≡ n = omega arith in
    rw (low, high) (ap Server same)
actor_is (Worker n) h =
    let low : nat_lt (8 + n) 4 ≡ false = grind (arith, nat_tests) in
    let high : nat_lt (8 + n) 8 ≡ false = grind (arith, nat_tests) in
    let same : 8 + n - 8 ≡ n = omega arith in
    rw (low, high) (ap Worker same)

pub low_slot : (a : Actor) → HasSlot a → slot_of a < 24
low_slot (Engine n) h = omega arith
low_slot (Server n) h = omega arith
low_slot (Worker n) h = omega arith

same_actor : (a b : Actor) → eq_by_cmp actor_cmp a b ≡ true → a ≡ b
same_actor a b e = actor_cmp-IsAntisymmetric a b ((Equal-is (actor_cmp a b)).0 e)

-- ---- look-ups

-- an actor whose slot isn't here or later isn't found
unfound : (a : Actor) (n : ℕ) (running_tasks : RunningTasks) → ((k : ℕ) → n ≤ k → a ≡ actor_of k → ⊥) → find actor_cmp a (by_actor_from n running_tasks) ≡ None
unfound a n [] h = refl
unfound a n (None ∷ running_tasks) h = unfound a (suc n) running_tasks (λ k l. h k (omega (arith, l)))
unfound a n (Some f ∷ running_tasks) h = ap (λ b. cond b (Some f) (find actor_cmp a (by_actor_from (suc n) running_tasks))) (other_key actor_cmp-IsAntisymmetric a (actor_of n) (h n (omega arith))) ∙ unfound a (suc n) running_tasks (λ k l. h k (omega (arith, l)))

found_at : (a : Actor) (n j : ℕ) (running_tasks : RunningTasks) → a ≡ actor_of (n + j) → find actor_cmp a (by_actor_from n running_tasks) ≡ get_or running_tasks j None
found_at a n j [] is = refl
found_at a n zero (None ∷ running_tasks) is = unfound a (suc n) running_tasks (λ k l same.
    let e : n ≡ k = sym (slot_is n) ∙ ap (λ m. slot_of (actor_of m)) (sym (zero_more n)) ∙ ap slot_of (sym is ∙ same) ∙ slot_is k in omega arith)
  where
    zero_more : (n : ℕ) → n + zero ≡ n
    zero_more n = omega arith
found_at a n zero (Some f ∷ running_tasks) is =
    let here : n + zero ≡ n = omega arith in
    ap (λ b. cond b (Some f) (find actor_cmp a (by_actor_from (suc n) running_tasks))) (ap (eq_by_cmp actor_cmp a) (ap actor_of (sym here) ∙ sym is) ∙ own_key actor_cmp_total a)
found_at a n (suc j) (None ∷ running_tasks) is = let next : n + suc j ≡ suc n + j = omega arith in found_at a (suc n) j running_tasks (is ∙ ap actor_of next)
found_at a n (suc j) (Some f ∷ running_tasks) is =
    let next : n + suc j ≡ suc n + j = omega arith in
    ap (λ b. cond b (Some f) (find actor_cmp a (by_actor_from (suc n) running_tasks)))
    (other_key actor_cmp-IsAntisymmetric a (actor_of n) (λ same. let e : n + suc j ≡ n = sym (slot_is (n + suc j)) ∙ ap slot_of (sym is ∙ same) ∙ slot_is n in omega arith))
    ∙ found_at a (suc n) j running_tasks (is ∙ ap actor_of next)

none_more : (n : ℕ) → n ≡ 0 + n
none_more n = omega arith

pub get_by_actor : (running_tasks : RunningTasks) (a : Actor) → HasSlot a → get (by_actor running_tasks) a ≡ get_or running_tasks (slot_of a) None
get_by_actor running_tasks a h = get-from_entries actor_cmp_total (by_actor_from 0 running_tasks) a ∙ found_at a 0 (slot_of a) running_tasks (sym (actor_is a h) ∙ ap actor_of (none_more (slot_of a)))

-- an actor is at its slot, or at none
stray : (running_tasks : RunningTasks) (a : Actor) → (actor_of (slot_of a) ≡ a → ⊥) → get (by_actor running_tasks) a ≡ None
stray running_tasks a h = get-from_entries actor_cmp_total (by_actor_from 0 running_tasks) a ∙ unfound a 0 running_tasks (λ k l same. h (ap actor_of (ap slot_of same ∙ slot_is k) ∙ sym same))

is_running : (running_tasks : RunningTasks) (a : Actor) → actor_of (slot_of a) ≡ a → get (by_actor running_tasks) a ≡ get_or running_tasks (slot_of a) None
is_running running_tasks a h = get-from_entries actor_cmp_total (by_actor_from 0 running_tasks) a ∙ found_at a 0 (slot_of a) running_tasks (sym h ∙ ap actor_of (none_more (slot_of a)))

-- ---- one slot changes

module _ (running_tasks : RunningTasks) (a : Actor) (h : HasSlot a) (inside : slot_of a < length running_tasks) (o : Option FrameView) where
  get_set : (q : Actor) → get (by_actor (set running_tasks (slot_of a) o)) q ≡ cond (eq_by_cmp actor_cmp q a) o (get (by_actor running_tasks) q)
  get_set q = by (eq_by_cmp actor_cmp q a) refl
    where
      apart : q ≢ a → eq_by_cmp actor_cmp (actor_of (slot_of q)) q ≡ true → get (by_actor (set running_tasks (slot_of a) o)) q ≡ get (by_actor running_tasks) q
      apart other e =
          let own = same_actor (actor_of (slot_of q)) q e in
          is_running (set running_tasks (slot_of a) o) q own
          ∙ get_or-set_other running_tasks (slot_of a) (slot_of q) o None (λ same. other (sym own ∙ ap actor_of same ∙ actor_is a h))
          ∙ sym (is_running running_tasks q own)

      none : eq_by_cmp actor_cmp (actor_of (slot_of q)) q ≡ false → get (by_actor (set running_tasks (slot_of a) o)) q ≡ get (by_actor running_tasks) q
      none e =
          let no : actor_of (slot_of q) ≡ q → ⊥ = λ own. let t : false ≡ true = sym e ∙ ap (λ x. eq_by_cmp actor_cmp x q) own ∙ own_key actor_cmp_total q in cc in
          stray (set running_tasks (slot_of a) o) q no ∙ sym (stray running_tasks q no)

      either : q ≢ a → (t : Bool) → eq_by_cmp actor_cmp (actor_of (slot_of q)) q ≡ t → get (by_actor (set running_tasks (slot_of a) o)) q ≡ get (by_actor running_tasks) q
      either other true e = apart other e
      either other false e = none e

      by : (t : Bool) → eq_by_cmp actor_cmp q a ≡ t → get (by_actor (set running_tasks (slot_of a) o)) q ≡ cond t o (get (by_actor running_tasks) q)
      by true e = let same = same_actor q a e in ap (get (by_actor (set running_tasks (slot_of a) o))) same ∙ get_by_actor (set running_tasks (slot_of a) o) a h ∙ get_or-set_same running_tasks (slot_of a) o None inside
      by false e = either (λ same. let t : false ≡ true = sym e ∙ ap (λ x. eq_by_cmp actor_cmp x a) same ∙ own_key actor_cmp_total a in cc) (eq_by_cmp actor_cmp (actor_of (slot_of q)) q) refl

pub by_actor_put : (running_tasks : RunningTasks) (a : Actor) (f : FrameView) → HasSlot a → slot_of a < length running_tasks → by_actor (set running_tasks (slot_of a) (Some f)) ≡ insert (by_actor running_tasks) a f
by_actor_put running_tasks a f h inside = same_map actor_cmp_total actor_cmp-IsAntisymmetric _ _ (λ q. get_set running_tasks a h inside (Some f) q ∙ sym (get-insert actor_cmp_total (by_actor running_tasks) a f q))

pub by_actor_without : (running_tasks : RunningTasks) (a : Actor) → HasSlot a → slot_of a < length running_tasks → by_actor (set running_tasks (slot_of a) None) ≡ remove (by_actor running_tasks) a
by_actor_without running_tasks a h inside = same_map actor_cmp_total actor_cmp-IsAntisymmetric _ _ (λ q. get_set running_tasks a h inside None q ∙ sym (get-remove actor_cmp_total (by_actor running_tasks) a q))

-- ---- how many

count_from : (n : ℕ) (running_tasks : RunningTasks) → len (from_entries {R = actor_cmp} (by_actor_from n running_tasks)) ≡ count_by is_some running_tasks
count_from n [] = len-empty actor_cmp FrameView
count_from n (None ∷ running_tasks) = omega (arith, count_from (suc n) running_tasks, sum_by-cons (λ o. cond (is_some o) 1 0) None running_tasks)
count_from n (Some f ∷ running_tasks) =
    let none : get (from_entries {R = actor_cmp} (by_actor_from (suc n) running_tasks)) (actor_of n) ≡ None = get-from_entries actor_cmp_total (by_actor_from (suc n) running_tasks) (actor_of n)
    ∙ unfound (actor_of n) (suc n) running_tasks (λ k l same. let e : n ≡ k = sym (slot_is n) ∙ ap slot_of same ∙ slot_is k in omega arith) in
    let rest = count_from (suc n) running_tasks in
    let more : len (insert (from_entries {R = actor_cmp} (by_actor_from (suc n) running_tasks)) (actor_of n) f) ≡ len (from_entries {R = actor_cmp} (by_actor_from (suc n) running_tasks)) + 1 =
    len-insert actor_cmp_total (from_entries (by_actor_from (suc n) running_tasks)) (actor_of n) f ∙ ap (λ o. cond (is_some o) (len (from_entries {R = actor_cmp} (by_actor_from (suc n) running_tasks))) (len (from_entries {R = actor_cmp} (by_actor_from (suc n) running_tasks)) + 1)) none in
    omega (arith, rest, more, sum_by-cons (λ o. cond (is_some o) 1 0) (Some f) running_tasks)

pub count_by_actor : (running_tasks : RunningTasks) → len (by_actor running_tasks) ≡ count_by is_some running_tasks
count_by_actor running_tasks = count_from 0 running_tasks

-- how many there are, when one slot changes
pub count_set : (running_tasks : RunningTasks) (k : ℕ) (o : Option FrameView) → k < length running_tasks → count_by is_some (set running_tasks k o) + cond (is_some (get_or running_tasks k None)) 1 0 ≡ count_by is_some running_tasks + cond (is_some o) 1 0
count_set [] k o h = absurd (omega arith)
count_set (x ∷ running_tasks) zero o h = omega (arith, sum_by-cons (λ o. cond (is_some o) 1 0) x running_tasks, sum_by-cons (λ o. cond (is_some o) 1 0) o running_tasks)
count_set (x ∷ running_tasks) (suc k) o h =
    let rest = count_set running_tasks k o (omega arith) in
    omega (arith, rest, sum_by-cons (λ o. cond (is_some o) 1 0) x (set running_tasks k o), sum_by-cons (λ o. cond (is_some o) 1 0) x running_tasks)

-- the item that is read there, with any default
pub in_list : {A : Type 0} (xs : List A) (k : ℕ) (d e : A) → k < length xs → get_or xs k d ≡ get_or xs k e
in_list [] k d e l = absurd (omega (arith, l))
in_list (x ∷ xs) zero d e l = refl
in_list (x ∷ xs) (suc k) d e l = in_list xs k d e (omega (arith, l))

-- the running tasks in these slots
abbrev pub seen_as : ActorCounts → RunningTasks → RunningView
seen_as layout running_tasks = record { layout = layout; tasks = by_actor running_tasks }

-- the slots after the task in one changes
module _ {layout : ActorCounts} {running_tasks : RunningTasks} {taken : ℕ} (all : AreTaskSlots running_tasks taken) {view : RunningView} (same : seen_as layout running_tasks ≡ view) (a : Actor) (h : HasSlot a) {task_slot : ℕ} (here : task_slot ≡ slot_of a) where
  inside : task_slot < length running_tasks
  inside = omega (arith, here, low_slot a h, all.many)

  task_there : get_or running_tasks task_slot None ≡ get view.tasks a
  task_there = ap (λ k. get_or running_tasks k None) here ∙ sym (get_by_actor running_tasks a h) ∙ ap (λ (r : RunningView). get r.tasks a) same

  -- the task or none that is read there
  pub read_there : {task found read : Option FrameView} → get view.tasks a ≡ task → read ≡ get_or running_tasks task_slot read → read ≡ found → task ≡ found
  read_there {task} {found} {read} at is_read is = sym at ∙ sym task_there ∙ in_list running_tasks task_slot None read inside ∙ sym is_read ∙ is

  pub changed : (g : FrameView) → seen_as layout (set running_tasks task_slot (Some g)) ≡ with_running view a g
  changed g =
      ap (λ k. seen_as layout (set running_tasks k (Some g))) here
      ∙ ap (λ (m : TasksByActor). record { layout = layout; tasks = m }) (by_actor_put running_tasks a g h (subst (λ k. k < length running_tasks) here inside))
      ∙ ap (λ (r : RunningView). with_running r a g) same

  pub still_running : {f : FrameView} → get view.tasks a ≡ Some f → (g : FrameView) → AreTaskSlots (set running_tasks task_slot (Some g)) taken
  still_running {f} at g =
      let one : ◌≡◌ {A = ℕ} (cond (is_some (get_or running_tasks task_slot None)) 1 0) 1 = ap (λ o. cond (is_some o) 1 0) (task_there ∙ at) in
      record {
        many = length-set running_tasks task_slot (Some g) ∙ all.many;
        counted = let e = count_set running_tasks task_slot (Some g) inside in omega (arith, e, one, all.counted);
      }

-- other tasks of the layout
pub with_tasks : (layout : ActorCounts) (tasks : TasksByActor) (old : RunningView) (new : TasksByActor) → layout ≡ old.layout → tasks ≡ new → ◌≡◌ {A = RunningView} (record { layout = layout; tasks = tasks }) (record old { tasks = new })
with_tasks layout tasks old new same is = λ i. record { layout = same i; tasks = is i }

-- the others' tasks are the same
pub get_other : (m : TasksByActor) (a : Actor) (f : FrameView) (q : Actor) → q ≢ a → get (insert m a f) q ≡ get m q
get_other m a f q apart = get-insert actor_cmp_total m a f q ∙ ap (λ t. cond t (Some f) (get m q)) (other_key actor_cmp-IsAntisymmetric q a apart)

pub get_other_left : (m : TasksByActor) (a q : Actor) → q ≢ a → get (remove m a) q ≡ get m q
get_other_left m a q apart = get-remove actor_cmp_total m a q ∙ ap (λ t. cond t None (get m q)) (other_key actor_cmp-IsAntisymmetric q a apart)

pub get_own : {X : Type 0} (m : FinMap actor_cmp X) (a : Actor) (f : X) → get (insert m a f) a ≡ Some f
get_own m a f = get-insert actor_cmp_total m a f a ∙ ap (λ t. cond t (Some f) (get m a)) (own_key actor_cmp_total a)

-- who sits there again
pub same_slot : (m : TasksByActor) (a : Actor) (f : FrameView) → get m a ≡ Some f → insert m a f ≡ m
same_slot m a f is_running = same_map actor_cmp_total actor_cmp-IsAntisymmetric _ _ (λ q. get-insert actor_cmp_total m a f q ∙ by q (eq_by_cmp actor_cmp q a) refl)
  where
    by : (q : Actor) (t : Bool) → eq_by_cmp actor_cmp q a ≡ t → cond t (Some f) (get m q) ≡ get m q
    by q true e = sym (ap (get m) (same_actor q a e) ∙ is_running)
    by q false e = refl

-- another in the same slot
pub again : (m : TasksByActor) (a : Actor) (f g : FrameView) → insert (insert m a f) a g ≡ insert m a g
again m a f g = same_map actor_cmp_total actor_cmp-IsAntisymmetric _ _ (λ q. get-insert actor_cmp_total (insert m a f) a g q ∙ ap (cond (eq_by_cmp actor_cmp q a) (Some g)) (get-insert actor_cmp_total m a f q)
    ∙ over (eq_by_cmp actor_cmp q a) (get m q) ∙ sym (get-insert actor_cmp_total m a g q))
  where
    over : (t : Bool) (y : Option FrameView) → cond t (Some g) (cond t (Some f) y) ≡ cond t (Some g) y
    over true y = refl
    over false y = refl
