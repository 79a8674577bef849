-- The core machine follows the start of a task: what it waited for is closed.
use Rattle.std.proofs.Common.{◌≡◌, inl, ℕ, zero, suc, ◌-◌, Bool, true, false, ◌&&◌, List, [], ◌∷◌, ◌++◌, map, replicate, length, Option, Some, None, is_none, refl, sym, ap, subst, ◌∙◌, slice_get, arith, nat_cmp, if◌then◌else◌}
use Rattle.tw_determinism.proofs.MachineNames.{Actor, ActorCounts, AreRight, Arg, ArgFits, ArgsFit, Cause, Datum, Frame, IsHeld, IsProgram, Ok, Param, Procedure, Result, RightArg, Rights, State, Store, Task, Typing, Typings, ValueArg, Went, WrongCall, actor_cmp, actor_cmp-IsAntisymmetric, actor_cmp_total, and_parts, best, enabled, filled, first_rights, frame_of, get, get-remove_same, ids_in, insert, insert_other, insert_same, is_closed, is_closed_mode, is_in, is_val, is_write, nat_cmp-IsAntisymmetric, nat_cmp_total, ok_first, only_if, option_and_then, option_map, option_to_list, outcome_of, params_in, params_of, part, remove, remove_other, right_of, rights_given, same_Some, same_went, start_typing, take_event, task_is_live, there_then, total-insert, total-remove, typed_at_start, typing_at, values_in, went_after, went_enabled, went_first, went_ok, went_only, with_frame}
use Rattle.tw_types.proofs.Best.{best_waits}
use Rattle.tw_soundness.proofs.Taking.{same_length}
use Rattle.tw_determinism.proofs.Names.{Name, name_cmp_total}
use Rattle.tw_determinism.proofs.CoreEffects.{IsClosed, Net, Nothing, Runs, Thread, Waiting, Waits, ok}
use Rattle.tw_determinism.proofs.CoreMachine.{Steps}
use Rattle.tw_determinism.proofs.Closing.{closed_shown}
use Rattle.tw_determinism.proofs.DataFollows.{Goes, replaced}
use Rattle.tw_determinism.proofs.Growing.{made_kept}
use Rattle.tw_determinism.proofs.Holding.{changed, holder_itself, is_same, moved, other_holder, renamed}
use Rattle.tw_determinism.proofs.Showing.{Holder, OfFrame, OfTask, OfRule, Naming, Shows, alive, awaits_in, named, named_one, one, rights_in, running, thread_in, waiting}

-- ---- the first registers, by names

named_joined : (f : ℕ → Name) (xs us : Typing) (ys vs : Rights) → length xs ≡ length ys → named f (xs ++ us) (ys ++ vs) ≡ named f xs ys ++ named f us vs
named_joined f [] us [] vs e = refl
named_joined f [] us (y ∷ ys) vs e = absurd (omega arith)
named_joined f (x ∷ xs) us [] vs e = absurd (omega arith)
named_joined f (x ∷ xs) us (y ∷ ys) vs e = ap (λ zs. named_one f x y ∷ zs) (named_joined f xs us ys vs (omega arith))

named_empty : (f : ℕ → Name) (k : ℕ) → named f (replicate k None) (replicate k None) ≡ replicate k None
named_empty f zero = refl
named_empty f (suc k) = ap (λ zs. None ∷ zs) (named_empty f k)

length_some : {A : Type 0} (xs : List A) → length (map Some xs) ≡ length xs
length_some [] = refl
length_some (x ∷ xs) = let h = length_some xs in omega arith

length_ids : (f : ℕ → Name) (s : Store) (params : List Param) (args : List Arg) → ArgsFit s params args → length (rights_in f params args) ≡ length (ids_in args)
length_ids f s [] [] h = refl
length_ids f s [] (arg ∷ args) h = absurd h
length_ids f s (p ∷ params) [] h = absurd h
length_ids f s (p ∷ params) (ValueArg x ∷ args) h = length_ids f s params args h.1
length_ids f s (p ∷ params) (RightArg id ∷ args) h = let r = length_ids f s params args h.1 in omega arith

given_named : (f : ℕ → Name) (s : Store) (params : List Param) (args : List Arg) → ArgsFit s params args → named f (map Some (rights_given params)) (map Some (ids_in args)) ≡ map Some (rights_in f params args)
given_named f s [] [] h = refl
given_named f s [] (arg ∷ args) h = absurd h
given_named f s (p ∷ params) [] h = absurd h
given_named f s (p ∷ params) (arg ∷ args) h = by (is_val p.mode) arg h.0 (given_named f s params args h.1)
  where
    by : (b : Bool) (arg : Arg) → ArgFits s p (if b then None else Some (record { mode = p.mode; ty = p.ty })) arg → named f (map Some (rights_given params)) (map Some (ids_in args)) ≡ map Some (rights_in f params args)
        → named f (map Some (option_to_list (if b then None else Some (record { mode = p.mode; ty = p.ty })) ++ rights_given params)) (map Some (ids_in (arg ∷ args))) ≡ map Some (rights_in f (p ∷ params) (arg ∷ args))
    by true (ValueArg x) fit rest = rest
    by true (RightArg id) fit rest = absurd fit
    by false (ValueArg x) fit rest = absurd fit
    by false (RightArg id) fit rest = ap (λ zs. Some (record { write = is_write p.mode; of = f id }) ∷ zs) rest

first_named : (f : ℕ → Name) (s : Store) (params : List Param) (args : List Arg) → ArgsFit s params args → named f (start_typing params) (first_rights (ids_in args)) ≡ first_rights (rights_in f params args)
first_named f s params args h =
    let same = same_length s params args h in
    let long = length_ids f s params args h in
    ap (λ k. named f (map Some (rights_given params) ++ replicate (16 - k) None) (first_rights (ids_in args))) same
    ∙ named_joined f (map Some (rights_given params)) (replicate (16 - length (ids_in args)) None) (map Some (ids_in args)) (replicate (16 - length (ids_in args)) None)
    (length_some (rights_given params) ∙ same ∙ sym (length_some (ids_in args)))
    ∙ ap (λ zs. zs ++ named f (replicate (16 - length (ids_in args)) None) (replicate (16 - length (ids_in args)) None)) (given_named f s params args h)
    ∙ ap (λ zs. map Some (rights_in f params args) ++ zs) (named_empty f (16 - length (ids_in args)))
    ∙ ap (λ k. map Some (rights_in f params args) ++ replicate (16 - k) None) (sym long)

-- ---- what it awaits

record Awaited (f : ℕ → Name) (s : Store) (args : List Arg) (d : Name) : Type 0 where
  k : ℕ
  id : ℕ
  at : slice_get args k ≡ Some (RightArg id)
  is : f id ≡ d
  closed : (x : Datum) → get s.live id ≡ Some x → is_closed x ≡ true

-- a right that is closed, as the store has it
shut : (s : Store) (p : Param) (id : ℕ) → is_closed_mode p.mode ≡ true → ArgFits s p (right_of p) (RightArg id) → (x : Datum) → get s.live id ≡ Some x → is_closed x ≡ true
shut s p id mode fit = by (is_val p.mode) fit
  where
    by : (b : Bool) → ArgFits s p (if b then None else Some (record { mode = p.mode; ty = p.ty })) (RightArg id) → (x : Datum) → get s.live id ≡ Some x → is_closed x ≡ true
    by true fit = absurd fit
    by false fit = λ x live. fit.closed x live mode

later : (f : ℕ → Name) (s : Store) (arg : Arg) (args : List Arg) (d : Name) → Awaited f s args d → Awaited f s (arg ∷ args) d
later f s arg args d r = record { k = suc r.k; id = r.id; at = r.at; is = r.is; closed = r.closed }

awaited : (f : ℕ → Name) (s : Store) (params : List Param) (args : List Arg) → ArgsFit s params args → (j : ℕ) (d : Name) → slice_get (awaits_in f params args) j ≡ Some d → Awaited f s args d
awaited f s [] args h j d e = cc
awaited f s (p ∷ params) [] h j d e = cc
awaited f s (p ∷ params) (ValueArg x ∷ args) h j d e = later f s (ValueArg x) args d (awaited f s params args h.1 j d e)
awaited f s (p ∷ params) (RightArg id ∷ args) h j d e = by (is_closed_mode p.mode) j refl e (λ i e. awaited f s params args h.1 i d e)
  where
    by : (b : Bool) (i : ℕ) → is_closed_mode p.mode ≡ b → slice_get (if b then f id ∷ awaits_in f params args else awaits_in f params args) i ≡ Some d
        → ((i : ℕ) → slice_get (awaits_in f params args) i ≡ Some d → Awaited f s args d) → Awaited f s (RightArg id ∷ args) d
    by true zero mode e rest = record { k = 0; id = id; at = refl; is = same_Some (f id) d e; closed = shut s p id mode h.0 }
    by true (suc i) mode e rest = later f s (RightArg id) args d (rest i e)
    by false i mode e rest = later f s (RightArg id) args d (rest i e)

-- ---- the step

same_frame : (y z : Frame) → ◌≡◌ {A = Result Frame Cause} (Ok y) (Ok z) → y ≡ z
same_frame y z e = cc

module _ (program : List Procedure) (typings : Typings) (proper : IsProgram program) (are : AreRight program typings) (s : State) (held_so : IsHeld program typings s) (n : Naming) (m : Net) (shows : Shows program typings n s m) where
  module _ (a : Actor) (k : ℕ) (task : Task) (waits : get s.tasks k ≡ Some task) (frame : Frame) (begins : frame_of program k task ≡ Ok frame) (free : get s.frames a ≡ None) where
    abbrev name : Name
    name = n.holder (OfTask k)

    abbrev w : Waiting
    w = waiting n.datum program task.procedure task.args

    thread_there : get m.threads name ≡ Some (Waits w)
    thread_there = shows.threads.there (OfTask k) (Waits w) (ap (option_map (λ (t : Task). Waits (waiting n.datum program t.procedure t.args))) waits)

    took : Goes program typings n s m (with_frame (record s { tasks = remove s.tasks k }) a frame)
    took =
        let q = there_then (slice_get program task.procedure) WrongCall _ frame begins in
        let values = ok_first (filled (values_in task.args) q.0.registers) _ frame q.2 in
        let frame_is = same_frame _ frame values.2 in
        let fit : ArgsFit s.store q.0.params task.args = held_so.types.args k task q.0 waits q.1 in
        let params_are : params_of program task.procedure ≡ q.0.params = ap params_in q.1 in
        let thread : Thread = Runs (record { procedure = task.procedure; position = record { place = 0; values = values.0; loops = [] }; rights = first_rights w.rights; spent = 0 }) in
        let to : Net = record m { threads = insert m.threads name thread } in
        let step : Steps program m name to = record {
          wills = record {
            thread = Waits w;
            there = thread_there;
            awaited = λ j d e.
                let r = awaited n.datum s.store q.0.params task.args fit j d (subst (λ params. slice_get (awaits_in n.datum params task.args) j ≡ Some d) params_are e) in
                let live = task_is_live program typings s held_so k task r.k r.id waits r.at in
                subst (IsClosed m) r.is (closed_shown program typings s held_so n m shows r.id live.0 live.1 (r.closed live.0 live.1));
            read = λ d e. cc;
            alone = λ d e not. cc;
            effect = record { thread = thread; act = Nothing };
            is = ap (option_and_then (λ (z : Procedure). option_map (λ values. record { thread = Runs (record { procedure = w.procedure; position = record { place = 0; values = values; loops = [] }; rights = first_rights w.rights; spent = 0 }); act = Nothing }) (ok (filled w.values z.registers)))) q.1
                ∙ ap (λ z. option_map (λ values. record { thread = Runs (record { procedure = w.procedure; position = record { place = 0; values = values; loops = [] }; rights = first_rights w.rights; spent = 0 }); act = Nothing }) (ok z)) values.1;
            target = tt;
          };
          cells = refl;
          threads = refl;
          shared = refl;
        } in
        let starts : typing_at typings task.procedure 0 ≡ start_typing q.0.params = typed_at_start program typings proper are task.procedure q.0 q.1 in
        let own_is : Runs (running n.datum typings frame) ≡ thread =
        ap (λ (z : Frame). Runs (running n.datum typings z)) (sym frame_is)
        ∙ ap (λ rs. Runs (record { procedure = task.procedure; position = record { place = 0; values = values.0; loops = [] }; rights = rs; spent = 0 }))
        (ap (λ t. named n.datum t (first_rights (ids_in task.args))) starts ∙ first_named n.datum s.store q.0.params task.args fit ∙ ap (λ params. first_rights (rights_in n.datum params task.args)) (sym params_are)) in
        let between : Holder → Option Thread = λ h. if is_same h (OfTask k) then Some thread else thread_in program typings n.datum s h in
        let own_between : between (OfTask k) ≡ Some thread = ap (λ b. if b then Some thread else thread_in program typings n.datum s (OfTask k)) (holder_itself (OfTask k)) in
        let other_between : (h : Holder) → (h ≡ OfTask k → ⊥) → between h ≡ thread_in program typings n.datum s h = λ h apart. ap (λ b. if b then Some thread else thread_in program typings n.datum s h) (other_holder h (OfTask k) apart) in
        let first = changed (thread_in program typings n.datum s) between n.holder m.threads shows.threads (OfTask k) (Waits w) thread
        (ap (option_map (λ (t : Task). Waits (waiting n.datum program t.procedure t.args))) waits) (inl own_between) other_between in
        let next : State = with_frame (record s { tasks = remove s.tasks k }) a frame in (
          1,
          record { datum = n.datum; holder = renamed n.holder (OfFrame a) name; copied = n.copied; start = n.start },
          to,
          (name, to, step, refl),
          record {
            cells = shows.cells;
            shared = shows.shared;
            threads = moved between (thread_in program typings n.datum next) n.holder (insert m.threads name thread) first (OfTask k) (OfFrame a) thread own_between
                (other_between (OfFrame a) (λ e. cc) ∙ ap (option_map (λ z. Runs (running n.datum typings z))) free)
                (ap (option_map (λ (t : Task). Waits (waiting n.datum program t.procedure t.args))) (get-remove_same nat_cmp nat_cmp_total s.tasks k))
                (ap (option_map (λ z. Runs (running n.datum typings z))) (insert_same actor_cmp actor_cmp_total s.frames a frame) ∙ ap Some own_is)
                (λ h apart other. others h apart other ∙ sym (other_between h apart));
            count = (
                let x = total-insert actor_cmp actor_cmp_total one s.frames a frame in
                let x_is : part one (get s.frames a) ≡ 0 = ap (part one) free in
                let y = total-remove nat_cmp nat_cmp_total nat_cmp-IsAntisymmetric one s.tasks k in
                let y_is : part one (get s.tasks k) ≡ 1 = ap (part one) waits in
                let v = replaced name_cmp_total alive m.threads name (Waits w) thread thread_there refl in
                let z = shows.count in
                omega (arith, x, x_is, y, y_is, v, z));
            made = made_kept program m to shows.made name step;
          },
          λ id less. refl,
          refl,
        )
      where
        others : (h : Holder) → (h ≡ OfTask k → ⊥) → (h ≡ OfFrame a → ⊥) → thread_in program typings n.datum (with_frame (record s { tasks = remove s.tasks k }) a frame) h ≡ thread_in program typings n.datum s h
        others (OfFrame b) apart other = ap (option_map (λ z. Runs (running n.datum typings z))) (insert_other actor_cmp actor_cmp_total actor_cmp-IsAntisymmetric s.frames a frame b (λ e. other (ap OfFrame e)))
        others (OfTask j) apart other = ap (option_map (λ (t : Task). Waits (waiting n.datum program t.procedure t.args))) (remove_other nat_cmp nat_cmp_total nat_cmp-IsAntisymmetric s.tasks k j (λ e. apart (ap OfTask e)))
        others (OfRule j) apart other = refl

  no_frame : (o : Option Frame) → is_none o ≡ true → o ≡ None
  no_frame None e = refl
  no_frame (Some f) e = cc

  pub take_follows : (layout : ActorCounts) (a : Actor) (next : State) → take_event program layout a s ≡ Went next → Goes program typings n s m next
  take_follows layout a next e =
      let may = went_after (only_if (is_in layout a && is_none (get s.frames a))) _ next e in
      let task = went_first (enabled (best a s.tasks)) _ next may.1 in
      let frame = went_first (outcome_of (frame_of program task.0.0 task.0.1)) _ next task.2 in
      let next_is : with_frame (record s { tasks = remove s.tasks task.0.0 }) a frame.0 ≡ next = same_went _ next frame.2 in
      subst (Goes program typings n s m) next_is
      (took a task.0.0 task.0.1 (best_waits a s.tasks task.0 (went_enabled (best a s.tasks) task.0 task.1)) frame.0 (went_ok (frame_of program task.0.0 task.0.1) frame.0 frame.1)
      (no_frame (get s.frames a) (and_parts (is_in layout a) (is_none (get s.frames a)) (went_only _ may.0)).1))
