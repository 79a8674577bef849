-- Each write right on a datum that has been copied is marked, along every run. So nothing is contested.
use Rattle.tw_copies.proofs.Names.{Actor, ActorCounts, AllYes, AreRight, Arg, Bool, Context, DataInstr, Datum, FinMap, Frame, InsertsInto, Instr, IsHeld, IsProgram, IsRunningAt, List, NeverContests, None, Ok, Option, Ordering, Param, Procedure, RightType, Rights, Some, State, Typing, Typings, Went, [], accepted, accepts, actor_cmp, actor_cmp-IsAntisymmetric, actor_cmp_total, after_context, and_parts, ap, arith, asked_at, balanced_none, balanced_some, called, cases_lt, context_of, data_instr, entries, eq-eqb, eqb-true, false, frame_writes, get, hits, hits_same, id_of, if◌then◌else◌, inl, inr, is_container_by, is_plain_map, is_running_at, is_val, is_write, kept_by, map, ne_eqb, not, number_in_kind, opened_held, option_and_then, or_left, or_right, outcome_of, over, params_of, part, part-le-total, passed, put_called, reads_of, refl, register_holds, remove, requires_data, right_at, right_of, rule_writes, same_Some, same_went, slice_get, slice_set, subst, suc, sym, task_writes, true, typed_after, typing_at, typing_of, went_first, went_of, went_ok, write_by, writes, writes_container_by, writes_map, writes_of, ℕ, ◌&&◌, ◌+◌, ◌<◌, ◌==◌, ◌||◌, ◌∙◌, ◌∷◌, ◌≡◌, ◌≤◌, ◌⊎◌}
use Rattle.tw_types.specs.declared.event.Event.{Event}
use Rattle.tw_types.specs.declared.event.Event.TheVariants.{Take, Local, Call, End, Ask, Deliver, Release}
use Rattle.tw_types.specs.declared.input.Input.{Input}
use Rattle.tw_types.specs.Totals.{sum_of, total}
use Rattle.tw_code.specs.declared.instr.DataInstr.TheVariants as on_data
use Rattle.tw_code.specs.declared.instr.Instr.TheVariants as instr
use Rattle.tw_code.specs.machine.Due.{instr_here}
use Rattle.tw_code.specs.machine.Inputs.{AreInputsOf}
use Rattle.tw_code.specs.machine.Machine.{RunningInstr, call_by, running_instr_of, step}
use Rattle.tw_code.specs.machine.Opening.{opening}
use Rattle.tw_soundness.proofs.Lasting.{Lasts, step_lasts}
use Rattle.tw_soundness.proofs.Sums.{sum_apart}
use Rattle.tw_determinism.specs.Contested.{ContestsNone, Copied, contests, copied_by, copy_in, copy_of, is_contest, is_contest_of, is_copied, none_copied, with_copy}
use Rattle.tw_determinism.specs.Refused.{is_taken, is_value_taken}
use Rattle.tw_determinism.proofs.Begun.{begins}
use Rattle.tw_determinism.proofs.Options.{some_first}
use Rattle.tw_copies.proofs.Copying.{is_copy}
use Rattle.tw_copies.proofs.Marking.{AreClosed, InsertsUnmarked, IsMarkable, Marked, Marks, marked_by}
use Rattle.tw_copies.proofs.DataSpare.{CopySpare, copy_spare, new_few, new_old, new_writes}
use Rattle.tw_copies.proofs.Events.{HasLess, ask_less, data_less, data_shown, deliver_less, end_less, local_less, put_less_by, release_less, rule_less, take_less}
use Rattle.tw_copies.proofs.Handing.{filled_at}
use Rattle.tw_copies.proofs.Spare.{one_spare, spare, spare_args, spare_less, spare_there, unmarked}
use Rattle.tw_copies.proofs.Summing.{closed_carried, frame_spare, never_by, no_marks, none_carried, replaced_less, rule_spare, spare_of, task_spare}

-- ---- sums without regard to marks

sum_less : {K X : Type 0} (f g : X → ℕ) (es : List (K × X)) → ((x : X) → f x ≤ g x) → sum_of f es ≤ sum_of g es
sum_less f g [] h = omega arith
sum_less f g (e ∷ es) h = let one = h e.1 in let rest = sum_less f g es h in omega (arith, one, rest)

total_less : {K X : Type 0} {R : K → K → Ordering} (f g : X → ℕ) (m : FinMap R X) → ((x : X) → f x ≤ g x) → total f m ≤ total g m
unfolding total
total_less f g m h = sum_less f g (entries m) h

registers_less : (d : ℕ) (typing : Typing) (rights : Rights) → spare d unmarked typing rights ≤ over (write_by d) typing rights
registers_less d [] rights = omega arith
registers_less d (t ∷ typing) [] = omega arith
registers_less d (t ∷ typing) (r ∷ rights) = let rest = registers_less d typing rights in omega (arith, rest)

args_less : (d : ℕ) (params : List Param) (args : List Arg) → spare_args d unmarked params args ≤ over (write_by d) (map right_of params) (map id_of args)
args_less d [] args = omega arith
args_less d (p ∷ params) [] = omega arith
args_less d (p ∷ params) (arg ∷ args) = by (is_val p.mode) (args_less d params args)
  where
    by : (b : Bool) → spare_args d unmarked params args ≤ over (write_by d) (map right_of params) (map id_of args)
        → write_by d (right_of p) (id_of arg) + spare_args d (if b then unmarked else (λ k. unmarked (suc k))) params args ≤ write_by d (right_of p) (id_of arg) + over (write_by d) (map right_of params) (map id_of args)
    by true h = omega (arith, h)
    by false h = omega (arith, h)

args_marked : (d : ℕ) (m n : Marked) (params : List Param) (args : List Arg) → ((k : ℕ) → m k ≡ true → n k ≡ true) → spare_args d n params args ≤ spare_args d m params args
args_marked d m n [] args h = omega arith
args_marked d m n (p ∷ params) [] h = omega arith
args_marked d m n (p ∷ params) (arg ∷ args) h = by (m 0) (n 0) (h 0) (is_val p.mode) (args_marked d m n params args h) (args_marked d (λ k. m (suc k)) (λ k. n (suc k)) params args (λ k. h (suc k)))
  where
    by : (a b : Bool) → (a ≡ true → b ≡ true) → (v : Bool) → spare_args d n params args ≤ spare_args d m params args → spare_args d (λ k. n (suc k)) params args ≤ spare_args d (λ k. m (suc k)) params args
        → one_spare d b (right_of p) (id_of arg) + spare_args d (if v then n else (λ k. n (suc k))) params args ≤ one_spare d a (right_of p) (id_of arg) + spare_args d (if v then m else (λ k. m (suc k))) params args
    by a true h true same less = omega (arith, same)
    by a true h false same less = omega (arith, less)
    by false false h true same less = omega (arith, same)
    by false false h false same less = omega (arith, less)
    by true false h v same less = let no : false ≡ true = h refl in cc

no_copy_of : (f : Frame) (i : DataInstr) → is_copy i ≡ false → copy_of f (Some (instr.Data i)) ≡ None
no_copy_of f (on_data.New write read ty) e = refl
no_copy_of f (on_data.Store datum from) e = refl
no_copy_of f (on_data.Get to datum) e = refl
no_copy_of f (on_data.Insert by container subscript member skip) e = refl
no_copy_of f (on_data.Look by member container subscript skip) e = refl
no_copy_of f (on_data.Size to container) e = refl
no_copy_of f (on_data.SubscriptAt by to container index skip) e = refl
no_copy_of f (on_data.InsertValue map subscript from skip) e = refl
no_copy_of f (on_data.AddValue map subscript from) e = refl
no_copy_of f (on_data.GetValue to map subscript skip) e = refl
no_copy_of f (on_data.CopyRead to from) e = refl
no_copy_of f (on_data.CopyWrite to from) e = cc
no_copy_of f (on_data.DropRead right) e = refl
no_copy_of f (on_data.DropWrite right) e = refl

is_zero : (n : ℕ) → n ≤ 0 → n ≡ 0
is_zero n h = omega (arith, h)

module _ (program : List Procedure) (typings : Typings) (proper : IsProgram program) (are : AreRight program typings) (marks : Marks) (closed : AreClosed program marks) (inserts : InsertsUnmarked program marks) where
  abbrev marked_left : ℕ → State → ℕ
  marked_left d s = spare_of program typings marks d s

  abbrev all_left : ℕ → State → ℕ
  all_left d s = spare_of program typings no_marks d s

  -- a datum that has been copied has only marked write rights; one that hasn't has at most one
  pub record Tracks (copied : Copied) (s : State) : Type 0 where
    pub spent : (d : ℕ) → copied d ≡ true → marked_left d s ≡ 0
    pub few : (d : ℕ) → copied d ≡ false → all_left d s ≤ 1
    pub fresh : (d : ℕ) → s.store.next ≤ d → (all_left d s ≡ 0) × (copied d ≡ false)

  abbrev rest_spare : Marks → ℕ → State → Actor → ℕ
  rest_spare m d s a = total (frame_spare program typings m d) (remove s.frames a) + (total (task_spare program typings m d) s.tasks + total (rule_spare program typings m d) s.rules)

  -- the others have no more that is unmarked than in all
  rest_less : (d : ℕ) (s : State) (a : Actor) → rest_spare marks d s a ≤ rest_spare no_marks d s a
  rest_less d s a =
      let frames = total_less (frame_spare program typings marks d) (frame_spare program typings no_marks d) (remove s.frames a) (λ f. spare_less d unmarked (marks f.procedure f.position.place) (typing_of typings f) f.rights (λ k e. cc)) in
      let tasks = total_less (task_spare program typings marks d) (task_spare program typings no_marks d) s.tasks (λ t. args_marked d unmarked (marks t.procedure 0) (params_of program t.procedure) t.args (λ k e. cc)) in
      let rules = total_less (rule_spare program typings marks d) (rule_spare program typings no_marks d) s.rules (λ t. args_marked d unmarked (marks t.procedure 0) (params_of program t.procedure) t.args (λ k e. cc)) in
      omega (arith, frames, tasks, rules)

  module _ (copied : Copied) (s next : State) (tracks : Tracks copied s) (grows : s.store.next ≤ next.store.next) where
    pub tracks_new : (born : ℕ → ℕ) → ((d : ℕ) → born d ≤ 1) → ((d : ℕ) → d < s.store.next → born d ≡ 0) → ((d : ℕ) → next.store.next ≤ d → born d ≡ 0)
        → ((d : ℕ) → marked_left d next ≤ marked_left d s + born d) → ((d : ℕ) → all_left d next ≤ all_left d s + born d) → Tracks copied next
    tracks_new born one old above left all = record {
      spent = λ d is. elim (cases_lt d s.store.next) [
        | inl less ↦ let z = old d less in let l = left d in let x = tracks.spent d is in omega (arith, z, l, x)
        | inr more ↦ (let f = (tracks.fresh d (omega (arith, more))).1 in cc)
      ];
      few = λ d not. elim (cases_lt d s.store.next) [
        | inl less ↦ let z = old d less in let l = all d in let x = tracks.few d not in omega (arith, z, l, x)
        | inr more ↦ let f = (tracks.fresh d (omega (arith, more))).0 in let l = all d in let o = one d in omega (arith, f, l, o)
      ];
      fresh = λ d more.
          let f = tracks.fresh d (omega (arith, more, grows)) in
          let l = all d in
          let z = above d more in
          (is_zero (all_left d next) (omega (arith, f.0, l, z)), f.1);
    }

    pub tracks_less : ((d : ℕ) → marked_left d next ≤ marked_left d s) → ((d : ℕ) → all_left d next ≤ all_left d s) → Tracks copied next
    tracks_less left all = tracks_new (λ d. 0) (λ d. omega arith) (λ d less. refl) (λ d more. refl) (λ d. let l = left d in omega (arith, l)) (λ d. let l = all d in omega (arith, l))

  module _ (copied : Copied) (s : State) (held : IsHeld program typings s) (tracks : Tracks copied s) where
    -- ---- an instruction on data

    module _ (a : Actor) (f : Frame) (runs : get s.frames a ≡ Some f) (p : Procedure) (here : slice_get program f.procedure ≡ Some p) where
      module _ (i : DataInstr) (at : slice_get p.code f.position.place ≡ Some (instr.Data i)) (c : Context) (e : data_instr i (context_of s f) ≡ Ok c) (grows : s.store.next ≤ c.store.next) where
        abbrev after_it : State
        after_it = after_context s a f c

        covers : (r : ℕ) → marked_by i (marks f.procedure f.position.place) r ≡ true → marks f.procedure c.position.place r ≡ true
        covers r marked =
            let shown = data_shown program typings proper are s held marks (closed_carried program marks closed) a f runs p here i c at e in
            closed.later f.procedure f.position.place c.position.place r p (instr.Data i) shown.way here at shown.goes_on marked

        left : (d : ℕ) → marked_left d after_it ≤ marked_left d s + new_writes i s.store.next d
        left d = data_less program typings proper are s held marks (closed_carried program marks closed) a f runs p here i c at e covers d

        plain : is_copy i ≡ false → Tracks copied after_it
        plain calm =
            let shown = data_shown program typings proper are s held no_marks (none_carried program) a f runs p here i c at e in
            tracks_new copied s after_it tracks grows (λ d. new_writes i s.store.next d) (λ d. new_few i s.store.next d) (λ d less. new_old i s.store.next d less) shown.fresh left
            (λ d. data_less program typings proper are s held no_marks (none_carried program) a f runs p here i c at e (λ r marked. absurd (never_by i calm r marked)) d)

      module _ (to from : ℕ) (at : slice_get p.code f.position.place ≡ Some (instr.Data (on_data.CopyWrite to from))) (c : Context) (e : data_instr (on_data.CopyWrite to from) (context_of s f) ≡ Ok c) (grows : s.store.next ≤ c.store.next) where
        abbrev after_copy : State
        after_copy = after_context s a f c

        abbrev g : Frame
        g = record f { position = c.position; rights = c.rights; spent = f.spent + 1 }

        shown : CopySpare (typing_of typings f) to from (context_of s f) c
        shown = copy_spare p.registers (typing_of typings f) (context_of s f) to from c (asked_at program typings proper are f.procedure p here f.position.place (instr.Data (on_data.CopyWrite to from)) at) e

        typing_is : typing_at typings f.procedure c.position.place ≡ slice_set (typing_of typings f) to (right_at (typing_of typings f) from)
        typing_is =
            let there = data_shown program typings proper are s held marks (closed_carried program marks closed) a f runs p here (on_data.CopyWrite to from) c at e in
            (typed_after program typings proper are f.procedure p here f.position.place c.position.place (instr.Data (on_data.CopyWrite to from)) there.way at there.goes_on).1

        left_less : (d : ℕ) → marked_left d after_copy ≤ marked_left d s
        left_less d = let l = left (on_data.CopyWrite to from) at c e grows d in omega (arith, l)

        -- all of the frame's, afterwards
        all_is : (d : ℕ) → frame_spare program typings no_marks d g ≡ spare d unmarked (slice_set (typing_of typings f) to (right_at (typing_of typings f) from)) c.rights
        all_is d = ap (λ (z : Typing). spare d unmarked z c.rights) typing_is

        others_less : (d : ℕ) → (d ≡ shown.id → ⊥) → all_left d after_copy ≤ all_left d s
        others_less d apart =
            let o = shown.others d apart in
            let is = all_is d in
            let put = replaced_less actor_cmp actor_cmp_total actor_cmp-IsAntisymmetric (frame_spare program typings no_marks d) s.frames a f g runs in
            omega (arith, o, is, put)

        -- if there was one write right, both are marked now, and there is no other
        own_none : copied shown.id ≡ false → marked_left shown.id after_copy ≡ 0
        own_none not =
            let d : ℕ = shown.id in
            let few = tracks.few d not in
            let n : Marked = marks f.procedure c.position.place in
            let n_to : n to ≡ true = covers (on_data.CopyWrite to from) at c e grows to (or_left (to == to) ((to == from) || marks f.procedure f.position.place to) (eq-eqb to to refl)) in
            let n_from : n from ≡ true = covers (on_data.CopyWrite to from) at c e grows from (or_right (from == to) ((from == from) || marks f.procedure f.position.place from) (or_left (from == from) (marks f.procedure f.position.place from) (eq-eqb from from refl))) in
            let own = shown.own n n_to n_from in
            let is : frame_spare program typings marks d g ≡ spare d n (slice_set (typing_of typings f) to (right_at (typing_of typings f) from)) c.rights = ap (λ (z : Typing). spare d n z c.rights) typing_is in
            let rest = rest_less d s a in
            let apart = sum_apart actor_cmp actor_cmp_total actor_cmp-IsAntisymmetric (frame_spare program typings no_marks d) s.frames a f runs in
            let before = sum_apart actor_cmp actor_cmp_total actor_cmp-IsAntisymmetric (frame_spare program typings marks d) s.frames a f runs in
            let put = replaced_less actor_cmp actor_cmp_total actor_cmp-IsAntisymmetric (frame_spare program typings marks d) s.frames a f g runs in
            is_zero (marked_left d after_copy) (omega (arith, few, own, is, rest, apart, before, put))

        id_old : shown.id < s.store.next
        id_old =
            let q = passed writes (right_at (typing_of typings f) from) (asked_at program typings proper are f.procedure p here f.position.place (instr.Data (on_data.CopyWrite to from)) at).1.0 in
            let h = register_holds program typings proper are s held a f runs from q.0 q.1 in
            let same : h.id ≡ shown.id = same_Some h.id shown.id (sym h.register ∙ shown.held) in
            subst (λ d. d < s.store.next) same (held.types.store.fresh h.id h.x h.live)

        copied_before : (d : ℕ) → ((d == shown.id) || copied d) ≡ false → (d ≡ shown.id → ⊥) × (copied d ≡ false)
        copied_before d not = by (d == shown.id) (copied d) refl refl not
          where
            by : (b k : Bool) → (d == shown.id) ≡ b → copied d ≡ k → (b || k) ≡ false → (d ≡ shown.id → ⊥) × (copied d ≡ false)
            by true k e f calm = cc
            by false true e f calm = cc
            by false false e f calm = (λ same. let hit : (d == shown.id) ≡ true = eq-eqb d shown.id same in cc, f)

        now_copied : (d : ℕ) → ((d == shown.id) || copied d) ≡ true → (d ≡ shown.id) ⊎ (copied d ≡ true)
        now_copied d is = by (d == shown.id) refl is
          where
            by : (b : Bool) → (d == shown.id) ≡ b → (b || copied d) ≡ true → (d ≡ shown.id) ⊎ (copied d ≡ true)
            by true e known = inl (eqb-true d shown.id e)
            by false e known = inr known

        spent_before : (d : ℕ) → copied d ≡ true → marked_left d after_copy ≡ 0
        spent_before d is = let x = tracks.spent d is in let l = left_less d in is_zero (marked_left d after_copy) (omega (arith, x, l))

        spent_own : marked_left shown.id after_copy ≡ 0
        spent_own = by (copied shown.id) refl
          where
            by : (b : Bool) → copied shown.id ≡ b → marked_left shown.id after_copy ≡ 0
            by true is = spent_before shown.id is
            by false not = own_none not

        copying : Tracks (with_copy copied (right_at f.rights from)) after_copy
        copying = subst (λ o. Tracks (with_copy copied o) after_copy) (sym shown.held) (record {
          spent = λ d is. elim (now_copied d is) [
            | inl same ↦ subst (λ k. marked_left k after_copy ≡ 0) (sym same) spent_own
            | inr before ↦ spent_before d before
          ];
          few = λ d not. let b = copied_before d not in let l = others_less d b.0 in let x = tracks.few d b.1 in omega (arith, l, x);
          fresh = λ d more.
              let x = tracks.fresh d (omega (arith, more, grows)) in
              let apart : d ≡ shown.id → ⊥ = λ same. (let less = id_old in omega (arith, same, less, more, grows)) in
              let l = others_less d apart in
              (is_zero (all_left d after_copy) (omega (arith, x.0, l)), ap (λ b. b || copied d) (ne_eqb d shown.id apart) ∙ x.1);
        })

      data_tracks : (i : DataInstr) (b : Bool) → is_copy i ≡ b → slice_get p.code f.position.place ≡ Some (instr.Data i) → (c : Context) → data_instr i (context_of s f) ≡ Ok c → s.store.next ≤ c.store.next
          → Tracks (with_copy copied (copy_of f (Some (instr.Data i)))) (after_context s a f c)
      data_tracks i false calm at c e grows = subst (λ o. Tracks (with_copy copied o) (after_context s a f c)) (sym (no_copy_of f i calm)) (plain i at c e grows calm)
      data_tracks (on_data.CopyWrite to from) true is at c e grows = copying to from at c e grows
      data_tracks (on_data.New write read ty) true is at c e grows = cc
      data_tracks (on_data.Store datum from) true is at c e grows = cc
      data_tracks (on_data.Get to datum) true is at c e grows = cc
      data_tracks (on_data.Insert by container subscript member skip) true is at c e grows = cc
      data_tracks (on_data.Look by member container subscript skip) true is at c e grows = cc
      data_tracks (on_data.Size to container) true is at c e grows = cc
      data_tracks (on_data.SubscriptAt by to container index skip) true is at c e grows = cc
      data_tracks (on_data.InsertValue map subscript from skip) true is at c e grows = cc
      data_tracks (on_data.AddValue map subscript from) true is at c e grows = cc
      data_tracks (on_data.GetValue to map subscript skip) true is at c e grows = cc
      data_tracks (on_data.CopyRead to from) true is at c e grows = cc
      data_tracks (on_data.DropRead right) true is at c e grows = cc
      data_tracks (on_data.DropWrite right) true is at c e grows = cc

    -- ---- any event

    module _ (next : State) (grows : s.store.next ≤ next.store.next) where
      less_tracks : HasLess program typings proper are s held marks (closed_carried program marks closed) next → HasLess program typings proper are s held no_marks (none_carried program) next → Tracks copied next
      less_tracks one two = tracks_less copied s next tracks grows one two

      call_tracks : (a : Actor) (at : RunningInstr) → IsRunningAt program a s at → (i : Instr) → at.instr ≡ i → call_by program s a at i ≡ Went next → Tracks (with_copy copied (copy_of at.frame (Some i))) next
      call_tracks a at st (instr.Local i) is e = cc
      call_tracks a at st (instr.Data i) is e =
          let c = went_first (outcome_of (data_instr i (context_of s at.frame))) _ next e in
          let same = same_went (after_context s a at.frame c.0) next c.2 in
          subst (Tracks (with_copy copied (copy_of at.frame (Some (instr.Data i))))) same
          (data_tracks a at.frame st.frame at.procedure st.procedure i (is_copy i) refl (st.instr ∙ ap Some is) c.0 (went_ok (data_instr i (context_of s at.frame)) c.0 c.1) (subst (λ (z : State). s.store.next ≤ z.store.next) (sym same) grows))
      call_tracks a at st (instr.Rule action) is e =
          let call = went_first (outcome_of (called program at.procedure.kind (context_of s at.frame) action)) _ next e in
          let ok = went_ok (called program at.procedure.kind (context_of s at.frame) action) call.0 call.1 in
          less_tracks
          (subst (HasLess program typings proper are s held marks (closed_carried program marks closed)) (same_went _ next call.2)
          (rule_less program typings proper are s held marks (closed_carried program marks closed) a at.frame st.frame at.procedure st.procedure action at.procedure.kind (number_in_kind a) call.0 (st.instr ∙ ap Some is) ok))
          (subst (HasLess program typings proper are s held no_marks (none_carried program)) (same_went _ next call.2)
          (rule_less program typings proper are s held no_marks (none_carried program) a at.frame st.frame at.procedure st.procedure action at.procedure.kind (number_in_kind a) call.0 (st.instr ∙ ap Some is) ok))
      call_tracks a at st (instr.Put action) is e =
          let call = went_first (outcome_of (put_called program at.procedure.kind (context_of s at.frame) action)) _ next e in
          let ok = went_ok (put_called program at.procedure.kind (context_of s at.frame) action) call.0 call.1 in
          less_tracks
          (subst (HasLess program typings proper are s held marks (closed_carried program marks closed)) (same_went _ next call.2)
          (put_less_by program typings proper are s held marks (closed_carried program marks closed) a at.frame st.frame at.procedure st.procedure action at.procedure.kind call.0 (st.instr ∙ ap Some is) ok))
          (subst (HasLess program typings proper are s held no_marks (none_carried program)) (same_went _ next call.2)
          (put_less_by program typings proper are s held no_marks (none_carried program) a at.frame st.frame at.procedure st.procedure action at.procedure.kind call.0 (st.instr ∙ ap Some is) ok))
      call_tracks a at st instr.Ret is e = cc

      copied_is : (a : Actor) (at : RunningInstr) → IsRunningAt program a s at → copied_by program (Call a) s ≡ copy_of at.frame (Some at.instr)
      copied_is a at st = ap (copy_in program) st.frame ∙ ap (copy_of at.frame) (ap (option_and_then (λ (q : Procedure). slice_get q.code at.frame.position.place)) st.procedure ∙ st.instr)

      pub event_tracks : (layout : ActorCounts) (event : Event) → step program layout event s ≡ Went next → Tracks (with_copy copied (copied_by program event s)) next
      unfolding step
      event_tracks layout (Take a) e = less_tracks (went_of _ _ next (take_less program typings proper are s held marks (closed_carried program marks closed) layout a) e) (went_of _ _ next (take_less program typings proper are s held no_marks (none_carried program) layout a) e)
      event_tracks layout (Local a n) e = less_tracks (went_of _ _ next (local_less program typings proper are s held marks (closed_carried program marks closed) a n) e) (went_of _ _ next (local_less program typings proper are s held no_marks (none_carried program) a n) e)
      event_tracks layout (Call a) e =
          let at = went_first (running_instr_of program a s) _ next e in
          let st = is_running_at program a s at.0 at.1 in
          subst (λ o. Tracks (with_copy copied o) next) (sym (copied_is a at.0 st)) (call_tracks a at.0 st at.0.instr refl at.2)
      event_tracks layout (End a) e = less_tracks (went_of _ _ next (end_less program typings proper are s held marks (closed_carried program marks closed) a) e) (went_of _ _ next (end_less program typings proper are s held no_marks (none_carried program) a) e)
      event_tracks layout (Ask engine rule parameter) e = less_tracks (went_of _ _ next (ask_less program typings proper are s held marks (closed_carried program marks closed) engine rule parameter) e) (went_of _ _ next (ask_less program typings proper are s held no_marks (none_carried program) engine rule parameter) e)
      event_tracks layout (Deliver server datum rule parameter) e =
          less_tracks (went_of _ _ next (deliver_less program typings proper are s held marks (closed_carried program marks closed) layout server (record { datum = datum; rule = rule; parameter = parameter })) e)
          (went_of _ _ next (deliver_less program typings proper are s held no_marks (none_carried program) layout server (record { datum = datum; rule = rule; parameter = parameter })) e)
      event_tracks layout (Release engine rule) e = less_tracks (went_of _ _ next (release_less program typings proper are s held marks (closed_carried program marks closed) engine rule) e) (went_of _ _ next (release_less program typings proper are s held no_marks (none_carried program) engine rule) e)

    -- ---- nothing is contested

    insert_calm : (a : Actor) (f : Frame) → get s.frames a ≡ Some f → (i : DataInstr) (register : ℕ) → instr_here program f ≡ Some (instr.Data i) → InsertsInto (instr.Data i) register
        → ((p : Procedure) → AllYes (requires_data p.registers i (typing_of typings f)) → (q : RightType) × (right_at (typing_of typings f) register ≡ Some q) × (is_write q.mode ≡ true)) → is_copied copied (right_at f.rights register) ≡ false
    insert_calm a f runs i container is into write_right = having (right_at f.rights container) refl
      where
        at : (p : Procedure) × (slice_get program f.procedure ≡ Some p) × (slice_get p.code f.position.place ≡ Some (instr.Data i))
        at = some_first (slice_get program f.procedure) (λ (q : Procedure). slice_get q.code f.position.place) _ is

        clash : (id : ℕ) → right_at f.rights container ≡ Some id → copied id ≡ true → ⊥
        clash id there is =
            let q = write_right at.0 (asked_at program typings proper are f.procedure at.0 at.1 f.position.place (instr.Data i) at.2) in
            let write = q.2 in
            let one = spare_there id (marks f.procedure f.position.place) (typing_of typings f) f.rights container (Some q.0) (Some id) (filled_at (typing_of typings f) container q.0 q.1) (filled_at f.rights container id there) in
            let count : one_spare id (marks f.procedure f.position.place container) (Some q.0) (Some id) ≡ 1 =
            ap (λ b. one_spare id b (Some q.0) (Some id)) (inserts f.procedure f.position.place container (instr.Data i) at.0 at.1 at.2 into) ∙ ap (λ b. if b then hits id id else 0) write ∙ hits_same id in
            let part_of = part-le-total actor_cmp actor_cmp_total actor_cmp-IsAntisymmetric (frame_spare program typings marks id) s.frames a in
            let part_is : part (frame_spare program typings marks id) (get s.frames a) ≡ frame_spare program typings marks id f = ap (part (frame_spare program typings marks id)) runs in
            let none = tracks.spent id is in
            omega (arith, one, count, part_of, part_is, none)

        having : (o : Option ℕ) → right_at f.rights container ≡ o → is_copied copied o ≡ false
        having None there = refl
        having (Some id) there = not_copied (copied id) refl
          where
            not_copied : (b : Bool) → copied id ≡ b → copied id ≡ false
            not_copied true is = absurd (clash id there is)
            not_copied false is = is

    data_calm : (a : Actor) (f : Frame) → get s.frames a ≡ Some f → (i : DataInstr) → instr_here program f ≡ Some (instr.Data i) → is_contest copied s.store f (Some (instr.Data i)) ≡ false
    data_calm a f runs (on_data.New write read ty) is = refl
    data_calm a f runs (on_data.Store datum from) is = refl
    data_calm a f runs (on_data.Get to datum) is = refl
    data_calm a f runs (on_data.Insert by container subscript member skip) is =
        ap (λ b. b && is_taken s.store f container subscript) (insert_calm a f runs (on_data.Insert by container subscript member skip) container is refl (λ p asked.
        let q = passed (writes_container_by by) (right_at (typing_of typings f) container) asked.0 in
        (q.0, q.1, (and_parts (is_write q.0.mode) (is_container_by by q.0.ty) q.2).0)))
    data_calm a f runs (on_data.Look by member container subscript skip) is = refl
    data_calm a f runs (on_data.Size to container) is = refl
    data_calm a f runs (on_data.SubscriptAt by to container index skip) is = refl
    data_calm a f runs (on_data.InsertValue map subscript from skip) is =
        ap (λ b. b && is_value_taken s.store f map subscript) (insert_calm a f runs (on_data.InsertValue map subscript from skip) map is refl (λ p asked.
        let q = passed writes_map (right_at (typing_of typings f) map) asked.0 in
        (q.0, q.1, (and_parts (is_write q.0.mode) (is_plain_map q.0.ty) q.2).0)))
    data_calm a f runs (on_data.AddValue map subscript from) is = refl
    data_calm a f runs (on_data.GetValue to map subscript skip) is = refl
    data_calm a f runs (on_data.CopyRead to from) is = refl
    data_calm a f runs (on_data.CopyWrite to from) is = refl
    data_calm a f runs (on_data.DropRead right) is = refl
    data_calm a f runs (on_data.DropWrite right) is = refl

    instr_calm : (a : Actor) (f : Frame) → get s.frames a ≡ Some f → (o : Option Instr) → instr_here program f ≡ o → is_contest copied s.store f o ≡ false
    instr_calm a f runs None is = refl
    instr_calm a f runs (Some (instr.Local i)) is = refl
    instr_calm a f runs (Some (instr.Data i)) is = data_calm a f runs i is
    instr_calm a f runs (Some (instr.Rule action)) is = refl
    instr_calm a f runs (Some (instr.Put action)) is = refl
    instr_calm a f runs (Some instr.Ret) is = refl

    frame_calm : (a : Actor) (o : Option Frame) → get s.frames a ≡ o → is_contest_of program copied s o ≡ false
    frame_calm a None runs = refl
    frame_calm a (Some f) runs = instr_calm a f runs (instr_here program f) refl

    pub calm : (event : Event) → contests program copied event s ≡ false
    calm (Take a) = refl
    calm (Local a n) = refl
    calm (Call a) = frame_calm a (get s.frames a) refl
    calm (End a) = refl
    calm (Ask engine rule parameter) = refl
    calm (Deliver server datum rule parameter) = refl
    calm (Release engine rule) = refl

  -- ---- runs

  pub run_calm : (layout : ActorCounts) (events : List Event) (copied : Copied) (s : State) → IsHeld program typings s → Tracks copied s → ContestsNone program layout copied events s
  run_calm layout [] copied s held tracks = tt
  run_calm layout (event ∷ events) copied s held tracks = (
    calm copied s held tracks event,
    λ next e.
        let lasts = went_of (step program layout event s) (Lasts s) next (step_lasts program typings (accepted program typings (accepts program typings proper are)) s held layout event) e in
        run_calm layout events (with_copy copied (copied_by program event s)) next (kept_by program typings layout event s next proper are held e) (event_tracks copied s held tracks next lasts.store.next layout event e),
  )

  -- at first nothing is copied, and no datum has two write rights
  module _ (inputs : List Input) (given : AreInputsOf program inputs) where
    abbrev first : State
    first = opening program inputs

    held_first : IsHeld program typings first
    held_first = opened_held program typings proper are inputs given

    all_counted : (d : ℕ) → all_left d first ≤ writes_of program typings first d
    all_counted d =
        let frames = total_less (frame_spare program typings no_marks d) (frame_writes typings d) first.frames (λ f. registers_less d (typing_of typings f) f.rights) in
        let tasks = total_less (task_spare program typings no_marks d) (task_writes program d) first.tasks (λ t. args_less d (params_of program t.procedure) t.args) in
        let rules = total_less (rule_spare program typings no_marks d) (rule_writes program d) first.rules (λ t. args_less d (params_of program t.procedure) t.args) in
        omega (arith, frames, tasks, rules)

    first_few : (d : ℕ) (o : Option Datum) → get first.store.live d ≡ o → all_left d first ≤ 1
    first_few d None at =
        let c = all_counted d in
        let none = (balanced_none first.store.live (reads_of program typings first) (writes_of program typings first) d held_first.counts.balanced at).2 in
        omega (arith, c, none)
    first_few d (Some x) at =
        let c = all_counted d in
        let is = (balanced_some first.store.live (reads_of program typings first) (writes_of program typings first) d x held_first.counts.balanced at).1 in
        let b = begins program typings inputs false held_first in
        let few = b.shows.shared.few d x at (ap (λ k. k d) b.copied) in
        omega (arith, c, is, few)

    first_fresh : (d : ℕ) → first.store.next ≤ d → (o : Option Datum) → get first.store.live d ≡ o → all_left d first ≡ 0
    first_fresh d more None at =
        let c = all_counted d in
        let none = (balanced_none first.store.live (reads_of program typings first) (writes_of program typings first) d held_first.counts.balanced at).2 in
        is_zero (all_left d first) (omega (arith, c, none))
    first_fresh d more (Some x) at = let less = held_first.types.store.fresh d x at in absurd (omega (arith, more, less))

    pub first_tracks : Tracks none_copied first
    first_tracks = record {
      spent = λ d is. cc;
      few = λ d not. first_few d (get first.store.live d) refl;
      fresh = λ d more. (first_fresh d more (get first.store.live d) refl, refl);
    }

pub never_contests : (program : List Procedure) (typings : Typings) → IsProgram program → AreRight program typings → IsMarkable program → NeverContests program
never_contests program typings proper are h inputs layout events given =
    run_calm program typings proper are h.marks h.closed h.inserts layout events none_copied (opening program inputs) (opened_held program typings proper are inputs given)
    (first_tracks program typings proper are h.marks h.closed h.inserts inputs given)
