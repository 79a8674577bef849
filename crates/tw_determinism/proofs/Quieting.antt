-- A state that has ended shows a core machine in which no task can make a step, and what is closed in the one is closed in the other.
use Rattle.std.proofs.Common.{◌≡◌, inl, inr, ℕ, suc, ◌+◌, ◌<◌, ◌==◌, Bool, true, false, if◌then◌else◌, List, [], ◌∷◌, length, Some, None, refl, sym, ap, subst, ◌∙◌, slice_get, arith, nat_cmp}
use Rattle.tw_determinism.proofs.MachineNames.{Arg, Closed, Content, Datum, Ending, FinMap, Free, IsHeld, Mode, Ordering, Param, Procedure, Ready, Ref, RightArg, Rule, RuleArgsFit, Stage, State, Store, Typings, Unasked, Val, ValueArg, Waiting, Write, actor_cmp, and_parts, balanced_some, cases_eq, empty_of_len, ending, entries, eq-eqb, eqb-true, frame_writes, get, get-empty, hits, is_asked_for, is_closed, is_closed_mode, is_quiet, is_write, len, len-entries, nat_cmp_total, option_map, over_params, params_in, params_of, reads_of, right_of, rule_writes, same_Some, task_writes, write_by, writes_of}
use Rattle.tw_types.specs.declared.ending.Ending.TheVariants.{Quiet, Stuck}
use Rattle.tw_types.specs.Store as store
use Rattle.tw_code.specs.machine.Pending.{waited_for}
use Rattle.tw_soundness.proofs.Ends.{ends_well}
use Rattle.tw_soundness.proofs.Entries.{none_of, some_part}
use Rattle.tw_types.specs.Totals.{sum_of, total}
use Rattle.tw_determinism.proofs.Names.{Name}
use Rattle.tw_determinism.proofs.CoreEffects.{Thread, Waits, Ended, Net, HasWrite, IsWritable, IsClosedPool, IsClosed, awaits_of, cell_at, effect_of, next_name, subject_of}
use Rattle.tw_determinism.proofs.CoreMachine.{IsOver}
use Rattle.tw_determinism.proofs.Options.{some_mapped}
use Rattle.tw_determinism.proofs.Closing.{map_unwritten}
use Rattle.tw_determinism.proofs.Showing.{Holder, OfFrame, OfTask, OfRule, Naming, Shows, alive, awaits_in, cell_of, one, rights_in, thread_in, waiting}

-- ---- consequences of an ending

record HasEnded (s : State) : Type 0 where
  frames : len s.frames ≡ 0
  tasks : len s.tasks ≡ 0
  quiet : is_quiet s ≡ true

has_ended : (s : State) (end : Ending) → ending s ≡ Some end → HasEnded s
has_ended s end e = by (is_quiet s) refl e
  where
    parts : is_quiet s ≡ true → HasEnded s
    parts q = let p = and_parts _ _ q in let r = and_parts _ _ p.1 in record { frames = eqb-true (len s.frames) 0 p.0; tasks = eqb-true (len s.tasks) 0 r.0; quiet = q }

    by : (q : Bool) → is_quiet s ≡ q → (if q then Some (if len s.rules == 0 then Quiet else Stuck (len s.rules)) else None) ≡ Some end → HasEnded s
    by true q e = parts q
    by false q e = cc

no_entry : {K X : Type 0} {R : K → K → Ordering} (m : FinMap R X) (k : K) (x : X) → len m ≡ 0 → get m k ≡ Some x → ⊥
no_entry {R = R} m k x none at = let empty : get m k ≡ None = ap (λ z. get z k) (empty_of_len m none) ∙ get-empty R k in cc

-- a rule is there, so it isn't quiet: it is stuck
stuck_there : (s : State) → is_quiet s ≡ true → (len s.rules ≡ 0 → ⊥) → ending s ≡ Some (Stuck (len s.rules))
stuck_there s q some = by (len s.rules == 0) refl
  where
    by : (b : Bool) → (len s.rules == 0) ≡ b → ending s ≡ Some (Stuck (len s.rules))
    by true e = absurd (some (eqb-true (len s.rules) 0 e))
    by false e = rw (q, e) refl

-- ---- the datum for which a rule waits first is among those that its task awaits

awaited_first : (f : ℕ → Name) (s : Store) (params : List Param) (stages : List Stage) (args : List Arg) (id : ℕ) → RuleArgsFit s params stages args → slice_get (waited_for stages args) 0 ≡ Some id
    → (k : ℕ) × (slice_get (awaits_in f params args) k ≡ Some (f id))
awaited_first f s [] [] [] id fit at = cc
awaited_first f s [] [] (arg ∷ args) id fit at = absurd fit
awaited_first f s [] (stage ∷ stages) args id fit at = absurd fit
awaited_first f s (p ∷ params) [] args id fit at = absurd fit
awaited_first f s (p ∷ params) (stage ∷ stages) [] id fit at = absurd fit
awaited_first f s (p ∷ params) (stage ∷ stages) (ValueArg x ∷ args) id fit at = awaited_first f s params stages args id fit.2 at
awaited_first f s (p ∷ params) (stage ∷ stages) (RightArg d ∷ args) id fit at = by stage fit.0 at (λ e. awaited_first f s params stages args id fit.2 e)
  where
    by : (stage : Stage) → is_asked_for stage ≡ is_closed_mode p.mode → slice_get (waited_for (stage ∷ stages) (RightArg d ∷ args)) 0 ≡ Some id
        → (slice_get (waited_for stages args) 0 ≡ Some id → (k : ℕ) × (slice_get (awaits_in f params args) k ≡ Some (f id)))
        → (k : ℕ) × (slice_get (if is_closed_mode p.mode then f d ∷ awaits_in f params args else awaits_in f params args) k ≡ Some (f id))
    by Free asked at rest = let r = rest at in rw (sym asked) r
    by Unasked asked at rest = let r = rest at in rw (sym asked) (suc r.0, r.1)
    by Ready asked at rest = let r = rest at in rw (sym asked) (suc r.0, r.1)
    by Waiting asked at rest = rw (sym asked) (0, ap (λ z. Some (f z)) (same_Some d id at))

-- ---- a write of a rule by its name

write_at : (f : ℕ → Name) (d : ℕ) (params : List Param) (args : List Arg) → 0 < over_params (write_by d) params args → (k : ℕ) × HasWrite (f d) (slice_get (rights_in f params args) k)
write_at f d [] args some = absurd (omega arith)
write_at f d (p ∷ params) [] some = absurd (omega arith)
write_at f d (p ∷ params) (ValueArg x ∷ args) some = write_at f d params args (by p.mode some)
  where
    by : (mode : Mode) → 0 < write_by d (right_of (record p { mode = mode })) None + over_params (write_by d) params args → 0 < over_params (write_by d) params args
    by Val h = omega arith
    by Closed h = omega arith
    by Ref h = omega arith
    by Write h = omega arith
write_at f d (p ∷ params) (RightArg id ∷ args) some = by p.mode refl some (λ h. let rest = write_at f d params args h in (suc rest.0, rest.1))
  where
    by : (mode : Mode) → p.mode ≡ mode → 0 < write_by d (right_of (record p { mode = mode })) (Some id) + over_params (write_by d) params args → (0 < over_params (write_by d) params args → (k : ℕ) × HasWrite (f d) (slice_get (rights_in f (p ∷ params) (RightArg id ∷ args)) k)) → (k : ℕ) × HasWrite (f d) (slice_get (rights_in f (p ∷ params) (RightArg id ∷ args)) k)
    by Val is h next = next (omega arith)
    by Closed is h next = next (omega arith)
    by Ref is h next = next (omega arith)
    by Write is h next = here (id == d) refl
      where
        here : (b : Bool) → (id == d) ≡ b → (k : ℕ) × HasWrite (f d) (slice_get (rights_in f (p ∷ params) (RightArg id ∷ args)) k)
        here true same = (0, (ap is_write is, ap f (eqb-true id d same)))
        here false other = next (let none : hits d id ≡ 0 = ap (λ b. if b then 1 else 0) other in omega arith)

-- ---- in an ended state

module _ (program : List Procedure) (typings : Typings) (s : State) (held : IsHeld program typings s) (end : Ending) (ends : ending s ≡ Some end) (n : Naming) (m : Net) (shows : Shows program typings n s m) where
  ended : HasEnded s
  ended = has_ended s end ends

  writes_are : (d : ℕ) → writes_of program typings s d ≡ total (rule_writes program d) s.rules
  writes_are d =
      let frames = none_of actor_cmp (frame_writes typings d) s.frames ended.frames in
      let tasks = none_of nat_cmp (task_writes program d) s.tasks ended.tasks in
      omega arith

  -- an open container is not closed in the core machine: a rule has a write right on it
  rule_has : (id : ℕ) (x : Datum) → get s.store.live id ≡ Some x → (x.writes ≡ 0 → ⊥) → IsWritable m.threads (n.datum id) → ⊥
  rule_has id x live some nobody =
      let balance = balanced_some s.store.live (reads_of program typings s) (writes_of program typings s) id x held.counts.balanced live in
      let w = writes_are id in
      let p = some_part nat_cmp nat_cmp_total (rule_writes program id) s.rules (omega (arith, balance.1)) in
      let has = write_at n.datum id (params_of program p.1.procedure) p.1.args p.3 in
      let th : Thread = Waits (waiting n.datum program p.1.procedure p.1.args) in
      let at : thread_in program typings n.datum s (OfRule p.0) ≡ Some th = ap (option_map (λ (rule : Rule). Waits (waiting n.datum program rule.procedure rule.args))) p.2 in
      nobody (n.holder (OfRule p.0)) th (shows.threads.there (OfRule p.0) th at) has

  pub closed_back : (id : ℕ) (x : Datum) → get s.store.live id ≡ Some x → IsClosed m (n.datum id) → is_closed x ≡ true
  closed_back id x live c = by x.content refl
    where
      cell_is : c.cell ≡ cell_of n.datum x.ty x.content
      cell_is = same_Some c.cell (cell_of n.datum x.ty x.content) (sym c.there ∙ shows.cells.live id x live)

      by : (content : Content) → x.content ≡ content → is_closed (record x { content = content }) ≡ true
      by store.Unset is = absurd (subst (IsClosedPool m.threads (n.datum id)) (cell_is ∙ ap (cell_of n.datum x.ty) is) c.shut)
      by (store.Set v) is = refl
      by (store.Contains members) is = elim (cases_eq x.writes 0) [
        | inl none ↦ eq-eqb x.writes 0 none
        | inr some ↦ absurd (rule_has id x live some (subst (IsClosedPool m.threads (n.datum id)) (cell_is ∙ ap (cell_of n.datum x.ty) is) c.shut))
      ]
      by (store.Maps values) is = elim (cases_eq x.writes 0) [
        | inl none ↦ eq-eqb x.writes 0 none
        | inr some ↦ absurd (rule_has id x live some (map_unwritten m.threads (n.datum id) x.ty values (subst (IsClosedPool m.threads (n.datum id)) (cell_is ∙ ap (cell_of n.datum x.ty) is) c.shut)))
      ]

  -- a rule's task waits
  rule_waits : (k : ℕ) (rule : Rule) → get s.rules k ≡ Some rule → (th : Thread) → Waits (waiting n.datum program rule.procedure rule.args) ≡ th
      → ((j : ℕ) (d : Name) → slice_get (awaits_of th) j ≡ Some d → IsClosed m d) → ⊥
  rule_waits k rule is th same closed =
      let some : len s.rules ≡ 0 → ⊥ = λ none. no_entry s.rules k rule none is in
      let b = (ends_well program typings s held).stuck (len s.rules) (stuck_there s ended.quiet some) k rule is in
      let p = held.types.procedures.rules k rule is in
      let first = awaited_first n.datum s.store p.0.params rule.stages rule.args b.id (held.types.rules k rule p.0 is p.1) b.waits in
      let params : params_of program rule.procedure ≡ p.0.params = ap params_in p.1 in
      let at : slice_get (awaits_of th) first.0 ≡ Some (n.datum b.id) = ap (λ z. slice_get (awaits_of z) first.0) (sym same) ∙ ap (λ z. slice_get (awaits_in n.datum z rule.args) first.0) params ∙ first.1 in
      let shut = closed_back b.id b.x b.live (closed first.0 (n.datum b.id) at) in
      let unfinished = b.unfinished in
      cc

  pub over_shown : IsOver program m
  over_shown t wills = elim (shows.threads.all t wills.thread wills.there) [
    | inl over ↦ nothing wills.thread over wills.is
    | inr h ↦ by h.0 h.2
  ]
    where
      nothing : (th : Thread) → th ≡ Ended → effect_of program (next_name t th) (cell_at m (subject_of program th)) th ≡ Some wills.effect → ⊥
      nothing th over is =
          let none : effect_of program (next_name t Ended) (cell_at m (subject_of program Ended)) Ended ≡ Some wills.effect = subst (λ z. effect_of program (next_name t z) (cell_at m (subject_of program z)) z ≡ Some wills.effect) over is in
          cc

      by : (h : Holder) → thread_in program typings n.datum s h ≡ Some wills.thread → ⊥
      by (OfFrame a) at = let f = some_mapped (get s.frames a) _ wills.thread at in no_entry s.frames a f.0 ended.frames f.1
      by (OfTask k) at = let f = some_mapped (get s.tasks k) _ wills.thread at in no_entry s.tasks k f.0 ended.tasks f.1
      by (OfRule k) at = let f = some_mapped (get s.rules k) _ wills.thread at in rule_waits k f.0 f.1 wills.thread f.2 wills.awaited

-- ---- how it ends

-- the end by how many tasks are left
abbrev pub end_of : ℕ → Ending
end_of left = if left == 0 then Quiet else Stuck left

ones : {K X : Type 0} (es : List (K × X)) → sum_of one es ≡ length es
ones [] = refl
ones (e ∷ es) = let rest = ones es in omega arith

counted : {K X : Type 0} {R : K → K → Ordering} (m : FinMap R X) → total one m ≡ len m
unfolding total
counted m = ones (entries m) ∙ sym (len-entries m)

pub ends_by : (program : List Procedure) (typings : Typings) (s : State) (end : Ending) → ending s ≡ Some end → (n : Naming) (m : Net) → Shows program typings n s m → end ≡ end_of (total alive m.threads)
ends_by program typings s end ends n m shows =
    let h = has_ended s end ends in
    let frames = counted s.frames in
    let tasks = counted s.tasks in
    let rules = counted s.rules in
    let left : len s.rules ≡ total alive m.threads = omega (arith, h.frames, h.tasks, shows.count) in
    let found : ending s ≡ Some (end_of (len s.rules)) = ap (λ b. if b then Some (end_of (len s.rules)) else None) h.quiet in
    same_Some end (end_of (len s.rules)) (sym ends ∙ found) ∙ ap end_of left
