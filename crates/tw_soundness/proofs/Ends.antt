-- A quiet end leaves only the outputs and their members; in a stuck state each rule waits for a datum that a rule may write.
use Rattle.std.proofs.Common.{◌≡◌, ◌⊎◌, inl, inr, ℕ, zero, suc, ◌+◌, ◌<◌, ◌≤◌, ◌==◌, Bool, true, false, not, ◌&&◌, if◌then◌else◌, T, List, [], ◌∷◌, map, slice_get, length, Option, Some, None, refl, sym, ap, subst, ◌∙◌, arith, nat_cmp}
use Rattle.tw_soundness.proofs.MachineNames.{Arg, Contains, Content, Datum, HasWriters, IsEntry, IsHeld, Maps, Notice, Procedure, RightArg, Rule, Set, State, Typings, Unset, ValueArg, Waiting, actor_cmp, and_parts, arg_at, balanced_none, balanced_some, below_all, cases_eq, count_of, depth_of, element_of, entries, entries_sorted, eq-eqb, eqb-false, eqb-true, first, frame_reads, frame_writes, get, get_entry, has_unasked, held_is_there, inside, is_closed, is_releasable, is_sorted, len, len-entries, list_any, nat_cmp-IsAntisymmetric, nat_cmp_total, not-true, notice_cmp, params_of, part, part-le-total, pending_of, pending_rules, reads_of, rule_reads, rule_writes, same_Some, second, stage_at, subscripts_in, task_reads, task_writes, times_at, times_noticed, times_noticed_by, times_subscribed, times_waiting, total, values, writes_of}
use Rattle.std.specs.FinSet as set
use Rattle.tw_types.specs.declared.ending.Ending.TheVariants.{Quiet, Stuck}
use Rattle.tw_types.specs.declared.pending.Link.{Link}
use Rattle.tw_types.specs.declared.pending.Pending.{Pending}
use Rattle.tw_types.specs.Circle.{IsCircle, circle_of, has_rule}
use Rattle.tw_types.proofs.Depths.{element_depth}
use Rattle.tw_types.proofs.Circles.{AreNumbered, IsBlocked, IsIn, circles_are_found}
use Rattle.tw_code.specs.machine.Ending.{ending, has_idle_rules, is_quiet}
use Rattle.tw_soundness.specs.EndsWell.{EndsWell, IsBlockedRule, IsKept, LeavesOutputs, member, output}
use Rattle.tw_soundness.proofs.Blocked.{IsFirstWaited, first_waited, written_there}
use Rattle.tw_soundness.proofs.Entries.{entry_of, none_of, none_passes, not_below, some_part}

-- ---- consequences of an ending

quiet_parts : (s : State) → ending s ≡ Some Quiet → (is_quiet s ≡ true) × (len s.rules ≡ 0)
quiet_parts s h = by (is_quiet s) refl (len s.rules == 0) refl h
  where
    by : (q : Bool) → is_quiet s ≡ q → (z : Bool) → (len s.rules == 0) ≡ z → (if q then Some (if z then Quiet else Stuck (len s.rules)) else None) ≡ Some Quiet → (is_quiet s ≡ true) × (len s.rules ≡ 0)
    by true is true none h = (is, eqb-true (len s.rules) 0 none)
    by true is false some h = cc
    by false is z e h = cc

stuck_parts : (s : State) (n : ℕ) → ending s ≡ Some (Stuck n) → (is_quiet s ≡ true) × (len s.rules ≡ 0 → ⊥)
stuck_parts s n h = by (is_quiet s) refl (len s.rules == 0) refl h
  where
    by : (q : Bool) → is_quiet s ≡ q → (z : Bool) → (len s.rules == 0) ≡ z → (if q then Some (if z then Quiet else Stuck (len s.rules)) else None) ≡ Some (Stuck n) → (is_quiet s ≡ true) × (len s.rules ≡ 0 → ⊥)
    by true is true none h = cc
    by true is false some h = (is, eqb-false (len s.rules) 0 some)
    by false is z e h = cc

-- ---- one datum

closed_unless : (x : Datum) → HasWriters x.content x.writes → x.writes ≡ 0 → is_closed x ≡ true
closed_unless x writers none = by x.content writers
  where
    by : (content : Content) → HasWriters content x.writes → is_closed (record x { content = content }) ≡ true
    by Unset one = absurd (omega arith)
    by (Set v) zero_is = refl
    by (Contains members) h = eq-eqb x.writes 0 none
    by (Maps values) h = eq-eqb x.writes 0 none

open_writes : (x : Datum) → HasWriters x.content x.writes → is_closed x ≡ false → 0 < x.writes
open_writes x writers unfinished = by x.content writers unfinished
  where
    by : (content : Content) → HasWriters content x.writes → is_closed (record x { content = content }) ≡ false → 0 < x.writes
    by Unset one h = omega arith
    by (Set v) zero_is h = cc
    by (Contains members) w h = let some = eqb-false x.writes 0 h in omega arith
    by (Maps values) w h = let some = eqb-false x.writes 0 h in omega arith

-- ---- rules by their numbers, as they are reported

rules_in : (program : List Procedure) (e : ℕ × Rule) (es : List (ℕ × Rule)) → IsEntry e es → IsIn (pending_of program e) (map (pending_of program) es)
rules_in program e [] i = absurd i
rules_in program e (x ∷ es) (inl same) = inl (ap (pending_of program) same)
rules_in program e (x ∷ es) (inr i) = inr (rules_in program e es i)

in_rules : (program : List Procedure) (r : Pending) (es : List (ℕ × Rule)) → IsIn r (map (pending_of program) es) → (e : ℕ × Rule) × IsEntry e es × (r ≡ pending_of program e)
in_rules program r [] i = absurd i
in_rules program r (x ∷ es) (inl same) = (x, inl refl, same)
in_rules program r (x ∷ es) (inr i) = let rest = in_rules program r es i in (rest.0, inr rest.1, rest.2)

absent : (program : List Procedure) (number : ℕ) (es : List (ℕ × Rule)) → ((e : ℕ × Rule) → IsEntry e es → e.0 ≡ number → ⊥) → has_rule (λ _. true) number (map (pending_of program) es) ≡ false
absent program number [] h = refl
absent program number (e ∷ es) h = by (e.0 == number) refl (absent program number es (λ f i. h f (inr i)))
  where
    by : (b : Bool) → (e.0 == number) ≡ b → has_rule (λ _. true) number (map (pending_of program) es) ≡ false → (if b then true else has_rule (λ _. true) number (map (pending_of program) es)) ≡ false
    by true same rest = absurd (h e (inl refl) (eqb-true e.0 number same))
    by false other rest = rest

numbered : (program : List Procedure) (es : List (ℕ × Rule)) → T (is_sorted nat_cmp es) → AreNumbered (map (pending_of program) es)
numbered program [] h = tt
numbered program (e ∷ es) h = (absent program e.0 es (λ f i same. not_below nat_cmp nat_cmp_total e.0 f es (first _ _ h) i same), numbered program es (second (below_all nat_cmp e.0 es) (is_sorted nat_cmp es) h))

-- ---- in a quiet state that is held

module _ (program : List Procedure) (typings : Typings) (s : State) (held : IsHeld program typings s) (quiet : is_quiet s ≡ true) where
  parts : ((len s.frames == 0) ≡ true) × (((len s.tasks == 0) && ((set.len s.notices == 0) && has_idle_rules s)) ≡ true)
  parts = and_parts _ _ quiet

  others : ((len s.tasks == 0) ≡ true) × (((set.len s.notices == 0) && has_idle_rules s) ≡ true)
  others = and_parts _ _ parts.1

  both : ((set.len s.notices == 0) ≡ true) × (has_idle_rules s ≡ true)
  both = and_parts _ _ others.1

  idle : (not (list_any has_unasked (values s.rules)) ≡ true) × (not (list_any is_releasable (values s.rules)) ≡ true)
  idle = and_parts _ _ both.1

  no_notice : (n : Notice) → set.contains s.notices n ≡ false
  no_notice n = ap (λ (t : set.FinSet notice_cmp). set.contains t n) (set.empty_of_len s.notices (eqb-true (set.len s.notices) 0 both.0)) ∙ set.contains-empty notice_cmp n

  -- only rules and outputs hold anything
  reads_are : (d : ℕ) → reads_of program typings s d ≡ total (rule_reads program d) s.rules + count_of d s.outputs
  reads_are d =
      let frames = none_of actor_cmp (frame_reads typings d) s.frames (eqb-true (len s.frames) 0 parts.0) in
      let tasks = none_of nat_cmp (task_reads program d) s.tasks (eqb-true (len s.tasks) 0 others.0) in
      omega arith

  writes_are : (d : ℕ) → writes_of program typings s d ≡ total (rule_writes program d) s.rules
  writes_are d =
      let frames = none_of actor_cmp (frame_writes typings d) s.frames (eqb-true (len s.frames) 0 parts.0) in
      let tasks = none_of nat_cmp (task_writes program d) s.tasks (eqb-true (len s.tasks) 0 others.0) in
      omega arith

  counts : (d : ℕ) (x : Datum) → get s.store.live d ≡ Some x → (x.reads ≡ inside s.store.live d + reads_of program typings s d) × (x.writes ≡ writes_of program typings s d) × (0 < x.reads + x.writes)
  counts d x is = balanced_some s.store.live (reads_of program typings s) (writes_of program typings s) d x held.counts.balanced is

  -- ---- no rule is pending

  module _ (none : len s.rules ≡ 0) where
    no_writes : (d : ℕ) (x : Datum) → get s.store.live d ≡ Some x → x.writes ≡ 0
    no_writes d x is = let c = counts d x is in let w = writes_are d in let r = none_of nat_cmp (rule_writes program d) s.rules none in omega (arith, c.1)

    no_reads : (d : ℕ) → reads_of program typings s d ≡ count_of d s.outputs
    no_reads d = let w = reads_are d in let r = none_of nat_cmp (rule_reads program d) s.rules none in omega arith

    -- a datum that is no output is a member of one whose type is deeper
    record IsMember (d depth : ℕ) : Type 0 where
      container : ℕ
      y : Datum
      live : get s.store.live container ≡ Some y
      has : 0 < subscripts_in d y
      deeper : depth_of y.ty ≡ suc depth
      few : depth_of y.ty ≤ 3

    member_of : (d : ℕ) (x : Datum) → get s.store.live d ≡ Some x → count_of d s.outputs ≡ 0 → IsMember d (depth_of x.ty)
    member_of d x is no_output =
        let c = counts d x is in
        let w = no_writes d x is in
        let r = no_reads d in
        let some : 0 < inside s.store.live d = omega (arith, c.0, c.2) in
        let p = some_part nat_cmp nat_cmp_total (subscripts_in d) s.store.live some in
        let of : element_of p.1.ty ≡ Some x.ty = held.types.store.nested.members p.0 d p.1 x p.2 is p.3 in
        record { container = p.0; y = p.1; live = p.2; has = p.3; deeper = element_depth p.1.ty x.ty of; few = held.types.store.nested.types p.0 p.1 p.2 }

    -- it is an output or a member of one, by recursion on how much deeper a type may be
    kept_within : (more d : ℕ) (x : Datum) → get s.store.live d ≡ Some x → 3 ≤ depth_of x.ty + more → IsKept s d
    kept_within zero d x is deep = elim (cases_eq (count_of d s.outputs) 0) [
      | inr some ↦ output (omega arith)
      | inl no_output ↦ let m = member_of d x is no_output in absurd (omega (arith, m.deeper, m.few))
    ]
    kept_within (suc more) d x is deep = by (cases_eq (count_of d s.outputs) 0) (λ d' x' is' deep'. kept_within more d' x' is' deep')
      where
        by : (count_of d s.outputs ≡ 0) ⊎ (count_of d s.outputs ≡ 0 → ⊥) → ((d' : ℕ) (x' : Datum) → get s.store.live d' ≡ Some x' → 3 ≤ depth_of x'.ty + more → IsKept s d') → IsKept s d
        by (inr some) later = output (omega arith)
        by (inl no_output) later = let m = member_of d x is no_output in member m.container m.y (later m.container m.y m.live (omega (arith, m.deeper))) m.live m.has

    left : LeavesOutputs s
    left = record {
      kept = λ d x is. kept_within 3 d x is (omega arith);
      closed = λ d x is. closed_unless x (held.counts.writers d x is) (no_writes d x is);
      live = live_kept;
    }
      where
        live_kept : (d : ℕ) → IsKept s d → (x : Datum) × (get s.store.live d ≡ Some x)
        live_kept d (output some) = let r = no_reads d in held_is_there s.store.live (reads_of program typings s) (writes_of program typings s) d held.counts.balanced (omega arith)
        live_kept d (member container y k at some) = by (get s.store.live d) refl
          where
            by : (o : Option Datum) → get s.store.live d ≡ o → (x : Datum) × (get s.store.live d ≡ Some x)
            by None e =
                let l : subscripts_in d y ≤ inside s.store.live d = subst (λ o. part (subscripts_in d) o ≤ inside s.store.live d) at (part-le-total nat_cmp nat_cmp_total nat_cmp-IsAntisymmetric (subscripts_in d) s.store.live container) in
                let none = balanced_none s.store.live (reads_of program typings s) (writes_of program typings s) d held.counts.balanced e in
                absurd (omega (arith, none.0))
            by (Some x) e = (x, e)

  -- ---- a rule that is pending

  module _ (number : ℕ) (rule : Rule) (is : get s.rules number ≡ Some rule) where
    entry : IsEntry (number, rule) (entries s.rules)
    entry = entry_of nat_cmp nat_cmp-IsAntisymmetric s.rules number rule is

    asked : has_unasked rule ≡ false
    asked = none_passes has_unasked (entries s.rules) (number, rule) (not-true _ idle.0) entry

    unsettled : is_releasable rule ≡ false
    unsettled = none_passes is_releasable (entries s.rules) (number, rule) (not-true _ idle.1) entry

    -- a parameter that waits is a subscriber of its own open datum
    record WaitsFor (j : ℕ) : Type 0 where
      id : ℕ
      x : Datum
      live : get s.store.live id ≡ Some x
      unfinished : is_closed x ≡ false
      arg : slice_get rule.args j ≡ Some (RightArg id)

    waits_for : (j : ℕ) → slice_get rule.stages j ≡ Some Waiting → WaitsFor j
    waits_for j at =
        let once = held.notices.once number j in
        let waits : times_waiting s.rules number j ≡ 1 = ap (λ o. times_at (stage_at o j)) is ∙ ap times_at at in
        let silent : times_noticed s.notices s.rules number j ≡ 0 = no_name (arg_at (get s.rules number) j) in
        let p = some_part nat_cmp nat_cmp_total (times_subscribed number j) s.store.live (omega arith) in
        let named = held.notices.subscribers p.0 p.1 number j p.2 (λ z. omega (arith, p.3)) in
        record { id = p.0; x = p.1; live = p.2; unfinished = named.0; arg = sym (ap (λ o. arg_at o j) is) ∙ named.1 }
      where
        no_name : (o : Option Arg) → times_noticed_by s.notices number j o ≡ 0
        no_name None = refl
        no_name (Some (ValueArg x)) = refl
        no_name (Some (RightArg id)) = ap (λ b. if b then 1 else 0) (no_notice (record { datum = id; rule = number; parameter = j }))

    -- the first that it waits for
    waited : IsFirstWaited rule.stages rule.args
    waited = first_waited rule.stages rule.args asked unsettled (λ j at. let w = waits_for j at in (w.id, w.arg))

    open_datum : (x : Datum) × (get s.store.live waited.datum ≡ Some x) × (is_closed x ≡ false)
    open_datum =
        let w = waits_for waited.parameter waited.stage in
        let args : RightArg w.id ≡ RightArg waited.datum = same_Some (RightArg w.id) (RightArg waited.datum) (sym w.arg ∙ waited.arg) in
        let same : w.id ≡ waited.datum = cc in
        (w.x, subst (λ (k : ℕ). get s.store.live k ≡ Some w.x) same w.live, w.unfinished)

    blocked_rule : IsBlockedRule program s rule
    blocked_rule =
        let o = open_datum in
        let c = counts waited.datum o.0 o.1 in
        let some = open_writes o.0 (held.counts.writers waited.datum o.0 o.1) o.2 in
        let w = writes_are waited.datum in
        let p = some_part nat_cmp nat_cmp_total (rule_writes program waited.datum) s.rules (omega (arith, c.1)) in
        record {
          id = waited.datum;
          waits = waited.first;
          x = o.0;
          live = o.1;
          unfinished = o.2;
          number = p.0;
          writer = p.1;
          pending = p.2;
          writes = written_there waited.datum (params_of program p.1.procedure) p.1.args p.3;
        }

    blocked_one : IsBlocked (pending_rules program s) (pending_of program (number, rule))
    blocked_one =
        let b = blocked_rule in
        record {
          datum = b.id;
          waits = b.waits;
          writer = pending_of program (b.number, b.writer);
          there = rules_in program (b.number, b.writer) (entries s.rules) (entry_of nat_cmp nat_cmp-IsAntisymmetric s.rules b.number b.writer b.pending);
          writes = b.writes;
        }

  all_blocked : (r : Pending) → IsIn r (pending_rules program s) → IsBlocked (pending_rules program s) r
  all_blocked r i =
      let e = in_rules program r (entries s.rules) i in
      subst (IsBlocked (pending_rules program s)) (sym e.2) (blocked_one e.0.0 e.0.1 (get_entry nat_cmp nat_cmp_total s.rules e.0 e.1))

  -- ---- the theorem

  circle_found : (len s.rules ≡ 0 → ⊥) → (links : List Link) × (circle_of (pending_rules program s) ≡ Some links) × IsCircle (pending_rules program s) links
  circle_found some = by (entries s.rules) (len-entries s.rules) (numbered program (entries s.rules) (entries_sorted s.rules)) all_blocked
    where
      by : (es : List (ℕ × Rule)) → len s.rules ≡ length es → AreNumbered (map (pending_of program) es) → ((r : Pending) → IsIn r (map (pending_of program) es) → IsBlocked (map (pending_of program) es) r)
          → (links : List Link) × (circle_of (map (pending_of program) es) ≡ Some links) × IsCircle (map (pending_of program) es) links
      by [] long numbers blocked = absurd (some long)
      by (e ∷ es) long numbers blocked = circles_are_found (map (pending_of program) (e ∷ es)) numbers blocked

no_rules : (es : List (ℕ × Rule)) → 0 ≡ length es → es ≡ []
no_rules [] h = refl
no_rules (e ∷ es) h = absurd (omega arith)

pub ends_well : (program : List Procedure) (typings : Typings) (s : State) → IsHeld program typings s → EndsWell program s
ends_well program typings s held = record {
  quiet = λ e. let p = quiet_parts s e in left program typings s held p.0 p.1;
  stuck = λ n e. let p = stuck_parts s n e in blocked_rule program typings s held p.0;
  circle_there = λ n e. let p = stuck_parts s n e in let c = circle_found program typings s held p.0 p.1 in (c.0, ap (λ b. if b then circle_of (pending_rules program s) else None) p.0 ∙ c.1, c.2);
  only_there = λ links e. by links (is_quiet s) refl (len s.rules == 0) refl e;
}
  where
    by : (links : List Link) (q : Bool) → is_quiet s ≡ q → (z : Bool) → (len s.rules == 0) ≡ z → (if q then circle_of (pending_rules program s) else None) ≡ Some links → (n : ℕ) × (ending s ≡ Some (Stuck n))
    by links true is false some e = (len s.rules, rw (is, some) refl)
    by links true is true none e = let empty = no_rules (entries s.rules) (sym (eqb-true (len s.rules) 0 none) ∙ len-entries s.rules) in let z : None ≡ Some links = sym (ap (λ es. circle_of (map (pending_of program) es)) empty) ∙ e in cc
    by links false is z any e = cc
