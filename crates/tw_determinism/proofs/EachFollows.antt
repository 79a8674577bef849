-- The core machine follows each event, and so a whole run.
use Rattle.std.proofs.Common.{◌≡◌, inl, inr, ℕ, ◌==◌, false, not, List, Some, None, refl, sym, ap, subst, ◌∙◌, slice_get, arith, nat_cmp}
use Rattle.tw_determinism.proofs.MachineNames.{Actor, ActorCounts, AreRight, Ask, Call, Deliver, End, Event, IfWent, Instr, IsHeld, IsProgram, Local, Notice, Procedure, Ready, Release, RightLeft, Rule, Stage, State, Take, Task, Typings, Went, WrongCall, at_stage, called, contests, context_of, copied_by, copy_in, copy_of, data_instr, enabled, fresh_task, get, get-remove_same, if_both, if_ok, insert_other, insert_same, is_contest, is_contest_of, is_none, is_ret, list_all, local_steps, must, nat_cmp-IsAntisymmetric, nat_cmp_total, number_in_kind, only_if, option_and_then, option_map, outcome_of, part, procedure_of, put_called, remove, remove_other, same_went, subscribed, task_from, there_ok, total, total-insert, total-remove, went_after, went_enabled, went_first, went_of, went_ok, went_only, with_stage, with_subscriber, with_task}
use Rattle.std.specs.FinSet as set
use Rattle.tw_types.specs.declared.stage.Stage.TheVariants as stages
use Rattle.tw_code.specs.declared.instr.Instr.TheVariants as instr
use Rattle.tw_code.specs.machine.Machine.{RunningInstr, ask_event, call_by, call_event, deliver_event, end_event, local_event, release_event, running_instr_of, step}
use Rattle.tw_code.proofs.Leaving.{IsRunningAt, ask_leaves, deliver_leaves, is_running_at, release_leaves}
use Rattle.tw_determinism.proofs.Alike.{FollowsEach}
use Rattle.tw_determinism.proofs.CoreEffects.{Net, Waits}
use Rattle.tw_determinism.proofs.CellsShown.{shows_kept}
use Rattle.tw_determinism.proofs.DataFollows.{Follows, Goes, GoesBy, data_follows, replaced}
use Rattle.tw_determinism.proofs.DataShown.{changed_kept}
use Rattle.tw_determinism.proofs.Remaining.{fewer}
use Rattle.tw_determinism.proofs.SharedShown.{shared_kept}
use Rattle.tw_determinism.proofs.Holding.{holder_dec, moved, renamed, unmoved}
use Rattle.tw_determinism.proofs.LocalFollows.{end_follows, local_follows}
use Rattle.tw_determinism.proofs.RuleFollows.{put_follows, rule_follows}
use Rattle.tw_determinism.proofs.TakeFollows.{take_follows}
use Rattle.tw_determinism.proofs.Showing.{Holder, OfFrame, OfTask, OfRule, Naming, Shows, ShowsCells, ShowsShared, one, thread_in, waiting}

module _ (program : List Procedure) (typings : Typings) (proper : IsProgram program) (are : AreRight program typings) (s : State) (held_so : IsHeld program typings s) (n : Naming) (m : Net) (shows : Shows program typings n s m) where
  -- ---- rules and notices

  staged : (t : State) (number : ℕ) (rule : Rule) (parameter : ℕ) (stage : Stage) → get t.rules number ≡ Some rule → (h : Holder) → thread_in program typings n.datum (with_stage t number rule parameter stage) h ≡ thread_in program typings n.datum t h
  staged t number rule parameter stage there (OfFrame a) = refl
  staged t number rule parameter stage there (OfTask k) = refl
  staged t number rule parameter stage there (OfRule k) = elim (holder_dec (OfRule k) (OfRule number)) [
    | inl same ↦
        let k_is : k ≡ number = cc in
        ap (λ j. thread_in program typings n.datum (with_stage t number rule parameter stage) (OfRule j)) k_is
        ∙ ap (option_map (λ (r : Rule). Waits (waiting n.datum program r.procedure r.args))) (insert_same nat_cmp nat_cmp_total t.rules number (at_stage rule parameter stage) ∙ refl)
        ∙ ap (option_map (λ (r : Rule). Waits (waiting n.datum program r.procedure r.args))) (sym there)
        ∙ ap (λ j. thread_in program typings n.datum t (OfRule j)) (sym k_is)
    | inr other ↦ ap (option_map (λ (r : Rule). Waits (waiting n.datum program r.procedure r.args))) (insert_other nat_cmp nat_cmp_total nat_cmp-IsAntisymmetric t.rules number (at_stage rule parameter stage) k (λ e. other (ap OfRule e)))
  ]

  -- only stages, subscribers and notices change
  stays : (t : State) (number : ℕ) (rule : Rule) (parameter : ℕ) (stage : Stage) → get t.rules number ≡ Some rule → t.rules ≡ s.rules → t.tasks ≡ s.tasks → t.frames ≡ s.frames
      → ((h : Holder) → thread_in program typings n.datum t h ≡ thread_in program typings n.datum s h)
      → ShowsCells n.datum t.store m.cells → ShowsShared n.datum n.copied n.start t.store m.cells m.shared → Goes program typings n s m (with_stage t number rule parameter stage)
  stays t number rule parameter stage there rules tasks frames same cells shared = (
    0,
    n,
    m,
    refl,
    record {
      cells = cells;
      shared = shared;
      threads = unmoved (thread_in program typings n.datum s) (thread_in program typings n.datum (with_stage t number rule parameter stage)) n.holder m.threads shows.threads (λ h. staged t number rule parameter stage there h ∙ same h);
      count = (
          let x = replaced nat_cmp_total one t.rules number rule (at_stage rule parameter stage) there refl in
          let y : total one t.rules ≡ total one s.rules = ap (total one) rules in
          let z : total one t.tasks ≡ total one s.tasks = ap (total one) tasks in
          let v : total one t.frames ≡ total one s.frames = ap (total one) frames in
          let w = shows.count in
          omega (arith, x, y, z, v, w));
      made = shows.made;
    },
    λ id less. refl,
    refl,
  )

  ask_follows : (engine number parameter : ℕ) → IfWent (ask_event engine number parameter s) (Goes program typings n s m)
  ask_follows engine number parameter = ask_leaves s engine number parameter
      (λ rule id x u. stays s number rule parameter Ready u.pending refl refl refl (λ h. refl) shows.cells shows.shared)
      (λ rule id x u.
      let t : State = record s { store = subscribed s.store id (record { rule = number; parameter = parameter }) } in
      let kept = changed_kept s.store id (with_subscriber (record { rule = number; parameter = parameter })) (λ x. refl) (λ x. omega arith) in
      stays t number rule parameter stages.Waiting u.pending refl refl refl (alike t) (shows_kept n.datum s.store m.cells shows.cells t.store kept.0 kept.1)
      (shared_kept n.datum n.copied n.start s.store m.cells m.shared shows.shared t.store (fewer _ _ kept.0) kept.1))
    where
      alike : (t : State) → (h : Holder) → thread_in program typings n.datum (record s { store = t.store }) h ≡ thread_in program typings n.datum s h
      alike t (OfFrame a) = refl
      alike t (OfTask k) = refl
      alike t (OfRule k) = refl

  deliver_follows : (layout : ActorCounts) (server : ℕ) (notice : Notice) → IfWent (deliver_event layout server notice s) (Goes program typings n s m)
  deliver_follows layout server notice = deliver_leaves s layout server notice
      (λ has none. (
        0,
        n,
        m,
        refl,
        record {
          cells = shows.cells;
          shared = shows.shared;
          threads = unmoved (thread_in program typings n.datum s) (thread_in program typings n.datum (record s { notices = set.remove s.notices notice })) n.holder m.threads shows.threads alike;
          count = shows.count;
          made = shows.made;
        },
        λ id less. refl,
        refl,
      ))
      (λ rule has there. stays (record s { notices = set.remove s.notices notice }) notice.rule rule notice.parameter Ready there refl refl refl alike shows.cells shows.shared)
    where
      alike : (h : Holder) → thread_in program typings n.datum (record s { notices = set.remove s.notices notice }) h ≡ thread_in program typings n.datum s h
      alike (OfFrame a) = refl
      alike (OfTask k) = refl
      alike (OfRule k) = refl

  release_follows : (engine number : ℕ) → IfWent (release_event program engine number s) (Goes program typings n s m)
  release_follows engine number = release_leaves s program engine number (λ rule p pending settled.
      let next : State = with_task (record s { rules = remove s.rules number }) (task_from p.kind rule) in (
        0,
        record { datum = n.datum; holder = renamed n.holder (OfTask s.next_task) (n.holder (OfRule number)); copied = n.copied; start = n.start },
        m,
        refl,
        record {
          cells = shows.cells;
          shared = shows.shared;
          threads = moved (thread_in program typings n.datum s) (thread_in program typings n.datum next) n.holder m.threads shows.threads (OfRule number) (OfTask s.next_task) (Waits (waiting n.datum program rule.procedure rule.args))
              (ap (option_map (λ (r : Rule). Waits (waiting n.datum program r.procedure r.args))) pending)
              (ap (option_map (λ (t : Task). Waits (waiting n.datum program t.procedure t.args))) (fresh_task program typings s held_so))
              (ap (option_map (λ (r : Rule). Waits (waiting n.datum program r.procedure r.args))) (get-remove_same nat_cmp nat_cmp_total s.rules number))
              (ap (option_map (λ (t : Task). Waits (waiting n.datum program t.procedure t.args))) (insert_same nat_cmp nat_cmp_total s.tasks s.next_task (task_from p.kind rule)))
              (others (task_from p.kind rule));
          count = (
              let x = total-insert nat_cmp nat_cmp_total one s.tasks s.next_task (task_from p.kind rule) in
              let x_is : part one (get s.tasks s.next_task) ≡ 0 = ap (part one) (fresh_task program typings s held_so) in
              let y = total-remove nat_cmp nat_cmp_total nat_cmp-IsAntisymmetric one s.rules number in
              let y_is : part one (get s.rules number) ≡ 1 = ap (part one) pending in
              let z = shows.count in
              omega (arith, x, x_is, y, y_is, z));
          made = shows.made;
        },
        λ id less. refl,
        refl,
      ))
    where
      others : (task : Task) (h : Holder) → (h ≡ OfRule number → ⊥) → (h ≡ OfTask s.next_task → ⊥) → thread_in program typings n.datum (with_task (record s { rules = remove s.rules number }) task) h ≡ thread_in program typings n.datum s h
      others task (OfFrame a) apart other = refl
      others task (OfTask k) apart other = ap (option_map (λ (t : Task). Waits (waiting n.datum program t.procedure t.args))) (insert_other nat_cmp nat_cmp_total nat_cmp-IsAntisymmetric s.tasks s.next_task task k (λ e. other (ap OfTask e)))
      others task (OfRule k) apart other = ap (option_map (λ (r : Rule). Waits (waiting n.datum program r.procedure r.args))) (remove_other nat_cmp nat_cmp_total nat_cmp-IsAntisymmetric s.rules number k (λ e. apart (ap OfRule e)))

  -- ---- tasks

  local_event_follows : (a : Actor) (k : ℕ) (next : State) → local_event program a k s ≡ Went next → Goes program typings n s m next
  local_event_follows a k next e =
      let some = went_after (only_if (not (k == 0))) _ next e in
      let f = went_first (enabled (get s.frames a)) _ next some.1 in
      let p = went_first (outcome_of (procedure_of program f.0.procedure)) _ next f.2 in
      let at = went_first (local_steps k p.0.code f.0.position) _ next p.2 in
      subst (Goes program typings n s m) (same_went _ next at.2)
      (local_follows program typings proper are s held_so n m shows a f.0 (went_enabled (get s.frames a) f.0 f.1) p.0
      (there_ok (slice_get program f.0.procedure) WrongCall p.0 (went_ok (procedure_of program f.0.procedure) p.0 p.1)) k at.0 at.1)

  end_event_follows : (a : Actor) (next : State) → end_event program a s ≡ Went next → Goes program typings n s m next
  end_event_follows a next e =
      let at = went_first (running_instr_of program a s) _ next e in
      let st = is_running_at program a s at.0 at.1 in
      let ret = went_after (only_if (is_ret at.0.instr)) _ next at.2 in
      let clear = went_after (outcome_of (must (list_all is_none at.0.frame.rights) RightLeft)) _ next ret.1 in
      subst (Goes program typings n s m) (same_went _ next clear.1)
      (end_follows program typings proper are s held_so n m shows a at.0.frame st.frame at.0.procedure st.procedure at.0.instr st.instr (went_only (is_ret at.0.instr) ret.0))

  -- only an insertion is contested, and only DUPW copies a write right
  instr_so : (a : Actor) (at : RunningInstr) → IsRunningAt program a s at → (i : Instr) → at.instr ≡ i
      → option_and_then (λ (q : Procedure). slice_get q.code at.frame.position.place) (slice_get program at.frame.procedure) ≡ Some i
  instr_so a at st i is = ap (option_and_then (λ (q : Procedure). slice_get q.code at.frame.position.place)) st.procedure ∙ st.instr ∙ ap Some is

  calm : (a : Actor) (at : RunningInstr) → IsRunningAt program a s at → (i : Instr) → at.instr ≡ i → is_contest n.copied s.store at.frame (Some i) ≡ false → contests program n.copied (Call a) s ≡ false
  calm a at st i is quiet = ap (is_contest_of program n.copied s) st.frame ∙ ap (is_contest n.copied s.store at.frame) (instr_so a at st i is) ∙ quiet

  copies_none : (a : Actor) (at : RunningInstr) → IsRunningAt program a s at → (i : Instr) → at.instr ≡ i → copy_of at.frame (Some i) ≡ None → (next : State) → Goes program typings n s m next → GoesBy program typings (copied_by program (Call a) s) n s m next
  copies_none a at st i is none next g = subst (λ z. GoesBy program typings z n s m next) (sym (ap (copy_in program) st.frame ∙ ap (copy_of at.frame) (instr_so a at st i is) ∙ none)) g

  call_follows : (a : Actor) → IfWent (call_event program a s) (Follows program typings (Call a) n s m)
  call_follows a = if_both (running_instr_of program a s) (λ at e. by at (is_running_at program a s at e) at.instr refl)
    where
      by : (at : RunningInstr) → IsRunningAt program a s at → (i : Instr) → at.instr ≡ i → IfWent (call_by program s a at i) (Follows program typings (Call a) n s m)
      by at st (instr.Local i) is = record { is = tt }
      by at st (instr.Data d) is = if_ok (data_instr d (context_of s at.frame)) (λ k e. record {
        is = data_follows program typings proper are s held_so n m shows a at.frame st.frame at.procedure st.procedure d (st.instr ∙ ap Some is) k e;
      })
      by at st (instr.Rule action) is = if_ok (called program at.procedure.kind (context_of s at.frame) action) (λ call e. record {
        is = inl (calm a at st (instr.Rule action) is refl, copies_none a at st (instr.Rule action) is refl _ (rule_follows program typings proper are s held_so n m shows a at.frame st.frame at.procedure st.procedure action at.procedure.kind (number_in_kind a) call (st.instr ∙ ap Some is) e));
      })
      by at st (instr.Put action) is = if_ok (put_called program at.procedure.kind (context_of s at.frame) action) (λ call e. record {
        is = inl (calm a at st (instr.Put action) is refl, copies_none a at st (instr.Put action) is refl _ (put_follows program typings proper are s held_so n m shows a at.frame st.frame at.procedure st.procedure action at.procedure.kind call (st.instr ∙ ap Some is) e));
      })
      by at st instr.Ret is = record { is = tt }

  -- ---- each event

  pub step_follows : (layout : ActorCounts) (event : Event) (next : State) → step program layout event s ≡ Went next → Follows program typings event n s m next
  unfolding step
  step_follows layout (Take a) next e = inl (refl, take_follows program typings proper are s held_so n m shows layout a next e)
  step_follows layout (Local a k) next e = inl (refl, local_event_follows a k next e)
  step_follows layout (Call a) next e = went_of (call_event program a s) _ next (call_follows a) e
  step_follows layout (End a) next e = inl (refl, end_event_follows a next e)
  step_follows layout (Ask engine rule parameter) next e = inl (refl, went_of (ask_event engine rule parameter s) _ next (ask_follows engine rule parameter) e)
  step_follows layout (Deliver server datum rule parameter) next e = inl (refl, went_of (deliver_event layout server _ s) _ next (deliver_follows layout server (record { datum = datum; rule = rule; parameter = parameter })) e)
  step_follows layout (Release engine rule) next e = inl (refl, went_of (release_event program engine rule s) _ next (release_follows engine rule) e)

pub follows_each : (program : List Procedure) (typings : Typings) → IsProgram program → AreRight program typings → FollowsEach program typings
follows_each program typings proper are layout event s next n m held shows e = elim (step_follows program typings proper are s held n m shows layout event next e) [
  | inl g ↦ inl (record { not_contested = g.0; steps = g.1.0; names = g.1.1; to = g.1.2; path = g.1.3; shows = g.1.4; agree = g.1.5; copied = g.1.6 })
  | inr r ↦ inr (record { is_contested = r.0; name = r.1; wills = r.2; never = r.3 })
]
