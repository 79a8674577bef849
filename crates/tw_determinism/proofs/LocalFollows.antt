-- The core machine follows local instructions, one step for each, and the end of a task.
use Rattle.std.proofs.Common.{◌≡◌, inl, inr, ℕ, zero, suc, ◌+◌, true, List, Some, refl, sym, ap, subst, ◌∙◌, slice_get, arith}
use Rattle.tw_determinism.proofs.MachineNames.{Actor, AreRight, Cause, Frame, Instr, IsHeld, IsProgram, Ok, OutsideCode, Position, Procedure, Result, State, Typings, Went, actor_cmp, actor_cmp-IsAntisymmetric, actor_cmp_total, enabled, get, get-remove_same, insert, insert_same, instr_at, is_ret, local_instr, local_of, local_step, local_steps, option_and_then, option_map, outcome_of, part, remove, remove_other, same_went, steps_leave, there_ok, total-insert, total-remove, typing_of, went_enabled, went_first, went_ok, with_frame}
use Rattle.tw_types.proofs.Maps as maps
use Rattle.tw_code.specs.declared.instr.Instr.TheVariants as instr
use Rattle.tw_code.specs.declared.instr.LocalInstr.{LocalInstr}
use Rattle.tw_code.specs.declared.instr.Instr.TheVariants.{Ret}
use Rattle.tw_determinism.proofs.Names.{Name, insert_twice, name_cmp, name_cmp_total, name_cmp-same}
use Rattle.tw_determinism.proofs.CoreEffects.{Blind, Ended, Net, Nothing, Running, Runs, Thread, by_instr, cell_at, instr_of, next_name, ok, subject_of, subject_of_instr}
use Rattle.tw_determinism.proofs.CoreMachine.{IsMade, Path, Steps}
use Rattle.tw_determinism.proofs.DataFollows.{Goes, instr_is, others_kept, replaced, there}
use Rattle.tw_determinism.proofs.Growing.{made_kept}
use Rattle.tw_determinism.proofs.Holding.{changed}
use Rattle.tw_determinism.proofs.Showing.{Holder, OfFrame, OfTask, OfRule, Naming, Shows, alive, named, one, running, thread_in}

ok_is : {A : Type 0} (r : Result A Cause) (x : A) → r ≡ Ok x → ok r ≡ Some x
ok_is r x e = ap ok e

local_is : (i : Instr) (l : LocalInstr) → local_of i ≡ Some l → i ≡ instr.Local l
local_is (instr.Local j) l e = let same : j ≡ l = cc in ap instr.Local same
local_is (instr.Data d) l e = cc
local_is (instr.Rule action) l e = cc
local_is (instr.Put action) l e = cc
local_is instr.Ret l e = cc

pub path_made : (program : List Procedure) (k : ℕ) (m to : Net) → Path program k m to → IsMade m → IsMade to
path_made program zero m to path made = subst IsMade path made
path_made program (suc k) m to path made = path_made program k path.1 to path.3 (made_kept program m path.1 made path.0 path.2)

-- one local instruction of a task by its name
module _ (program : List Procedure) (p : Procedure) where
  one_local : (m : Net) (t : Name) (r : Running) (at : Position) → get m.threads t ≡ Some (Runs r) → slice_get program r.procedure ≡ Some p → local_step p.code r.position ≡ Went at
      → Steps program m t (record m { threads = insert m.threads t (Runs (record r { position = at; spent = r.spent + 1 })) })
  one_local m t r at there here e =
      let i = went_first (outcome_of (instr_at p.code r.position.place)) _ at e in
      let i_at : slice_get p.code r.position.place ≡ Some i.0 = there_ok (slice_get p.code r.position.place) OutsideCode i.0 (went_ok (instr_at p.code r.position.place) i.0 i.1) in
      let l = went_first (enabled (local_of i.0)) _ at i.2 in
      let l_is : i.0 ≡ instr.Local l.0 = local_is i.0 l.0 (went_enabled (local_of i.0) l.0 l.1) in
      let went : local_instr l.0 r.position ≡ Ok at = went_ok (local_instr l.0 r.position) at l.2 in
      let instr_here : instr_of program r ≡ Some (instr.Local l.0) = ap (option_and_then (λ (q : Procedure). slice_get q.code r.position.place)) here ∙ i_at ∙ ap Some l_is in
      let none : subject_of program (Runs r) ≡ Blind = ap (subject_of_instr r) instr_here in
      record {
        wills = record {
          thread = Runs r;
          there = there;
          awaited = λ j d is. cc;
          read = λ d is. cc;
          alone = λ d is not. cc;
          effect = record { thread = Runs (record r { position = at; spent = r.spent + 1 }); act = Nothing };
          is = ap (option_and_then (by_instr program (next_name t (Runs r)) (cell_at m (subject_of program (Runs r))) r)) instr_here
              ∙ ap (option_map (λ z. record { thread = Runs (record r { position = z; spent = r.spent + 1 }); act = Nothing })) (ok_is (local_instr l.0 r.position) at went);
          target = tt;
        };
        cells = refl;
        threads = refl;
        shared = refl;
      }

  pub locals : (k : ℕ) (m : Net) (t : Name) (r : Running) (at : Position) → get m.threads t ≡ Some (Runs r) → slice_get program r.procedure ≡ Some p → local_steps k p.code r.position ≡ Went at
      → Path program k m (record m { threads = insert m.threads t (Runs (record r { position = at; spent = r.spent + k })) })
  locals zero m t r at there here e =
      let same : r.position ≡ at = same_went r.position at e in
      let spent : r.spent + 0 ≡ r.spent = omega arith in
      ap (λ z. record m { threads = z }) (sym (maps.insert_same name_cmp_total name_cmp-same m.threads t (Runs r) there)
      ∙ ap (λ z. insert m.threads t (Runs (record r { position = z; spent = r.spent }))) same
      ∙ ap (λ z. insert m.threads t (Runs (record r { position = at; spent = z }))) (sym spent))
  locals (suc k) m t r at there here e =
      let first = went_first (local_step p.code r.position) _ at e in
      let step = one_local m t r first.0 there here first.1 in
      let next : Running = record r { position = first.0; spent = r.spent + 1 } in
      let n : Net = record m { threads = insert m.threads t (Runs next) } in
      let rest = locals k n t next at (insert_same name_cmp name_cmp_total m.threads t (Runs next)) here first.2 in
      let spent : r.spent + 1 + k ≡ r.spent + suc k = omega arith in (
        t,
        n,
        step,
        subst (λ z. Path program k n (record m { threads = z }))
            (insert_twice name_cmp_total name_cmp-same m.threads t (Runs next) (Runs (record r { position = at; spent = r.spent + 1 + k }))
            ∙ ap (λ z. insert m.threads t (Runs (record r { position = at; spent = z }))) spent) rest,
      )

ret_is : (i : Instr) → is_ret i ≡ true → i ≡ Ret
ret_is (instr.Local j) e = cc
ret_is (instr.Data d) e = cc
ret_is (instr.Rule action) e = cc
ret_is (instr.Put action) e = cc
ret_is instr.Ret e = refl

module _ (program : List Procedure) (typings : Typings) (proper : IsProgram program) (are : AreRight program typings) (s : State) (held_so : IsHeld program typings s) (n : Naming) (m : Net) (shows : Shows program typings n s m)
    (a : Actor) (fr : Frame) (runs : get s.frames a ≡ Some fr) (p : Procedure) (here : slice_get program fr.procedure ≡ Some p) where
  abbrev own : Running
  own = running n.datum typings fr

  abbrev name : Name
  name = n.holder (OfFrame a)

  thread_there : get m.threads name ≡ Some (Runs own)
  thread_there = there program typings proper are s held_so n m shows a fr runs p here

  pub local_follows : (k : ℕ) (at : Position) → local_steps k p.code fr.position ≡ Went at → Goes program typings n s m (with_frame s a (record fr { position = at; spent = fr.spent + k }))
  local_follows k at e =
      let next : Frame = record fr { position = at; spent = fr.spent + k } in
      let thread : Thread = Runs (record own { position = at; spent = fr.spent + k }) in
      let to : Net = record m { threads = insert m.threads name thread } in
      let path = locals program p k m name own at thread_there here e in
      let typing_is : typing_of typings next ≡ typing_of typings fr = steps_leave program typings proper are s held_so a fr runs p here k at e in (
        k,
        n,
        to,
        path,
        record {
          cells = shows.cells;
          shared = shows.shared;
          threads = changed (thread_in program typings n.datum s) (thread_in program typings n.datum (with_frame s a next)) n.holder m.threads shows.threads (OfFrame a) (Runs own) thread
              (ap (option_map (λ frame. Runs (running n.datum typings frame))) runs)
              (inl (ap (option_map (λ frame. Runs (running n.datum typings frame))) (insert_same actor_cmp actor_cmp_total s.frames a next)
              ∙ ap (λ t. Some (Runs (record { procedure = fr.procedure; position = at; rights = named n.datum t fr.rights; spent = fr.spent + k }))) typing_is))
              (λ h apart. others_kept program typings proper are s held_so n m shows a fr runs p here next h apart n.datum);
          count = (let x = replaced actor_cmp_total one s.frames a fr next runs refl in let y = replaced name_cmp_total alive m.threads name (Runs own) thread thread_there refl in let z = shows.count in omega (arith, x, y, z));
          made = path_made program k m to path shows.made;
        },
        λ id less. refl,
        refl,
      )

  -- RET
  pub end_follows : (i : Instr) → slice_get p.code fr.position.place ≡ Some i → is_ret i ≡ true → Goes program typings n s m (record s { frames = remove s.frames a })
  end_follows i at ret =
      let to : Net = record m { threads = insert m.threads name Ended } in
      let instr_here : instr_of program own ≡ Some Ret = instr_is program typings proper are s held_so n m shows a fr runs p here Ret (at ∙ ap Some (ret_is i ret)) in
      let none : subject_of program (Runs own) ≡ Blind = ap (subject_of_instr own) instr_here in
      let step : Steps program m name to = record {
        wills = record {
          thread = Runs own;
          there = thread_there;
          awaited = λ j d is. cc;
          read = λ d is. cc;
          alone = λ d is not. cc;
          effect = record { thread = Ended; act = Nothing };
          is = ap (option_and_then (by_instr program (next_name name (Runs own)) (cell_at m (subject_of program (Runs own))) own)) instr_here;
          target = tt;
        };
        cells = refl;
        threads = refl;
        shared = refl;
      } in (
        1,
        n,
        to,
        (name, to, step, refl),
        record {
          cells = shows.cells;
          shared = shows.shared;
          threads = changed (thread_in program typings n.datum s) (thread_in program typings n.datum (record s { frames = remove s.frames a })) n.holder m.threads shows.threads (OfFrame a) (Runs own) Ended
              (ap (option_map (λ frame. Runs (running n.datum typings frame))) runs)
              (inr (ap (option_map (λ frame. Runs (running n.datum typings frame))) (get-remove_same actor_cmp actor_cmp_total s.frames a), refl))
              others;
          count = (
              let x = total-remove actor_cmp actor_cmp_total actor_cmp-IsAntisymmetric one s.frames a in
              let x_is : part one (get s.frames a) ≡ 1 = ap (part one) runs in
              let y = total-insert name_cmp name_cmp_total alive m.threads name Ended in
              let y_is : part alive (get m.threads name) ≡ 1 = ap (part alive) thread_there in
              let z = shows.count in
              omega (arith, x, x_is, y, y_is, z));
          made = made_kept program m to shows.made name step;
        },
        λ id less. refl,
        refl,
      )
    where
      others : (h : Holder) → (h ≡ OfFrame a → ⊥) → thread_in program typings n.datum (record s { frames = remove s.frames a }) h ≡ thread_in program typings n.datum s h
      others (OfFrame b) apart = ap (option_map (λ frame. Runs (running n.datum typings frame))) (remove_other actor_cmp actor_cmp_total actor_cmp-IsAntisymmetric s.frames a b (λ e. apart (ap OfFrame e)))
      others (OfTask j) apart = refl
      others (OfRule j) apart = refl
