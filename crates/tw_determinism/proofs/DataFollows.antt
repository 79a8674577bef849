-- The core machine follows an instruction on data.
use Rattle.std.proofs.Common.{◌≡◌, ◌⊎◌, inl, inr, ℕ, ◌+◌, ◌<◌, true, false, List, Option, Some, None, refl, sym, ap, subst, ◌∙◌, slice_get, arith}
use Rattle.tw_determinism.proofs.MachineNames.{Actor, AreRight, Call, Context, DataInstr, Event, FinMap, Frame, Instr, IsHeld, IsProgram, IsTotalOrder, Ok, Ordering, Procedure, State, Typings, actor_cmp, actor_cmp-IsAntisymmetric, actor_cmp_total, after, after_context, contests, context_of, copied_by, copy_in, copy_of, data_instr, get, insert, insert_other, insert_same, is_contest, is_contest_of, option_and_then, option_map, part, total, total-insert, typed_after, typing_of, with_copy, with_frame}
use Rattle.tw_code.specs.declared.instr.Instr.TheVariants as instr
use Rattle.tw_determinism.proofs.Names.{Name, name_cmp_total}
use Rattle.tw_determinism.proofs.CoreEffects.{Done, Effect, Net, Running, Runs, by_instr, cell_at, instr_of, next_name, subject_of, subject_of_data, subject_of_instr}
use Rattle.tw_determinism.proofs.CoreMachine.{Path, Steps, Wills, share_of, with_child, with_share}
use Rattle.tw_determinism.proofs.Agreeing.{threads_agree}
use Rattle.tw_determinism.proofs.DataShown.{DataGoes, DataWills, data_shows}
use Rattle.tw_determinism.proofs.Growing.{made_kept}
use Rattle.tw_determinism.proofs.Swapping.{stepped}
use Rattle.tw_determinism.proofs.Holding.{changed}
use Rattle.tw_determinism.proofs.Showing.{Holder, OfFrame, OfTask, OfRule, Naming, Shows, alive, named, one, running, thread_in}

-- a path of the core machine leads to what the next state shows, where ids have the same names; or the event is contested, and no step there
abbrev pub GoesBy : List Procedure → Typings → Option ℕ → Naming → State → Net → State → Type 0
GoesBy program typings copy n s m next =
    (k : ℕ) × (o : Naming) × (to : Net) × Path program k m to × Shows program typings o next to × ((id : ℕ) → id < s.store.next → o.datum id ≡ n.datum id) × (o.copied ≡ with_copy n.copied copy)

-- no write right is copied
abbrev pub Goes : List Procedure → Typings → Naming → State → Net → State → Type 0
Goes program typings n s m next = GoesBy program typings None n s m next

abbrev pub IsContested : List Procedure → Event → Naming → State → Net → Type 0
IsContested program event n s m = (contests program n.copied event s ≡ true) × (t : Name) × Wills program m t × ((to : Net) → Steps program m t to → ⊥)

abbrev pub Follows : List Procedure → Typings → Event → Naming → State → Net → State → Type 0
Follows program typings event n s m next = ((contests program n.copied event s ≡ false) × GoesBy program typings (copied_by program event s) n s m next) ⊎ IsContested program event n s m

-- a sum over a map with one value replaced by one that counts as much
pub replaced : {K X : Type 0} {R : K → K → Ordering} (o : IsTotalOrder R) (f : X → ℕ) (m : FinMap R X) (k : K) (x y : X) → get m k ≡ Some x → f y ≡ f x → total f (insert m k y) ≡ total f m
replaced {R = R} o f m k x y at same =
    let t = total-insert R o f m k y in
    let p : part f (get m k) ≡ f x = ap (part f) at in
    omega (arith, t, p, same)

module _ (program : List Procedure) (typings : Typings) (proper : IsProgram program) (are : AreRight program typings) (s : State) (held_so : IsHeld program typings s) (n : Naming) (m : Net) (shows : Shows program typings n s m)
    (a : Actor) (fr : Frame) (runs : get s.frames a ≡ Some fr) (p : Procedure) (here : slice_get program fr.procedure ≡ Some p) where
  abbrev pub own : Running
  own = running n.datum typings fr

  abbrev pub name : Name
  name = n.holder (OfFrame a)

  pub there : get m.threads (n.holder (OfFrame a)) ≡ Some (Runs (running n.datum typings fr))
  there = shows.threads.there (OfFrame a) (Runs own) (ap (option_map (λ frame. Runs (running n.datum typings frame))) runs)

  pub instr_is : (i : Instr) → slice_get p.code fr.position.place ≡ Some i → instr_of program (running n.datum typings fr) ≡ Some i
  instr_is i at = ap (option_and_then (λ (q : Procedure). slice_get q.code fr.position.place)) here ∙ at

  -- the other tasks are as they were, after a change of the frame
  pub others_kept : (g : Frame) (h : Holder) → (h ≡ OfFrame a → ⊥) → (f : ℕ → Name) → thread_in program typings f (with_frame s a g) h ≡ thread_in program typings f s h
  others_kept g (OfFrame b) apart f = ap (option_map (λ frame. Runs (running f typings frame))) (insert_other actor_cmp actor_cmp_total actor_cmp-IsAntisymmetric s.frames a g b (λ e. apart (ap OfFrame e)))
  others_kept g (OfTask k) apart f = refl
  others_kept g (OfRule k) apart f = refl

  module _ (i : DataInstr) (at : slice_get p.code fr.position.place ≡ Some (instr.Data i)) (k : Context) (e : data_instr i (context_of s fr) ≡ Ok k) where
    w : DataWills program typings proper are s held_so a fr runs p here n m shows i
    w = (data_shows program typings proper are s held_so a fr runs p here n m shows i k at e).0

    abbrev effect : Effect
    effect = record { thread = Runs (record own { position = w.done.position; rights = w.done.rights; spent = fr.spent + 1 }); act = w.done.act }

    subject_is : subject_of program (Runs own) ≡ subject_of_data own i
    subject_is = ap (subject_of_instr own) (instr_is (instr.Data i) at)

    abbrev wills : Wills program m name
    wills = record {
      thread = Runs own;
      there = there;
      awaited = λ j d is. cc;
      read = λ d is. w.closed d (sym subject_is ∙ is);
      alone = λ d is not. w.alone d (sym subject_is ∙ is) not;
      effect = effect;
      is = ap (option_and_then (by_instr program (next_name name (Runs own)) (cell_at m (subject_of program (Runs own))) own)) (instr_is (instr.Data i) at)
          ∙ ap (λ d. by_instr program (next_name name (Runs own)) (cell_at m d) own (instr.Data i)) subject_is
          ∙ ap (option_map (λ (d : Done). record { thread = Runs (record own { position = d.position; rights = d.rights; spent = own.spent + 1 }); act = d.act })) w.is;
      target = w.target;
    }

    went : (g : DataGoes program typings proper are s held_so a fr runs p here n m shows i k w.done) → GoesBy program typings (copy_of fr (Some (instr.Data i))) n s m (after_context s a fr k)
    went g =
        let next : Frame = record fr { position = k.position; rights = k.rights; spent = fr.spent + 1 } in
        let to : Net = record { cells = g.after; threads = insert m.threads name effect.thread; shared = with_share m.shared (share_of w.done.act) } in
        let step : Steps program m name to = record {
          wills = wills;
          cells = g.edits;
          threads = ap (with_child (insert m.threads name effect.thread) (next_name name (Runs own))) (sym w.child);
          shared = refl;
        } in
        let typing_is : typing_of typings next ≡ after program g.way (instr.Data i) (typing_of typings fr) = (typed_after program typings proper are fr.procedure p here fr.position.place k.position.place (instr.Data i) g.way at g.goes_on).1 in
        let own_is : running g.names typings next ≡ record own { position = w.done.position; rights = w.done.rights; spent = fr.spent + 1 } =
        ap (λ t. record { procedure = fr.procedure; position = k.position; rights = named g.names t k.rights; spent = fr.spent + 1 }) typing_is
        ∙ ap (λ rs. record { procedure = fr.procedure; position = k.position; rights = rs; spent = fr.spent + 1 }) (sym g.rights)
        ∙ ap (λ q. record { procedure = fr.procedure; position = q; rights = w.done.rights; spent = fr.spent + 1 }) (sym g.position) in (
          1,
          record { datum = g.names; holder = n.holder; copied = with_copy n.copied (copy_of fr (Some (instr.Data i))); start = n.start },
          to,
          (name, to, step, refl),
          record {
            cells = g.shown;
            shared = g.shared;
            threads = changed (thread_in program typings n.datum s) (thread_in program typings g.names (after_context s a fr k)) n.holder m.threads shows.threads (OfFrame a) (Runs own) effect.thread
                (ap (option_map (λ frame. Runs (running n.datum typings frame))) runs)
                (inl (ap (option_map (λ frame. Runs (running g.names typings frame))) (insert_same actor_cmp actor_cmp_total s.frames a next) ∙ ap (λ z. Some (Runs z)) own_is))
                (λ h apart. others h apart ∙ threads_agree program typings s held_so n.datum g.names g.agree h);
            count = (let x = replaced actor_cmp_total one s.frames a fr next runs refl in let y = replaced name_cmp_total alive m.threads name (Runs own) effect.thread there refl in let z = shows.count in omega (arith, x, y, z));
            made = made_kept program m to shows.made name step;
          },
          g.agree,
          refl,
        )
      where
        others : (h : Holder) → (h ≡ OfFrame a → ⊥) → thread_in program typings g.names (after_context s a fr k) h ≡ thread_in program typings g.names s h
        others (OfFrame b) apart = ap (option_map (λ frame. Runs (running g.names typings frame))) (insert_other actor_cmp actor_cmp_total actor_cmp-IsAntisymmetric s.frames a _ b (λ e. apart (ap OfFrame e)))
        others (OfTask j) apart = refl
        others (OfRule j) apart = refl

    instr_so : option_and_then (λ (q : Procedure). slice_get q.code fr.position.place) (slice_get program fr.procedure) ≡ Some (instr.Data i)
    instr_so = ap (option_and_then (λ (q : Procedure). slice_get q.code fr.position.place)) here ∙ at

    contest_is : contests program n.copied (Call a) s ≡ is_contest n.copied s.store fr (Some (instr.Data i))
    contest_is = ap (is_contest_of program n.copied s) runs ∙ ap (is_contest n.copied s.store fr) instr_so

    copy_is : copied_by program (Call a) s ≡ copy_of fr (Some (instr.Data i))
    copy_is = ap (copy_in program) runs ∙ ap (copy_of fr) instr_so

    pub data_follows : Follows program typings (Call a) n s m (after_context s a fr k)
    unfolding w
    data_follows = elim (data_shows program typings proper are s held_so a fr runs p here n m shows i k at e).1 [
      | inl g ↦ inl (contest_is ∙ g.not_contested, subst (λ z. GoesBy program typings z n s m (after_context s a fr k)) (sym copy_is) (went g))
      | inr x ↦ inr (contest_is ∙ x.contested, name, wills, λ to step. x.never to.cells (stepped program m to name wills step).0)
    ]
