-- A step that a task can make is possible after another's step, too: closed data stay closed, with the same content.
use Rattle.std.proofs.Common.{◌≡◌, ◌⊎◌, inl, inr, Bool, true, false, ◌||◌, if◌then◌else◌, List, [], ◌∷◌, Option, Some, None, refl, sym, ap, subst, ◌∙◌, arith}
use Rattle.tw_determinism.proofs.MachineNames.{Procedure, cases_Bool, eq_by_cmp, get, insert, insert_other, insert_same, option_and_then, own_key, put_or_before, same_Some, tied}
use Rattle.tw_determinism.proofs.Names.{Name, name_cmp, name_cmp_total, name_cmp-same}
use Rattle.tw_determinism.proofs.CoreEffects.{Cell, Unset, Set, Contains, Maps, Sums, Threads, Thread, Waits, Runs, Ended, Waiting, Writing, SetTo, Put, PutValue, Add, Act, Nothing, Bears, Makes, Writes, Shares, Subject, Blind, Reads, Into, Effect, written, Net, HoldsWrite, IsWritable, IsClosedPool, IsClosed, effect_of, cell_at, subject_of, next_name, spent_of}
use Rattle.tw_determinism.proofs.CoreMachine.{Edit, Leaves, Adds, Changes, edit_of, child_of, share_of, with_share, edited, with_child, threads_after, IsAlone, IsThere, IsMade, IsPast, WasMade, Steps, Wills}
use Rattle.tw_determinism.proofs.Keeping.{Keeps, effect_keeps}
use Rattle.tw_determinism.proofs.Options.{some_of, some_first, some_mapped}

pub name_dec : (x y : Name) → (x ≡ y) ⊎ (x ≡ y → ⊥)
name_dec x y = elim (cases_Bool (eq_by_cmp name_cmp x y)) [
  | inl t ↦ inl (name_cmp-same x y (tied (name_cmp x y) t))
  | inr u ↦ inr (λ e. let own : eq_by_cmp name_cmp x x ≡ true = own_key name_cmp_total x in let other : eq_by_cmp name_cmp x x ≡ false = subst (λ z. eq_by_cmp name_cmp x z ≡ false) (sym e) u in cc)
]

pub other_name : (x y : Name) → (x ≡ y → ⊥) → eq_by_cmp name_cmp x y ≡ false
other_name x y apart = by (eq_by_cmp name_cmp x y) refl
  where
    by : (b : Bool) → eq_by_cmp name_cmp x y ≡ b → b ≡ false
    by true e = absurd (apart (name_cmp-same x y (tied (name_cmp x y) e)))
    by false e = refl

pub or_right : (a b : Bool) → b ≡ true → (a || b) ≡ true
or_right true b e = refl
or_right false b e = e

-- ---- names are new

-- what has the next name of a task that isn't over is not there yet
next_past : (program : List Procedure) (next : Name) (cell : Option Cell) (th : Thread) (e : Effect) → effect_of program next cell th ≡ Some e → IsPast (spent_of th) th → ⊥
next_past program next cell (Waits w) e is past = past
next_past program next cell (Runs f) e is past = omega arith
next_past program next cell Ended e is past = cc

module _ (program : List Procedure) (m : Net) (is_made : IsMade m) (t : Name) (wills : Wills program m t) where
  not_made : WasMade m.threads (spent_of wills.thread) t → ⊥
  not_made made = by t wills.there made
    where
      by : (u : Name) → get m.threads u ≡ Some wills.thread → WasMade m.threads (spent_of wills.thread) u → ⊥
      by [] at made = let none = is_made.root in cc
      by (j ∷ u) at made =
          let same : made.0 ≡ wills.thread = same_Some made.0 wills.thread (sym made.1 ∙ at) in
          next_past program _ _ wills.thread wills.effect wills.is (subst (IsPast (spent_of wills.thread)) same made.2)

  pub new_cell : (cell : Cell) → get m.cells (next_name t wills.thread) ≡ Some cell → ⊥
  new_cell cell at = not_made (is_made.cells (spent_of wills.thread) t cell at)

  pub new_thread : (th : Thread) → get m.threads (next_name t wills.thread) ≡ Some th → ⊥
  new_thread th at = not_made (is_made.threads (spent_of wills.thread) t th at)

  pub keeps : Keeps (next_name t wills.thread) wills.thread wills.effect
  keeps = some_of _ wills.effect (effect_keeps program _ _ wills.thread) wills.is

-- ---- what a step changes

-- a thread afterwards is the task's own, or its child, or was there before
pub thread_before : (threads : Threads) (t next : Name) (e : Effect) (u : Name) (th : Thread) → get (threads_after threads t next e) u ≡ Some th
    → ((u ≡ t) × (e.thread ≡ th)) ⊎ (((u ≡ next) × (w : Waiting) × (child_of e.act ≡ Some w) × (Waits w ≡ th)) ⊎ (get threads u ≡ Some th))
thread_before threads t next e u th at = by (child_of e.act) refl at
  where
    own : get (insert threads t e.thread) u ≡ Some th → ((u ≡ t) × (e.thread ≡ th)) ⊎ (((u ≡ next) × (w : Waiting) × (child_of e.act ≡ Some w) × (Waits w ≡ th)) ⊎ (get threads u ≡ Some th))
    own at = elim (put_or_before name_cmp_total name_cmp-same threads t e.thread u th at) [ inl new ↦ inl new | inr old ↦ inr (inr old) ]

    by : (o : Option Waiting) → child_of e.act ≡ o → get (with_child (insert threads t e.thread) next o) u ≡ Some th → ((u ≡ t) × (e.thread ≡ th)) ⊎ (((u ≡ next) × (w : Waiting) × (child_of e.act ≡ Some w) × (Waits w ≡ th)) ⊎ (get threads u ≡ Some th))
    by None none at = own at
    by (Some w) some at = elim (put_or_before name_cmp_total name_cmp-same (insert threads t e.thread) next (Waits w) u th at) [ inl new ↦ inr (inl (new.0, w, some, new.1)) | inr old ↦ own old ]

pub thread_kept : (threads : Threads) (t next : Name) (e : Effect) (u : Name) → (u ≡ t → ⊥) → (u ≡ next → ⊥) → get (threads_after threads t next e) u ≡ get threads u
thread_kept threads t next e u other new = by (child_of e.act)
  where
    by : (o : Option Waiting) → get (with_child (insert threads t e.thread) next o) u ≡ get threads u
    by None = insert_other name_cmp name_cmp_total name_cmp-same threads t e.thread u other
    by (Some w) = insert_other name_cmp name_cmp_total name_cmp-same (insert threads t e.thread) next (Waits w) u new ∙ insert_other name_cmp name_cmp_total name_cmp-same threads t e.thread u other

child_made : (act : Act) (w : Waiting) → child_of act ≡ Some w → act ≡ Makes w
child_made Nothing w e = cc
child_made (Bears cell) w e = cc
child_made (Makes v) w e = ap Makes (same_Some v w e)
child_made (Writes d v) w e = cc
child_made (Shares d) w e = cc

-- a set scalar isn't written
pub set_stays : (w : Writing) (x : _) (c : Cell) → written w (Set x) ≡ Some c → ⊥
set_stays (SetTo y) x c e = cc
set_stays (Put at member) x c e = cc
set_stays (PutValue at y) x c e = cc
set_stays (Add at n) x c e = cc

-- ---- what is closed stays so

module _ (program : List Procedure) (m n : Net) (is_made : IsMade m) (t : Name) (step : Steps program m t n) where
  next : Name
  next = next_name t step.wills.thread

  writable_before : (d : Name) (cell : Cell) → get m.cells d ≡ Some cell → IsWritable m.threads d → IsWritable n.threads d
  unfolding next
  writable_before d cell there nobody u th at holds =
      elim (thread_before m.threads t next step.wills.effect u th (subst (λ z. get z u ≡ Some th) step.threads at)) [
        | inl own ↦ elim ((keeps program m is_made t step.wills).own d (subst (HoldsWrite d) (sym own.1) holds)) [
          | inl held ↦ nobody t step.wills.thread step.wills.there held
          | inr born ↦ new_cell program m is_made t step.wills cell (subst (λ z. get m.cells z ≡ Some cell) (sym born.2) there)
        ]
        | inr others ↦ elim others [
          | inl child ↦ nobody t step.wills.thread step.wills.there ((keeps program m is_made t step.wills).child child.1 d (child_made _ child.1 child.2) (subst (HoldsWrite d) (sym child.3) holds))
          | inr old ↦ nobody u th old holds
        ]
      ]

  -- the content of a datum after the step
  cell_kept : (d : Name) (cell : Cell) → get m.cells d ≡ Some cell → IsClosedPool m.threads d cell → get n.cells d ≡ Some cell
  unfolding next
  cell_kept d cell there shut = by step.wills.effect.act refl step.cells
    where
      touched : (w : Writing) (c : Cell) → HoldsWrite d step.wills.thread → (cell : Cell) → IsClosedPool m.threads d cell → written w cell ≡ Some c → ⊥
      touched w c held Unset shut e = shut
      touched w c held (Set x) shut e = set_stays w x c e
      touched w c held (Contains members) shut e = shut t step.wills.thread step.wills.there held
      touched w c held (Maps values) shut e = shut t step.wills.thread step.wills.there held
      touched w c held (Sums values) shut e = shut t step.wills.thread step.wills.there held

      by : (act : Act) → step.wills.effect.act ≡ act → edited m.cells (next_name t step.wills.thread) (edit_of act) ≡ Some n.cells → get n.cells d ≡ Some cell
      by Nothing is e = subst (λ z. get z d ≡ Some cell) (same_Some m.cells n.cells e) there
      by (Makes w) is e = subst (λ z. get z d ≡ Some cell) (same_Some m.cells n.cells e) there
      by (Shares b) is e = subst (λ z. get z d ≡ Some cell) (same_Some m.cells n.cells e) there
      by (Bears c) is e = subst (λ z. get z d ≡ Some cell) (same_Some _ n.cells e)
          (insert_other name_cmp name_cmp_total name_cmp-same m.cells (next_name t step.wills.thread) c d (λ same. new_cell program m is_made t step.wills cell (subst (λ z. get m.cells z ≡ Some cell) same there)) ∙ there)
      by (Writes b w) is e =
          let a = some_mapped (option_and_then (written w) (get m.cells b)) (insert m.cells b) n.cells e in
          let c = some_first (get m.cells b) (written w) a.0 a.1 in
          subst (λ z. get z d ≡ Some cell) a.2
          (insert_other name_cmp name_cmp_total name_cmp-same m.cells b a.0 d (λ same.
          let held : HoldsWrite d step.wills.thread = subst (λ z. HoldsWrite z step.wills.thread) (sym same) ((keeps program m is_made t step.wills).target b w is) in
          let found : c.0 ≡ cell = same_Some c.0 cell (sym c.1 ∙ subst (λ z. get m.cells z ≡ Some cell) same there) in
          touched w a.0 held cell shut (subst (λ z. written w z ≡ Some a.0) found c.2)) ∙ there)

  pub closed_kept : (d : Name) → (c : IsClosed m d) → (get n.cells d ≡ Some c.cell) × IsClosedPool n.threads d c.cell
  closed_kept d c = (cell_kept d c.cell c.there c.shut, by c.cell c.there c.shut)
    where
      by : (cell : Cell) → get m.cells d ≡ Some cell → IsClosedPool m.threads d cell → IsClosedPool n.threads d cell
      by Unset there shut = shut
      by (Set x) there shut = tt
      by (Contains members) there shut = writable_before d (Contains members) there shut
      by (Maps values) there shut = writable_before d (Maps values) there shut
      by (Sums values) there shut = writable_before d (Sums values) there shut

  pub still_closed : (d : Name) → IsClosed m d → IsClosed n d
  still_closed d c = let k = closed_kept d c in record { cell = c.cell; there = k.0; shut = k.1 }

  -- a datum stays there
  there_kept : (d : Name) (cell : Cell) → get m.cells d ≡ Some cell → (c : Cell) × (get n.cells d ≡ Some c)
  unfolding next
  there_kept d cell there = by (edit_of step.wills.effect.act) step.cells
    where
      put : (k : Name) (c : Cell) → insert m.cells k c ≡ n.cells → (x : Cell) × (get n.cells d ≡ Some x)
      put k c e = elim (name_dec d k) [
        | inl same ↦ (c, subst (λ z. get z d ≡ Some c) e (ap (get (insert m.cells k c)) same ∙ insert_same name_cmp name_cmp_total m.cells k c))
        | inr other ↦ (cell, subst (λ z. get z d ≡ Some cell) e (insert_other name_cmp name_cmp_total name_cmp-same m.cells k c d other ∙ there))
      ]

      by : (edit : Edit) → edited m.cells (next_name t step.wills.thread) edit ≡ Some n.cells → (c : Cell) × (get n.cells d ≡ Some c)
      by Leaves e = (cell, subst (λ z. get z d ≡ Some cell) (same_Some m.cells n.cells e) there)
      by (Adds c) e = put _ c (same_Some _ n.cells e)
      by (Changes b w) e = let a = some_mapped (option_and_then (written w) (get m.cells b)) (insert m.cells b) n.cells e in put b a.0 a.2

  pub target_kept : (edit : Edit) → IsThere m.cells edit → IsThere n.cells edit
  target_kept Leaves is = tt
  target_kept (Adds cell) is = tt
  target_kept (Changes d w) is = there_kept d is.0 is.1

  -- what is shared stays so
  stays_shared : (d : Name) → m.shared d ≡ true → n.shared d ≡ true
  stays_shared d is = ap (λ z. z d) step.shared ∙ by (share_of step.wills.effect.act)
    where
      by : (o : Option Name) → with_share m.shared o d ≡ true
      by None = is
      by (Some b) = or_right (eq_by_cmp name_cmp d b) (m.shared d) is

  pub was_alone : (d : Name) → n.shared d ≡ false → m.shared d ≡ false
  was_alone d not = by (m.shared d) refl
    where
      by : (b : Bool) → m.shared d ≡ b → b ≡ false
      by true is = let more : n.shared d ≡ true = stays_shared d is in cc
      by false is = refl

  -- where a task alone may write, another's step changes nothing
  stays_alone : (u : Name) → (u ≡ t → ⊥) → (d : Name) → m.shared d ≡ false → IsAlone m u d → n.shared d ≡ false
  stays_alone u other d not a = ap (λ z. z d) step.shared ∙ by step.wills.effect.act refl
    where
      by : (act : Act) → step.wills.effect.act ≡ act → with_share m.shared (share_of act) d ≡ false
      by Nothing is = not
      by (Bears c) is = not
      by (Makes w) is = not
      by (Writes b w) is = not
      by (Shares b) is = ap (λ z. z || m.shared d) (other_name d b (λ same. a.nobody t step.wills.thread (λ e. other (sym e)) step.wills.there
          (subst (λ z. HoldsWrite z step.wills.thread) (sym same) ((keeps program m is_made t step.wills).share b is)))) ∙ not

  alone_cell : (u : Name) → (u ≡ t → ⊥) → (d : Name) → (a : IsAlone m u d) → get n.cells d ≡ Some a.cell
  unfolding next
  alone_cell u other d a = by step.wills.effect.act refl step.cells
    where
      by : (act : Act) → step.wills.effect.act ≡ act → edited m.cells (next_name t step.wills.thread) (edit_of act) ≡ Some n.cells → get n.cells d ≡ Some a.cell
      by Nothing is e = subst (λ z. get z d ≡ Some a.cell) (same_Some m.cells n.cells e) a.there
      by (Makes w) is e = subst (λ z. get z d ≡ Some a.cell) (same_Some m.cells n.cells e) a.there
      by (Shares b) is e = subst (λ z. get z d ≡ Some a.cell) (same_Some m.cells n.cells e) a.there
      by (Bears c) is e = subst (λ z. get z d ≡ Some a.cell) (same_Some _ n.cells e)
          (insert_other name_cmp name_cmp_total name_cmp-same m.cells (next_name t step.wills.thread) c d (λ same. new_cell program m is_made t step.wills a.cell (subst (λ z. get m.cells z ≡ Some a.cell) same a.there)) ∙ a.there)
      by (Writes b w) is e =
          let c = some_mapped (option_and_then (written w) (get m.cells b)) (insert m.cells b) n.cells e in
          subst (λ z. get z d ≡ Some a.cell) c.2
          (insert_other name_cmp name_cmp_total name_cmp-same m.cells b c.0 d (λ same.
          a.nobody t step.wills.thread (λ e. other (sym e)) step.wills.there (subst (λ z. HoldsWrite z step.wills.thread) (sym same) ((keeps program m is_made t step.wills).target b w is))) ∙ a.there)

  pub still_alone : (u : Name) → (u ≡ t → ⊥) → (d : Name) → IsAlone m u d → IsAlone n u d
  unfolding next
  still_alone u other d a = record { cell = a.cell; there = alone_cell u other d a; nobody = nobody }
    where
      mine : HoldsWrite d step.wills.thread → ⊥
      mine held = a.nobody t step.wills.thread (λ e. other (sym e)) step.wills.there held

      nobody : (w : Name) (th : Thread) → (w ≡ u → ⊥) → get n.threads w ≡ Some th → HoldsWrite d th → ⊥
      nobody w th apart at holds =
          elim (thread_before m.threads t next step.wills.effect w th (subst (λ z. get z w ≡ Some th) step.threads at)) [
            | inl own ↦ elim ((keeps program m is_made t step.wills).own d (subst (HoldsWrite d) (sym own.1) holds)) [
              | inl held ↦ mine held
              | inr born ↦ new_cell program m is_made t step.wills a.cell (subst (λ z. get m.cells z ≡ Some a.cell) (sym born.2) a.there)
            ]
            | inr others ↦ elim others [
              | inl child ↦ mine ((keeps program m is_made t step.wills).child child.1 d (child_made _ child.1 child.2) (subst (HoldsWrite d) (sym child.3) holds))
              | inr old ↦ a.nobody w th apart old holds
            ]
          ]

  -- another task can still do what it could
  pub persists : (u : Name) → (u ≡ t → ⊥) → (v : Wills program m u) → (get n.threads u ≡ Some v.thread) × (cell_at n (subject_of program v.thread) ≡ cell_at m (subject_of program v.thread))
  unfolding next
  persists u other v = (
    subst (λ z. get z u ≡ Some v.thread) (sym step.threads) (thread_kept m.threads t (next_name t step.wills.thread) step.wills.effect u other (λ same. new_thread program m is_made t step.wills v.thread (subst (λ z. get m.threads z ≡ Some v.thread) same v.there)) ∙ v.there),
    by (subject_of program v.thread) v.read v.alone,
  )
    where
      into : (d : Name) (b : Bool) → m.shared d ≡ b → (m.shared d ≡ false → IsAlone m u d) → cell_at n (Into d) ≡ cell_at m (Into d)
      into d true is alone = ap (λ z. if z then None else get n.cells d) (stays_shared d is) ∙ sym (ap (λ z. if z then None else get m.cells d) is)
      into d false is alone =
          let a = alone is in
          ap (λ z. if z then None else get n.cells d) (stays_alone u other d is a) ∙ alone_cell u other d a ∙ sym a.there ∙ sym (ap (λ z. if z then None else get m.cells d) is)

      by : (o : Subject) → ((d : Name) → o ≡ Reads d → IsClosed m d) → ((d : Name) → o ≡ Into d → m.shared d ≡ false → IsAlone m u d) → cell_at n o ≡ cell_at m o
      by Blind closed alone = refl
      by (Reads d) closed alone = let c = closed d refl in (closed_kept d c).0 ∙ sym c.there
      by (Into d) closed alone = into d (m.shared d) refl (alone d refl)

  abbrev pub wills_kept : (u : Name) → (u ≡ t → ⊥) → Wills program m u → Wills program n u
  wills_kept u other v = let p = persists u other v in record {
    thread = v.thread;
    there = p.0;
    awaited = λ k d at. still_closed d (v.awaited k d at);
    read = λ d is. still_closed d (v.read d is);
    alone = λ d is not. still_alone u other d (v.alone d is (was_alone d not));
    effect = v.effect;
    is = subst (λ z. effect_of program (next_name u v.thread) z v.thread ≡ Some v.effect) (sym p.1) v.is;
    target = target_kept (edit_of v.effect.act) v.target;
  }
