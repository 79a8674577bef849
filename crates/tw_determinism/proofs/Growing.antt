-- A step leaves names made: each name in use was made by a task that has gone on since.
use Rattle.std.proofs.Common.{◌≡◌, ◌⊎◌, inl, inr, ℕ, ◌+◌, List, [], ◌∷◌, Option, Some, None, refl, sym, ap, subst, ◌∙◌, slice_get, arith}
use Rattle.tw_determinism.proofs.MachineNames.{Action, Instr, Procedure, filled, get, insert, insert_other, insert_same, local_instr, option_and_then, put_or_before, same_Some}
use Rattle.tw_code.specs.declared.instr.Instr.TheVariants as instr
use Rattle.tw_determinism.proofs.Names.{Name, name_cmp, name_cmp_total, name_cmp-same}
use Rattle.tw_determinism.proofs.CoreEffects.{Cell, Cells, Thread, Waits, Runs, Ended, Waiting, Running, Act, Nothing, Bears, Makes, Writes, Shares, Effect, written, Net, effect_of, next_name, spent_of, ok, on_cells, handed, by_instr, instr_of}
use Rattle.tw_determinism.proofs.CoreMachine.{Edit, Leaves, Adds, Changes, edit_of, child_of, edited, with_child, IsMade, IsPast, WasMade, Steps}
use Rattle.tw_determinism.proofs.Options.{WhereSome, some_here, some_both, some_map, some_of, some_first, some_mapped}
use Rattle.tw_determinism.proofs.Persisting.{name_dec, new_thread, thread_before, thread_kept}

-- it is as far as before, and farther if it makes anything
pub record Grows (th : Thread) (e : Effect) : Type 0 where
  pub past : (k : ℕ) → IsPast k th → IsPast k e.thread
  pub on : (e.act ≡ Nothing) ⊎ IsPast (spent_of th) e.thread

one_more : (f : Running) (at : _) (rights : _) (act : Act) → Grows (Runs f) (record { thread = Runs (record f { position = at; rights = rights; spent = f.spent + 1 }); act = act })
one_more f at rights act = record { past = λ k h. omega (arith, h); on = inr (omega arith) }

grows : (program : List Procedure) (next : Name) (cell : Option Cell) (th : Thread) → WhereSome (effect_of program next cell th) (Grows th)
grows program next cell (Waits w) = some_both (slice_get program w.procedure) (λ p _. some_map (ok (filled w.values p.registers)) _ (λ values _. record { past = λ k h. absurd h; on = inl refl }))
grows program next cell (Runs f) = some_both (instr_of program f) (λ i _. by i)
  where
    by_action : (action : Action) → WhereSome (by_instr program next cell f (instr.Put action)) (Grows (Runs f))
    by_action action = some_both (slice_get program action.procedure) (λ p _. some_map (handed f.position.values f.rights p.params action.args) _ (λ h _. one_more f _ _ _))

    by : (i : Instr) → WhereSome (by_instr program next cell f i) (Grows (Runs f))
    by (instr.Local i) = some_map (ok (local_instr i f.position)) _ (λ at _. one_more f _ _ _)
    by (instr.Data i) = some_map (on_cells next cell f i) _ (λ x _. one_more f _ _ _)
    by (instr.Rule action) = by_action action
    by (instr.Put action) = by_action action
    by instr.Ret = some_here (record { past = λ k h. tt; on = inl refl })
grows program next cell Ended = record { is = tt }

-- a datum afterwards is new, or was there before
pub cell_before : (cells : Cells) (next : Name) (edit : Edit) (after : Cells) (x : Name) (c : Cell) → edited cells next edit ≡ Some after → get after x ≡ Some c
    → ((x ≡ next) × (edit ≡ Adds c)) ⊎ ((b : Cell) × (get cells x ≡ Some b))
cell_before cells next Leaves after x c e at = inr (c, subst (λ z. get z x ≡ Some c) (sym (same_Some cells after e)) at)
cell_before cells next (Adds b) after x c e at = elim (put_or_before name_cmp_total name_cmp-same cells next b x c (subst (λ z. get z x ≡ Some c) (sym (same_Some _ after e)) at)) [
  | inl new ↦ inl (new.0, ap Adds new.1)
  | inr old ↦ inr (c, old)
]
cell_before cells next (Changes d w) after x c e at =
    let a = some_mapped (option_and_then (written w) (get cells d)) (insert cells d) after e in
    let b = some_first (get cells d) (written w) a.0 a.1 in
    elim (put_or_before name_cmp_total name_cmp-same cells d a.0 x c (subst (λ z. get z x ≡ Some c) (sym a.2) at)) [
      | inl new ↦ inr (b.0, ap (get cells) new.0 ∙ b.1)
      | inr old ↦ inr (c, old)
    ]

is_adding : (act : Act) (c : Cell) → edit_of act ≡ Adds c → act ≡ Nothing → ⊥
is_adding Nothing c e is = cc
is_adding (Bears b) c e is = cc
is_adding (Makes w) c e is = cc
is_adding (Writes d w) c e is = cc
is_adding (Shares d) c e is = cc

is_making : (act : Act) (w : Waiting) → child_of act ≡ Some w → act ≡ Nothing → ⊥
is_making Nothing w e is = cc
is_making (Bears b) w e is = cc
is_making (Makes v) w e is = cc
is_making (Writes d v) w e is = cc
is_making (Shares d) w e is = cc

module _ (program : List Procedure) (m n : Net) (is_made : IsMade m) (t : Name) (step : Steps program m t n) where
  pub own_thread : get n.threads t ≡ Some step.wills.effect.thread
  own_thread = subst (λ z. get z t ≡ Some step.wills.effect.thread) (sym step.threads) (by (child_of step.wills.effect.act))
    where
      by : (o : Option Waiting) → get (with_child (insert m.threads t step.wills.effect.thread) (next_name t step.wills.thread) o) t ≡ Some step.wills.effect.thread
      by None = insert_same name_cmp name_cmp_total m.threads t step.wills.effect.thread
      by (Some w) =
          insert_other name_cmp name_cmp_total name_cmp-same (insert m.threads t step.wills.effect.thread) (next_name t step.wills.thread) (Waits w) t
          (λ same. new_thread program m is_made t step.wills step.wills.thread (subst (λ z. get m.threads z ≡ Some step.wills.thread) same step.wills.there))
          ∙ insert_same name_cmp name_cmp_total m.threads t step.wills.effect.thread

  goes_on : Grows step.wills.thread step.wills.effect
  goes_on = some_of _ step.wills.effect (grows program _ _ step.wills.thread) step.wills.is

  -- what was made before
  still_made : (k : ℕ) (u : Name) → WasMade m.threads k u → WasMade n.threads k u
  still_made k [] made = tt
  still_made k (j ∷ u) made = elim (name_dec (j ∷ u) t) [
    | inl same ↦
        let th_is : made.0 ≡ step.wills.thread = same_Some made.0 step.wills.thread (sym made.1 ∙ subst (λ z. get m.threads z ≡ Some step.wills.thread) (sym same) step.wills.there) in
        (step.wills.effect.thread, subst (λ z. get n.threads z ≡ Some step.wills.effect.thread) (sym same) own_thread, goes_on.past k (subst (IsPast k) th_is made.2))
    | inr other ↦ (
      made.0,
      subst (λ z. get z (j ∷ u) ≡ Some made.0) (sym step.threads)
          (thread_kept m.threads t (next_name t step.wills.thread) step.wills.effect (j ∷ u) other (λ same. new_thread program m is_made t step.wills made.0 (subst (λ z. get m.threads z ≡ Some made.0) same made.1)) ∙ made.1),
      made.2,
    )
  ]

  -- what is made by the step
  now_made : (k : ℕ) (u : Name) → k ∷ u ≡ next_name t step.wills.thread → (step.wills.effect.act ≡ Nothing → ⊥) → WasMade n.threads k u
  now_made k [] same acts = tt
  now_made k (j ∷ u) same acts =
      let k_is : k ≡ spent_of step.wills.thread = cc in
      let t_is : j ∷ u ≡ t = cc in
      elim goes_on.on [
        | inl idle ↦ absurd (acts idle)
        | inr past ↦ (step.wills.effect.thread, subst (λ z. get n.threads z ≡ Some step.wills.effect.thread) (sym t_is) own_thread, subst (λ z. IsPast z step.wills.effect.thread) (sym k_is) past)
      ]

  root : (o : Option Thread) → get n.threads [] ≡ o → o ≡ None
  root None at = refl
  root (Some th) at = elim (thread_before m.threads t (next_name t step.wills.thread) step.wills.effect [] th (subst (λ z. get z [] ≡ Some th) step.threads at)) [
    | inl own ↦ let there : get m.threads [] ≡ Some step.wills.thread = ap (get m.threads) own.0 ∙ step.wills.there in let none = is_made.root in cc
    | inr others ↦ elim others [
      | inl child ↦ let e = child.0 in cc
      | inr old ↦ let none = is_made.root in cc
    ]
  ]

  pub made_kept : IsMade n
  made_kept = record {
    root = root (get n.threads []) refl;
    cells = λ k u cell at. elim (cell_before m.cells (next_name t step.wills.thread) (edit_of step.wills.effect.act) n.cells (k ∷ u) cell step.cells at) [
      | inl new ↦ now_made k u new.0 (is_adding step.wills.effect.act cell new.1)
      | inr old ↦ still_made k u (is_made.cells k u old.0 old.1)
    ];
    threads = λ k u th at. elim (thread_before m.threads t (next_name t step.wills.thread) step.wills.effect (k ∷ u) th (subst (λ z. get z (k ∷ u) ≡ Some th) step.threads at)) [
      | inl own ↦ still_made k u (is_made.threads k u step.wills.thread (ap (get m.threads) own.0 ∙ step.wills.there))
      | inr others ↦ elim others [
        | inl child ↦ now_made k u child.0 (is_making step.wills.effect.act child.1 child.2)
        | inr old ↦ still_made k u (is_made.threads k u th old)
      ]
    ];
  }
