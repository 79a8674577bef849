-- After a step a task and its child have only the write rights that the task had, or one on the datum that it made; and it writes only
-- where it has the write right.
use Rattle.std.proofs.Common.{◌≡◌, ◌⊎◌, inl, inr, ℕ, zero, suc, ◌+◌, Bool, true, false, if◌then◌else◌, List, [], ◌∷◌, ◌++◌, map, replicate, Option, Some, None, refl, sym, subst, slice_get, slice_set}
use Rattle.tw_determinism.proofs.MachineNames.{Action, DataInstr, Instr, Param, Procedure, Value, filled, int_at, is_closed_mode, is_val, local_instr, of_type_at, option_and_then, option_map, right_at, value_at}
use Rattle.tw_code.specs.declared.instr.DataInstr.TheVariants as on_data
use Rattle.tw_code.specs.declared.instr.Instr.TheVariants as instr
use Rattle.tw_determinism.proofs.Names.{Name}
use Rattle.tw_determinism.proofs.CoreEffects.{Right, Registers, Cell, Waiting, Running, Thread, Waits, Runs, Ended, HasWrite, HoldsWrite, Writing, Nothing, Bears, Makes, Writes, Shares, Effect, Handed, handed, with_given, with_moved, Done, ok, on_cells, done, looked, placed, value_placed, member_seen, entry_seen, to_write, by_instr, instr_of, effect_of}
use Rattle.tw_determinism.proofs.Options.{WhereSome, some_here, some_both, some_map, some_of}

-- ---- registers

pub set_to_some : (rs : Registers) (k j : ℕ) (o : Option Right) (d : Name) → HasWrite d (right_at (slice_set rs k o) j) → HasWrite d o ⊎ HasWrite d (right_at rs j)
set_to_some [] k j o d h = inr h
set_to_some (r ∷ rs) zero zero o d h = inl h
set_to_some (r ∷ rs) zero (suc j) o d h = inr h
set_to_some (r ∷ rs) (suc k) zero o d h = inr h
set_to_some (r ∷ rs) (suc k) (suc j) o d h = set_to_some rs k j o d h

pub set_to_none : (rs : Registers) (k j : ℕ) (d : Name) → HasWrite d (right_at (slice_set rs k None) j) → HasWrite d (right_at rs j)
set_to_none rs k j d h = elim (set_to_some rs k j None d h) [ inl no_right ↦ absurd no_right | inr old ↦ old ]

none_later : (n j : ℕ) (d : Name) → HasWrite d (right_at (replicate n None) j) → ⊥
none_later zero j d h = h
none_later (suc n) zero d h = h
none_later (suc n) (suc j) d h = none_later n j d h

among_first : (rs : List Right) (n j : ℕ) (d : Name) → HasWrite d (right_at (map Some rs ++ replicate n None) j) → HasWrite d (slice_get rs j)
among_first [] n j d h = absurd (none_later n j d h)
among_first (r ∷ rs) n zero d h = h
among_first (r ∷ rs) n (suc j) d h = among_first rs n j d h

-- ---- an instruction on data

abbrev Has : Running → Name → Type 0
Has f d = (k : ℕ) × HasWrite d (right_at f.rights k)

record DoneKeeps (next : Name) (f : Running) (x : Done) : Type 0 where
  own : (d : Name) (k : ℕ) → HasWrite d (right_at x.rights k) → Has f d ⊎ ((c : Cell) × (x.act ≡ Bears c) × (next ≡ d))
  child : (w : Waiting) → x.act ≡ Makes w → ⊥
  target : (d : Name) (w : Writing) → x.act ≡ Writes d w → Has f d
  share : (d : Name) → x.act ≡ Shares d → Has f d

no_child : (w : Waiting) → Nothing ≡ Makes w → ⊥
no_child w e = cc

no_target : (d : Name) (w : Writing) → Nothing ≡ Writes d w → ⊥
no_target d w e = cc

no_share : (d : Name) → Nothing ≡ Shares d → ⊥
no_share d e = cc

-- it has the same rights, or one register is emptied
kept : (next : Name) (f : Running) (at : _) → DoneKeeps next f (done f at f.rights Nothing)
kept next f at = record { own = λ d k h. inl (k, h); child = no_child; target = λ d w e. absurd (no_target d w e); share = λ d e. absurd (no_share d e) }

emptied : (next : Name) (f : Running) (at : _) (register : ℕ) → DoneKeeps next f (done f at (slice_set f.rights register None) Nothing)
emptied next f at register = record { own = λ d k h. inl (k, set_to_none f.rights register k d h); child = no_child; target = λ d w e. absurd (no_target d w e); share = λ d e. absurd (no_share d e) }

copied : (next : Name) (f : Running) (at : _) (to from : ℕ) (right : Right) → right_at f.rights from ≡ Some right → DoneKeeps next f (done f at (slice_set f.rights to (Some right)) Nothing)
copied next f at to from right is = record {
  own = λ d k h. inl (elim (set_to_some f.rights to k (Some right) d h) [ inl new ↦ (from, subst (HasWrite d) (sym is) new) | inr old ↦ (k, old) ]);
  child = no_child;
  target = λ d w e. absurd (no_target d w e);
  share = λ d e. absurd (no_share d e);
}

-- a write right is copied
shared : (next : Name) (f : Running) (at : _) (to from : ℕ) (b : Name) → HasWrite b (right_at f.rights from) → DoneKeeps next f (done f at (slice_set f.rights to (Some (record { write = true; of = b }))) (Shares b))
shared next f at to from b has = record {
  own = λ d k h. inl (elim (set_to_some f.rights to k (Some (record { write = true; of = b })) d h) [ inl new ↦ (from, subst (λ x. HasWrite x (right_at f.rights from)) new.1 has) | inr old ↦ (k, old) ]);
  child = λ w e. cc;
  target = λ d w e. cc;
  share = λ d e. let same : b ≡ d = cc in (from, subst (λ x. HasWrite x (right_at f.rights from)) same has);
}

put_in : (next : Name) (f : Running) (at : _) (register from : ℕ) (d : Name) (w : Writing) → HasWrite d (right_at f.rights from) → DoneKeeps next f (done f at (slice_set f.rights register None) (Writes d w))
put_in next f at register from d w has = record {
  own = λ e k h. inl (k, set_to_none f.rights register k e h);
  child = λ v e. cc;
  target = λ e v is. let same : d ≡ e = cc in (from, subst (λ x. HasWrite x (right_at f.rights from)) same has);
  share = λ e is. cc;
}

-- it has the same rights, and writes
wrote : (next : Name) (f : Running) (at : _) (from : ℕ) (d : Name) (w : Writing) → HasWrite d (right_at f.rights from) → DoneKeeps next f (done f at f.rights (Writes d w))
wrote next f at from d w has = record {
  own = λ e k h. inl (k, h);
  child = λ v e. cc;
  target = λ e v is. let same : d ≡ e = cc in (from, subst (λ x. HasWrite x (right_at f.rights from)) same has);
  share = λ e is. cc;
}

may_write : (o : Option Right) (d : Name) → to_write o ≡ Some d → HasWrite d o
may_write None d e = cc
may_write (Some right) d e = by right.write refl e
  where
    by : (b : Bool) → right.write ≡ b → (if b then Some right.of else None) ≡ Some d → (right.write ≡ true) × (right.of ≡ d)
    by true is e = let same : right.of ≡ d = cc in (is, same)
    by false is e = cc

looked_keeps : (next : Name) (f : Running) (register skip : ℕ) (o : Option Name) → DoneKeeps next f (looked f register skip o)
looked_keeps next f register skip None = kept next f _
looked_keeps next f register skip (Some member) = record {
  own = λ d k h. inl (elim (set_to_some f.rights register k (Some (record { write = false; of = member })) d h) [ inl new ↦ let no_write : false ≡ true = new.0 in cc | inr old ↦ (k, old) ]);
  child = no_child;
  target = λ d w e. absurd (no_target d w e);
  share = λ d e. absurd (no_share d e);
}

placed_keeps : (next : Name) (f : Running) (register skip from : ℕ) (d : Name) (at : _) (member : Name) (o : Option Name) → HasWrite d (right_at f.rights from) → DoneKeeps next f (placed f register skip d at member o)
placed_keeps next f register skip from d at member None has = put_in next f _ register from d _ has
placed_keeps next f register skip from d at member (Some other) has = kept next f _

value_placed_keeps : (next : Name) (f : Running) (skip from : ℕ) (d : Name) (at x : Value) (o : Option Value) → HasWrite d (right_at f.rights from) → DoneKeeps next f (value_placed f skip d at x o)
value_placed_keeps next f skip from d at x None has = wrote next f _ from d _ has
value_placed_keeps next f skip from d at x (Some other) has = kept next f _

born : (next : Name) (f : Running) (at : _) (write read : ℕ) (cell : Cell)
    → DoneKeeps next f (done f at (slice_set (slice_set f.rights write (Some (record { write = true; of = next }))) read (Some (record { write = false; of = next }))) (Bears cell))
born next f at write read cell = record {
  own = λ d k h. elim (set_to_some (slice_set f.rights write (Some (record { write = true; of = next }))) read k (Some (record { write = false; of = next })) d h) [
    | inl new ↦ let no_write : false ≡ true = new.0 in cc
    | inr old ↦ elim (set_to_some f.rights write k (Some (record { write = true; of = next })) d old) [
      | inl new ↦ inr (cell, refl, new.1)
      | inr older ↦ inl (k, older)
    ]
  ];
  child = λ w e. cc;
  target = λ d w e. cc;
  share = λ d e. cc;
}

on_cells_keeps : (next : Name) (cell : Option Cell) (f : Running) (i : DataInstr) → WhereSome (on_cells next cell f i) (DoneKeeps next f)
on_cells_keeps next cell f (on_data.New write read ty) = some_here (born next f _ write read _)
on_cells_keeps next cell f (on_data.Store datum from) =
    some_both (ok (value_at f.position from)) (λ x _. some_map (to_write (right_at f.rights datum)) _ (λ d is. put_in next f _ datum datum d _ (may_write _ d is)))
on_cells_keeps next cell f (on_data.Get to datum) = some_map _ _ (λ x _. kept next f _)
on_cells_keeps next cell f (on_data.Insert by container subscript member skip) =
    some_both (ok (of_type_at f.position subscript by)) (λ at _. some_both (to_write (right_at f.rights container)) (λ d is. some_map (right_at f.rights member) _ (λ right _. placed_keeps next f member skip container d at right.of (member_seen cell at) (may_write _ d is))))
on_cells_keeps next cell f (on_data.Look by member container subscript skip) =
    some_both (ok (of_type_at f.position subscript by)) (λ at _. some_map cell _ (λ c _. looked_keeps next f member skip _))
on_cells_keeps next cell f (on_data.Size to container) = some_map cell _ (λ c _. kept next f _)
on_cells_keeps next cell f (on_data.SubscriptAt by to container index skip) = some_both (ok (int_at f.position index)) (λ count _. some_map cell _ (λ c _. kept next f _))
on_cells_keeps next cell f (on_data.InsertValue map subscript from skip) =
    some_both (ok (value_at f.position subscript)) (λ at _. some_both (ok (value_at f.position from)) (λ x _. some_map (to_write (right_at f.rights map)) _ (λ d is. value_placed_keeps next f skip map d at x (entry_seen cell at) (may_write _ d is))))
on_cells_keeps next cell f (on_data.AddValue map subscript from) =
    some_both (ok (value_at f.position subscript)) (λ at _. some_both (ok (int_at f.position from)) (λ n _. some_map (to_write (right_at f.rights map)) _ (λ d is. wrote next f _ map d _ (may_write _ d is))))
on_cells_keeps next cell f (on_data.GetValue to map subscript skip) = some_both (ok (value_at f.position subscript)) (λ at _. some_map cell _ (λ c _. kept next f _))
on_cells_keeps next cell f (on_data.CopyRead to from) = some_map (right_at f.rights from) _ (λ right is. copied next f _ to from right is)
on_cells_keeps next cell f (on_data.CopyWrite to from) = some_map (to_write (right_at f.rights from)) _ (λ d is. shared next f _ to from d (may_write _ d is))
on_cells_keeps next cell f (on_data.DropRead right) = some_here (emptied next f _ right)
on_cells_keeps next cell f (on_data.DropWrite right) = some_here (emptied next f _ right)

-- ---- RULE and PUT

record HandedKeeps (rights : Registers) (h : Handed) : Type 0 where
  given : (d : Name) (k : ℕ) → HasWrite d (slice_get h.rights k) → (j : ℕ) × HasWrite d (right_at rights j)
  left : (d : Name) (k : ℕ) → HasWrite d (right_at h.left k) → (j : ℕ) × HasWrite d (right_at rights j)

handed_keeps : (values : List Value) (rights : Registers) (params : List Param) (registers : List ℕ) → WhereSome (handed values rights params registers) (HandedKeeps rights)
handed_keeps values rights [] registers = some_here (record { given = λ d k h. absurd h; left = λ d k h. (k, h) })
handed_keeps values rights (p ∷ params) [] = some_here (record { given = λ d k h. absurd h; left = λ d k h. (k, h) })
handed_keeps values rights (p ∷ params) (register ∷ registers) = by (is_val p.mode) (handed_keeps values rights params registers) (handed_keeps values (slice_set rights register None) params registers)
  where
    moved : (right : Right) (h : Handed) → right_at rights register ≡ Some right → HandedKeeps (slice_set rights register None) h → (awaits : List Name) → HandedKeeps rights (record h { rights = right ∷ h.rights; awaits = awaits })
    moved right h is keeps awaits = record {
      given = λ d k has. first d k has;
      left = λ d k has. let old = keeps.left d k has in (old.0, set_to_none rights register old.0 d old.1);
    }
      where
        first : (d : Name) (k : ℕ) → HasWrite d (slice_get (right ∷ h.rights) k) → (j : ℕ) × HasWrite d (right_at rights j)
        first d zero has = (register, subst (HasWrite d) (sym is) has)
        first d (suc k) has = let old = keeps.given d k has in (old.0, set_to_none rights register old.0 d old.1)

    by : (b : Bool) → WhereSome (handed values rights params registers) (HandedKeeps rights) → WhereSome (handed values (slice_set rights register None) params registers) (HandedKeeps (slice_set rights register None))
        → WhereSome (if b then option_and_then (λ x. option_map (with_given x) (handed values rights params registers)) (slice_get values register)
        else option_and_then (λ right. option_map (with_moved (is_closed_mode p.mode) right) (handed values (slice_set rights register None) params registers)) (right_at rights register)) (HandedKeeps rights)
    by true same less = some_both (slice_get values register) (λ x _. some_map (handed values rights params registers) _ (λ h is. let keeps = some_of _ h same is in record { given = keeps.given; left = keeps.left }))
    by false same less = some_both (right_at rights register) (λ right is. some_map (handed values (slice_set rights register None) params registers) _ (λ h at. moved right h is (some_of _ h less at) _))

-- ---- a step of a thread

pub record Keeps (next : Name) (th : Thread) (e : Effect) : Type 0 where
  pub own : (d : Name) → HoldsWrite d e.thread → HoldsWrite d th ⊎ ((c : Cell) × (e.act ≡ Bears c) × (next ≡ d))
  pub child : (w : Waiting) (d : Name) → e.act ≡ Makes w → HoldsWrite d (Waits w) → HoldsWrite d th
  pub target : (d : Name) (w : Writing) → e.act ≡ Writes d w → HoldsWrite d th
  pub share : (d : Name) → e.act ≡ Shares d → HoldsWrite d th

makes_keeps : (next : Name) (f : Running) (at : _) (procedure : ℕ) (h : Handed) → HandedKeeps f.rights h
    → Keeps next (Runs f) (record { thread = Runs (record f { position = at; rights = h.left; spent = f.spent + 1 }); act = Makes (record { procedure = procedure; values = h.values; rights = h.rights; awaits = h.awaits }) })
makes_keeps next f at procedure h keeps = record {
  own = λ d has. inl (keeps.left d has.0 has.1);
  child = λ w d e has. let same : record { procedure = procedure; values = h.values; rights = h.rights; awaits = h.awaits } ≡ w = cc in keeps.given d has.0 (subst (λ (z : Waiting). HasWrite d (slice_get z.rights has.0)) (sym same) has.1);
  target = λ d w e. cc;
  share = λ d e. cc;
}

pub effect_keeps : (program : List Procedure) (next : Name) (cell : Option Cell) (th : Thread) → WhereSome (effect_of program next cell th) (Keeps next th)
effect_keeps program next cell (Waits w) = some_both (slice_get program w.procedure) (λ p _. some_map (ok (filled w.values p.registers)) _ (λ values _. record {
  own = λ d has. inl (has.0, among_first w.rights _ has.0 d has.1);
  child = λ v d e. absurd (no_child v e);
  target = λ d v e. absurd (no_target d v e);
  share = λ d e. absurd (no_share d e);
}))
effect_keeps program next cell (Runs f) = some_both (instr_of program f) (λ i _. by i)
  where
    action_keeps : (action : Action) → WhereSome (by_instr program next cell f (instr.Put action)) (Keeps next (Runs f))
    action_keeps action = some_both (slice_get program action.procedure) (λ p _. some_map (handed f.position.values f.rights p.params action.args) _
        (λ h is. makes_keeps next f _ action.procedure h (some_of _ h (handed_keeps f.position.values f.rights p.params action.args) is)))

    by : (i : Instr) → WhereSome (by_instr program next cell f i) (Keeps next (Runs f))
    by (instr.Local i) = some_map (ok (local_instr i f.position)) _ (λ at _. record { own = λ d has. inl has; child = λ w d e. absurd (no_child w e); target = λ d w e. absurd (no_target d w e); share = λ d e. absurd (no_share d e) })
    by (instr.Data i) = some_map (on_cells next cell f i) _ (λ x is. let keeps = some_of _ x (on_cells_keeps next cell f i) is in record {
      own = λ d has. keeps.own d has.0 has.1;
      child = λ w d e. absurd (keeps.child w e);
      target = keeps.target;
      share = keeps.share;
    })
    by (instr.Rule action) = action_keeps action
    by (instr.Put action) = action_keeps action
    by instr.Ret = some_here (record { own = λ d has. absurd has; child = λ w d e. absurd (no_child w e); target = λ d w e. absurd (no_target d w e); share = λ d e. absurd (no_share d e) })
effect_keeps program next cell Ended = record { is = tt }
