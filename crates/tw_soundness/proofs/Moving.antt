-- Where a task continues: in the loops that it has begun, within its budget, and with the typing of the place.
use Rattle.std.proofs.Common.{◌≡◌, ℕ, zero, suc, ◌+◌, ◌<◌, ◌==◌, ◌⊎◌, inl, inr, List, [], ◌∷◌, length, slice_get, get_or, Some, None, refl, sym, ap, subst, ◌∙◌, arith, if◌then◌else◌}
use Rattle.tw_soundness.proofs.MachineNames.{Accepts, AreBegun, Begin, Branch, Close, Completed, Cursor, DataInstr, Flow, Instr, IsAtPosition, IsEndOf, IsWithinBudget, Jump, LocalInstr, Loop, LoopsFit, NotEnabled, Outcome, Position, Procedure, Skipped, Stop, Straight, Typing, Way, after, close_end, data_flow, end_goes_on, flow_of, flows, length-map, local_flow, local_instr, local_of, local_step, local_steps, moved, onward, option_and_then, option_map, outcome_of, requires_at, requires_by_instr, requires_params, same_Some, slice_get-get_or, slice_get-map, slice_get_within, stays_within, turned, with_last}
use Rattle.tw_code.specs.declared.instr.DataInstr.TheVariants as on_data
use Rattle.tw_code.specs.declared.instr.Instr.TheVariants as instr
use Rattle.tw_code.specs.accepting.Structure.{end_of}
use Rattle.tw_budget.proofs.Shortened.{shortens_within}
use Rattle.tw_soundness.proofs.Steps.{Happens, Keeps, goes_happens, happens_keeps, keeps_more, waits_keeps}
use Rattle.tw_soundness.proofs.Values.{AllYes, HasLoop, Moves, all_yes, left_too, local_moves, yes_after}

-- ---- loops

-- each loop that is begun after a move was begun by a REPEAT
begun_on : (code : List Flow) (place : ℕ) (flow : Flow) (loops : List Loop) (way : Way) (to : Cursor) → slice_get code place ≡ Some flow → moved way place loops flow ≡ Some to → AreBegun code loops → AreBegun code to.loops
begun_on code place Straight loops Completed to at e b = subst (λ (c : Cursor). AreBegun code c.loops) (same_Some _ to e) b
begun_on code place Straight loops Skipped to at e b = cc
begun_on code place (Branch skip) loops Completed to at e b = subst (λ (c : Cursor). AreBegun code c.loops) (same_Some _ to e) b
begun_on code place (Branch skip) loops Skipped to at e b = subst (λ (c : Cursor). AreBegun code c.loops) (same_Some _ to e) b
begun_on code place (Jump skip) loops Completed to at e b = subst (λ (c : Cursor). AreBegun code c.loops) (same_Some _ to e) b
begun_on code place (Jump skip) loops Skipped to at e b = cc
begun_on code place (Begin iterations) loops Completed to at e b = subst (λ (c : Cursor). AreBegun code c.loops) (same_Some _ to e) ((place, iterations, refl, at), b)
begun_on code place (Begin iterations) loops Skipped to at e b = cc
begun_on code place Close [] Completed to at e b = cc
begun_on code place Close (inner ∷ outer) Completed to at e b = ended inner.first inner.left b.0 b.1 e
  where
    ended : (first left : ℕ) → (begin : ℕ) × (iterations : ℕ) × (first ≡ begin + 1) × (slice_get code begin ≡ Some (Begin iterations)) → AreBegun code outer → Some (turned place first left outer) ≡ Some to → AreBegun code to.loops
    ended first zero here rest e = subst (λ (c : Cursor). AreBegun code c.loops) (same_Some _ to e) rest
    ended first (suc zero) here rest e = subst (λ (c : Cursor). AreBegun code c.loops) (same_Some _ to e) rest
    ended first (suc (suc left)) here rest e = subst (λ (c : Cursor). AreBegun code c.loops) (same_Some _ to e) (here, rest)
begun_on code place Close loops Skipped to at e b = cc
begun_on code place Stop loops Completed to at e b = cc
begun_on code place Stop loops Skipped to at e b = cc

-- so was one in its last iteration
begun_last : (code : List Flow) (loops : List Loop) → AreBegun code loops → AreBegun code (with_last loops)
begun_last code [] b = b
begun_last code (inner ∷ outer) b = b

-- back to the first place of a loop
pub record GoesBack (flow : Flow) (loops : List Loop) (to : Cursor) : Type 0 where
  pub closes : flow ≡ Close
  pub inner : Loop
  pub outer : List Loop
  pub loop : loops ≡ inner ∷ outer
  pub first : to.place ≡ inner.first

-- a move leads to a later place, or back
forward_or_back : (place : ℕ) (flow : Flow) (loops : List Loop) (way : Way) (to : Cursor) → moved way place loops flow ≡ Some to → (onward way place flow ≡ Some to.place) ⊎ GoesBack flow loops to
forward_or_back place Straight loops Completed to e = inl (ap (λ (c : Cursor). Some c.place) (same_Some _ to e))
forward_or_back place Straight loops Skipped to e = cc
forward_or_back place (Branch skip) loops Completed to e = inl (ap (λ (c : Cursor). Some c.place) (same_Some _ to e))
forward_or_back place (Branch skip) loops Skipped to e = inl (ap (λ (c : Cursor). Some c.place) (same_Some _ to e))
forward_or_back place (Jump skip) loops Completed to e = inl (ap (λ (c : Cursor). Some c.place) (same_Some _ to e))
forward_or_back place (Jump skip) loops Skipped to e = cc
forward_or_back place (Begin iterations) loops Completed to e = inl (ap (λ (c : Cursor). Some c.place) (same_Some _ to e))
forward_or_back place (Begin iterations) loops Skipped to e = cc
forward_or_back place Close [] Completed to e = cc
forward_or_back place Close (inner ∷ outer) Completed to e = ended inner.left refl e
  where
    ended : (left : ℕ) → inner.left ≡ left → Some (turned place inner.first left outer) ≡ Some to → (Some (place + 1) ≡ Some to.place) ⊎ GoesBack Close (inner ∷ outer) to
    ended zero is e = inl (ap (λ (c : Cursor). Some c.place) (same_Some _ to e))
    ended (suc zero) is e = inl (ap (λ (c : Cursor). Some c.place) (same_Some _ to e))
    ended (suc (suc left)) is e = inr (record { closes = refl; inner = inner; outer = outer; loop = refl; first = sym (ap (λ (c : Cursor). c.place) (same_Some _ to e)) })
forward_or_back place Close loops Skipped to e = cc
forward_or_back place Stop loops Completed to e = cc
forward_or_back place Stop loops Skipped to e = cc

no_close : (i : DataInstr) → data_flow i ≡ Close → ⊥
no_close (on_data.New write read ty) e = cc
no_close (on_data.Store datum from) e = cc
no_close (on_data.Get to datum) e = cc
no_close (on_data.Insert by container subscript member skip) e = cc
no_close (on_data.Look by member container subscript skip) e = cc
no_close (on_data.Size to container) e = cc
no_close (on_data.SubscriptAt by to container index skip) e = cc
no_close (on_data.InsertValue map subscript from skip) e = cc
no_close (on_data.AddValue map subscript from) e = cc
no_close (on_data.GetValue to map subscript skip) e = cc
no_close (on_data.CopyRead to from) e = cc
no_close (on_data.CopyWrite to from) e = cc
no_close (on_data.DropRead right) e = cc
no_close (on_data.DropWrite right) e = cc

-- END leaves the typing as it is
close_same : (program : List Procedure) (i : Instr) (way : Way) (typing : Typing) → flow_of i ≡ Close → after program way i typing ≡ typing
close_same program (instr.Local i) way typing e = refl
close_same program (instr.Data i) way typing e = absurd (no_close i e)
close_same program (instr.Rule action) way typing e = cc
close_same program (instr.Put action) way typing e = cc
close_same program instr.Ret way typing e = cc

-- ---- a procedure of an accepted program

module _ (program : List Procedure) (typings : List Typing) (p : Procedure) (accepts : Accepts program typings p) where
  flow_there : (place : ℕ) (i : Instr) → slice_get p.code place ≡ Some i → slice_get (flows p.code) place ≡ Some (flow_of i)
  flow_there place i here = slice_get-map flow_of p.code place ∙ ap (option_map flow_of) here

  -- its place is in the code
  pub inside : (spent : ℕ) (at : Position) → IsAtPosition p spent at → at.place < length p.code
  inside spent at s = let w = (s.within accepts.budget.0 accepts.budget.1).inside in omega (arith, w, length-map p.code flow_of)

  typing_there : (place : ℕ) → place < length p.code → slice_get typings place ≡ Some (get_or typings place [])
  typing_there place h = slice_get-get_or typings place [] (omega (arith, accepts.typed.long))

  pub instr_there : (code : List Instr) (place : ℕ) → place < length code → (i : Instr) × (slice_get code place ≡ Some i)
  instr_there [] place h = absurd (omega arith)
  instr_there (i ∷ code) zero h = (i, refl)
  instr_there (i ∷ code) (suc place) h = instr_there code place (omega arith)

  -- the checks of its instruction hold
  pub asked : (place : ℕ) (i : Instr) → slice_get p.code place ≡ Some i → AllYes (requires_by_instr program p i (get_or typings place []))
  asked place i here =
      yes_after (if place == 0 then requires_params p else []) (requires_by_instr program p i (get_or typings place []))
      (all_yes (requires_at program p place i (get_or typings place [])) (accepts.typed.asks place i (get_or typings place []) here (typing_there place (slice_get_within p.code place i here))))

  -- an END has a loop
  pub has_loop : (spent : ℕ) (at : Position) (i : Instr) → IsAtPosition p spent at → slice_get p.code at.place ≡ Some i → flow_of i ≡ Close → HasLoop at
  has_loop spent at i s here closes =
      end_goes_on (flows p.code) at.place at.loops (s.within accepts.budget.0 accepts.budget.1).fits (flow_there at.place i here ∙ ap Some closes)

  -- after a move a task has a right position, one instruction later
  pub position_next : (spent : ℕ) (at to : Position) (i : Instr) → IsAtPosition p spent at → slice_get p.code at.place ≡ Some i → Moves p.registers (flow_of i) at to → IsAtPosition p (spent + 1) to
  position_next spent at to i s here m =
      let cursor : Cursor = record { place = to.place; loops = m.loops } in
      record {
        values = m.values;
        begun = left_too (AreBegun (flows p.code)) m.loops to.loops m.left (begun_last (flows p.code) m.loops)
            (begun_on (flows p.code) at.place (flow_of i) at.loops m.way cursor (flow_there at.place i here) m.goes_on s.begun);
        within = λ n b. left_too (IsWithinBudget (flows p.code) n (spent + 1) to.place) m.loops to.loops m.left (shortens_within (flows p.code) accepts.sound n (spent + 1) to.place m.loops)
            (stays_within (flows p.code) accepts.sound n spent at.place at.loops m.way cursor
            (ap (option_and_then (moved m.way at.place at.loops)) (flow_there at.place i here) ∙ m.goes_on) (s.within n b));
      }

  -- the END that a loop's first place leads to
  end_there : (code : List Flow) (place : ℕ) (inner : Loop) (outer : List Loop) → LoopsFit code place (inner ∷ outer) → slice_get code place ≡ Some Close → end_of code inner.first ≡ Some place
  end_there code place inner outer f at = f.2 ∙ sym f.1 ∙ close_end code place at

  -- and the typing there is the one that the instruction leaves
  pub typing_on : (spent : ℕ) (at to : Position) (i : Instr) → IsAtPosition p spent at → slice_get p.code at.place ≡ Some i → (m : Moves p.registers (flow_of i) at to) → get_or typings to.place [] ≡ after program m.way i (get_or typings at.place [])
  typing_on spent at to i s here m = by (forward_or_back at.place (flow_of i) at.loops m.way (record { place = to.place; loops = m.loops }) m.goes_on)
    where
      left : slice_get typings to.place ≡ Some (get_or typings to.place [])
      left = typing_there to.place (inside (spent + 1) to (position_next spent at to i s here m))

      held : slice_get typings at.place ≡ Some (get_or typings at.place [])
      held = typing_there at.place (inside spent at s)

      by : (onward m.way at.place (flow_of i) ≡ Some to.place) ⊎ GoesBack (flow_of i) at.loops (record { place = to.place; loops = m.loops }) → get_or typings to.place [] ≡ after program m.way i (get_or typings at.place [])
      by (inl forward) = accepts.typed.later at.place to.place i m.way (get_or typings at.place []) (get_or typings to.place []) here held forward left
      by (inr back) =
          let fits : LoopsFit (flows p.code) at.place (back.inner ∷ back.outer) = subst (λ (l : List Loop). LoopsFit (flows p.code) at.place l) back.loop (s.within accepts.budget.0 accepts.budget.1).fits in
          let begun : AreBegun (flows p.code) (back.inner ∷ back.outer) = subst (λ (l : List Loop). AreBegun (flows p.code) l) back.loop s.begun in
          let closes : slice_get (flows p.code) at.place ≡ Some Close = flow_there at.place i here ∙ ap Some back.closes in
          let end : IsEndOf p.code back.inner.first at.place = (begun.0.0, begun.0.1, begun.0.2, begun.0.3, end_there (flows p.code) at.place back.inner back.outer fits closes) in
          let first : slice_get typings back.inner.first ≡ Some (get_or typings to.place []) = subst (λ (n : ℕ). slice_get typings n ≡ Some (get_or typings to.place [])) back.first left in
          sym (accepts.typed.loops at.place back.inner.first (get_or typings at.place []) (get_or typings to.place []) end held first) ∙ sym (close_same program i m.way (get_or typings at.place []) back.closes)

  -- ---- local steps

  -- they leave the typing as it is
  pub record IsLeftBy (typing : Typing) (spent : ℕ) (to : Position) : Type 0 where
    pub fits_place : IsAtPosition p spent to
    pub typing_there : get_or typings to.place [] ≡ typing

  moved_on : (typing : Typing) (spent : ℕ) (at to : Position) (i : LocalInstr) → IsLeftBy typing spent at → slice_get p.code at.place ≡ Some (instr.Local i) → Moves p.registers (local_flow i) at to → IsLeftBy typing (spent + 1) to
  moved_on typing spent at to i l here m = record {
    fits_place = position_next spent at to (instr.Local i) l.fits_place here m;
    typing_there = typing_on spent at to (instr.Local i) l.fits_place here m ∙ l.typing_there;
  }

  at_local : (at : Position) (i : LocalInstr) → slice_get p.code at.place ≡ Some (instr.Local i) → local_step p.code at ≡ outcome_of (local_instr i at)
  at_local at i here = rw here refl

  pub at_other : (at : Position) (i : Instr) → slice_get p.code at.place ≡ Some i → local_of i ≡ None → local_step p.code at ≡ NotEnabled
  at_other at i here none = rw (here, none) refl

  -- a local instruction succeeds
  pub step_goes : (typing : Typing) (spent : ℕ) (at : Position) (i : LocalInstr) → IsLeftBy typing spent at → slice_get p.code at.place ≡ Some (instr.Local i) → Happens (local_step p.code at) (IsLeftBy typing (spent + 1))
  step_goes typing spent at i l here =
      subst (λ (o : Outcome Position). Happens o (IsLeftBy typing (spent + 1))) (sym (at_local at i here))
      (goes_happens (local_instr i at) (Moves p.registers (local_flow i) at) (IsLeftBy typing (spent + 1))
      (local_moves p.registers at l.fits_place.values i (asked at.place (instr.Local i) here) (has_loop spent at (instr.Local i) l.fits_place here))
      (λ to m. moved_on typing spent at to i l here m))

  step_keeps : (typing : Typing) (spent : ℕ) (at : Position) → IsLeftBy typing spent at → Keeps (local_step p.code at) (IsLeftBy typing (spent + 1))
  step_keeps typing spent at l =
      let i = instr_there p.code at.place (inside spent at l.fits_place) in
      by i.0 i.1
    where
      by : (i : Instr) → slice_get p.code at.place ≡ Some i → Keeps (local_step p.code at) (IsLeftBy typing (spent + 1))
      by (instr.Local i) here = happens_keeps (local_step p.code at) (IsLeftBy typing (spent + 1)) (step_goes typing spent at i l here)
      by (instr.Data i) here = waits_keeps (local_step p.code at) (IsLeftBy typing (spent + 1)) (at_other at (instr.Data i) here refl)
      by (instr.Rule action) here = waits_keeps (local_step p.code at) (IsLeftBy typing (spent + 1)) (at_other at (instr.Rule action) here refl)
      by (instr.Put action) here = waits_keeps (local_step p.code at) (IsLeftBy typing (spent + 1)) (at_other at (instr.Put action) here refl)
      by instr.Ret here = waits_keeps (local_step p.code at) (IsLeftBy typing (spent + 1)) (at_other at instr.Ret here refl)

  -- several of them don't trap
  pub steps_keep : (n : ℕ) (typing : Typing) (spent : ℕ) (at : Position) → IsLeftBy typing spent at → Keeps (local_steps n p.code at) (IsLeftBy typing (spent + n))
  steps_keep zero typing spent at l = let same : spent ≡ spent + 0 = omega arith in subst (λ (m : ℕ). IsLeftBy typing m at) same l
  steps_keep (suc n) typing spent at l =
      let same : spent + 1 + n ≡ spent + suc n = omega arith in
      keeps_more (local_step p.code at) (local_steps n p.code) (IsLeftBy typing (spent + 1)) (IsLeftBy typing (spent + suc n)) (step_keeps typing spent at l)
      (λ to left. subst (λ (m : ℕ). Keeps (local_steps n p.code to) (IsLeftBy typing m)) same (steps_keep n typing (spent + 1) to left))
