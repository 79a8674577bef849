-- Marks are carried along local steps, through jumps and loops.
use Rattle.tw_copies.proofs.Names.{AreBegun, Cause, Completed, Cursor, Instr, IsEndOf, List, Loop, Moves, Ok, OutsideCode, Position, Procedure, Result, Skipped, Some, Typing, Way, Went, [], ap, enabled, flow_of, flows, inl, inr, instr_at, local_flow, local_moves, local_of, local_step, local_steps, onward, option_map, outcome_of, refl, same_Some, same_went, slice_get, slice_get-map, subst, suc, sym, there_ok, true, turned, went_enabled, went_first, went_ok, zero, ℕ, ◌+◌, ◌∙◌, ◌∷◌, ◌≡◌, ◌⊎◌}
use Rattle.tw_code.specs.declared.flow.Flow.{Flow}
use Rattle.tw_code.specs.declared.flow.Flow.TheVariants.{Straight, Branch, Jump, Begin, Close, Stop}
use Rattle.tw_code.specs.declared.instr.Instr.TheVariants as instr
use Rattle.tw_code.specs.declared.instr.LocalInstr.{LocalInstr}
use Rattle.tw_code.specs.accepting.Structure.{end_of}
use Rattle.tw_code.specs.accepting.Walk.{moved}
use Rattle.tw_code.specs.machine.Local.{local_instr}
use Rattle.tw_budget.specs.Frames.{LoopsFit}
use Rattle.tw_budget.proofs.Places.{close_end}
use Rattle.tw_soundness.specs.AtPlace.{Accepts, IsAtPosition}
use Rattle.tw_soundness.proofs.Moving.{GoesBack, asked, has_loop, position_next}
use Rattle.tw_soundness.proofs.Steps.{Goes}
use Rattle.tw_copies.proofs.Marking.{Marks}
use Rattle.tw_copies.proofs.Summing.{IsCarried}

-- a move leads to a later place, or back
forward_or_back : (place : ℕ) (flow : Flow) (loops : List Loop) (way : Way) (to : Cursor) → moved way place loops flow ≡ Some to → (onward way place flow ≡ Some to.place) ⊎ GoesBack flow loops to
forward_or_back place Straight loops Completed to e = inl (ap (λ (c : Cursor). Some c.place) (same_Some _ to e))
forward_or_back place Straight loops Skipped to e = cc
forward_or_back place (Branch skip) loops Completed to e = inl (ap (λ (c : Cursor). Some c.place) (same_Some _ to e))
forward_or_back place (Branch skip) loops Skipped to e = inl (ap (λ (c : Cursor). Some c.place) (same_Some _ to e))
forward_or_back place (Jump skip) loops Completed to e = inl (ap (λ (c : Cursor). Some c.place) (same_Some _ to e))
forward_or_back place (Jump skip) loops Skipped to e = cc
forward_or_back place (Begin iterations) loops Completed to e = inl (ap (λ (c : Cursor). Some c.place) (same_Some _ to e))
forward_or_back place (Begin iterations) loops Skipped to e = cc
forward_or_back place Close [] Completed to e = cc
forward_or_back place Close (inner ∷ outer) Completed to e = ended inner.left refl e
  where
    ended : (left : ℕ) → inner.left ≡ left → Some (turned place inner.first left outer) ≡ Some to → (Some (place + 1) ≡ Some to.place) ⊎ GoesBack Close (inner ∷ outer) to
    ended zero is e = inl (ap (λ (c : Cursor). Some c.place) (same_Some _ to e))
    ended (suc zero) is e = inl (ap (λ (c : Cursor). Some c.place) (same_Some _ to e))
    ended (suc (suc left)) is e = inr (record { closes = refl; inner = inner; outer = outer; loop = refl; first = sym (ap (λ (c : Cursor). c.place) (same_Some _ to e)) })
forward_or_back place Close loops Skipped to e = cc
forward_or_back place Stop loops Completed to e = cc
forward_or_back place Stop loops Skipped to e = cc

goes_at : {A : Type 0} (r : Result A Cause) (P : A → Type 0) (x : A) → Goes r P → r ≡ Ok x → P x
goes_at r P x h e = rw e at h

local_is : (i : Instr) (l : LocalInstr) → local_of i ≡ Some l → i ≡ instr.Local l
local_is (instr.Local j) l e = let same : j ≡ l = cc in ap instr.Local same
local_is (instr.Data d) l e = cc
local_is (instr.Rule action) l e = cc
local_is (instr.Put action) l e = cc
local_is instr.Ret l e = cc

module _ (program : List Procedure) (marks : Marks) (carried : IsCarried program marks) (number : ℕ) (typings : List Typing) (p : Procedure) (here : slice_get program number ≡ Some p) (accepts : Accepts program typings p) where
  flow_there : (place : ℕ) (i : Instr) → slice_get p.code place ≡ Some i → slice_get (flows p.code) place ≡ Some (flow_of i)
  flow_there place i at = slice_get-map flow_of p.code place ∙ ap (option_map flow_of) at

  -- the END that a loop's first place leads to
  end_there : (code : List Flow) (place : ℕ) (inner : Loop) (outer : List Loop) → LoopsFit code place (inner ∷ outer) → slice_get code place ≡ Some Close → end_of code inner.first ≡ Some place
  end_there code place inner outer f at = f.2 ∙ sym f.1 ∙ close_end code place at

  move_marks : (spent : ℕ) (at to : Position) (i : LocalInstr) → IsAtPosition p spent at → slice_get p.code at.place ≡ Some (instr.Local i) → Moves p.registers (local_flow i) at to
      → (k : ℕ) → marks number at.place k ≡ true → marks number to.place k ≡ true
  move_marks spent at to i s here_i m k marked = by (forward_or_back at.place (local_flow i) at.loops m.way (record { place = to.place; loops = m.loops }) m.goes_on)
    where
      by : (onward m.way at.place (local_flow i) ≡ Some to.place) ⊎ GoesBack (local_flow i) at.loops (record { place = to.place; loops = m.loops }) → marks number to.place k ≡ true
      by (inl forward) = carried.later number at.place to.place k p (instr.Local i) m.way here here_i refl forward marked
      by (inr back) =
          let fits : LoopsFit (flows p.code) at.place (back.inner ∷ back.outer) = subst (λ (l : List Loop). LoopsFit (flows p.code) at.place l) back.loop (s.within accepts.budget.0 accepts.budget.1).fits in
          let begun : AreBegun (flows p.code) (back.inner ∷ back.outer) = subst (λ (l : List Loop). AreBegun (flows p.code) l) back.loop s.begun in
          let closes : slice_get (flows p.code) at.place ≡ Some Close = flow_there at.place (instr.Local i) here_i ∙ ap Some back.closes in
          let end : IsEndOf p.code back.inner.first at.place = (begun.0.0, begun.0.1, begun.0.2, begun.0.3, end_there (flows p.code) at.place back.inner back.outer fits closes) in
          subst (λ n. marks number n k ≡ true) (sym back.first) (carried.loops number at.place back.inner.first k p here end marked)

  pub steps_marks : (n spent : ℕ) (at to : Position) → IsAtPosition p spent at → local_steps n p.code at ≡ Went to → (k : ℕ) → marks number at.place k ≡ true → marks number to.place k ≡ true
  steps_marks zero spent at to s e k marked = subst (λ (z : Position). marks number z.place k ≡ true) (same_went at to e) marked
  steps_marks (suc n) spent at to s e k marked =
      let first = went_first (local_step p.code at) _ to e in
      let i = went_first (outcome_of (instr_at p.code at.place)) _ first.0 first.1 in
      let i_at : slice_get p.code at.place ≡ Some i.0 = there_ok (slice_get p.code at.place) OutsideCode i.0 (went_ok (instr_at p.code at.place) i.0 i.1) in
      let l = went_first (enabled (local_of i.0)) _ first.0 i.2 in
      let l_at : slice_get p.code at.place ≡ Some (instr.Local l.0) = i_at ∙ ap Some (local_is i.0 l.0 (went_enabled (local_of i.0) l.0 l.1)) in
      let went : local_instr l.0 at ≡ Ok first.0 = went_ok (local_instr l.0 at) first.0 l.2 in
      let m = goes_at (local_instr l.0 at) (Moves p.registers (local_flow l.0) at) first.0 (local_moves p.registers at s.values l.0 (asked program typings p accepts at.place (instr.Local l.0) l_at) (has_loop program typings p accepts spent at (instr.Local l.0) s l_at)) went in
      steps_marks n (spent + 1) first.0 to (position_next program typings p accepts spent at first.0 (instr.Local l.0) s l_at m) first.2 k (move_marks spent at first.0 l.0 s l_at m k marked)
