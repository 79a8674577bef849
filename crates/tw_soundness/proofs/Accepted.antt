-- Consequences of acceptance for a running task: its instruction is executed, and the task continues.
use Rattle.std.proofs.Common.{◌≡◌, ℕ, zero, suc, ◌<◌, ◌≤◌, true, List, [], ◌∷◌, ◌++◌, length, slice_get, get_or, Option, Some, None, refl, sym, ap, subst, ◌∙◌, arith}
use Rattle.tw_soundness.proofs.MachineNames.{Accepts, Action, Actor, AllByRecursion, Completed, DataInstr, Frame, Instr, IsAtPosition, IsDataInstr, IsHeld, IsInstr, Param, Procedure, RightType, State, Straight, Typing, Typings, at_next_place, context_of, data_instr, flow_of, flows, get, is_none, is_ret, leb-true, length-map, list_all, local_steps, option_to_list, requires_at, requires_by_instr, requires_data, right_of, rights_given, same_Some, slice_get-get_or, slice_get_within, starts_within, typing_of, value_types, values_fit}
use Rattle.tw_code.specs.declared.instr.Instr.TheVariants as instr
use Rattle.tw_soundness.proofs.AllEvents.{Accepted, Known}
use Rattle.tw_soundness.proofs.DataLeaves.{data_leaves}
use Rattle.tw_soundness.proofs.Long.{typings_long}
use Rattle.tw_soundness.proofs.Moving.{asked, inside, instr_there, position_next, steps_keep, typing_on}
use Rattle.tw_soundness.proofs.Registers.{Settles}
use Rattle.tw_soundness.proofs.Steps.{Goes, keeps_mapped, goes_mapped}
use Rattle.tw_soundness.proofs.TaskEvents.{Starts, fits_of, other_reads, other_writes}
use Rattle.tw_soundness.proofs.Values.{AllYes, Moves, all_yes, moves_by}
use Rattle.tw_soundness.proofs.Whole.{GoesAfter, LeftSo}

pub all_found : {A : Type 0} (P : A → Type 0) (xs : List A) (k : ℕ) (x : A) → AllByRecursion P xs → slice_get xs k ≡ Some x → P x
all_found P [] k x all here = cc
all_found P (y ∷ xs) zero x all here = subst P (same_Some y x here) all.0
all_found P (y ∷ xs) (suc k) x all here = all_found P xs k x all.1 here

-- no more rights than parameters
rights_few : (params : List Param) → length (rights_given params) ≤ length params
rights_few [] = omega arith
rights_few (p ∷ params) = by (right_of p) (rights_few params)
  where
    by : (o : Option RightType) → length (rights_given params) ≤ length params → length (option_to_list o ++ rights_given params) ≤ suc (length params)
    by None h = omega arith
    by (Some right) h = omega arith

module _ (program : List Procedure) (typings : Typings) (accepts : (k : ℕ) (p : Procedure) → slice_get program k ≡ Some p → Accepts program (typings k) p) where
  -- ---- the first place

  params_met : (k : ℕ) (p : Procedure) → slice_get program k ≡ Some p → (length (value_types p.params) ≤ length p.registers) × (values_fit (value_types p.params) p.registers ≡ true)
  params_met k p here =
      let acc = accepts k p here in
      let i = first_of p.code (omega (arith, acc.sound.long, length-map p.code flow_of)) in
      let typing = slice_get-get_or (typings k) 0 [] (omega (arith, slice_get_within p.code 0 i.0 i.1, acc.typed.long)) in
      let met = all_yes (requires_at program p 0 i.0 (get_or (typings k) 0 [])) (acc.typed.asks 0 i.0 (get_or (typings k) 0 []) i.1 typing) in
      (leb-true (length (value_types p.params)) (length p.registers) met.0, met.1.0)
    where
      first_of : (code : List Instr) → 0 < length code → (i : Instr) × (slice_get code 0 ≡ Some i)
      first_of [] h = absurd (omega arith)
      first_of (i ∷ code) h = (i, refl)

  starts : (k : ℕ) (p : Procedure) → slice_get program k ≡ Some p → Starts program typings k p
  starts k p here =
      let acc = accepts k p here in
      let met = params_met k p here in
      record {
        few = met.0;
        fit = met.1;
        typing = acc.typed.begins (get_or (typings k) 0 []) (slice_get-get_or (typings k) 0 [] (omega (arith, acc.sound.long, length-map p.code flow_of, acc.typed.long)));
        within = λ budget most. starts_within (flows p.code) acc.sound budget most;
      }

  -- ---- a task that runs

  module _ (s : State) (held : IsHeld program typings s) (a : Actor) (f : Frame) (is : get s.frames a ≡ Some f) (p : Procedure) (here : slice_get program f.procedure ≡ Some p) where
    acc : Accepts program (typings f.procedure) p
    acc = accepts f.procedure p here

    pub fits_place : IsAtPosition p f.spent f.position
    fits_place = record {
      values = held.types.values a f p is here;
      begun = held.budgets.begun a f p is here;
      within = λ budget most. held.budgets.within a f p budget is here most;
    }

    long : length (typing_of typings f) ≡ 16
    long =
        let there = slice_get-get_or (typings f.procedure) f.position.place [] (omega (arith, inside program (typings f.procedure) p acc f.spent f.position fits_place, acc.typed.long)) in
        typings_long program p (typings f.procedure) acc.typed (omega (arith, rights_few p.params, acc.limits.params.0.1)) f.position.place (typing_of typings f) there

    module _ (i : Instr) (at : slice_get p.code f.position.place ≡ Some i) where
      straight : Moves p.registers Straight f.position (at_next_place f.position)
      straight = moves_by Completed refl fits_place.values

      after_rule : (action : Action) → i ≡ instr.Rule action → GoesAfter program typings s held a f is p here action
      after_rule action e =
          let own : slice_get p.code f.position.place ≡ Some (instr.Rule action) = at ∙ ap Some e in
          record {
            fits_place = position_next program (typings f.procedure) p acc f.spent f.position (at_next_place f.position) (instr.Rule action) fits_place own straight;
            next = typing_on program (typings f.procedure) p acc f.spent f.position (at_next_place f.position) (instr.Rule action) fits_place own straight;
          }

      after_put : (action : Action) → i ≡ instr.Put action → GoesAfter program typings s held a f is p here action
      after_put action e =
          let own : slice_get p.code f.position.place ≡ Some (instr.Put action) = at ∙ ap Some e in
          record {
            fits_place = position_next program (typings f.procedure) p acc f.spent f.position (at_next_place f.position) (instr.Put action) fits_place own straight;
            next = typing_on program (typings f.procedure) p acc f.spent f.position (at_next_place f.position) (instr.Put action) fits_place own straight;
          }

      by_data : (d : DataInstr) → i ≡ instr.Data d → Goes (data_instr d (context_of s f)) (LeftSo program typings s held a f is p here)
      by_data d e =
          let own : slice_get p.code f.position.place ≡ Some (instr.Data d) = at ∙ ap Some e in
          let operands : IsDataInstr d = all_found IsInstr p.code f.position.place (instr.Data d) acc.limits.code.1 own in
          let met : AllYes (requires_data p.registers d (typing_of typings f)) = asked program (typings f.procedure) p acc f.position.place (instr.Data d) own in
          goes_mapped (data_instr d (context_of s f)) _ _
          (data_leaves p (typing_of typings f) (context_of s f) (other_reads program typings s a) (other_writes program typings s a) (fits_of program typings s held a f is) fits_place.values long d operands met)
          (λ c left. record {
            fits_place = position_next program (typings f.procedure) p acc f.spent f.position c.position (instr.Data d) fits_place own left.moves;
            settles = subst (λ (t : Typing). Settles t (context_of s f) (other_reads program typings s a) (other_writes program typings s a) c)
                (sym (typing_on program (typings f.procedure) p acc f.spent f.position c.position (instr.Data d) fits_place own left.moves)) left.settles;
          })

      met : AllYes (requires_by_instr program p i (typing_of typings f))
      met = asked program (typings f.procedure) p acc f.position.place i at

      known_at : Known program typings s held a f is
      known_at = record {
        procedure = p;
        here = here;
        instr = i;
        at = at;
        turn = record { met = met; by_data = by_data; after_rule = after_rule; after_put = after_put };
        stops = λ e. stops i e met;
        local = λ n. keeps_mapped (local_steps n p.code f.position) _ _ (steps_keep program (typings f.procedure) p acc n (typing_of typings f) f.spent f.position (record { fits_place = fits_place; typing_there = refl }))
            (λ to left. (left.fits_place, left.typing_there));
      }
        where
          stops : (i : Instr) → is_ret i ≡ true → AllYes (requires_by_instr program p i (typing_of typings f)) → list_all is_none (typing_of typings f) ≡ true
          stops (instr.Local j) e met = cc
          stops (instr.Data d) e met = cc
          stops (instr.Rule action) e met = cc
          stops (instr.Put action) e met = cc
          stops instr.Ret e met = met.0

  pub known : (s : State) (held : IsHeld program typings s) (a : Actor) (f : Frame) (is : get s.frames a ≡ Some f) → Known program typings s held a f is
  known s held a f is = by (held.types.procedures.frames a f is).0 (held.types.procedures.frames a f is).1
    where
      by : (p : Procedure) → slice_get program f.procedure ≡ Some p → Known program typings s held a f is
      by p here =
          let i = instr_there program (typings f.procedure) p (accepts f.procedure p here) p.code f.position.place (inside program (typings f.procedure) p (accepts f.procedure p here) f.spent f.position (fits_place s held a f is p here)) in
          known_at s held a f is p here i.0 i.1

  pub accepted : Accepted program typings
  accepted = record { starts = starts; known = known }
