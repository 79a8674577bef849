-- From the next instruction of a frame to the event of its actor.
use Rattle.tw_machine.proofs.Names.{Actor, CallLeaves, Err, Frame, Instr, IsStopped, LeavesTables, List, Ok, Procedure, Result, Some, State, Stopped, Tables, ap, call_by, call_event, get, instr_at, procedure_of, refl, subst, sym, with_tables, ℕ, ◌∙◌, ◌≡◌}

module _ (program : List Procedure) (actor : Actor) (p : Procedure) (i : Instr) (t : Tables) (f : Frame) where
  module _ (here : procedure_of program f.procedure ≡ Ok p) (at : instr_at p.code f.position.place ≡ Ok i) where
    call_is : (s : State) → get s.frames actor ≡ Some f → call_event program actor (with_tables s t) ≡ call_by program (with_tables s t) actor (record { frame = f; procedure = p; instr = i }) i
    call_is s there = rw (there, here, at) refl

    come : (result : Result (Unit {0}) Stopped) (u : Tables) (g : Frame) → CallLeaves program actor p i t f result u g → LeavesTables (call_event program actor) actor t f result u g
    come (Ok x) u g h = λ s there. call_is s there ∙ h s
    come (Err why) u g h = ((λ s there. subst (λ o. IsStopped o why) (sym (call_is s there)) (h.0 s)), h.1, h.2)

  pub calls_come : (number place : ℕ) (code : List Instr) (j : Instr) → number ≡ f.procedure → procedure_of program number ≡ Ok p → code ≡ p.code → place ≡ f.position.place → instr_at code place ≡ Ok j → j ≡ i
      → (result : Result (Unit {0}) Stopped) (u : Tables) (g : Frame) → CallLeaves program actor p i t f result u g → LeavesTables (call_event program actor) actor t f result u g
  calls_come number place code j n here c q at is result u g h =
      come (ap (procedure_of program) (sym n) ∙ here) (ap (λ (is : List Instr). instr_at is f.position.place) (sym c) ∙ ap (instr_at code) (sym q) ∙ at ∙ ap Ok is) result u g h
