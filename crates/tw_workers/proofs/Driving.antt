-- Steps of a driver, one after another.
use Rattle.tw_workers.proofs.Names.{After, Answer, AtSeat, Before, Bool, Continues, DoneView, Drives, Ends, FoldsTo, Held, Left, List, None, Option, Ran, Run, SeatEvents, Step, Stopped, Turned, [], ap, append_assoc, ends, goes, step_or_batch, subst, sym, ◌++◌, ◌∙◌, ◌∷◌, ◌≡◌}

-- ---- lists of steps

pub joined : {S A : Type 0} (R : S → A → S → Type 0) (p q r : S) (xs ys : List A) → FoldsTo R p xs q → FoldsTo R q ys r → FoldsTo R p (xs ++ ys) r
joined R p q r [] ys first then_ = subst (λ s. FoldsTo R s ys r) (sym first) then_
joined R p q r (x ∷ xs) ys first then_ = (first.0, first.1, joined R first.0 q r xs ys first.2 then_)

pub seen : {S T A : Type 0} (view : S → T) (R : T → A → T → Type 0) (p q : S) (xs : List A) → FoldsTo (λ a x b. R (view a) x (view b)) p xs q → FoldsTo R (view p) xs (view q)
seen view R p q [] is = ap view is
seen view R p q (x ∷ xs) is = (view is.0, is.1, seen view R is.0 q xs is.2)

-- ---- the rest of a drive

-- the `Done` that is submitted is the one that was there
module _ (was given : Option DoneView) (taken : given ≡ was) (past : List Step) (so_far : (rest : List Step) (memory : Bool) → Drives was rest memory → Drives None (past ++ rest) memory) (several : Bool) (answer : Answer) (later : List Step) where
  turned : (rest : List Step) (memory : Bool) → Drives given (step_or_batch several given answer ∷ rest) memory → Drives None (past ++ (step_or_batch several given answer ∷ rest)) memory
  turned rest memory drives = so_far (step_or_batch several given answer ∷ rest) memory (subst (λ o. Drives o (step_or_batch several given answer ∷ rest) memory) taken drives)

  pub on : (next : Option DoneView) → Continues answer later next → (rest : List Step) (memory : Bool) → Drives next rest memory → Drives None ((past ++ (step_or_batch several given answer ∷ later)) ++ rest) memory
  on next is rest memory drives =
      subst (λ steps. Drives None steps memory) (sym (append_assoc past (step_or_batch several given answer ∷ later) rest)) (turned (later ++ rest) memory (goes several answer later next rest is drives))

  pub over : (memory : Bool) → Ends answer later memory → Drives None (past ++ (step_or_batch several given answer ∷ later)) memory
  over memory is = turned later memory (ends several answer later is)

-- ---- at a host

same_actor : (run : Run) (unwatched stoppable : Type 0) (old : SeatEvents) (step : Step) (new : SeatEvents) → AtSeat run unwatched stoppable old step new → new.actor ≡ old.actor
same_actor run unwatched stoppable old (Turned given answer) new is = is.0
same_actor run unwatched stoppable old (Held given answer) new is = is.1
same_actor run unwatched stoppable old Stopped new is = ap (λ (t : SeatEvents). t.actor) is
same_actor run unwatched stoppable old (Before actor task) new is = ap (λ (t : SeatEvents). t.actor) is
same_actor run unwatched stoppable old (Ran job done) new is = ap (λ (t : SeatEvents). t.actor) is
same_actor run unwatched stoppable old (Left job) new is = ap (λ (t : SeatEvents). t.actor) is.1
same_actor run unwatched stoppable old (After actor task) new is = ap (λ (t : SeatEvents). t.actor) is

pub kept_actor : (run : Run) (unwatched stoppable : Type 0) (old new : SeatEvents) (steps : List Step) → FoldsTo (AtSeat run unwatched stoppable) old steps new → new.actor ≡ old.actor
kept_actor run unwatched stoppable old new [] is = ap (λ (t : SeatEvents). t.actor) (sym is)
kept_actor run unwatched stoppable old new (x ∷ xs) is = kept_actor run unwatched stoppable is.0 new xs is.2 ∙ same_actor run unwatched stoppable old x is.0 is.1
