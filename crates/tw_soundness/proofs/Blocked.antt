-- Stages and arguments of a rule that neither has an unasked parameter nor can be released.
use Rattle.std.proofs.Common.{[], ◌≡◌, ℕ, suc, ◌+◌, ◌<◌, ◌==◌, Bool, true, false, ◌||◌, if◌then◌else◌, List, ◌∷◌, map, slice_get, Some, None, refl, ap, arith}
use Rattle.tw_soundness.proofs.MachineNames.{Arg, Closed, Free, Mode, Param, Ready, Ref, RightArg, Stage, Unasked, Val, ValueArg, Waiting, Write, hits, id_of, is_settled, is_unasked, is_write, list_all, list_any, over, right_of, waited_for, write_by, written_by}
use Rattle.tw_types.specs.Distinct.{is_among}

-- ---- waiting parameters

-- one parameter waits
waiting_there : (stages : List Stage) → list_any is_unasked stages ≡ false → list_all is_settled stages ≡ false → (j : ℕ) × (slice_get stages j ≡ Some Waiting)
waiting_there [] u r = cc
waiting_there (Free ∷ stages) u r = let rest = waiting_there stages u r in (suc rest.0, rest.1)
waiting_there (Unasked ∷ stages) u r = cc
waiting_there (Waiting ∷ stages) u r = (0, refl)
waiting_there (Ready ∷ stages) u r = let rest = waiting_there stages u r in (suc rest.0, rest.1)

-- holds if each waiting parameter is a right
abbrev pub WaitsForRights : List Stage → List Arg → Type 0
WaitsForRights stages args = (j : ℕ) → slice_get stages j ≡ Some Waiting → (d : ℕ) × (slice_get args j ≡ Some (RightArg d))

pub record IsFirstWaited (stages : List Stage) (args : List Arg) : Type 0 where
  pub parameter : ℕ
  pub datum : ℕ
  pub stage : slice_get stages parameter ≡ Some Waiting
  pub arg : slice_get args parameter ≡ Some (RightArg datum)
  pub first : slice_get (waited_for stages args) 0 ≡ Some datum

later : {stage : Stage} {stages : List Stage} {arg : Arg} {args : List Arg} (f : IsFirstWaited stages args) → slice_get (waited_for (stage ∷ stages) (arg ∷ args)) 0 ≡ Some f.datum → IsFirstWaited (stage ∷ stages) (arg ∷ args)
later f is = record { parameter = suc f.parameter; datum = f.datum; stage = f.stage; arg = f.arg; first = is }

-- the first that waits
pub first_waited : (stages : List Stage) (args : List Arg) → list_any is_unasked stages ≡ false → list_all is_settled stages ≡ false → WaitsForRights stages args → IsFirstWaited stages args
first_waited [] args u r h = cc
first_waited (stage ∷ stages) [] u r h = let w = waiting_there (stage ∷ stages) u r in let a = h w.0 w.1 in let none : None ≡ Some (RightArg a.0) = a.1 in cc
first_waited (Free ∷ stages) (ValueArg x ∷ args) u r h = let f = first_waited stages args u r (λ j e. h (suc j) e) in later f f.first
first_waited (Free ∷ stages) (RightArg id ∷ args) u r h = let f = first_waited stages args u r (λ j e. h (suc j) e) in later f f.first
first_waited (Unasked ∷ stages) (arg ∷ args) u r h = cc
first_waited (Waiting ∷ stages) (ValueArg x ∷ args) u r h = let a = h 0 refl in let no_right : Some (ValueArg x) ≡ Some (RightArg a.0) = a.1 in cc
first_waited (Waiting ∷ stages) (RightArg id ∷ args) u r h = record { parameter = 0; datum = id; stage = refl; arg = refl; first = refl }
first_waited (Ready ∷ stages) (ValueArg x ∷ args) u r h = let f = first_waited stages args u r (λ j e. h (suc j) e) in later f f.first
first_waited (Ready ∷ stages) (RightArg id ∷ args) u r h = let f = first_waited stages args u r (λ j e. h (suc j) e) in later f f.first

-- ---- written data

-- a write right is held by a `write` argument
pub written_there : (d : ℕ) (params : List Param) (args : List Arg) → 0 < over (write_by d) (map right_of params) (map id_of args) → is_among d (written_by params args) ≡ true
written_there d [] args h = absurd (omega arith)
written_there d (p ∷ params) [] h = absurd (omega arith)
written_there d (p ∷ params) (ValueArg x ∷ args) h = by p.mode h (λ h'. written_there d params args h')
  where
    by : (mode : Mode) → 0 < write_by d (right_of (record p { mode = mode })) None + over (write_by d) (map right_of params) (map id_of args)
        → (0 < over (write_by d) (map right_of params) (map id_of args) → is_among d (written_by params args) ≡ true) → is_among d (written_by params args) ≡ true
    by Val h rest = rest (omega arith)
    by Closed h rest = rest (omega arith)
    by Ref h rest = rest (omega arith)
    by Write h rest = rest (omega arith)
written_there d (p ∷ params) (RightArg id ∷ args) h = by p.mode h (λ h'. written_there d params args h')
  where
    by : (mode : Mode) → 0 < write_by d (right_of (record p { mode = mode })) (Some id) + over (write_by d) (map right_of params) (map id_of args)
        → (0 < over (write_by d) (map right_of params) (map id_of args) → is_among d (written_by params args) ≡ true)
        → is_among d (if is_write mode then id ∷ written_by params args else written_by params args) ≡ true
    by Val h rest = rest (omega arith)
    by Closed h rest = rest (omega arith)
    by Ref h rest = rest (omega arith)
    by Write h rest = here (id == d) refl
      where
        here : (b : Bool) → (id == d) ≡ b → (b || is_among d (written_by params args)) ≡ true
        here true is = refl
        here false is = rest (let none : hits d id ≡ 0 = ap (λ b. if b then 1 else 0) is in omega arith)
