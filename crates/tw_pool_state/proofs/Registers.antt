-- One right register: its typing, its right, and the effect of filling or emptying it.
use Rattle.tw_types.specs.declared.param.Mode.TheVariants as mode
use Rattle.tw_rights.specs.declared.held.Held.TheVariants as held
use Rattle.tw_pool_state.proofs.PartNames.{ArePlaced, FrameView, Held, IsAt, Mode, Places, RightType, Typing, bare_file, id_of, is_closed_mode, is_none, is_write, kind_at, kinds_in, kinds_of, passed, passes, right_at, right_in, same_Some, writes as typed_writes}
use Rattle.std.proofs.Common.{◌≡◌, ◌⊎◌, ◌∙◌, ◌<◌, ◌≤◌, arith, ℕ, zero, suc, Bool, true, false, List, [], ◌∷◌, Option, Some, None, refl, sym, ap, subst, slice_index_or, slice_set, option_map, inl, inr}

-- ---- by the typing

pub kind_typed : (file : List (Option Held)) (typing : Typing) (k : ℕ) → kinds_of file ≡ kinds_in typing → kind_at file k ≡ option_map typed_writes (right_at typing k)
kind_typed [] [] k e = refl
kind_typed [] (t ∷ typing) k e = cc
kind_typed (h ∷ file) [] k e = cc
kind_typed (h ∷ file) (t ∷ typing) zero e = same_Some _ _ (ap first e)
  where
    first : List (Option Bool) → Option (Option Bool)
    first [] = None
    first (x ∷ xs) = Some x
kind_typed (h ∷ file) (t ∷ typing) (suc k) e = kind_typed file typing k (ap rest e)
  where
    rest : List (Option Bool) → List (Option Bool)
    rest [] = []
    rest (x ∷ xs) = xs

-- a register whose right passes a test has a right of the kind that all of them are that pass
pub kind_passed : (file : List (Option Held)) (typing : Typing) (kinds : kinds_of file ≡ kinds_in typing) (k : ℕ) (kind : Bool) (test : RightType → Bool) → ((t : RightType) → test t ≡ true → typed_writes t ≡ kind) → passes test (right_at typing k) ≡ true → kind_at file k ≡ Some kind
kind_passed file typing kinds k kind test is_so e =
    let right = passed test (right_at typing k) e in
    kind_typed file typing k kinds ∙ ap (option_map typed_writes) right.1 ∙ ap Some (is_so right.0 right.2)

pub closed_reads : (m : Mode) → is_closed_mode m ≡ true → is_write m ≡ false
closed_reads mode.Val e = cc
closed_reads mode.Closed e = refl
closed_reads mode.Ref e = cc
closed_reads mode.Write e = cc

-- ---- the right that is there

pub placed_at : (places : Places) (file : List (Option Held)) (k : ℕ) (h : Held) → ArePlaced places file → slice_index_or file k None ≡ Some h → IsAt places (right_in h)
placed_at places [] k h all at = cc
placed_at places (None ∷ file) zero h all at = cc
placed_at places (Some x ∷ file) zero h all at = subst (λ (y : Held). IsAt places (right_in y)) (same_Some x h at) all.0
placed_at places (x ∷ file) (suc k) h all at = placed_at places file k h all.1 at

pub placed_each : (places : Places) (file : List (Option Held)) → ((k : ℕ) (h : Held) → slice_index_or file k None ≡ Some h → IsAt places (right_in h)) → ArePlaced places file
placed_each places [] each_is = tt
placed_each places (None ∷ file) each_is = (tt, placed_each places file (λ k h at. each_is (suc k) h at))
placed_each places (Some h ∷ file) each_is = (each_is 0 h refl, placed_each places file (λ k h at. each_is (suc k) h at))

pub right_id : (h : Held) → (right_in h).id ≡ id_of h
right_id (held.Read right) = refl
right_id (held.Write right) = refl

pub id_at : (file : List (Option Held)) (k : ℕ) (h : Held) → slice_index_or file k None ≡ Some h → right_at (bare_file file) k ≡ Some (id_of h)
id_at [] k h at = cc
id_at (x ∷ file) zero h at = ap (option_map id_of) at
id_at (x ∷ file) (suc k) h at = id_at file k h at

pub its_id : (file : List (Option Held)) (k : ℕ) (h : Held) (id : ℕ) → slice_index_or file k None ≡ Some h → right_at (bare_file file) k ≡ Some id → id ≡ id_of h
its_id file k h id at there = same_Some id (id_of h) (sym there ∙ id_at file k h at)

pub empty_at : (file : List (Option Held)) (k : ℕ) → is_none (right_at (bare_file file) k) ≡ true → slice_index_or file k None ≡ None
empty_at [] k e = refl
empty_at (None ∷ file) zero e = refl
empty_at (Some h ∷ file) zero e = cc
empty_at (x ∷ file) (suc k) e = empty_at file k e

-- ---- filled and emptied

-- a register's right was there before, or is the one that was put
pub set_own : (xs : List (Option Held)) (r k : ℕ) (o : Option Held) (h : Held) → slice_index_or (slice_set xs r o) k None ≡ Some h → (slice_index_or xs k None ≡ Some h) ⊎ (o ≡ Some h)
set_own [] r k o h e = cc
set_own (x ∷ xs) zero zero o h e = inr e
set_own (x ∷ xs) zero (suc k) o h e = inl e
set_own (x ∷ xs) (suc r) zero o h e = inl e
set_own (x ∷ xs) (suc r) (suc k) o h e = set_own xs r k o h e

-- putting back a right that was taken
pub set_again : (xs : List (Option Held)) (r : ℕ) (o : Option Held) → slice_index_or xs r None ≡ o → slice_set (slice_set xs r None) r o ≡ xs
set_again [] r o e = refl
set_again (x ∷ xs) zero o e = ap (λ y. y ∷ xs) (sym e)
set_again (x ∷ xs) (suc r) o e = ap (λ ys. x ∷ ys) (set_again xs r o e)

-- a number that doesn't fit is more than zero
pub more_than : (n room : ℕ) → (n ≤ room → false ≡ true) → 0 < n
more_than zero room full = let wrong : false ≡ true = full (omega arith) in cc
more_than (suc n) room full = omega arith

pub nothing_left : (room : ℕ) → (0 < room → false ≡ true) → room ≡ 0
nothing_left zero full = refl
nothing_left (suc room) full = let wrong : false ≡ true = full (omega arith) in cc

-- a right that is taken and put back leaves the task as it was
pub put_back : (f taken g : FrameView) (r : ℕ) (h back : Held) → slice_index_or f.held r None ≡ Some h → taken ≡ record f { held = slice_set f.held r None } → back ≡ h
    → g ≡ record taken { held = slice_set taken.held r (Some back) } → g ≡ f
put_back f taken g r h back at take same fill =
    fill ∙ (λ i. record (take i) { held = slice_set (take i).held r (Some (same i)) }) ∙ ap (λ file. record f { held = file }) (set_again f.held r (Some h) at)
