-- RULE and PUT: the kinds of the rights that leave the registers, and of those that are left.
use Rattle.std.proofs.Common.{◌≡◌, ℕ, zero, suc, Bool, true, false, if◌then◌else◌, List, [], ◌∷◌, ◌++◌, Option, Some, None, refl, sym, ap, ◌∙◌, slice_set, slice_index_or, option_map, set}
use Rattle.tw_pool_state.proofs.PartNames.{AllYes, Held, Mode, Param, RightType, Scalar, Typing, requires_args, requires_value, first_so, is_closed_mode, is_read, is_val, is_write, kinds_in, map-set, right_fits_param, passed, passes, right_at, same_Some, same_type, suits_mode, without_args, yes_after}
use Rattle.tw_types.specs.declared.param.Mode.TheVariants as mode
use Rattle.tw_rights.specs.Kinds.{kinds_of, writes}
use Rattle.tw_pool_state.proofs.Handing.{AreSuited, Suits, SuitsOr, without_held}

kind_there : (held : List (Option Held)) (typing : Typing) (k : ℕ) → kinds_of held ≡ kinds_in typing → option_map writes (slice_index_or held k None) ≡ option_map (λ (t : RightType). is_write t.mode) (right_at typing k)
kind_there [] [] k e = refl
kind_there [] (t ∷ typing) k e = cc
kind_there (h ∷ held) [] k e = cc
kind_there (h ∷ held) (t ∷ typing) zero e = same_Some _ _ (ap first e)
  where
    first : List (Option Bool) → Option (Option Bool)
    first [] = None
    first (x ∷ xs) = Some x
kind_there (h ∷ held) (t ∷ typing) (suc k) e = kind_there held typing k (ap rest e)
  where
    rest : List (Option Bool) → List (Option Bool)
    rest [] = []
    rest (x ∷ xs) = xs

-- a right that suits a parameter is a write right if and only if the parameter is
same_kind : (waits : Bool) (m : Mode) (t : RightType) → suits_mode waits m t ≡ true → is_write t.mode ≡ is_write m
same_kind waits mode.Val t e = cc
same_kind true mode.Closed t e = by t.mode e
  where
    by : (k : Mode) → is_read k ≡ true → is_write k ≡ false
    by mode.Val e = refl
    by mode.Closed e = refl
    by mode.Ref e = refl
    by mode.Write e = cc
same_kind false mode.Closed t e = by t.mode e
  where
    by : (k : Mode) → is_closed_mode k ≡ true → is_write k ≡ false
    by mode.Val e = refl
    by mode.Closed e = refl
    by mode.Ref e = refl
    by mode.Write e = cc
same_kind waits mode.Ref t e = by t.mode e
  where
    by : (k : Mode) → is_read k ≡ true → is_write k ≡ false
    by mode.Val e = refl
    by mode.Closed e = refl
    by mode.Ref e = refl
    by mode.Write e = cc
same_kind waits mode.Write t e = e

module _ (waits : Bool) (declared : List Scalar) where
  suits_at : (p : Param) (o : Option Held) (t : Option RightType) → option_map writes o ≡ option_map (λ (t : RightType). is_write t.mode) t → passes (right_fits_param waits p) t ≡ true → Suits p.mode o
  suits_at p None t e met = tt
  suits_at p (Some h) t e met =
      let right = passed (right_fits_param waits p) t met in
      let kind : writes h ≡ is_write right.0.mode = same_Some _ _ (e ∙ ap (option_map (λ (t : RightType). is_write t.mode)) right.1) in
      kind ∙ same_kind waits p.mode right.0 (first_so (suits_mode waits p.mode right.0) (same_type right.0.ty p.ty) right.2)

  pub suited : (params : List Param) (registers : List ℕ) (held : List (Option Held)) (typing : Typing) → kinds_of held ≡ kinds_in typing → AllYes (requires_args waits declared params registers typing) → AreSuited held params registers
  suited [] registers held typing e met = tt
  suited (p ∷ params) [] held typing e met = tt
  suited (p ∷ params) (register ∷ registers) held typing e met = by (is_val p.mode) met (suited params registers held typing e)
      (λ m. suited params registers (set held register None) (slice_set typing register None)
      (map-set (option_map writes) held register None ∙ ap (λ ks. set ks register None) e ∙ sym (map-set (option_map (λ (t : RightType). is_write t.mode)) typing register None)) m)
    where
      by : (b : Bool)
          → AllYes (if b then requires_value declared register p.ty.scalar ++ requires_args waits declared params registers typing else (4, passes (right_fits_param waits p) (right_at typing register)) ∷ requires_args waits declared params registers (slice_set typing register None))
          → (AllYes (requires_args waits declared params registers typing) → AreSuited held params registers)
          → (AllYes (requires_args waits declared params registers (slice_set typing register None)) → AreSuited (set held register None) params registers)
          → SuitsOr b (AreSuited held params registers) (Suits p.mode (slice_index_or held register None) × AreSuited (set held register None) params registers)
      by true m same left = same (yes_after (requires_value declared register p.ty.scalar) (requires_args waits declared params registers typing) m)
      by false m same left = (suits_at p (slice_index_or held register None) (right_at typing register) (kind_there held typing register e) m.0, left m.1)

-- the remaining rights are of the kinds of the remaining typing
pub kinds_left : (params : List Param) (registers : List ℕ) (held : List (Option Held)) (typing : Typing) → kinds_of held ≡ kinds_in typing → kinds_of (without_held held params registers) ≡ kinds_in (without_args params registers typing)
kinds_left [] registers held typing e = e
kinds_left (p ∷ params) [] held typing e = e
kinds_left (p ∷ params) (register ∷ registers) held typing e = by (is_val p.mode) (kinds_left params registers held typing e)
    (kinds_left params registers (set held register None) (slice_set typing register None)
    (map-set (option_map writes) held register None ∙ ap (λ ks. set ks register None) e ∙ sym (map-set (option_map (λ (t : RightType). is_write t.mode)) typing register None)))
  where
    by : (b : Bool) → kinds_of (without_held held params registers) ≡ kinds_in (without_args params registers typing)
        → kinds_of (without_held (set held register None) params registers) ≡ kinds_in (without_args params registers (slice_set typing register None))
        → kinds_of (without_held (if b then held else set held register None) params registers) ≡ kinds_in (without_args params registers (if b then typing else slice_set typing register None))
    by true val right = val
    by false val right = right
