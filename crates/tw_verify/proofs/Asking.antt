-- The checks that RULE and PUT make of their arguments, one by one.
use Rattle.tw_verify.proofs.VerifierNames.{Bool, List, None, Param, Question, Scalar, Typing, [], ap, append-nil, false, if◌then◌else◌, inl, inr, is_val, lowest_of, passes, refl, rejection_in, requires_args, requires_value, right_at, right_fits_param, slice_set, sym, true, without_args, ℕ, ◌++◌, ◌∙◌, ◌∷◌, ◌≡◌, ◌⊎◌}
use Rattle.tw_verify.proofs.Numbers.{rejection_in-append}

-- one argument, and the others when it has left its register
pub ask_more : (waits : Bool) (registers : List Scalar) (p : Param) (params : List Param) (arg : ℕ) (args : List ℕ) (typing : Typing)
    → rejection_in (requires_args waits registers (p ∷ params) (arg ∷ args) typing)
    ≡ lowest_of (rejection_in (requires_args waits registers (p ∷ []) (arg ∷ []) typing)) (rejection_in (requires_args waits registers params args (without_args (p ∷ []) (arg ∷ []) typing)))
ask_more waits registers p params arg args typing = by (is_val p.mode) (requires_value registers arg p.ty.scalar) (4, passes (right_fits_param waits p) (right_at typing arg))
  where
    by : (b : Bool) (value : List Question) (right : Question) → rejection_in (if b then value ++ requires_args waits registers params args typing else right ∷ requires_args waits registers params args (slice_set typing arg None))
        ≡ lowest_of (rejection_in (if b then value ++ [] else right ∷ [])) (rejection_in (requires_args waits registers params args (if b then typing else slice_set typing arg None)))
    by true value right =
        rejection_in-append value (requires_args waits registers params args typing)
        ∙ ap (λ (own : List Question). lowest_of (rejection_in own) (rejection_in (requires_args waits registers params args typing))) (sym (append-nil value))
    by false value right = rejection_in-append (right ∷ []) (requires_args waits registers params args (slice_set typing arg None))

-- nothing is checked if no parameter or no argument is left
pub nothing_asked : (waits : Bool) (registers : List Scalar) (params : List Param) (args : List ℕ) (typing : Typing) → (params ≡ []) ⊎ (args ≡ []) → requires_args waits registers params args typing ≡ []
nothing_asked waits registers [] args typing h = refl
nothing_asked waits registers (p ∷ params) [] typing h = refl
nothing_asked waits registers (p ∷ params) (arg ∷ args) typing (inl e) = cc
nothing_asked waits registers (p ∷ params) (arg ∷ args) typing (inr e) = cc

-- nothing leaves the registers there
pub nothing_leaves : (params : List Param) (args : List ℕ) (typing : Typing) → (params ≡ []) ⊎ (args ≡ []) → without_args params args typing ≡ typing
nothing_leaves [] args typing h = refl
nothing_leaves (p ∷ params) [] typing h = refl
nothing_leaves (p ∷ params) (arg ∷ args) typing (inl e) = cc
nothing_leaves (p ∷ params) (arg ∷ args) typing (inr e) = cc
