-- RULE and PUT hand over no more unmarked write rights than leave the registers.
use Rattle.tw_copies.proofs.Names.{AllYes, Bool, EmptyRegister, List, MovedArgs, None, Ok, Option, Param, RightArg, Rights, Scalar, Some, Typing, Value, ValueArg, WrongRegister, [], and_parts, ap, arith, cases_Bool, held, hits, if◌then◌else◌, inl, inr, is_val, is_write, moved_args, ok_first, ok_or, passed, requires_args, requires_value, right_at, right_fits_param, same_handed, same_type, slice_get, slice_set, subst, suc, suits_mode, suits_write, sym, there_then, with_arg, without_args, zero, ℕ, ◌++◌, ◌+◌, ◌∷◌, ◌≡◌, ◌≤◌}
use Rattle.tw_types.specs.Result.{◌>>=◌}
use Rattle.tw_code.specs.accepting.Question.{passes}
use Rattle.tw_copies.proofs.Marking.{AreHanded, Marked}
use Rattle.tw_copies.proofs.Spare.{one_empty, one_less, one_spare, spare, spare_args, spare_emptied}

pub filled_at : {A : Type 0} (xs : List (Option A)) (k : ℕ) (x : A) → right_at xs k ≡ Some x → slice_get xs k ≡ Some (Some x)
filled_at [] k x e = cc
filled_at (y ∷ xs) zero x e = ap Some e
filled_at (y ∷ xs) (suc k) x e = filled_at xs k x e

module _ (waits : Bool) (declared : List Scalar) (values : List Value) (d : ℕ) (m : Marked) where
  pub handed_spare : (params : List Param) (registers : List ℕ) (typing : Typing) (rights : Rights) (to : Marked) (h : MovedArgs) → AllYes (requires_args waits declared params registers typing) → AreHanded m to params registers
      → moved_args values rights params registers ≡ Ok h → spare d m (without_args params registers typing) h.rights + spare_args d to params h.args ≤ spare d m typing rights
  handed_spare [] registers typing rights to h met hands e =
      subst (λ (z : MovedArgs). spare d m typing z.rights + spare_args d to [] z.args ≤ spare d m typing rights) (same_handed (record { args = []; rights = rights }) h e) (omega arith)
  handed_spare (p ∷ params) [] typing rights to h met hands e =
      subst (λ (z : MovedArgs). spare d m typing z.rights + spare_args d to (p ∷ params) z.args ≤ spare d m typing rights) (same_handed (record { args = []; rights = rights }) h e) (omega arith)
  handed_spare (p ∷ params) (register ∷ registers) typing rights to h met hands e = elim (cases_Bool (is_val p.mode)) [
    | inl val ↦
        let asked : AllYes (requires_value declared register p.ty.scalar ++ requires_args waits declared params registers typing) =
        subst (λ b. AllYes (if b then requires_value declared register p.ty.scalar ++ requires_args waits declared params registers typing else (4, passes (right_fits_param waits p) (right_at typing register)) ∷ requires_args waits declared params registers (slice_set typing register None))) val met in
        let gives : (ok_or (slice_get values register) WrongRegister >>= λ x. (moved_args values rights params registers >>= λ others. Ok (with_arg (ValueArg x) others))) ≡ Ok h =
        subst (λ b. (if b
        then (ok_or (slice_get values register) WrongRegister >>= λ x. (moved_args values rights params registers >>= λ others. Ok (with_arg (ValueArg x) others)))
        else (held rights register >>= λ id. (moved_args values (slice_set rights register None) params registers >>= λ others. Ok (with_arg (RightArg id) others)))) ≡ Ok h) val e in
        let x = there_then (slice_get values register) WrongRegister _ h gives in
        let others = ok_first (moved_args values rights params registers) _ h x.2 in
        let rest = handed_spare params registers typing rights to others.0 asked.1.1 (subst (λ b. AreHanded m (if b then to else (λ k. to (suc k))) params registers) val hands.1) others.1 in
        let none = one_empty d (to 0) None in
        let all : spare d m (without_args params registers typing) others.0.rights + (one_spare d (to 0) None None + spare_args d to params others.0.args) ≤ spare d m typing rights = omega (arith, rest, none) in
        subst (λ (z : MovedArgs). spare d m (without_args (p ∷ params) (register ∷ registers) typing) z.rights + spare_args d to (p ∷ params) z.args ≤ spare d m typing rights) (same_handed (with_arg (ValueArg x.0) others.0) h others.2)
        (subst (λ b. spare d m (without_args params registers (if b then typing else slice_set typing register None)) others.0.rights
        + (one_spare d (to 0) (if b then None else Some (record { mode = p.mode; ty = p.ty })) None + spare_args d (if b then to else (λ k. to (suc k))) params others.0.args) ≤ spare d m typing rights) (sym val) all)
    | inr right ↦
        let asked : AllYes ((4, passes (right_fits_param waits p) (right_at typing register)) ∷ requires_args waits declared params registers (slice_set typing register None)) =
        subst (λ b. AllYes (if b then requires_value declared register p.ty.scalar ++ requires_args waits declared params registers typing else (4, passes (right_fits_param waits p) (right_at typing register)) ∷ requires_args waits declared params registers (slice_set typing register None))) right met in
        let gives : (held rights register >>= λ id. (moved_args values (slice_set rights register None) params registers >>= λ others. Ok (with_arg (RightArg id) others))) ≡ Ok h =
        subst (λ b. (if b
        then (ok_or (slice_get values register) WrongRegister >>= λ x. (moved_args values rights params registers >>= λ others. Ok (with_arg (ValueArg x) others)))
        else (held rights register >>= λ id. (moved_args values (slice_set rights register None) params registers >>= λ others. Ok (with_arg (RightArg id) others)))) ≡ Ok h) right e in
        let id = there_then (right_at rights register) EmptyRegister _ h gives in
        let others = ok_first (moved_args values (slice_set rights register None) params registers) _ h id.2 in
        let q = passed (right_fits_param waits p) (right_at typing register) asked.0 in
        let kind : is_write q.0.mode ≡ is_write p.mode = suits_write waits p.mode q.0 (and_parts (suits_mode waits p.mode q.0) (same_type q.0.ty p.ty) q.2).0 in
        let rest = handed_spare params registers (slice_set typing register None) (slice_set rights register None) (λ k. to (suc k)) others.0 asked.1 (subst (λ b. AreHanded m (if b then to else (λ k. to (suc k))) params registers) right hands.1) others.1 in
        let emptied = spare_emptied d m typing rights register (Some q.0) (Some id.0) (filled_at typing register q.0 q.1) (filled_at rights register id.0 id.1) in
        let less = one_less d (m register) (to 0) (Some (record { mode = p.mode; ty = p.ty })) (Some id.0) (hands.0 right) in
        let same : one_spare d (m register) (Some q.0) (Some id.0) ≡ one_spare d (m register) (Some (record { mode = p.mode; ty = p.ty })) (Some id.0) = ap (λ w. if m register then 0 else (if w then hits d id.0 else 0)) kind in
        let all : spare d m (without_args params registers (slice_set typing register None)) others.0.rights + (one_spare d (to 0) (Some (record { mode = p.mode; ty = p.ty })) (Some id.0) + spare_args d (λ k. to (suc k)) params others.0.args) ≤ spare d m typing rights =
        omega (arith, rest, emptied, less, same) in
        subst (λ (z : MovedArgs). spare d m (without_args (p ∷ params) (register ∷ registers) typing) z.rights + spare_args d to (p ∷ params) z.args ≤ spare d m typing rights) (same_handed (with_arg (RightArg id.0) others.0) h others.2)
        (subst (λ b. spare d m (without_args params registers (if b then typing else slice_set typing register None)) others.0.rights
        + (one_spare d (to 0) (if b then None else Some (record { mode = p.mode; ty = p.ty })) (Some id.0) + spare_args d (if b then to else (λ k. to (suc k))) params others.0.args) ≤ spare d m typing rights) (sym right) all)
  ]
