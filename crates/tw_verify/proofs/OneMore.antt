-- One more parameter.
use Rattle.std.proofs.Common.{◌≡◌, ℕ, suc, ◌+◌, ◌-◌, ◌<◌, Bool, true, false, ◌&&◌, List, [], ◌∷◌, ◌++◌, length, map, set, replicate, take, get_or, Option, Some, None, refl, sym, ap, ◌∙◌, arith, length-append}
use Rattle.tw_verify.proofs.VerifierNames.{Param, RightType, Scalar, append-nil, append_assoc, if◌then◌else◌, is_val, option_map_or, option_to_list, right_of, rights_given, same_scalar, slice_get, start_typing, take_more, value_types, values_fit}

abbrev pub as_right : Param → RightType
as_right p = record { mode = p.mode; ty = p.ty }

-- ---- a parameter at the end of a list

value_types-value : (ps : List Param) (p : Param) → is_val p.mode ≡ true → value_types (ps ++ p ∷ []) ≡ value_types ps ++ p.ty.scalar ∷ []
value_types-value [] p e = ap (λ (b : Bool). if b then p.ty.scalar ∷ [] else []) e
value_types-value (q ∷ ps) p e =
    ap (λ (types : List Scalar). if is_val q.mode then q.ty.scalar ∷ types else types) (value_types-value ps p e) ∙ out (is_val q.mode)
  where
    out : (b : Bool) → (if b then q.ty.scalar ∷ (value_types ps ++ p.ty.scalar ∷ []) else value_types ps ++ p.ty.scalar ∷ []) ≡ (if b then q.ty.scalar ∷ value_types ps else value_types ps) ++ p.ty.scalar ∷ []
    out true = refl
    out false = refl

value_types-right : (ps : List Param) (p : Param) → is_val p.mode ≡ false → value_types (ps ++ p ∷ []) ≡ value_types ps
value_types-right [] p e = ap (λ (b : Bool). if b then p.ty.scalar ∷ [] else []) e
value_types-right (q ∷ ps) p e = ap (λ (types : List Scalar). if is_val q.mode then q.ty.scalar ∷ types else types) (value_types-right ps p e)

rights_given-push : (ps : List Param) (p : Param) → rights_given (ps ++ p ∷ []) ≡ rights_given ps ++ option_to_list (right_of p)
rights_given-push [] p = append-nil (option_to_list (right_of p))
rights_given-push (q ∷ ps) p =
    ap (λ (rights : List RightType). option_to_list (right_of q) ++ rights) (rights_given-push ps p)
    ∙ sym (append_assoc (option_to_list (right_of q)) (rights_given ps) (option_to_list (right_of p)))

rights_given-value : (ps : List Param) (p : Param) → is_val p.mode ≡ true → rights_given (ps ++ p ∷ []) ≡ rights_given ps
rights_given-value ps p e =
    rights_given-push ps p
    ∙ ap (λ (b : Bool). rights_given ps ++ option_to_list (if b then None else Some (as_right p))) e
    ∙ append-nil (rights_given ps)

rights_given-right : (ps : List Param) (p : Param) → is_val p.mode ≡ false → rights_given (ps ++ p ∷ []) ≡ rights_given ps ++ as_right p ∷ []
rights_given-right ps p e =
    rights_given-push ps p ∙ ap (λ (b : Bool). rights_given ps ++ option_to_list (if b then None else Some (as_right p))) e

-- the next empty register is filled
fill_next : {A : Type 0} (xs : List A) (y : A) (rest : ℕ) → map Some (xs ++ y ∷ []) ++ replicate rest None ≡ set (map Some xs ++ replicate (suc rest) None) (length xs) (Some y)
fill_next [] y rest = refl
fill_next {A} (x ∷ xs) y rest = ap (λ (ys : List (Option A)). Some x ∷ ys) (fill_next xs y rest)

start_typing-right : (ps : List Param) (p : Param) → is_val p.mode ≡ false → length (rights_given ps) < 16 → start_typing (ps ++ p ∷ []) ≡ set (start_typing ps) (length (rights_given ps)) (Some (as_right p))
start_typing-right ps p e few =
    let rights = rights_given ps in
    let here : 16 - length (rights ++ as_right p ∷ []) ≡ 15 - length rights = omega (arith, length-append rights (as_right p ∷ [])) in
    let there : suc (15 - length rights) ≡ 16 - length rights = omega arith in
    ap (λ (given : List RightType). map Some given ++ replicate (16 - length given) None) (rights_given-right ps p e)
    ∙ ap (λ (n : ℕ). map Some (rights ++ as_right p ∷ []) ++ replicate n None) here
    ∙ fill_next rights (as_right p) (15 - length rights)
    ∙ ap (λ (n : ℕ). set (map Some rights ++ replicate n None) (length rights) (Some (as_right p))) there

values_fit-push : (types : List Scalar) (ty : Scalar) (registers : List Scalar) → values_fit (types ++ ty ∷ []) registers ≡ (values_fit types registers && option_map_or (λ declared. same_scalar declared ty) (slice_get registers (length types)) true)
values_fit-push [] ty [] = refl
values_fit-push [] ty (declared ∷ registers) = out (same_scalar declared ty)
  where
    out : (b : Bool) → b && true ≡ b
    out true = refl
    out false = refl
values_fit-push (t ∷ types) ty [] = refl
values_fit-push (t ∷ types) ty (declared ∷ registers) =
    ap (λ (rest : Bool). same_scalar declared t && rest) (values_fit-push types ty registers) ∙ out (same_scalar declared t)
  where
    out : (b : Bool) → b && (values_fit types registers && option_map_or (λ d. same_scalar d ty) (slice_get registers (length types)) true) ≡ (b && values_fit types registers) && option_map_or (λ d. same_scalar d ty) (slice_get registers (length types)) true
    out true = refl
    out false = refl

-- ---- the next parameter of a list

next_of : (ps : List Param) (i : ℕ) (p : Param) → i < length ps → p ≡ get_or ps i p → take (i + 1) ps ≡ take i ps ++ p ∷ []
next_of ps i p inside is = take_more ps i p inside ∙ ap (λ (q : Param). take i ps ++ q ∷ []) (sym is)

-- a value more: the types and the rights
pub next_value : (ps : List Param) (i : ℕ) (p : Param) → i < length ps → p ≡ get_or ps i p → is_val p.mode ≡ true
    → (value_types (take (i + 1) ps) ≡ value_types (take i ps) ++ p.ty.scalar ∷ []) × (rights_given (take (i + 1) ps) ≡ rights_given (take i ps))
next_value ps i p inside is e =
    let next = next_of ps i p inside is in
    (ap value_types next ∙ value_types-value (take i ps) p e, ap rights_given next ∙ rights_given-value (take i ps) p e)

-- a right more
pub next_right : (ps : List Param) (i : ℕ) (p : Param) → i < length ps → p ≡ get_or ps i p → is_val p.mode ≡ false
    → (value_types (take (i + 1) ps) ≡ value_types (take i ps)) × (rights_given (take (i + 1) ps) ≡ rights_given (take i ps) ++ as_right p ∷ [])
next_right ps i p inside is e =
    let next = next_of ps i p inside is in
    (ap value_types next ∙ value_types-right (take i ps) p e, ap rights_given next ∙ rights_given-right (take i ps) p e)

-- the typing with a right more
pub next_typing : (ps : List Param) (i given : ℕ) (p : Param) → i < length ps → p ≡ get_or ps i p → is_val p.mode ≡ false → given ≡ length (rights_given (take i ps)) → given < 16
    → start_typing (take (i + 1) ps) ≡ set (start_typing (take i ps)) given (Some (as_right p))
next_typing ps i given p inside is e counted few =
    ap start_typing (next_of ps i p inside is)
    ∙ start_typing-right (take i ps) p e (omega (arith, counted))
    ∙ ap (λ (n : ℕ). set (start_typing (take i ps)) n (Some (as_right p))) (sym counted)

-- the test of the types with one more
pub next_fits : (ps : List Param) (i given : ℕ) (p : Param) (registers : List Scalar) → i < length ps → p ≡ get_or ps i p → is_val p.mode ≡ true → given ≡ length (value_types (take i ps))
    → values_fit (value_types (take (i + 1) ps)) registers ≡ (values_fit (value_types (take i ps)) registers && option_map_or (λ declared. same_scalar declared p.ty.scalar) (slice_get registers given) true)
next_fits ps i given p registers inside is e counted =
    ap (λ (types : List Scalar). values_fit types registers) (next_value ps i p inside is e).0
    ∙ values_fit-push (value_types (take i ps)) p.ty.scalar registers
    ∙ ap (λ (n : ℕ). values_fit (value_types (take i ps)) registers && option_map_or (λ declared. same_scalar declared p.ty.scalar) (slice_get registers n) true) (sym counted)
