-- The task that is taken was waiting, and its frame starts with its arguments.
use Rattle.std.proofs.Common.{◌≡◌, ℕ, zero, suc, ◌+◌, ◌-◌, ◌≤◌, Bool, true, false, List, [], ◌∷◌, ◌++◌, length, map, replicate, Option, Some, None, refl, sym, ap, subst, ◌∙◌, arith, if◌then◌else◌}
use Rattle.tw_soundness.proofs.MachineNames.{Arg, ArgFits, ArgsFit, Ok, Param, RightArg, RightType, Rights, RightsFit, Scalar, Store, Typing, Value, ValueArg, ValuesFit, WrongRegister, and_parts, blank_of, filled, first_rights, id_of, ids_in, is_val, option_to_list, over, rights_given, same_scalar, same_scalars, scalar_itself, scalar_of, start_typing, value_types, values_fit, values_in}
use Rattle.tw_types.specs.declared.data_type.Scalar.TheVariants as scalar
use Rattle.tw_types.specs.Result.{◌>>=◌, ◌>>◌, must}
use Rattle.tw_soundness.proofs.Over.{over_params}

-- ---- its values

blanks_fit : (registers : List Scalar) → ValuesFit registers (map blank_of registers)
blanks_fit [] = tt
blanks_fit (scalar.Int ∷ registers) = (refl, blanks_fit registers)
blanks_fit (scalar.Text ∷ registers) = (refl, blanks_fit registers)

-- values of the types of the first registers fill these
pub filled_fits : (types registers : List Scalar) (values : List Value) → ValuesFit types values → length types ≤ length registers → values_fit types registers ≡ true → (all : List Value) × (filled values registers ≡ Ok all) × ValuesFit registers all
filled_fits [] registers [] f few e = (map blank_of registers, refl, blanks_fit registers)
filled_fits [] registers (x ∷ values) f few e = absurd f
filled_fits (ty ∷ types) registers [] f few e = absurd f
filled_fits (ty ∷ types) [] (x ∷ values) f few e = absurd (omega arith)
filled_fits (ty ∷ types) (declared ∷ registers) (x ∷ values) f few e =
    let both = and_parts (same_scalar declared ty) (values_fit types registers) e in
    let rest = filled_fits types registers values f.1 (omega arith) both.1 in
    let is : declared ≡ ty = same_scalars declared ty both.0 in
    let of : scalar_of x ≡ declared = f.0 ∙ sym is in
    let fine : same_scalar (scalar_of x) declared ≡ true = ap (λ (u : Scalar). same_scalar u declared) of ∙ scalar_itself declared in
    (x ∷ rest.0, ap (λ b. must b WrongRegister >> (filled values registers >>= λ others. Ok (x ∷ others))) fine ∙ ap (λ o. o >>= λ others. Ok (x ∷ others)) rest.1, (of, rest.2))

pub args_values : (s : Store) (params : List Param) (args : List Arg) → ArgsFit s params args → ValuesFit (value_types params) (values_in args)
args_values s [] [] h = tt
args_values s [] (arg ∷ args) h = absurd h
args_values s (p ∷ params) [] h = absurd h
args_values s (p ∷ params) (arg ∷ args) h = one (is_val p.mode) arg h.0 (args_values s params args h.1)
  where
    one : (b : Bool) (arg : Arg) → ArgFits s p (if b then None else Some (record { mode = p.mode; ty = p.ty })) arg → ValuesFit (value_types params) (values_in args) → ValuesFit (if b then p.ty.scalar ∷ value_types params else value_types params) (values_in (arg ∷ args))
    one true (ValueArg x) f rest = (f, rest)
    one true (RightArg id) f rest = absurd f
    one false (ValueArg x) f rest = absurd f
    one false (RightArg id) f rest = rest

-- ---- its rights

pub same_length : (s : Store) (params : List Param) (args : List Arg) → ArgsFit s params args → length (rights_given params) ≡ length (ids_in args)
same_length s [] [] h = refl
same_length s [] (arg ∷ args) h = absurd h
same_length s (p ∷ params) [] h = absurd h
same_length s (p ∷ params) (arg ∷ args) h = one (is_val p.mode) arg h.0 (same_length s params args h.1)
  where
    one : (b : Bool) (arg : Arg) → ArgFits s p (if b then None else Some (record { mode = p.mode; ty = p.ty })) arg → length (rights_given params) ≡ length (ids_in args)
        → length (option_to_list (if b then None else Some (record { mode = p.mode; ty = p.ty })) ++ rights_given params) ≡ length (ids_in (arg ∷ args))
    one true (ValueArg x) f rest = rest
    one true (RightArg id) f rest = absurd f
    one false (ValueArg x) f rest = absurd f
    one false (RightArg id) f rest = omega arith

args_rights : (s : Store) (params : List Param) (args : List Arg) → ArgsFit s params args → RightsFit s (map Some (rights_given params)) (map Some (ids_in args))
args_rights s [] [] h = tt
args_rights s [] (arg ∷ args) h = absurd h
args_rights s (p ∷ params) [] h = absurd h
args_rights s (p ∷ params) (arg ∷ args) h = one (is_val p.mode) arg h.0 (args_rights s params args h.1)
  where
    one : (b : Bool) (arg : Arg) → ArgFits s p (if b then None else Some (record { mode = p.mode; ty = p.ty })) arg → RightsFit s (map Some (rights_given params)) (map Some (ids_in args))
        → RightsFit s (map Some (option_to_list (if b then None else Some (record { mode = p.mode; ty = p.ty })) ++ rights_given params)) (map Some (ids_in (arg ∷ args)))
    one true (ValueArg x) f rest = rest
    one true (RightArg id) f rest = absurd f
    one false (ValueArg x) f rest = absurd f
    one false (RightArg id) f rest = (f, rest)

rights_joined : (s : Store) (xs us : Typing) (ys vs : Rights) → RightsFit s xs ys → RightsFit s us vs → RightsFit s (xs ++ us) (ys ++ vs)
rights_joined s [] us [] vs f g = g
rights_joined s [] us (y ∷ ys) vs f g = absurd f
rights_joined s (x ∷ xs) us [] vs f g = absurd f
rights_joined s (x ∷ xs) us (y ∷ ys) vs f g = (f.0, rights_joined s xs us ys vs f.1 g)

empty_fit : (s : Store) (n : ℕ) → RightsFit s (replicate n None) (replicate n None)
empty_fit s zero = tt
empty_fit s (suc n) = (tt, empty_fit s n)

pub start_fits : (s : Store) (params : List Param) (args : List Arg) → ArgsFit s params args → RightsFit s (start_typing params) (first_rights (ids_in args))
start_fits s params args h =
    rights_joined s (map Some (rights_given params)) (replicate (16 - length (rights_given params)) None) (map Some (ids_in args)) (replicate (16 - length (ids_in args)) None) (args_rights s params args h)
    (subst (λ (n : ℕ). RightsFit s (replicate (16 - length (rights_given params)) None) (replicate (16 - n) None)) (same_length s params args h) (empty_fit s (16 - length (rights_given params))))

-- ---- its rights

over_joined : (by : Option RightType → Option ℕ → ℕ) (xs us : Typing) (ys vs : Rights) → length xs ≡ length ys → over by (xs ++ us) (ys ++ vs) ≡ over by xs ys + over by us vs
over_joined by [] us [] vs e = omega arith
over_joined by [] us (y ∷ ys) vs e = absurd (omega arith)
over_joined by (x ∷ xs) us [] vs e = absurd (omega arith)
over_joined by (x ∷ xs) us (y ∷ ys) vs e = let h = over_joined by xs us ys vs (omega arith) in omega arith

over_none : (by : Option RightType → Option ℕ → ℕ) → ((o : Option ℕ) → by None o ≡ 0) → (n : ℕ) (ys : Rights) → over by (replicate n None) ys ≡ 0
over_none by none zero ys = refl
over_none by none (suc n) [] = refl
over_none by none (suc n) (y ∷ ys) = let h = over_none by none n ys in let z = none y in omega arith

over_given : (by : Option RightType → Option ℕ → ℕ) → ((o : Option ℕ) → by None o ≡ 0) → (s : Store) (params : List Param) (args : List Arg) → ArgsFit s params args → over by (map Some (rights_given params)) (map Some (ids_in args)) ≡ over_params by params args
over_given by none s [] [] h = refl
over_given by none s [] (arg ∷ args) h = absurd h
over_given by none s (p ∷ params) [] h = absurd h
over_given by none s (p ∷ params) (arg ∷ args) h = one (is_val p.mode) arg h.0 (over_given by none s params args h.1)
  where
    one : (b : Bool) (arg : Arg) → ArgFits s p (if b then None else Some (record { mode = p.mode; ty = p.ty })) arg → over by (map Some (rights_given params)) (map Some (ids_in args)) ≡ over_params by params args
        → over by (map Some (option_to_list (if b then None else Some (record { mode = p.mode; ty = p.ty })) ++ rights_given params)) (map Some (ids_in (arg ∷ args)))
        ≡ by (if b then None else Some (record { mode = p.mode; ty = p.ty })) (id_of arg) + over_params by params args
    one true (ValueArg x) f rest = let z = none None in omega arith
    one true (RightArg id) f rest = absurd f
    one false (ValueArg x) f rest = absurd f
    one false (RightArg id) f rest = omega arith

length_some : {A : Type 0} (xs : List A) → length (map Some xs) ≡ length xs
length_some [] = refl
length_some (x ∷ xs) = let h = length_some xs in omega arith

-- the registers hold what the arguments hold
pub over_start : (by : Option RightType → Option ℕ → ℕ) → ((o : Option ℕ) → by None o ≡ 0) → (s : Store) (params : List Param) (args : List Arg) → ArgsFit s params args → over by (start_typing params) (first_rights (ids_in args)) ≡ over_params by params args
over_start by none s params args h =
    let lengths : length (map Some (rights_given params)) ≡ length (map Some (ids_in args)) = length_some (rights_given params) ∙ same_length s params args h ∙ sym (length_some (ids_in args)) in
    let joined = over_joined by (map Some (rights_given params)) (replicate (16 - length (rights_given params)) None) (map Some (ids_in args)) (replicate (16 - length (ids_in args)) None) lengths in
    let given = over_given by none s params args h in
    let empty = over_none by none (16 - length (rights_given params)) (replicate (16 - length (ids_in args)) None) in
    omega arith
