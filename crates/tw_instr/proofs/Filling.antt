-- How a task's arguments fill its registers.
use Rattle.tw_instr.proofs.Names.{Cause, List, Option, Value, [], ap, append-nil, arg_of, arith, first_rights, get_or, ids_in, length, length-append, map, map-append, refl, replicate, set, suc, sym, take, take_more, ℕ, ◌++◌, ◌+◌, ◌-◌, ◌<◌, ◌∙◌, ◌∷◌, ◌≡◌}
use Rattle.std.specs.declared.option.Option.TheVariants.{None, Some}
use Rattle.std.specs.Prelude.{Result, Ok}
use Rattle.tw_types.specs.Result.{◌>>=◌}
use Rattle.tw_types.specs.Task as task
use Rattle.tw_instr.specs.declared.arguments.Arg.{Arg}
use Rattle.tw_instr.specs.declared.arguments.Arg.TheVariants as arg

-- these values, followed by those of the other arguments
abbrev pub after : List Value → Result (List Value) Cause → Result (List Value) Cause
after firsts r = r >>= λ others. Ok (firsts ++ others)

-- rights

ids_in-append : (xs ys : List task.Arg) → ids_in (xs ++ ys) ≡ ids_in xs ++ ids_in ys
ids_in-append [] ys = refl
ids_in-append (task.ValueArg x ∷ xs) ys = ids_in-append xs ys
ids_in-append (task.RightArg id ∷ xs) ys = ap (λ ids. id ∷ ids) (ids_in-append xs ys)

abbrev pub ids_among : List Arg → List ℕ
ids_among args = ids_in (map arg_of args)

ids_more : (args : List Arg) (k : ℕ) (x : Arg) → k < length args → x ≡ get_or args k x → ids_among (take (k + 1) args) ≡ ids_among (take k args) ++ ids_in (arg_of x ∷ [])
ids_more args k x h e = ap ids_among (take_more args k x h) ∙ ap ids_in (map-append arg_of (take k args) _) ∙ ids_in-append (map arg_of (take k args)) (map arg_of (get_or args k x ∷ [])) ∙ ap (λ y. ids_among (take k args) ++ ids_in (arg_of y ∷ [])) (sym e)

set_next : (ids : List ℕ) (m id : ℕ) → set (map Some ids ++ replicate (suc m) None) (length ids) (Some id) ≡ map Some (ids ++ id ∷ []) ++ replicate m None
set_next [] m id = refl
set_next (i ∷ ids) m id = ap (λ xs. Some i ∷ xs) (set_next ids m id)

first_rights_more : (ids : List ℕ) (id : ℕ) → length ids < 16 → set (first_rights ids) (length ids) (Some id) ≡ first_rights (ids ++ id ∷ [])
first_rights_more ids id h =
    let m = 16 - length (ids ++ id ∷ []) in
    let e : 16 - length ids ≡ suc m = omega (arith, length-append ids (id ∷ [])) in
    ap (λ n. set (map Some ids ++ replicate n None) (length ids) (Some id)) e ∙ set_next ids m id

-- a right more
pub rights_more : (args : List Arg) (k count : ℕ) (rights left : List (Option ℕ)) (x : Arg) (id : ℕ) → k < length args → x ≡ get_or args k x → x ≡ arg.Right id → count < 16
    → rights ≡ first_rights (ids_among (take k args)) → count ≡ length (ids_among (take k args)) → left ≡ set rights count (Some id)
    → (left ≡ first_rights (ids_among (take (k + 1) args))) × (count + 1 ≡ length (ids_among (take (k + 1) args)))
rights_more args k count rights left x id h at is few so_far counted now =
    let ids = ids_among (take k args) in
    let more : ids_among (take (k + 1) args) ≡ ids ++ id ∷ [] = ids_more args k x h at ∙ ap (λ y. ids ++ ids_in (arg_of y ∷ [])) is in
    let room : length ids < 16 = omega arith in (
      now ∙ ap (λ r. set r count (Some id)) so_far ∙ ap (λ n. set (first_rights ids) n (Some id)) counted ∙ first_rights_more ids id room ∙ ap first_rights (sym more),
      rw more (omega (arith, length-append ids (id ∷ []))),
    )

-- a value, which is no right
pub rights_same : (args : List Arg) (k : ℕ) (x : Arg) (value : Value) → k < length args → x ≡ get_or args k x → x ≡ arg.Value value → ids_among (take (k + 1) args) ≡ ids_among (take k args)
rights_same args k x value h at is = ids_more args k x h at ∙ ap (λ y. ids_among (take k args) ++ ids_in (arg_of y ∷ [])) is ∙ append-nil _
