-- The parameters, registers and arguments of an action, up to the end of the shorter list.
use Rattle.tw_instr.proofs.Names.{Cause, Data, Datum, Failure, List, MayFail, MovedArgs, Rights, Value, [], all_pass, ap, append-nil, inl, inr, map, moved_args, refl, true, values_suit, ℕ, ◌++◌, ◌∷◌, ◌≡◌, ◌⊎◌}
use Rattle.std.specs.Prelude.{Bool, Option, Result, Ok}
use Rattle.tw_types.specs.declared.param.Param.{Param}
use Rattle.tw_types.specs.Result.{◌>>=◌}
use Rattle.tw_types.specs.Task.{Arg}
use Rattle.tw_instr.specs.declared.failure.Failure.TheVariants as failure

-- an error in the first step
pub fails_before : {A B : Type 0} (r : Result A Cause) (next : A → Result B Cause) (why : Failure) → MayFail r why → MayFail (r >>= next) why
fails_before r next (failure.Trap cause) h = ap (λ q. q >>= next) h
fails_before r next failure.NoMemory h = tt

pub suit_at_end : (values : List Value) (params : List Param) (registers : List ℕ) → (params ≡ []) ⊎ (registers ≡ []) → values_suit values params registers ≡ true
suit_at_end values [] registers h = refl
suit_at_end values (p ∷ params) [] h = refl
suit_at_end values (p ∷ params) (r ∷ registers) (inl e) = cc
suit_at_end values (p ∷ params) (r ∷ registers) (inr e) = cc

pub pass_at_end : {A : Type 0} (view : A → Arg) (test : Param → Option Datum → Bool) (live : Data) (params : List Param) (args : List A) → (params ≡ []) ⊎ (args ≡ []) → all_pass test live params (map view args) ≡ true
pass_at_end view test live [] args h = refl
pass_at_end view test live (p ∷ params) [] h = refl
pass_at_end view test live (p ∷ params) (x ∷ args) (inl e) = cc
pass_at_end view test live (p ∷ params) (x ∷ args) (inr e) = cc

-- these arguments, followed by those of the other parameters
abbrev pub after : List Arg → Result MovedArgs Cause → Result MovedArgs Cause
after firsts r = r >>= λ others. Ok (record others { args = firsts ++ others.args })

pub after_nothing : (firsts : List Arg) (rights : Rights) → after firsts (Ok (record { args = []; rights = rights })) ≡ Ok (record { args = firsts; rights = rights })
after_nothing firsts rights = ap (λ (xs : List Arg). Ok (record { args = xs; rights = rights })) (append-nil firsts)

pub given_at_end : (values : List Value) (rights : Rights) (params : List Param) (registers : List ℕ) → (params ≡ []) ⊎ (registers ≡ []) → moved_args values rights params registers ≡ Ok (record { args = []; rights = rights })
given_at_end values rights [] registers h = refl
given_at_end values rights (p ∷ params) [] h = refl
given_at_end values rights (p ∷ params) (r ∷ registers) (inl e) = cc
given_at_end values rights (p ∷ params) (r ∷ registers) (inr e) = cc
