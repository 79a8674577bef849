-- RULE and PUT: arguments that leave the machine's registers leave the file, with its rights.
use Rattle.std.proofs.Common.{map as each, length, arith, ◌≡◌, ℕ, zero, suc, Bool, true, false, if◌then◌else◌, List, [], ◌∷◌, Option, Some, None, Result, Ok, Err, refl, sym, ap, subst, ◌∙◌, slice_get, slice_set, slice_index_or, option_map, set}
use Rattle.tw_pool_state.proofs.PartNames.{ArePlaced, Arg, ArgMatches, ArgsMatch, Cause, EmptyRegister, Held, IsPlaced, Mode, Param, Places, RightArg, Value, ValueArg, WrongRegister, bare_arg, bare_file, id_of, is_val, is_write, map-set, ok_or, option_and_then, option_flatten, right_of}
use Rattle.tw_types.specs.Result.{◌>>=◌}
use Rattle.tw_types.specs.declared.param.Mode.TheVariants as mode
use Rattle.tw_rights.specs.declared.arg.Arg.TheVariants as arg
use Rattle.tw_rights.specs.declared.held.Held.TheVariants as right
use Rattle.tw_rights.specs.Bundled as file
use Rattle.tw_code.specs.machine.Arguments as bare
use Rattle.tw_rights.specs.Kinds.{writes}
use Rattle.tw_pool_state.proofs.Copied.{AreVals, ValOr}

seen_at : (held : List (Option Held)) (register : ℕ) → option_flatten (slice_get (bare_file held) register) ≡ option_map id_of (slice_index_or held register None)
seen_at [] register = refl
seen_at (x ∷ held) zero = refl
seen_at (x ∷ held) (suc register) = seen_at held register

placed_at : (places : Places) (held : List (Option Held)) (register : ℕ) (h : Held) → ArePlaced places held → slice_index_or held register None ≡ Some h → IsPlaced places (Some h)
placed_at places [] register h all is = cc
placed_at places (x ∷ held) zero h all is = subst (IsPlaced places) is all.0
placed_at places (x ∷ held) (suc register) h all is = placed_at places held register h all.1 is

placed_without : (places : Places) (held : List (Option Held)) (register : ℕ) → ArePlaced places held → ArePlaced places (set held register None)
placed_without places [] register all = tt
placed_without places (x ∷ held) zero all = (tt, all.1)
placed_without places (x ∷ held) (suc register) all = (all.0, placed_without places held register all.1)

-- the right that a parameter takes is of its kind, now and when those before it have left
abbrev pub Suits : Mode → Option Held → Type 0
Suits m None = Unit {0}
Suits m (Some h) = writes h ≡ is_write m

-- the registers of the rights that are taken are empty
abbrev pub without_held : List (Option Held) → List Param → List ℕ → List (Option Held)
without_held held [] registers = held
without_held held (p ∷ params) [] = held
without_held held (p ∷ params) (register ∷ registers) = without_held (if is_val p.mode then held else set held register None) params registers

pub record Handed (places : Places) (params : List Param) (registers : List ℕ) (held : List (Option Held)) (values : List Value) (given : bare.MovedArgs) : Type 0 where
  pub over : file.Bundled
  pub goes : file.bundled held params registers values ≡ Some over
  pub args : each bare_arg over.args ≡ given.args
  pub rights : bare_file over.file ≡ given.rights
  pub rights_fit : ArgsMatch places params over.args
  pub placed : ArePlaced places over.file
  pub gone : over.file ≡ without_held held params registers

-- a right of the kind leaves
pub record Left (places : Places) (p : Param) (register : ℕ) (held : List (Option Held)) (values : List Value) (id : ℕ) : Type 0 where
  pub arg : Arg
  pub goes : file.bundled_one held p.mode register values ≡ Some (record { arg = arg; file = set held register None; values = values })
  pub bare_is : bare_arg arg ≡ RightArg id
  pub fits_place : ArgMatches places (right_of p) arg

leaves : (places : Places) (p : Param) (register : ℕ) (held : List (Option Held)) (values : List Value) (h : Held) → is_val p.mode ≡ false → slice_index_or held register None ≡ Some h → Suits p.mode (Some h) → IsPlaced places (Some h)
    → Left places p register held values (id_of h)
leaves places p register held values h no_value is suits placed = by p.mode refl h is suits placed
  where
    typed : (m : Mode) → p.mode ≡ m → is_val m ≡ false → right_of p ≡ Some (record { mode = m; ty = p.ty })
    typed m e f = ap (λ k. if is_val k then None else Some (record { mode = k; ty = p.ty })) e ∙ ap (λ b. if b then None else Some (record { mode = m; ty = p.ty })) f

    one : (m : Mode) → p.mode ≡ m → (arg : Arg) (id : ℕ) → file.bundled_one held m register values ≡ Some (record { arg = arg; file = set held register None; values = values }) → bare_arg arg ≡ RightArg id → ArgMatches places (Some (record { mode = m; ty = p.ty })) arg → is_val m ≡ false → Left places p register held values id
    one m e arg id goes b fits_place f = record { arg = arg; goes = ap (λ k. file.bundled_one held k register values) e ∙ goes; bare_is = b; fits_place = subst (λ o. ArgMatches places o arg) (sym (typed m e f)) fits_place }

    by : (m : Mode) → p.mode ≡ m → (h : Held) → slice_index_or held register None ≡ Some h → Suits m (Some h) → IsPlaced places (Some h) → Left places p register held values (id_of h)
    by mode.Val e h is suits placed = let no : false ≡ true = sym no_value ∙ ap is_val e in cc
    by mode.Closed e (right.Read r) is suits placed = one mode.Closed e (arg.Read r) r.id (rw is refl) refl (refl, placed) refl
    by mode.Closed e (right.Write r) is suits placed = cc
    by mode.Ref e (right.Read r) is suits placed = one mode.Ref e (arg.Read r) r.id (rw is refl) refl (refl, placed) refl
    by mode.Ref e (right.Write r) is suits placed = cc
    by mode.Write e (right.Write r) is suits placed = one mode.Write e (arg.Write r) r.id (rw is refl) refl (refl, placed) refl
    by mode.Write e (right.Read r) is suits placed = cc

abbrev pub SuitsOr : Bool → Type 0 → Type 0 → Type 0
SuitsOr true val right = val
SuitsOr false val right = right

-- each right that is taken is of its parameter's kind
abbrev pub AreSuited : List (Option Held) → List Param → List ℕ → Type 0
AreSuited held [] registers = Unit {0}
AreSuited held (p ∷ params) [] = Unit {0}
AreSuited held (p ∷ params) (register ∷ registers) = SuitsOr (is_val p.mode) (AreSuited held params registers) (Suits p.mode (slice_index_or held register None) × AreSuited (set held register None) params registers)

-- ---- one argument and the others

module _ (places : Places) (p : Param) (params : List Param) (register : ℕ) (registers : List ℕ) (held : List (Option Held)) where
  by_value : (x : Value) (vals : List Value) (others : bare.MovedArgs) → is_val p.mode ≡ true → Handed places params registers held vals others → Handed places (p ∷ params) (register ∷ registers) held (x ∷ vals) (bare.with_arg (ValueArg x) others)
  by_value x vals others val h = record {
    over = file.with_arg (arg.Val x) h.over;
    goes = let g = h.goes in let m = is_value p.mode val in
        ap (λ k. option_and_then (λ (one : file.BundledOne). option_map (file.with_arg one.arg) (file.bundled one.file params registers one.values)) (file.bundled_one held k register (x ∷ vals))) m ∙ ap (option_map (file.with_arg (arg.Val x))) g;
    args = ap (λ xs. ValueArg x ∷ xs) h.args;
    rights = h.rights;
    rights_fit = (subst (λ o. ArgMatches places o (arg.Val x)) (sym (none val)) tt, h.rights_fit);
    placed = h.placed;
    gone = h.gone ∙ ap (λ b. without_held (if b then held else set held register None) params registers) (sym val);
  }
    where
      is_value : (m : Mode) → is_val m ≡ true → m ≡ mode.Val
      is_value mode.Val e = refl
      is_value mode.Closed e = cc
      is_value mode.Ref e = cc
      is_value mode.Write e = cc

      none : is_val p.mode ≡ true → right_of p ≡ None
      none e = ap (λ b. if b then None else Some (record { mode = p.mode; ty = p.ty })) e

  by_right : (vals : List Value) (h : Held) → is_val p.mode ≡ false → (l : Left places p register held vals (id_of h)) (others : bare.MovedArgs) → Handed places params registers (set held register None) vals others
      → Handed places (p ∷ params) (register ∷ registers) held vals (bare.with_arg (RightArg (id_of h)) others)
  by_right vals h is l others o = record {
    over = file.with_arg l.arg o.over;
    goes = ap (option_and_then (λ (one : file.BundledOne). option_map (file.with_arg one.arg) (file.bundled one.file params registers one.values))) l.goes ∙ ap (option_map (file.with_arg l.arg)) o.goes;
    args = ap (λ a. a ∷ each bare_arg o.over.args) l.bare_is ∙ ap (λ xs. RightArg (id_of h) ∷ xs) o.args;
    rights = o.rights;
    rights_fit = (l.fits_place, o.rights_fit);
    placed = o.placed;
    gone = o.gone ∙ ap (λ b. without_held (if b then held else set held register None) params registers) (sym is);
  }

-- ---- all of them

module _ (places : Places) (values : List Value) (p : Param) (params : List Param) (register : ℕ) (registers : List ℕ) (held : List (Option Held)) (given : bare.MovedArgs) where
  abbrev as_value : Option Value → Result bare.MovedArgs Cause → Result bare.MovedArgs Cause
  as_value o rest = ok_or o WrongRegister >>= λ x. rest >>= λ others. Ok (bare.with_arg (ValueArg x) others)

  abbrev as_right : Option ℕ → Result bare.MovedArgs Cause → Result bare.MovedArgs Cause
  as_right o rest = ok_or o EmptyRegister >>= λ id. rest >>= λ others. Ok (bare.with_arg (RightArg id) others)

  ok_is : (a b : bare.MovedArgs) → ◌≡◌ {A = Result bare.MovedArgs Cause} (Ok a) (Ok b) → a ≡ b
  ok_is a b e = cc

  value_case : (vals : List Value) → is_val p.mode ≡ true → AreVals values (p ∷ params) (register ∷ registers) vals
      → ((v : List Value) → AreVals values params registers v → (others : bare.MovedArgs) → bare.moved_args values (bare_file held) params registers ≡ Ok others → Handed places params registers held v others)
      → as_value (slice_get values register) (bare.moved_args values (bare_file held) params registers) ≡ Ok given → Handed places (p ∷ params) (register ∷ registers) held vals given
  value_case [] is are rest e = let no = are.0 in cc
  value_case (x ∷ vals) is are rest e =
      let val = subst (λ b. ValOr b (slice_get values register) (Some x) (AreVals values params registers vals) (AreVals values params registers (x ∷ vals))) is are in
      by (bare.moved_args values (bare_file held) params registers) refl (subst (λ o. as_value o (bare.moved_args values (bare_file held) params registers) ≡ Ok given) val.0 e) val.1
    where
      by : (r : Result bare.MovedArgs Cause) → bare.moved_args values (bare_file held) params registers ≡ r → as_value (Some x) (bare.moved_args values (bare_file held) params registers) ≡ Ok given → AreVals values params registers vals
          → Handed places (p ∷ params) (register ∷ registers) held (x ∷ vals) given
      by (Ok others) r e v =
          let same = ok_is (bare.with_arg (ValueArg x) others) given (sym (ap (as_value (Some x)) r) ∙ e) in
          subst (Handed places (p ∷ params) (register ∷ registers) held (x ∷ vals)) same (by_value places p params register registers held x vals others is (rest vals v others r))
      by (Err why) r e v = let no : ◌≡◌ {A = Result bare.MovedArgs Cause} (Err why) (Ok given) = sym (ap (as_value (Some x)) r) ∙ e in cc

  right_case : (vals : List Value) → is_val p.mode ≡ false → Suits p.mode (slice_index_or held register None) → ArePlaced places held
      → ((others : bare.MovedArgs) → bare.moved_args values (bare_file (set held register None)) params registers ≡ Ok others → Handed places params registers (set held register None) vals others)
      → as_right (option_flatten (slice_get (bare_file held) register)) (bare.moved_args values (slice_set (bare_file held) register None) params registers) ≡ Ok given → Handed places (p ∷ params) (register ∷ registers) held vals given
  right_case vals is suits placed rest e =
      by (slice_index_or held register None) refl suits
      (subst (λ o. as_right o (bare.moved_args values (bare_file (set held register None)) params registers) ≡ Ok given) (seen_at held register)
      (subst (λ rs. as_right (option_flatten (slice_get (bare_file held) register)) (bare.moved_args values rs params registers) ≡ Ok given) (sym (map-set (option_map id_of) held register None)) e))
    where
      by_rest : (h : Held) → slice_index_or held register None ≡ Some h → Suits p.mode (Some h) → (r : Result bare.MovedArgs Cause) → bare.moved_args values (bare_file (set held register None)) params registers ≡ r
          → as_right (Some (id_of h)) (bare.moved_args values (bare_file (set held register None)) params registers) ≡ Ok given → Handed places (p ∷ params) (register ∷ registers) held vals given
      by_rest h at s (Ok others) r e =
          let same = ok_is (bare.with_arg (RightArg (id_of h)) others) given (sym (ap (as_right (Some (id_of h))) r) ∙ e) in
          subst (Handed places (p ∷ params) (register ∷ registers) held vals) same
          (by_right places p params register registers held vals h is (leaves places p register held vals h is at s (placed_at places held register h placed at)) others (rest others r))
      by_rest h at s (Err why) r e = let no : ◌≡◌ {A = Result bare.MovedArgs Cause} (Err why) (Ok given) = sym (ap (as_right (Some (id_of h))) r) ∙ e in cc

      by : (o : Option Held) → slice_index_or held register None ≡ o → Suits p.mode o → as_right (option_map id_of (slice_index_or held register None)) (bare.moved_args values (bare_file (set held register None)) params registers) ≡ Ok given
          → Handed places (p ∷ params) (register ∷ registers) held vals given
      by None at s e = let no : ◌≡◌ {A = Result bare.MovedArgs Cause} (Err EmptyRegister) (Ok given) = sym (ap (λ k. as_right (option_map id_of k) (bare.moved_args values (bare_file (set held register None)) params registers)) at) ∙ e in cc
      by (Some h) at s e = by_rest h at s (bare.moved_args values (bare_file (set held register None)) params registers) refl (sym (ap (λ k. as_right (option_map id_of k) (bare.moved_args values (bare_file (set held register None)) params registers)) at) ∙ e)

  either : (b : Bool) → is_val p.mode ≡ b → (vals : List Value) → SuitsOr b (AreSuited held params registers) (Suits p.mode (slice_index_or held register None) × AreSuited (set held register None) params registers)
      → AreVals values (p ∷ params) (register ∷ registers) vals → ArePlaced places held
      → ((v : List Value) → AreSuited held params registers → AreVals values params registers v → (others : bare.MovedArgs) → bare.moved_args values (bare_file held) params registers ≡ Ok others → Handed places params registers held v others)
      → (AreSuited (set held register None) params registers → AreVals values params registers vals → (others : bare.MovedArgs) → bare.moved_args values (bare_file (set held register None)) params registers ≡ Ok others → Handed places params registers (set held register None) vals others)
      → (if b then as_value (slice_get values register) (bare.moved_args values (bare_file held) params registers) else as_right (option_flatten (slice_get (bare_file held) register)) (bare.moved_args values (slice_set (bare_file held) register None) params registers)) ≡ Ok given
      → Handed places (p ∷ params) (register ∷ registers) held vals given
  either true is vals suits are placed of_value of_right e = value_case vals is are (λ v a others q. of_value v suits a others q) e
  either false is vals suits are placed of_value of_right e = right_case vals is suits.0 placed (λ others q. of_right suits.1 (right_vals vals are) others q) e
    where
      right_vals : (vals : List Value) → AreVals values (p ∷ params) (register ∷ registers) vals → AreVals values params registers vals
      right_vals [] are = are.1
      right_vals (x ∷ vals) are = subst (λ b. ValOr b (slice_get values register) (Some x) (AreVals values params registers vals) (AreVals values params registers (x ∷ vals))) is are

-- if the definition takes the arguments, the file does, with their rights
pub handed : (places : Places) (values : List Value) (held : List (Option Held)) (params : List Param) (registers : List ℕ) (vals : List Value) (given : bare.MovedArgs)
    → length registers ≡ length params → bare.moved_args values (bare_file held) params registers ≡ Ok given → AreSuited held params registers → AreVals values params registers vals → ArePlaced places held
    → Handed places params registers held vals given
handed places values held [] registers vals given long e suits are placed =
    let same : record { args = []; rights = bare_file held } ≡ given = cc in
    subst (Handed places [] registers held vals) same (record { over = record { args = []; file = held }; goes = refl; args = refl; rights = refl; rights_fit = tt; placed = placed; gone = refl })
handed places values held (p ∷ params) [] vals given long e suits are placed = absurd (omega arith)
handed places values held (p ∷ params) (register ∷ registers) vals given long e suits are placed =
    either places values p params register registers held given (is_val p.mode) refl vals suits are placed
    (λ v s a others q. handed places values held params registers v others (omega (arith, long)) q s a placed)
    (λ s a others q. handed places values (set held register None) params registers vals others (omega (arith, long)) q s a (placed_without places held register placed))
    e
