-- The local instructions succeed if their checks hold, and keep the types of the values.
use Rattle.std.proofs.Common.{◌≡◌, ℕ, zero, suc, Bool, true, false, List, [], ◌∷◌, ◌++◌, length, ℤ, pos, slice_get, slice_set, Option, Some, None, refl, sym, ap, subst, ◌∙◌, inl, inr, ◌⊎◌, if◌then◌else◌, bytes_eq}
use Rattle.tw_soundness.proofs.MachineNames.{Begin, Branch, Close, Completed, Cursor, Flow, Jump, LocalInstr, Loop, NoLoop, Ok, Position, Question, Scalar, Skipped, Straight, Value, ValuesFit, Way, WrongRegister, after_end, at_goal, at_next_place, int_at, int_eq, int_in, int_lt, int_shown_as, is_before, joined, local_flow, local_instr, moved, must_have_type, of_type_at, ok_or, option_map, passes, rejection_in, requires_alike, requires_local, requires_value, requires_values, result_of, same_scalar, same_scalars, same_value, scalar_itself, scalar_of, scaled, text_at, text_in, value_at, with_last, with_result, with_value}
use Rattle.std.specs.Fmt.{signed_decimal}
use Rattle.tw_types.specs.declared.data_type.Scalar.TheVariants as scalar
use Rattle.tw_types.specs.declared.value.Value.TheVariants as value
use Rattle.tw_code.specs.declared.instr.Arithmetic.{Arithmetic}
use Rattle.tw_code.specs.declared.instr.Sought.{Sought}
use Rattle.tw_code.specs.declared.instr.LocalInstr.TheVariants as local
use Rattle.tw_code.specs.machine.Texts.{byte_of, part_of, found}
use Rattle.tw_soundness.proofs.Steps.{Goes, goes, goes_then, at_some}

-- ---- checks

abbrev pub AllYes : List Question → Type 0
AllYes [] = Unit {0}
AllYes (q ∷ questions) = (q.1 ≡ true) × AllYes questions

-- if there is no error, each check holds
pub all_yes : (questions : List Question) → rejection_in questions ≡ None → AllYes questions
all_yes [] e = tt
all_yes ((n, true) ∷ questions) e = (refl, all_yes questions e)
all_yes ((n, false) ∷ questions) e = cc

pub yes_after : (first second : List Question) → AllYes (first ++ second) → AllYes second
yes_after [] second h = h
yes_after (q ∷ first) second h = yes_after first second h.1

pub yes_before : (first second : List Question) → AllYes (first ++ second) → AllYes first
yes_before [] second h = tt
yes_before (q ∷ first) second h = (h.0, yes_before first second h.1)

-- an item that passes a test is there
pub passed : {A : Type 0} (test : A → Bool) (o : Option A) → passes test o ≡ true → (x : A) × (o ≡ Some x) × (test x ≡ true)
passed test None e = cc
passed test (Some x) e = (x, refl, e)

-- ---- types

-- a register that passes the check of its type is declared of that type
pub declared_as : (o : Option Scalar) (ty : Scalar) → passes (λ declared. same_scalar declared ty) o ≡ true → o ≡ Some ty
declared_as None ty e = cc
declared_as (Some declared) ty e = ap Some (same_scalars declared ty e)

-- two registers of one type
pub declared_alike : (first second : Option Scalar) → passes (λ ty. passes (λ declared. same_scalar declared ty) second) first ≡ true → (ty : Scalar) × (first ≡ Some ty) × (second ≡ Some ty)
declared_alike None second e = cc
declared_alike (Some ty) second e = (ty, refl, declared_as second ty e)

pub value_found : (registers : List Scalar) (values : List Value) (register : ℕ) (ty : Scalar) → ValuesFit registers values → slice_get registers register ≡ Some ty → (x : Value) × (slice_get values register ≡ Some x) × (scalar_of x ≡ ty)
value_found [] values register ty f e = cc
value_found (u ∷ registers) [] register ty f e = absurd f
value_found (u ∷ registers) (x ∷ values) zero ty f e = let same : u ≡ ty = cc in (x, refl, f.0 ∙ same)
value_found (u ∷ registers) (x ∷ values) (suc register) ty f e = value_found registers values register ty f.1 e

pub values_set : (registers : List Scalar) (values : List Value) (register : ℕ) (ty : Scalar) (x : Value) → ValuesFit registers values → slice_get registers register ≡ Some ty → scalar_of x ≡ ty → ValuesFit registers (slice_set values register x)
values_set [] values register ty x f e g = cc
values_set (u ∷ registers) [] register ty x f e g = absurd f
values_set (u ∷ registers) (y ∷ values) zero ty x f e g = let same : u ≡ ty = cc in (g ∙ sym same, f.1)
values_set (u ∷ registers) (y ∷ values) (suc register) ty x f e g = (f.0, values_set registers values register ty x f.1 e g)

-- ---- the effect of a local instruction

-- holds if the loops are the same, or this iteration is the last one of the innermost
abbrev pub AreLeft : List Loop → List Loop → Type 0
AreLeft loops next = (next ≡ loops) ⊎ (next ≡ with_last loops)

-- what loops have after a move the loops that are left have too, if last iterations keep it
pub left_too : (P : List Loop → Type 0) (loops next : List Loop) → AreLeft loops next → (P loops → P (with_last loops)) → P loops → P next
left_too P loops next (inl same) last h = subst P (sym same) h
left_too P loops next (inr shorter) last h = subst P (sym shorter) (last h)

-- it moved by one of its outcomes, the loops are left so, and the values fit
pub record Moves (registers : List Scalar) (flow : Flow) (at next : Position) : Type 0 where
  pub way : Way
  pub loops : List Loop
  pub goes_on : moved way at.place at.loops flow ≡ Some (record { place = next.place; loops = loops })
  pub left : AreLeft loops next.loops
  pub values : ValuesFit registers next.values

abbrev pub moves_by : {registers : List Scalar} {flow : Flow} {at next : Position} (way : Way) → moved way at.place at.loops flow ≡ Some (record { place = next.place; loops = next.loops }) → ValuesFit registers next.values → Moves registers flow at next
moves_by way goes values = record { way = way; loops = _; goes_on = goes; left = inl refl; values = values }

module _ (registers : List Scalar) (at : Position) (fits : ValuesFit registers at.values) where
  pub has_type : (register : ℕ) (ty : Scalar) → slice_get registers register ≡ Some ty → must_have_type at register ty ≡ Ok tt
  has_type register ty e =
      let found = value_found registers at.values register ty fits e in
      let same : same_scalar (scalar_of found.0) ty ≡ true = ap (λ (u : Scalar). same_scalar u ty) found.2 ∙ scalar_itself ty in
      rw found.1 (rw same refl)

  int_goes : (x : Value) → scalar_of x ≡ scalar.Int → (n : ℤ) × (int_in x ≡ Ok n)
  int_goes (value.Int n) e = (n, refl)
  int_goes (value.Text text) e = cc

  text_goes : (x : Value) → scalar_of x ≡ scalar.Text → (text : List ℕ) × (text_in x ≡ Ok text)
  text_goes (value.Int n) e = cc
  text_goes (value.Text text) e = (text, refl)

  pub int_there : (register : ℕ) → slice_get registers register ≡ Some scalar.Int → (n : ℤ) × (int_at at register ≡ Ok n)
  int_there register e =
      let found = value_found registers at.values register scalar.Int fits e in
      let is = int_goes found.0 found.2 in
      (is.0, rw found.1 is.1)

  text_there : (register : ℕ) → slice_get registers register ≡ Some scalar.Text → (text : List ℕ) × (text_at at register ≡ Ok text)
  text_there register e =
      let found = value_found registers at.values register scalar.Text fits e in
      let is = text_goes found.0 found.2 in
      (is.0, rw found.1 is.1)

  pub value_there : (register : ℕ) (ty : Scalar) → slice_get registers register ≡ Some ty → (x : Value) × (of_type_at at register ty ≡ Ok x) × (scalar_of x ≡ ty)
  value_there register ty e =
      let found = value_found registers at.values register ty fits e in
      let same : same_scalar (scalar_of found.0) ty ≡ true = ap (λ (u : Scalar). same_scalar u ty) found.2 ∙ scalar_itself ty in
      (found.0, rw found.1 (rw same refl), found.2)

  pub set_moves : (register : ℕ) (ty : Scalar) (x : Value) → slice_get registers register ≡ Some ty → scalar_of x ≡ ty → Moves registers Straight at (at_next_place (with_value at register x))
  set_moves register ty x e is = moves_by Completed refl (values_set registers at.values register ty x fits e is)

  pub result_moves : {A : Type 0} (make : A → Value) (o : Option A) (register skip : ℕ) (ty : Scalar) → slice_get registers register ≡ Some ty → ((a : A) → scalar_of (make a) ≡ ty) → Moves registers (Branch skip) at (with_result at register skip (option_map make o))
  result_moves make None register skip ty e is = moves_by Skipped refl fits
  result_moves make (Some a) register skip ty e is = moves_by Completed refl (values_set registers at.values register ty (make a) fits e (is a))

  pub found_moves : (o : Option Value) (register skip : ℕ) (ty : Scalar) → slice_get registers register ≡ Some ty → ((x : Value) → o ≡ Some x → scalar_of x ≡ ty) → Moves registers (Branch skip) at (with_result at register skip o)
  found_moves None register skip ty e is = moves_by Skipped refl fits
  found_moves (Some x) register skip ty e is = moves_by Completed refl (values_set registers at.values register ty x fits e (is x refl))

  branch_moves : (b : Bool) (skip : ℕ) → Moves registers (Branch skip) at (if b then at_goal at skip else at_next_place at)
  branch_moves true skip = moves_by Skipped refl fits
  branch_moves false skip = moves_by Completed refl fits

  same_goes : (x y : Value) → scalar_of x ≡ scalar_of y → (b : Bool) × (same_value x y ≡ Ok b)
  same_goes (value.Int a) (value.Int b) e = (int_eq a b, refl)
  same_goes (value.Text a) (value.Text b) e = (bytes_eq a b, refl)
  same_goes (value.Int a) (value.Text b) e = cc
  same_goes (value.Text a) (value.Int b) e = cc

-- an END has a loop
abbrev pub HasLoop : Position → Type 0
HasLoop at = (cursor : Cursor) × (after_end at.place at.loops ≡ Some cursor)

-- ---- a lemma a local instruction

module _ (registers : List Scalar) (at : Position) (fits : ValuesFit registers at.values) where
  int_moves : (to : ℕ) (n : ℤ) → AllYes (requires_value registers to scalar.Int) → Goes (local_instr (local.Int to n) at) (Moves registers Straight at)
  int_moves to n met =
      let declared = declared_as (slice_get registers to) scalar.Int met.1.0 in
      goes_then (must_have_type at to scalar.Int) _ _ (has_type registers at fits to scalar.Int declared) (set_moves registers at fits to scalar.Int (value.Int n) declared refl)

  text_moves : (to : ℕ) (text : List ℕ) → AllYes (requires_value registers to scalar.Text) → Goes (local_instr (local.Text to text) at) (Moves registers Straight at)
  text_moves to text met =
      let declared = declared_as (slice_get registers to) scalar.Text met.1.0 in
      goes_then (must_have_type at to scalar.Text) _ _ (has_type registers at fits to scalar.Text declared) (set_moves registers at fits to scalar.Text (value.Text text) declared refl)

  copy_moves : (to from : ℕ) → AllYes (requires_alike registers to from) → Goes (local_instr (local.Copy to from) at) (Moves registers Straight at)
  copy_moves to from met =
      let both = declared_alike (slice_get registers to) (slice_get registers from) met.1.1.0 in
      let found = value_found registers at.values from both.0 fits both.2 in
      let declared : slice_get registers to ≡ Some (scalar_of found.0) = both.1 ∙ ap Some (sym found.2) in
      goes (value_at at from) _ _ found.0 (at_some (slice_get at.values from) WrongRegister found.0 found.1)
      (goes_then (must_have_type at to (scalar_of found.0)) _ _ (has_type registers at fits to (scalar_of found.0) declared) (set_moves registers at fits to (scalar_of found.0) found.0 declared refl))

  compute_moves : (operation : Arithmetic) (to left right skip : ℕ) → AllYes (requires_values registers to left right scalar.Int) → Goes (local_instr (local.Compute operation to left right skip) at) (Moves registers (Branch skip) at)
  compute_moves operation to left right skip met =
      let declared = declared_as (slice_get registers to) scalar.Int met.1.0 in
      let a = int_there registers at fits left (declared_as (slice_get registers left) scalar.Int met.1.1.1.0) in
      let b = int_there registers at fits right (declared_as (slice_get registers right) scalar.Int met.1.1.1.1.1.0) in
      goes_then (must_have_type at to scalar.Int) _ _ (has_type registers at fits to scalar.Int declared)
      (goes (int_at at left) _ _ a.0 a.1
      (goes (int_at at right) _ _ b.0 b.1
      (result_moves registers at fits value.Int (result_of operation a.0 b.0) to skip scalar.Int declared (λ n. refl))))

  scale_moves : (to left right divisor skip : ℕ) → AllYes (requires_local registers (local.MultiplyDivide to left right divisor skip)) → Goes (local_instr (local.MultiplyDivide to left right divisor skip) at) (Moves registers (Branch skip) at)
  scale_moves to left right divisor skip met =
      let declared = declared_as (slice_get registers to) scalar.Int met.1.0 in
      let a = int_there registers at fits left (declared_as (slice_get registers left) scalar.Int met.1.1.1.0) in
      let b = int_there registers at fits right (declared_as (slice_get registers right) scalar.Int met.1.1.1.1.1.0) in
      let c = int_there registers at fits divisor (declared_as (slice_get registers divisor) scalar.Int met.1.1.1.1.1.1.1.0) in
      goes_then (must_have_type at to scalar.Int) _ _ (has_type registers at fits to scalar.Int declared)
      (goes (int_at at left) _ _ a.0 a.1
      (goes (int_at at right) _ _ b.0 b.1
      (goes (int_at at divisor) _ _ c.0 c.1
      (result_moves registers at fits value.Int (scaled a.0 b.0 c.0) to skip scalar.Int declared (λ n. refl)))))

  concatenate_moves : (to left right skip : ℕ) → AllYes (requires_values registers to left right scalar.Text) → Goes (local_instr (local.Concatenate to left right skip) at) (Moves registers (Branch skip) at)
  concatenate_moves to left right skip met =
      let declared = declared_as (slice_get registers to) scalar.Text met.1.0 in
      let a = text_there registers at fits left (declared_as (slice_get registers left) scalar.Text met.1.1.1.0) in
      let b = text_there registers at fits right (declared_as (slice_get registers right) scalar.Text met.1.1.1.1.1.0) in
      goes_then (must_have_type at to scalar.Text) _ _ (has_type registers at fits to scalar.Text declared)
      (goes (text_at at left) _ _ a.0 a.1
      (goes (text_at at right) _ _ b.0 b.1
      (result_moves registers at fits value.Text (joined a.0 b.0) to skip scalar.Text declared (λ text. refl))))

  length_moves : (to from : ℕ) → AllYes (requires_value registers to scalar.Int ++ requires_value registers from scalar.Text) → Goes (local_instr (local.Length to from) at) (Moves registers Straight at)
  length_moves to from met =
      let declared = declared_as (slice_get registers to) scalar.Int met.1.0 in
      let a = text_there registers at fits from (declared_as (slice_get registers from) scalar.Text met.1.1.1.0) in
      goes_then (must_have_type at to scalar.Int) _ _ (has_type registers at fits to scalar.Int declared)
      (goes (text_at at from) _ _ a.0 a.1
      (set_moves registers at fits to scalar.Int (value.Int (pos (length a.0))) declared refl))

  show_moves : (to from : ℕ) → AllYes (requires_value registers to scalar.Text ++ requires_value registers from scalar.Int) → Goes (local_instr (local.Show to from) at) (Moves registers Straight at)
  show_moves to from met =
      let declared = declared_as (slice_get registers to) scalar.Text met.1.0 in
      let a = int_there registers at fits from (declared_as (slice_get registers from) scalar.Int met.1.1.1.0) in
      goes_then (must_have_type at to scalar.Text) _ _ (has_type registers at fits to scalar.Text declared)
      (goes (int_at at from) _ _ a.0 a.1
      (set_moves registers at fits to scalar.Text (value.Text (signed_decimal a.0)) declared refl))

  read_moves : (to from skip : ℕ) → AllYes (requires_value registers to scalar.Int ++ requires_value registers from scalar.Text) → Goes (local_instr (local.ReadInt to from skip) at) (Moves registers (Branch skip) at)
  read_moves to from skip met =
      let declared = declared_as (slice_get registers to) scalar.Int met.1.0 in
      let a = text_there registers at fits from (declared_as (slice_get registers from) scalar.Text met.1.1.1.0) in
      goes_then (must_have_type at to scalar.Int) _ _ (has_type registers at fits to scalar.Int declared)
      (goes (text_at at from) _ _ a.0 a.1
      (result_moves registers at fits value.Int (int_shown_as a.0) to skip scalar.Int declared (λ n. refl)))

  byte_moves : (to from place skip : ℕ) → AllYes (requires_local registers (local.ByteAt to from place skip)) → Goes (local_instr (local.ByteAt to from place skip) at) (Moves registers (Branch skip) at)
  byte_moves to from place skip met =
      let declared = declared_as (slice_get registers to) scalar.Int met.1.0 in
      let a = text_there registers at fits from (declared_as (slice_get registers from) scalar.Text met.1.1.1.0) in
      let k = int_there registers at fits place (declared_as (slice_get registers place) scalar.Int met.1.1.1.1.1.0) in
      goes_then (must_have_type at to scalar.Int) _ _ (has_type registers at fits to scalar.Int declared)
      (goes (text_at at from) _ _ a.0 a.1
      (goes (int_at at place) _ _ k.0 k.1
      (result_moves registers at fits value.Int (byte_of a.0 k.0) to skip scalar.Int declared (λ n. refl))))

  slice_moves : (to from start end skip : ℕ) → AllYes (requires_local registers (local.Slice to from start end skip)) → Goes (local_instr (local.Slice to from start end skip) at) (Moves registers (Branch skip) at)
  slice_moves to from start end skip met =
      let declared = declared_as (slice_get registers to) scalar.Text met.1.0 in
      let a = text_there registers at fits from (declared_as (slice_get registers from) scalar.Text met.1.1.1.0) in
      let k = int_there registers at fits start (declared_as (slice_get registers start) scalar.Int met.1.1.1.1.1.0) in
      let n = int_there registers at fits end (declared_as (slice_get registers end) scalar.Int met.1.1.1.1.1.1.1.0) in
      goes_then (must_have_type at to scalar.Text) _ _ (has_type registers at fits to scalar.Text declared)
      (goes (text_at at from) _ _ a.0 a.1
      (goes (int_at at start) _ _ k.0 k.1
      (goes (int_at at end) _ _ n.0 n.1
      (result_moves registers at fits value.Text (part_of a.0 k.0 n.0) to skip scalar.Text declared (λ text. refl)))))

  seek_moves : (sought : Sought) (to text pattern start skip : ℕ) → AllYes (requires_local registers (local.Seek sought to text pattern start skip)) → Goes (local_instr (local.Seek sought to text pattern start skip) at) (Moves registers (Branch skip) at)
  seek_moves sought to text pattern start skip met =
      let declared = declared_as (slice_get registers to) scalar.Int met.1.0 in
      let a = text_there registers at fits text (declared_as (slice_get registers text) scalar.Text met.1.1.1.0) in
      let b = text_there registers at fits pattern (declared_as (slice_get registers pattern) scalar.Text met.1.1.1.1.1.0) in
      let k = int_there registers at fits start (declared_as (slice_get registers start) scalar.Int met.1.1.1.1.1.1.1.0) in
      goes_then (must_have_type at to scalar.Int) _ _ (has_type registers at fits to scalar.Int declared)
      (goes (text_at at text) _ _ a.0 a.1
      (goes (text_at at pattern) _ _ b.0 b.1
      (goes (int_at at start) _ _ k.0 k.1
      (result_moves registers at fits value.Int (found sought a.0 b.0 k.0) to skip scalar.Int declared (λ n. refl)))))

  jump_moves : (skip : ℕ) → Goes (local_instr (local.Jump skip) at) (Moves registers (Jump skip) at)
  jump_moves skip = moves_by Completed refl fits

  equal_moves : (left right skip : ℕ) → AllYes (requires_alike registers left right) → Goes (local_instr (local.JumpEqual left right skip) at) (Moves registers (Branch skip) at)
  equal_moves left right skip met =
      let both = declared_alike (slice_get registers left) (slice_get registers right) met.1.1.0 in
      let a = value_found registers at.values left both.0 fits both.1 in
      let b = value_found registers at.values right both.0 fits both.2 in
      let same = same_goes registers at fits a.0 b.0 (a.2 ∙ sym b.2) in
      goes (value_at at left) _ _ a.0 (at_some (slice_get at.values left) WrongRegister a.0 a.1)
      (goes (value_at at right) _ _ b.0 (at_some (slice_get at.values right) WrongRegister b.0 b.1)
      (goes (same_value a.0 b.0) _ _ same.0 same.1
      (branch_moves registers at fits same.0 skip)))

  less_moves : (left right skip : ℕ) → AllYes (requires_value registers left scalar.Int ++ requires_value registers right scalar.Int) → Goes (local_instr (local.JumpLess left right skip) at) (Moves registers (Branch skip) at)
  less_moves left right skip met =
      let a = int_there registers at fits left (declared_as (slice_get registers left) scalar.Int met.1.0) in
      let b = int_there registers at fits right (declared_as (slice_get registers right) scalar.Int met.1.1.1.0) in
      goes (int_at at left) _ _ a.0 a.1
      (goes (int_at at right) _ _ b.0 b.1
      (branch_moves registers at fits (int_lt a.0 b.0) skip))

  text_less_moves : (left right skip : ℕ) → AllYes (requires_value registers left scalar.Text ++ requires_value registers right scalar.Text) → Goes (local_instr (local.JumpTextLess left right skip) at) (Moves registers (Branch skip) at)
  text_less_moves left right skip met =
      let a = text_there registers at fits left (declared_as (slice_get registers left) scalar.Text met.1.0) in
      let b = text_there registers at fits right (declared_as (slice_get registers right) scalar.Text met.1.1.1.0) in
      goes (text_at at left) _ _ a.0 a.1
      (goes (text_at at right) _ _ b.0 b.1
      (branch_moves registers at fits (is_before a.0 b.0) skip))

  repeat_moves : (iterations : ℕ) → Goes (local_instr (local.Repeat iterations) at) (Moves registers (Begin iterations) at)
  repeat_moves iterations = moves_by Completed refl fits

  end_moves : HasLoop at → Goes (local_instr local.End at) (Moves registers Close at)
  end_moves (cursor, e) = goes (ok_or (after_end at.place at.loops) NoLoop) _ _ cursor (at_some (after_end at.place at.loops) NoLoop cursor e) (moves_by Completed e fits)

  last_moves : Goes (local_instr local.Last at) (Moves registers Straight at)
  last_moves = record { way = Completed; loops = at.loops; goes_on = refl; left = inr refl; values = fits }

  -- each of them, a line an instruction
  pub local_moves : (i : LocalInstr) → AllYes (requires_local registers i) → (local_flow i ≡ Close → HasLoop at) → Goes (local_instr i at) (Moves registers (local_flow i) at)
  local_moves (local.Int to n) met loop = int_moves to n met
  local_moves (local.Text to text) met loop = text_moves to text met
  local_moves (local.Copy to from) met loop = copy_moves to from met
  local_moves (local.Compute operation to left right skip) met loop = compute_moves operation to left right skip met
  local_moves (local.MultiplyDivide to left right divisor skip) met loop = scale_moves to left right divisor skip met
  local_moves (local.Concatenate to left right skip) met loop = concatenate_moves to left right skip met
  local_moves (local.Length to from) met loop = length_moves to from met
  local_moves (local.Show to from) met loop = show_moves to from met
  local_moves (local.ReadInt to from skip) met loop = read_moves to from skip met
  local_moves (local.ByteAt to from place skip) met loop = byte_moves to from place skip met
  local_moves (local.Slice to from start end skip) met loop = slice_moves to from start end skip met
  local_moves (local.Seek sought to text pattern start skip) met loop = seek_moves sought to text pattern start skip met
  local_moves (local.Jump skip) met loop = jump_moves skip
  local_moves (local.JumpEqual left right skip) met loop = equal_moves left right skip met
  local_moves (local.JumpLess left right skip) met loop = less_moves left right skip met
  local_moves (local.JumpTextLess left right skip) met loop = text_less_moves left right skip met
  local_moves (local.Repeat iterations) met loop = repeat_moves iterations
  local_moves local.End met loop = end_moves (loop refl)
  local_moves local.Last met loop = last_moves
