-- The invariant holds in the state in which main waits, for any inputs.
use Rattle.std.proofs.Common.{◌≡◌, ℕ, ◌+◌, Bool, true, false, not, List, [], ◌∷◌, ◌++◌, length, map, filter, slice_get, Option, Some, None, refl, sym, ap, subst, ◌∙◌, arith, if◌then◌else◌, nat_cmp, inl, inr}
use Rattle.tw_soundness.proofs.MachineNames.{Actor, AllByRecursion, AreInputsOf, Arg, ArgFits, ArgsFit, BalancedAt, BudgetsHeld, Closed, CountsHeld, Datum, Frame, Holds, Input, IsDataType, IsHeld, IsParam, IsTypeUnder, Mode, NestedScalar, NumbersHeld, Param, Procedure, Ref, RightArg, RightType, Rule, Store, Task, TypesHeld, Typings, Val, Write, actor_cmp, added, and_parts, append-nil, append_assoc, are_inputs_of, balanced_same, cases_eq, count_of, empty, eqb-true, frame_reads, frame_writes, get, get-empty, hits, hits_other, hits_same, id_of, input_params, insert, insert_other, insert_same, inside, is_closed_mode, is_control, is_flat, is_input_of, is_val, is_write, list_all, map-append, nat_cmp-IsAntisymmetric, nat_cmp_total, new_datum, not-true, output_rights, part, read_by, right_of, rule_reads, rule_writes, same_Some, subscripts_in, task_reads, task_writes, total, total-empty, total-insert, write_by}
use Rattle.std.proofs.lemmas.List.Elements.{filter-append}
use Rattle.tw_types.specs.declared.data_type.Scalar.TheVariants as scalar
use Rattle.tw_code.specs.accepting.MainShape.{has_main_shape, is_main_param}
use Rattle.tw_code.specs.machine.Opening.{Opened, main_task, nothing_opened, opened, opening, opening_of, with_given, with_input, with_output}
use Rattle.tw_soundness.proofs.Asked.{opening_named}
use Rattle.tw_soundness.proofs.DataNew.{new_content, new_writers, no_members}
use Rattle.tw_soundness.proofs.Filling.{added_filling, not_yet, plain_next, undisturbed_added}
use Rattle.tw_soundness.proofs.Inputs.{IsRight, filled_right, input_given, right_filled}
use Rattle.tw_soundness.proofs.Lasting.{AreRunning}
use Rattle.tw_soundness.proofs.Over.{over_params}
use Rattle.tw_soundness.proofs.Registers.{Undisturbed, holds_undisturbed}
use Rattle.tw_soundness.proofs.Stages.{args_kept}

-- ---- main's parameters

right_is : (p : Param) → is_val p.mode ≡ false → right_of p ≡ Some (record { mode = p.mode; ty = p.ty })
right_is p e = ap (λ b. if b then None else Some (record { mode = p.mode; ty = p.ty })) e

param_type : (m : Mode) (ty : NestedScalar) → is_val m ≡ false → IsTypeUnder m ty → IsDataType ty
param_type Val ty e h = cc
param_type Closed ty e h = h.0
param_type Ref ty e h = h.0
param_type Write ty e h = h.0

not_closed : (m : Mode) → is_write m ≡ true → is_closed_mode m ≡ true → ⊥
not_closed Val e f = cc
not_closed Closed e f = cc
not_closed Ref e f = cc
not_closed Write e f = cc

count_joined : (d : ℕ) (xs ys : List ℕ) → count_of d (xs ++ ys) ≡ count_of d xs + count_of d ys
count_joined d [] ys = omega arith
count_joined d (x ∷ xs) ys = let h = count_joined d xs ys in omega arith

args_joined : (s : Store) (params : List Param) (args : List Arg) (p : Param) (arg : Arg) → ArgsFit s params args → ArgFits s p (right_of p) arg → ArgsFit s (params ++ p ∷ []) (args ++ arg ∷ [])
args_joined s [] [] p arg h f = (f, tt)
args_joined s [] (a ∷ args) p arg h f = absurd h
args_joined s (q ∷ params) [] p arg h f = absurd h
args_joined s (q ∷ params) (a ∷ args) p arg h f = (h.0, args_joined s params args p arg h.1 f)

over_joined : (by : Option RightType → Option ℕ → ℕ) (s : Store) (params : List Param) (args : List Arg) (p : Param) (arg : Arg) → ArgsFit s params args
    → over_params by (params ++ p ∷ []) (args ++ arg ∷ []) ≡ over_params by params args + by (right_of p) (id_of arg)
over_joined by s [] [] p arg h = omega arith
over_joined by s [] (a ∷ args) p arg h = absurd h
over_joined by s (q ∷ params) [] p arg h = absurd h
over_joined by s (q ∷ params) (a ∷ args) p arg h = let rest = over_joined by s params args p arg h.1 in omega arith

abbrev given_reads : List Param → Opened → ℕ → ℕ
given_reads params o d = over_params (read_by d) params (map RightArg o.rights) + count_of d o.outputs

abbrev given_writes : List Param → Opened → ℕ → ℕ
given_writes params o d = over_params (write_by d) params (map RightArg o.rights)

-- the reads of these that the host has
abbrev pub outputs_of : List Param → List RightType
outputs_of params = map (λ p. record { mode = Ref; ty = p.ty }) (filter (λ p. is_write p.mode) params)

abbrev pub OutputsFit : Store → List RightType → List ℕ → Type 0
OutputsFit s [] [] = Unit {0}
OutputsFit s [] (id ∷ ids) = ⊥
OutputsFit s (right ∷ rights) [] = ⊥
OutputsFit s (right ∷ rights) (id ∷ ids) = Holds s right id × OutputsFit s rights ids

outputs_joined : (s : Store) (rights : List RightType) (ids : List ℕ) (right : RightType) (id : ℕ) → OutputsFit s rights ids → Holds s right id → OutputsFit s (rights ++ right ∷ []) (ids ++ id ∷ [])
outputs_joined s [] [] right id h f = (f, tt)
outputs_joined s [] (i ∷ ids) right id h f = absurd h
outputs_joined s (r ∷ rights) [] right id h f = absurd h
outputs_joined s (r ∷ rights) (i ∷ ids) right id h f = (h.0, outputs_joined s rights ids right id h.1 f)

pub outputs_kept : (s t : Store) → Undisturbed s t → (rights : List RightType) (ids : List ℕ) → OutputsFit s rights ids → OutputsFit t rights ids
outputs_kept s t u [] [] h = h
outputs_kept s t u [] (i ∷ ids) h = absurd h
outputs_kept s t u (r ∷ rights) [] h = absurd h
outputs_kept s t u (r ∷ rights) (i ∷ ids) h = (holds_undisturbed s t u r i h.0, outputs_kept s t u rights ids h.1)

abbrev as_read : Param → RightType
as_read p = record { mode = Ref; ty = p.ty }

outputs_more : (params : List Param) (p : Param) → outputs_of (params ++ p ∷ []) ≡ outputs_of params ++ outputs_of (p ∷ [])
outputs_more params p =
    ap (map as_read) (filter-append (λ (q : Param). is_write q.mode) params (p ∷ []))
    ∙ map-append as_read (filter (λ (q : Param). is_write q.mode) params) (filter (λ (q : Param). is_write q.mode) (p ∷ []))

outputs_one_more : (params : List Param) (p : Param) → is_write p.mode ≡ true → outputs_of (params ++ p ∷ []) ≡ outputs_of params ++ record { mode = Ref; ty = p.ty } ∷ []
outputs_one_more params p writes =
    let one : outputs_of (p ∷ []) ≡ record { mode = Ref; ty = p.ty } ∷ [] = rw writes refl in
    outputs_more params p ∙ ap (λ (rights : List RightType). outputs_of params ++ rights) one

outputs_same : (params : List Param) (p : Param) → is_write p.mode ≡ false → outputs_of (params ++ p ∷ []) ≡ outputs_of params
outputs_same params p reads =
    let none : outputs_of (p ∷ []) ≡ [] = rw reads refl in
    outputs_more params p ∙ ap (λ (rights : List RightType). outputs_of params ++ rights) none ∙ append-nil (outputs_of params)

-- the invariant of the loop over the parameters
pub record IsOpened (params : List Param) (o : Opened) : Type 0 where
  pub outputs : OutputsFit o.store (outputs_of params) o.outputs
  pub right : IsRight o.store (given_reads params o) (given_writes params o)
  pub args : ArgsFit o.store params (map RightArg o.rights)

right_same : (s : Store) (r w r₁ w₁ : ℕ → ℕ) → IsRight s r w → ((d : ℕ) → (r d ≡ r₁ d) × (w d ≡ w₁ d)) → IsRight s r₁ w₁
right_same s r w r₁ w₁ h e = record { typed = h.typed; balanced = balanced_same s.live r w r₁ w₁ h.balanced e; writers = h.writers }

module _ (params : List Param) (o : Opened) (p : Param) (h : IsOpened params o) (no_value : is_val p.mode ≡ false) (param : IsParam p) where
  abbrev id : ℕ
  id = o.store.next

  -- the argument that is added
  module _ (t : Store) (others : Undisturbed o.store t) (holds : Holds t (record { mode = p.mode; ty = p.ty }) id) where
    args_more : ArgsFit t (params ++ p ∷ []) (map RightArg (o.rights ++ id ∷ []))
    args_more = subst (λ (args : List Arg). ArgsFit t (params ++ p ∷ []) args) (sym (map-append RightArg o.rights (id ∷ [])))
        (args_joined t params (map RightArg o.rights) p (RightArg id) (args_kept o.store t others params (map RightArg o.rights) h.args)
        (subst (λ (q : Option RightType). ArgFits t p q (RightArg id)) (sym (right_is p no_value)) holds))

  over_more : (by : Option RightType → Option ℕ → ℕ) → over_params by (params ++ p ∷ []) (map RightArg (o.rights ++ id ∷ [])) ≡ over_params by params (map RightArg o.rights) + by (Some (record { mode = p.mode; ty = p.ty })) (Some id)
  over_more by =
      ap (over_params by (params ++ p ∷ [])) (map-append RightArg o.rights (id ∷ [])) ∙ over_joined by o.store params (map RightArg o.rights) p (RightArg id) h.args
      ∙ ap (λ q. over_params by params (map RightArg o.rights) + by q (Some id)) (right_is p no_value)

  -- an output
  output_more : is_write p.mode ≡ true → IsOpened (params ++ p ∷ []) (with_output o p.ty)
  output_more writes =
      let r : ℕ → ℕ = given_reads params o in
      let w : ℕ → ℕ = given_writes params o in
      let f = right_filled o.store scalar.Int r w h.right in
      let none = f.unheld id (not_yet o.store scalar.Int 0 r w f) in
      let one = hits_same id in
      let next = plain_next o.store scalar.Int scalar.Int r w (λ d. r d + hits d id) (λ d. w d + hits d id) (new_datum p.ty) f (new_content p.ty) (param_type p.mode p.ty no_value param) (new_writers p.ty) (no_members p.ty)
      (λ d other. let no_hit = hits_other d id (λ z. other (sym z)) in (omega arith, omega arith)) (omega (arith, none.0)) (omega (arith, none.1)) (omega arith) in
      let right = filled_right (added o.store (new_datum p.ty)) scalar.Int (λ d. r d + hits d id) (λ d. w d + hits d id)
      (added_filling o.store scalar.Int 0 r w f (new_datum p.ty) scalar.Int 0 (λ d. r d + hits d id) (λ d. w d + hits d id) next) in
      let holds : Holds (added o.store (new_datum p.ty)) (record { mode = p.mode; ty = p.ty }) id = record {
        given = omega arith;
        ty = λ x at. ap (λ (y : Datum). y.ty) (sym (same_Some (new_datum p.ty) x (sym (insert_same nat_cmp nat_cmp_total o.store.live id (new_datum p.ty)) ∙ at)));
        closed = λ x at c. absurd (not_closed p.mode writes c);
      } in
      let read : Holds (added o.store (new_datum p.ty)) (record { mode = Ref; ty = p.ty }) id = record { given = holds.given; ty = holds.ty; closed = λ x at c. cc } in
      let others = undisturbed_added o.store scalar.Int 0 r w f (new_datum p.ty) in
      record {
        outputs = subst (λ (rights : List RightType). OutputsFit (added o.store (new_datum p.ty)) rights (o.outputs ++ id ∷ [])) (sym (outputs_one_more params p writes))
            (outputs_joined (added o.store (new_datum p.ty)) (outputs_of params) o.outputs (record { mode = Ref; ty = p.ty }) id (outputs_kept o.store (added o.store (new_datum p.ty)) others (outputs_of params) o.outputs h.outputs) read);
        right = right_same (added o.store (new_datum p.ty)) _ _ (given_reads (params ++ p ∷ []) (with_output o p.ty)) (given_writes (params ++ p ∷ []) (with_output o p.ty)) right (λ d.
            let a = over_more (read_by d) in
            let b = over_more (write_by d) in
            let c = count_joined d o.outputs (id ∷ []) in
            let no_read : read_by d (Some (record { mode = p.mode; ty = p.ty })) (Some id) ≡ 0 = ap (λ b. if b then 0 else hits d id) writes in
            let a_write : write_by d (Some (record { mode = p.mode; ty = p.ty })) (Some id) ≡ hits d id = ap (λ b. if b then hits d id else 0) writes in
            (omega arith, omega arith));
        args = args_more (added o.store (new_datum p.ty)) others holds;
      }

  -- an input
  input_more : (i : Input) → is_write p.mode ≡ false → is_input_of p.ty i ≡ true → IsOpened (params ++ p ∷ []) (with_given o p.ty (Some i))
  input_more i reads fit =
      let g = input_given o.store (given_reads params o) (given_writes params o) h.right i p.ty fit in
      record {
        outputs = subst (λ (rights : List RightType). OutputsFit (with_input o.store p.ty i) rights o.outputs) (sym (outputs_same params p reads)) (outputs_kept o.store (with_input o.store p.ty i) g.others (outputs_of params) o.outputs h.outputs);
        right = right_same (with_input o.store p.ty i) _ _ (given_reads (params ++ p ∷ []) (with_given o p.ty (Some i))) (given_writes (params ++ p ∷ []) (with_given o p.ty (Some i))) g.right (λ d.
            let a = over_more (read_by d) in
            let b = over_more (write_by d) in
            let a_read : read_by d (Some (record { mode = p.mode; ty = p.ty })) (Some id) ≡ hits d id = ap (λ b. if b then 0 else hits d id) reads in
            let no_write : write_by d (Some (record { mode = p.mode; ty = p.ty })) (Some id) ≡ 0 = ap (λ b. if b then hits d id else 0) reads in
            (omega arith, omega arith));
        args = args_more (with_input o.store p.ty i) g.others (g.holds p.mode);
      }

-- each parameter in order
opened_all : (before params : List Param) (inputs : List Input) (o : Opened) → IsOpened before o → list_all is_main_param params ≡ true → AllByRecursion IsParam params
    → length inputs ≡ length (input_params params) → are_inputs_of (input_params params) inputs ≡ true → IsOpened (before ++ params) (opened o params inputs)
opened_all before [] inputs o h main each count fit = subst (λ (ps : List Param). IsOpened ps o) (sym (append-nil before)) h
opened_all before (p ∷ params) inputs o h main each count fit =
    by (is_write p.mode) refl inputs count fit (λ q given k c f. opened_all (before ++ p ∷ []) params given q k (and_parts (is_main_param p) (list_all is_main_param params) main).1 each.1 c f)
  where
    parts : (is_main_param p ≡ true) × (list_all is_main_param params ≡ true)
    parts = and_parts (is_main_param p) (list_all is_main_param params) main

    no_value : is_val p.mode ≡ false
    no_value = not-true _ (and_parts (not (is_val p.mode)) (is_flat p.ty) parts.0).0

    rest_of : (q : Opened) → (rest : List Input) → IsOpened ((before ++ p ∷ []) ++ params) (opened q params rest) → IsOpened (before ++ (p ∷ params)) (opened q params rest)
    rest_of q rest k = subst (λ (ps : List Param). IsOpened ps (opened q params rest)) (append_assoc before (p ∷ []) params) k

    by : (b : Bool) → is_write p.mode ≡ b → (given : List Input) → length given ≡ length (input_params (p ∷ params)) → are_inputs_of (input_params (p ∷ params)) given ≡ true
        → ((q : Opened) (rest : List Input) → IsOpened (before ++ p ∷ []) q → length rest ≡ length (input_params params) → are_inputs_of (input_params params) rest ≡ true → IsOpened ((before ++ p ∷ []) ++ params) (opened q params rest))
        → IsOpened (before ++ (p ∷ params)) (opened o (p ∷ params) given)
    by true writes given count fit all =
        let same : input_params (p ∷ params) ≡ input_params params = rw writes refl in
        let next : opened o (p ∷ params) given ≡ opened (with_output o p.ty) params given = rw writes refl in
        subst (IsOpened (before ++ (p ∷ params))) (sym next) (rest_of (with_output o p.ty) given
        (all (with_output o p.ty) given (output_more before o p h no_value each.0 writes) (count ∙ ap length same) (sym (ap (λ ps. are_inputs_of ps given) same) ∙ fit)))
    by false reads [] count fit all =
        let same : input_params (p ∷ params) ≡ p ∷ input_params params = rw reads refl in
        let none : 0 ≡ length (p ∷ input_params params) = count ∙ ap length same in
        absurd (omega arith)
    by false reads (i ∷ given) count fit all =
        let same : input_params (p ∷ params) ≡ p ∷ input_params params = rw reads refl in
        let next : opened o (p ∷ params) (i ∷ given) ≡ opened (with_given o p.ty (Some i)) params given = rw reads refl in
        let fits = and_parts (is_input_of p.ty i) (are_inputs_of (input_params params) given) (sym (ap (λ ps. are_inputs_of ps (i ∷ given)) same) ∙ fit) in
        let long : length (i ∷ given) ≡ length (p ∷ input_params params) = count ∙ ap length same in
        subst (IsOpened (before ++ (p ∷ params))) (sym next) (rest_of (with_given o p.ty (Some i)) given
        (all (with_given o p.ty (Some i)) given (input_more before o p h no_value each.0 i reads fits.0) (omega arith) fits.1))

nothing_live : (d : ℕ) (x : Datum) → get (empty {X = Datum} {R = nat_cmp}) d ≡ Some x → ⊥
nothing_live d x e = let none : None ≡ Some x = sym (get-empty nat_cmp d) ∙ e in cc

start_opened : IsOpened [] nothing_opened
start_opened = record {
  right = record {
    typed = record {
      contents = λ d x e. absurd (nothing_live d x e);
      nested = record { types = λ d x e. absurd (nothing_live d x e); members = λ c d x y e f some. absurd (nothing_live c x e) };
      fresh = λ d x e. absurd (nothing_live d x e);
    };
    writers = λ d x e. absurd (nothing_live d x e);
    balanced = record { at = λ d. subst (λ (o : Option Datum). BalancedAt o (inside empty d) (0 + 0) 0) (sym (get-empty nat_cmp d)) (total-empty nat_cmp (subscripts_in d), omega arith, refl) };
  };
  args = tt;
  outputs = tt;
}

-- ---- the state

no_frame : (a : Actor) (f : Frame) → get (empty {X = Frame} {R = actor_cmp}) a ≡ Some f → ⊥
no_frame a f e = let none : None ≡ Some f = sym (get-empty actor_cmp a) ∙ e in cc

no_rule : (n : ℕ) (rule : Rule) → get (empty {X = Rule} {R = nat_cmp}) n ≡ Some rule → ⊥
no_rule n rule e = let none : None ≡ Some rule = sym (get-empty nat_cmp n) ∙ e in cc

one_task : (t : Task) (n : ℕ) (u : Task) → get (insert (empty {X = Task} {R = nat_cmp}) 1 t) n ≡ Some u → (n ≡ 1) × (t ≡ u)
one_task t n u at = elim (cases_eq n 1) [
  | inl e ↦ (e, same_Some t u (sym (insert_same nat_cmp nat_cmp_total empty 1 t) ∙ subst (λ (k : ℕ). get (insert (empty {X = Task} {R = nat_cmp}) 1 t) k ≡ Some u) e at))
  | inr e ↦ let none : None ≡ Some u = sym (get-empty nat_cmp n) ∙ (sym (insert_other nat_cmp nat_cmp_total nat_cmp-IsAntisymmetric empty 1 t n e) ∙ at) in cc
]

total_one : (g : Task → ℕ) (t : Task) → total g (insert (empty {X = Task} {R = nat_cmp}) 1 t) ≡ g t
total_one g t =
    let h : total g (insert (empty {X = Task} {R = nat_cmp}) 1 t) + part g None ≡ total g (empty {X = Task} {R = nat_cmp}) + g t = subst (λ o. total g (insert (empty {X = Task} {R = nat_cmp}) 1 t) + part g o ≡ total g (empty {X = Task} {R = nat_cmp}) + g t) (get-empty nat_cmp 1) (total-insert nat_cmp nat_cmp_total g empty 1 t) in
    let z : total g (empty {X = Task} {R = nat_cmp}) ≡ 0 = total-empty nat_cmp g in
    omega arith

module _ (main : Procedure) (others : List Procedure) (typings : Typings) (o : Opened) (h : IsOpened main.params o) where
  numbers_opened : NumbersHeld (opening_of o)
  numbers_opened = record { tasks = λ n u at. (let e = (one_task (main_task o.rights) n u at).0 in omega arith); rules = λ n rule at. absurd (no_rule n rule at) }

  types_opened : TypesHeld (main ∷ others) typings (opening_of o)
  types_opened = record {
    procedures = record {
      frames = λ a f at. absurd (no_frame a f at);
      tasks = λ n u at. (main, subst (λ (v : Task). slice_get (main ∷ others) v.procedure ≡ Some main) (one_task (main_task o.rights) n u at).1 refl);
      rules = λ n rule at. absurd (no_rule n rule at);
    };
    store = h.right.typed;
    values = λ a f p at here. absurd (no_frame a f at);
    rights = λ a f at. absurd (no_frame a f at);
    args = λ n u p at here. args n u p (one_task (main_task o.rights) n u at).1 here;
    rules = λ n rule p at here. absurd (no_rule n rule at);
  }
    where
      args : (n : ℕ) (u : Task) (p : Procedure) → main_task o.rights ≡ u → slice_get (main ∷ others) u.procedure ≡ Some p → ArgsFit o.store p.params u.args
      args n u p e here =
          let same : main ≡ p = same_Some main p (subst (λ (v : Task). slice_get (main ∷ others) v.procedure ≡ Some p) (sym e) here) in
          subst (λ (v : Task). ArgsFit o.store p.params v.args) e (subst (λ (q : Procedure). ArgsFit o.store q.params (map RightArg o.rights)) same h.args)

  counts_opened : CountsHeld (main ∷ others) typings (opening_of o)
  counts_opened = record {
    writers = h.right.writers;
    balanced = balanced_same o.store.live (given_reads main.params o) (given_writes main.params o) _ _ h.right.balanced (λ d.
        let r = total_one (task_reads (main ∷ others) d) (main_task o.rights) in
        let w = total_one (task_writes (main ∷ others) d) (main_task o.rights) in
        let no_r : total (frame_reads typings d) (empty {X = Frame} {R = actor_cmp}) ≡ 0 = total-empty actor_cmp (frame_reads typings d) in
        let no_w : total (frame_writes typings d) (empty {X = Frame} {R = actor_cmp}) ≡ 0 = total-empty actor_cmp (frame_writes typings d) in
        let no_rule_r : total (rule_reads (main ∷ others) d) (empty {X = Rule} {R = nat_cmp}) ≡ 0 = total-empty nat_cmp (rule_reads (main ∷ others) d) in
        let no_rule_w : total (rule_writes (main ∷ others) d) (empty {X = Rule} {R = nat_cmp}) ≡ 0 = total-empty nat_cmp (rule_writes (main ∷ others) d) in
        (omega arith, omega arith));
  }

  budgets_opened : BudgetsHeld (main ∷ others) (opening_of o)
  budgets_opened = record {
    begun = λ a f p at here. absurd (no_frame a f at);
    within = λ a f p budget at here most. absurd (no_frame a f at);
  }

module _ (main : Procedure) (others : List Procedure) (inputs : List Input) (each : AllByRecursion IsParam main.params) (shape : has_main_shape (main ∷ others) ≡ true) (given : AreInputsOf (main ∷ others) inputs) where
  main_opened : IsOpened main.params (opened nothing_opened main.params inputs)
  main_opened =
      let shaped = (and_parts (is_control main.kind) (list_all is_main_param main.params) shape).1 in
      opened_all [] main.params inputs nothing_opened start_opened shaped each (eqb-true (length inputs) (length (input_params main.params)) given.count) given.fit

  pub opening_held : (typings : Typings) → IsHeld (main ∷ others) typings (opening (main ∷ others) inputs)
  unfolding opening
  opening_held typings =
      let o : Opened = opened nothing_opened main.params inputs in
      record {
        numbers = numbers_opened main others typings o main_opened;
        types = types_opened main others typings o main_opened;
        counts = counts_opened main others typings o main_opened;
        notices = opening_named (main ∷ others) inputs;
        budgets = budgets_opened main others typings o main_opened;
      }

  -- no task runs yet
  pub opening_running : AreRunning (opening (main ∷ others) inputs)
  unfolding opening
  opening_running a f at = absurd (no_frame a f at)

  -- the host's outputs
  pub opening_outputs : OutputsFit (opening (main ∷ others) inputs).store (output_rights (main ∷ others)) (opening (main ∷ others) inputs).outputs
  unfolding opening
  opening_outputs = main_opened.outputs
