-- The opening, one parameter after the other.
use Rattle.tw_machine.proofs.Names.{AreBelow, AreInputsOf, Bool, Input, List, None, Procedure, Some, State, [], and_parts, ap, are_inputs_of, arith, cond, drop, false, given_for, has_fitting_inputs, has_input_count, input_next, input_params, is_input_of, length, length-append, none_fit, not, opening_bound, opening_is_small, refl, skips, subst, sym, takes, true, ℕ, ◌*◌, ◌+◌, ◌∙◌, ◌∷◌, ◌≡◌, ◌≤◌}
use Rattle.tw_types.specs.declared.param.Param.{Param}
use Rattle.tw_types.specs.Mode.{is_write}
use Rattle.tw_code.specs.accepting.MainShape.{has_main_shape}
use Rattle.tw_code.specs.format.Program.{IsProgram}
use Rattle.tw_code.specs.machine.Opening.{Opened, main_params, nothing_opened, opened, opening, opening_of, with_given, with_output}
use Rattle.tw_machine.specs.Opening.{rejection_of}
use Rattle.tw_machine.specs.declared.rejection.OpenError.TheVariants.{InputCount, InputType, MainShape}
use Rattle.tw_types.proofs.Elements.{no_items}

-- ---- the loop

-- the first parameters have their data, and these inputs are left for the others
pub record IsBegun (params : List Param) (inputs : List Input) (index : ℕ) (o : Opened) (rest : List Input) : Type 0 where
  pub opened : opened nothing_opened params inputs ≡ opened o (drop index params) rest
  pub fit : are_inputs_of (input_params (drop index params)) rest ≡ true
  pub next : o.store.next ≤ 1001 * index + 1
  pub few : length o.rights ≤ index

module _ (params : List Param) (inputs : List Input) (index : ℕ) (o left : Opened) (rest after : List Input) (p : Param) (here : drop index params ≡ p ∷ drop (index + 1) params) (begun : IsBegun params inputs index o rest) where
  abbrev others : List Param
  others = drop (index + 1) params

  opened_here : opened nothing_opened params inputs ≡ opened o (p ∷ others) rest
  opened_here = begun.opened ∙ ap (λ ps. opened o ps rest) here

  fit_here : are_inputs_of (input_params (p ∷ others)) rest ≡ true
  fit_here = subst (λ (ps : List Param). are_inputs_of (input_params ps) rest ≡ true) here begun.fit

  pub output_begun : is_write p.mode ≡ true → left ≡ with_output o p.ty → after ≡ rest → IsBegun params inputs (index + 1) left after
  output_begun write is same = rw (is, same) (record {
    opened = opened_here ∙ rw write refl;
    fit = ap (λ ps. are_inputs_of ps rest) (sym (skips p others write)) ∙ fit_here;
    next = omega (arith, begun.next);
    few = omega (arith, begun.few, length-append o.rights (o.store.next ∷ []));
  })

  module _ (read : is_write p.mode ≡ false) where
    fit_next : (given : List Input) → rest ≡ given → are_inputs_of (p ∷ input_params others) given ≡ true
    fit_next given e = ap (are_inputs_of (p ∷ input_params others)) (sym e) ∙ ap (λ ps. are_inputs_of ps rest) (sym (takes p others read)) ∙ fit_here

    pub input_begun : (i : Input) → rest ≡ i ∷ after → left ≡ with_given o p.ty (Some i) → IsBegun params inputs (index + 1) left after
    input_begun i given is =
        let both = and_parts (is_input_of p.ty i) (are_inputs_of (input_params others) after) (fit_next (i ∷ after) given) in
        rw is (record {
          opened = opened_here ∙ ap (opened o (p ∷ others)) given ∙ rw read refl;
          fit = both.1;
          next = omega (arith, begun.next, (input_next p.ty (given_for p.ty i) o.store both.0).1);
          few = omega (arith, begun.few, length-append o.rights (o.store.next ∷ []));
        })

    pub nothing_begun : length rest ≡ 0 → left ≡ o → after ≡ rest → IsBegun params inputs (index + 1) left after
    nothing_begun none is same =
        let empty = no_items rest none in
        rw (is, same) (record {
          opened = opened_here ∙ ap (opened o (p ∷ others)) empty ∙ rw read refl ∙ ap (opened o others) (sym empty);
          fit = ap (are_inputs_of (input_params others)) empty ∙ none_fit (input_params others);
          next = omega (arith, begun.next);
          few = omega (arith, begun.few);
        })

-- ---- the checks of an opening

-- if the opening has no error, the inputs are those that main takes
are_inputs : (program : List Procedure) (inputs : List Input) → rejection_of program inputs ≡ None → AreInputsOf program inputs
are_inputs program inputs = by (has_main_shape program) (has_input_count program inputs) (has_fitting_inputs program inputs) refl refl
  where
    by : (a b c : Bool) → has_input_count program inputs ≡ b → has_fitting_inputs program inputs ≡ c
        → cond (not a) (Some MainShape) (cond (not b) (Some InputCount) (cond (not c) (Some InputType) None)) ≡ None → AreInputsOf program inputs
    by true true true count fit e = record { count = count; fit = fit }
    by true true false count fit e = cc
    by true false c count fit e = cc
    by false b c count fit e = cc

module _ (program given : List Procedure) (inputs : List Input) (same : given ≡ program) where
  -- like that, as the code checks and opens
  none_of : None ≡ rejection_of given inputs → rejection_of program inputs ≡ None
  none_of h = ap (λ p. rejection_of p inputs) (sym same) ∙ sym h

  pub is_small : None ≡ rejection_of given inputs → IsProgram program → AreBelow opening_bound (opening program inputs)
  is_small h within = opening_is_small program inputs within (are_inputs program inputs (none_of h))

pub opened_as : (program given : List Procedure) (params : List Param) (inputs : List Input) (state : State) → given ≡ program → params ≡ main_params given
    → state ≡ opening_of (opened nothing_opened params inputs) → state ≡ opening program inputs
unfolding opening
opened_as program given params inputs state same is opens = opens ∙ ap (λ ps. opening_of (opened nothing_opened ps inputs)) (is ∙ ap main_params same)
