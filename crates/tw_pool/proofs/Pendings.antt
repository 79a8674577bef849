-- Reports of pending rules, one by one: they are the machine's.
use Rattle.tw_pool.proofs.Names.{Arg, ArgMatches, ArgsMatch, Bool, List, None, Param, Procedure, Right, Rule, RuleOf, RulesOf, Some, Stage, [], add-one, ap, append_assoc, arith, bare_arg, bare_rule, cond, drop, drop-cons, entries, entries_mapped, entry_by, erased_arg, erasure, false, flat_map, get, get_or, if◌then◌else◌, inl, inr, is_waiting, length, map, mapped, nat_cmp, nat_cmp_total, pending_of, pending_with_data, refl, right_of, subst, sym, true, waited_at, waited_for, waits_in, written_at, written_by, ℕ, ◌++◌, ◌+◌, ◌<◌, ◌∙◌, ◌∷◌, ◌≡◌, ◌⊎◌}
use Rattle.std.proofs.lemmas.List.{append-nil}
use Rattle.tw_types.specs.declared.param.Mode.{Mode}
use Rattle.tw_types.specs.declared.param.Mode.TheVariants as mode
use Rattle.tw_types.specs.declared.pending.Pending.{Pending}
use Rattle.tw_types.specs.Mode.{is_val, is_write}
use Rattle.tw_types.proofs.Totals.{IsEntry, get_entry}
use Rattle.tw_rights.specs.declared.arg.Arg.TheVariants.{Val, Read, Write}
use Rattle.tw_rules.specs.declared.erased.ErasedArg.{ErasedArg}
use Rattle.tw_store.specs.Slots.{Places}
use Rattle.tw_code.specs.machine.Arguments.{params_of}

-- ---- one argument more

waits_none : (stages : List Stage) → waits_in stages [] ≡ []
waits_none [] = refl
waits_none (s ∷ stages) = refl

pub waits_step : (stages : List Stage) (i : ℕ) (stage : Stage) (rest others : List ErasedArg) (arg : ErasedArg) (ids new whole : List ℕ) → i < length stages → rest ≡ arg ∷ others → new ≡ ids ++ waited_at (get_or stages i stage) arg
    → ids ++ waits_in (drop i stages) rest ≡ whole → new ++ waits_in (drop (i + 1) stages) others ≡ whole
waits_step stages i stage rest others arg ids new whole inside is made before =
    let one = get_or stages i stage in
    let next : drop i stages ≡ one ∷ drop (i + 1) stages = drop-cons stages i stage inside ∙ ap (λ (n : ℕ). one ∷ drop n stages) (sym (add-one i)) in
    ap (λ (t : List ℕ). t ++ waits_in (drop (i + 1) stages) others) made
    ∙ append_assoc ids (waited_at one arg) (waits_in (drop (i + 1) stages) others)
    ∙ ap (λ (ss : List Stage). ids ++ waits_in ss (arg ∷ others)) (sym next)
    ∙ ap (λ (given : List ErasedArg). ids ++ waits_in (drop i stages) given) (sym is)
    ∙ before

pub waits_end : (stages : List Stage) (rest : List ErasedArg) (ids whole : List ℕ) → length rest ≡ 0 → ids ++ waits_in stages rest ≡ whole → ids ≡ whole
waits_end stages [] ids whole none before = sym (append-nil ids) ∙ ap (λ (t : List ℕ). ids ++ t) (sym (waits_none stages)) ∙ before
waits_end stages (arg ∷ rest) ids whole none before = absurd (omega (arith, none))

-- ---- one rule

waits_are : (stages : List Stage) (args : List Arg) → waits_in stages (map erased_arg args) ≡ waited_for stages (map bare_arg args)
waits_are [] args = refl
waits_are (stage ∷ stages) [] = refl
waits_are (stage ∷ stages) (Val value ∷ args) = waits_are stages args
waits_are (stage ∷ stages) (Read right ∷ args) = by (is_waiting stage) (waits_are stages args)
  where
    by : (b : Bool) → waits_in stages (map erased_arg args) ≡ waited_for stages (map bare_arg args) → cond b (right.id ∷ []) [] ++ waits_in stages (map erased_arg args) ≡ cond b (right.id ∷ waited_for stages (map bare_arg args)) (waited_for stages (map bare_arg args))
    by true rest = ap (λ (ids : List ℕ). right.id ∷ ids) rest
    by false rest = rest
waits_are (stage ∷ stages) (Write right ∷ args) = by (is_waiting stage) (waits_are stages args)
  where
    by : (b : Bool) → waits_in stages (map erased_arg args) ≡ waited_for stages (map bare_arg args) → cond b (right.id ∷ []) [] ++ waits_in stages (map erased_arg args) ≡ cond b (right.id ∷ waited_for stages (map bare_arg args)) (waited_for stages (map bare_arg args))
    by true rest = ap (λ (ids : List ℕ). right.id ∷ ids) rest
    by false rest = rest

-- a right is one to write exactly where its parameter says so
read_mode : (places : Places) (p : Param) (right : Right) → ArgMatches places (right_of p) (Read right) → is_write p.mode ≡ false
read_mode places p right fits_place = by p.mode fits_place
  where
    by : (m : Mode) → ArgMatches places (if is_val m then None else Some (record { mode = m; ty = p.ty })) (Read right) → is_write m ≡ false
    by mode.Val s = absurd s
    by mode.Closed s = refl
    by mode.Ref s = refl
    by mode.Write s = s.0

write_mode : (places : Places) (p : Param) (right : Right) → ArgMatches places (right_of p) (Write right) → is_write p.mode ≡ true
write_mode places p right fits_place = by p.mode fits_place
  where
    by : (m : Mode) → ArgMatches places (if is_val m then None else Some (record { mode = m; ty = p.ty })) (Write right) → is_write m ≡ true
    by mode.Val s = absurd s
    by mode.Closed s = s.0
    by mode.Ref s = s.0
    by mode.Write s = refl

writes_are : (places : Places) (params : List Param) (args : List Arg) → ArgsMatch places params args → flat_map written_at (map erased_arg args) ≡ written_by params (map bare_arg args)
writes_are places [] [] rights_fit = refl
writes_are places [] (arg ∷ args) rights_fit = absurd rights_fit
writes_are places (p ∷ params) [] rights_fit = absurd rights_fit
writes_are places (p ∷ params) (Val value ∷ args) rights_fit = writes_are places params args rights_fit.1
writes_are places (p ∷ params) (Read right ∷ args) rights_fit =
    writes_are places params args rights_fit.1 ∙ ap (λ (b : Bool). cond b (right.id ∷ written_by params (map bare_arg args)) (written_by params (map bare_arg args))) (sym (read_mode places p right rights_fit.0))
writes_are places (p ∷ params) (Write right ∷ args) rights_fit =
    ap (λ (ids : List ℕ). right.id ∷ ids) (writes_are places params args rights_fit.1)
    ∙ ap (λ (b : Bool). cond b (right.id ∷ written_by params (map bare_arg args)) (written_by params (map bare_arg args))) (sym (write_mode places p right rights_fit.0))

one_is : (program : List Procedure) (places : Places) (e : ℕ × RuleOf Arg) → ArgsMatch places (params_of program e.1.procedure) e.1.args → pending_with_data (erasure e) ≡ pending_of program (entry_by bare_rule e)
one_is program places e rights_fit = λ i. record { number = e.0; waits = waits_are e.1.stages e.1.args i; writes = writes_are places (params_of program e.1.procedure) e.1.args rights_fit i }

-- ---- all of them

all_are : (program : List Procedure) (places : Places) (es : List (ℕ × RuleOf Arg)) → ((e : ℕ × RuleOf Arg) → IsEntry e es → ArgsMatch places (params_of program e.1.procedure) e.1.args)
    → map pending_with_data (map erasure es) ≡ map (pending_of program) (map (entry_by bare_rule) es)
all_are program places [] rights_fit = refl
all_are program places (e ∷ es) rights_fit =
    ap (λ (p : Pending). p ∷ map pending_with_data (map erasure es)) (one_is program places e (rights_fit e (inl refl)))
    ∙ ap (λ (ps : List Pending). pending_of program (entry_by bare_rule e) ∷ ps) (all_are program places es (λ f is. rights_fit f (inr is)))

pub pending_is : (program : List Procedure) (places : Places) (rules : RulesOf Arg) → ((number : ℕ) (r : RuleOf Arg) → get rules number ≡ Some r → ArgsMatch places (params_of program r.procedure) r.args)
    → map pending_with_data (map erasure (entries rules)) ≡ map (pending_of program) (entries (mapped bare_rule rules))
pending_is program places rules rights_fit =
    all_are program places (entries rules) (λ e is. rights_fit e.0 e.1 (get_entry nat_cmp nat_cmp_total rules e is)) ∙ ap (map (pending_of program)) (sym (entries_mapped bare_rule rules))
