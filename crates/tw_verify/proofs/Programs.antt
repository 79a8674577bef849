-- Accepted programs have no first error.
use Rattle.std.proofs.Common.{◌≡◌, ◌≢◌, ℕ, ◌+◌, ◌<◌, ◌≤◌, ◌⊎◌, inl, inr, true, false, List, [], ◌∷◌, ◌++◌, length, length-append, take, get_or, Option, Some, None, refl, sym, ap, ◌∙◌, subst, arith}
use Rattle.tw_verify.proofs.VerifierNames.{AreFindings, AreTyped, Findings, IfFault, IsAccepted, IsAcceptedProcedure, IsFirstRejection, IsProcedureRejection, IsRejection, IsSomeAnd, IsTyped, Procedure, greatest_budget, is_memory, rejection_of, same_Some, slice_get, slice_get-get_or, slice_get_within, verify_error_code}
use Rattle.tw_code.specs.accepting.MainShape.{has_main_shape}
use Rattle.tw_verify.specs.declared.rejection.VerifyError.{VerifyError}
use Rattle.tw_verify.specs.declared.rejection.VerifyError.TheVariants as rejection
use Rattle.tw_verify.specs.declared.fault.Fault.{Fault}
use Rattle.tw_verify.proofs.Lists.{get_none, get_pushed}
use Rattle.tw_verify.proofs.Typings.{well_typed_front}

-- ---- typed programs are accepted

pub accepted_one : (program : List Procedure) (all : List Findings) (to k : ℕ) (p : Procedure) → AreTyped program all to → k < to → slice_get program k ≡ Some p → IsAcceptedProcedure program p
accepted_one program all to k p t below at =
    let blank : Findings = record { typings = []; budget = 0; quick = []; slow = false } in
    let own = get_or all k blank in
    let a = t.each k p own at (slice_get-get_or all k blank (omega (arith, t.long))) in
    record { structured = a.structured; typable = (own.typings, a.well_typed); budget = (own.budget, a.budget, a.within) }

pub accepted : (program : List Procedure) (all : List Findings) → IsTyped program all → IsAccepted program
accepted program all t = record {
  main = t.main;
  each = λ k p at. accepted_one program all (length program) k p t.each (slice_get_within program k p at) at;
}

-- a procedure has what its findings say of it
pub found_of : (P : Procedure → Type 0) (program : List Procedure) (all : List Findings) (k : ℕ) (own : Findings) → ((p : Procedure) → AreFindings program p own → P p)
    → AreTyped program all (length program) → k < length program → slice_get all k ≡ Some own → IsSomeAnd (slice_get program k) P
found_of P program all k own says t inside at = by (slice_get program k) refl
  where
    by : (o : Option Procedure) → slice_get program k ≡ o → IsSomeAnd o P
    by None none = absurd (omega (arith, get_none program k none))
    by (Some p) here = says p (t.each k p own here at)

pub budget_within : (program : List Procedure) (all : List Findings) (k : ℕ) (own : Findings) → AreTyped program all (length program) → k < length program → slice_get all k ≡ Some own → own.budget ≤ greatest_budget
budget_within program all k own t inside at = by (slice_get program k) refl
  where
    by : (o : Option Procedure) → slice_get program k ≡ o → own.budget ≤ greatest_budget
    by None none = absurd (omega (arith, get_none program k none))
    by (Some p) here = (t.each k p own here at).within

-- ---- and aren't refused

pub not_accepted : (program : List Procedure) (p : Procedure) (number place : ℕ) → IsAcceptedProcedure program p → IsProcedureRejection program p number place → ⊥
not_accepted program p number place own (inl s) = let both : None ≡ Some number = sym (own.structured place) ∙ s.here in cc
not_accepted program p number place own (inr (s, inl t)) = t.none (take (place + 1) own.typable.0) (well_typed_front program p own.typable.0 (length p.code) (place + 1) own.typable.1 (omega (arith, t.inside)))
not_accepted program p number place own (inr (s, inr (t, b))) =
    let over = b.over in
    let walk = over.2 in
    let most = own.budget.1.most walk.0 walk.1 in
    absurd (omega (arith, over.1, walk.2, most, own.budget.2))

pub not_both : (program : List Procedure) (number procedure place : ℕ) → IsAccepted program → IsFirstRejection program number procedure place → ⊥
not_both program number procedure place a (inl r) = let both : true ≡ false = sym a.main ∙ r.shape in cc
not_both program number procedure place a (inr r) = not_accepted program r.p number place (a.each procedure r.p r.here) r.rejection

which : (cause : VerifyError) → (cause ≡ rejection.NoMemory) ⊎ (cause ≢ rejection.NoMemory)
which rejection.NoMemory = inl refl
which _ = inr (λ e. cc)

pub rejection_is_memory : (program : List Procedure) (cause : VerifyError) (procedure place : ℕ) → IsRejection program cause procedure place → IsAccepted program → cause ≡ rejection.NoMemory
rejection_is_memory program cause procedure place r a = by (which cause)
  where
    by : (cause ≡ rejection.NoMemory) ⊎ (cause ≢ rejection.NoMemory) → cause ≡ rejection.NoMemory
    by (inl is) = is
    by (inr other) = absurd (not_both program (verify_error_code cause) procedure place a (r.first other))

-- ---- a procedure that is refused refuses its program

memory_by : (cause : VerifyError) → (cause ≡ rejection.NoMemory) ⊎ (is_memory cause ≡ false)
memory_by rejection.NoMemory = inl refl
memory_by _ = inr refl

pub rejection_by : (program : List Procedure) (all : List Findings) (number : ℕ) (p : Procedure) (stop : Fault) → has_main_shape program ≡ true → AreTyped program all number → slice_get program number ≡ Some p → IfFault stop (IsProcedureRejection program p)
    → IsRejection program (rejection_of number stop).no (rejection_of number stop).procedure (rejection_of number stop).place
rejection_by program all number p stop main t at h = by (memory_by stop.no)
  where
    by : (stop.no ≡ rejection.NoMemory) ⊎ (is_memory stop.no ≡ false) → IsRejection program (rejection_of number stop).no (rejection_of number stop).procedure (rejection_of number stop).place
    by (inl is) = rw is (record { first = λ other. absurd (other refl); memory = λ same. (refl, refl) })
    by (inr other) = rw other (record {
      first = λ differs. inr (record { main = main; before = λ k q below here. accepted_one program all number k q t below here; p = p; here = at; rejection = h other });
      memory = λ same. let both : true ≡ false = sym (ap is_memory same) ∙ other in cc;
    })

-- ---- one procedure more

pub accepted_more : (program : List Procedure) (all : List Findings) (number : ℕ) (p : Procedure) (own : Findings) → AreTyped program all number → slice_get program number ≡ Some p → AreFindings program p own → AreTyped program (all ++ own ∷ []) (number + 1)
accepted_more program all number p own t here a = record {
  long = omega (arith, length-append all (own ∷ []), t.long);
  each = λ k q found at there. each k q found at (get_pushed all own number k found t.long there);
}
  where
    each : (k : ℕ) (q : Procedure) (found : Findings) → slice_get program k ≡ Some q → ((k < number) × (slice_get all k ≡ Some found)) ⊎ ((k ≡ number) × (found ≡ own)) → AreFindings program q found
    each k q found at (inl (before, there)) = t.each k q found at there
    each k q found at (inr (is, same)) =
        subst (λ (r : Procedure). AreFindings program r found) (same_Some p q (sym here ∙ ap (slice_get program) (sym is) ∙ at))
        (subst (λ (f : Findings). AreFindings program p f) (sym same) a)
