-- A program has one first error.
use Rattle.std.proofs.Common.{◌≡◌, ℕ, ◌+◌, ◌<◌, ◌≤◌, ◌⊎◌, inl, inr, true, false, List, length, take, get_or, Some, None, sym, ap, ◌∙◌, subst, arith, ext_get_or}
use Rattle.tw_verify.proofs.VerifierNames.{Instr, IsLowestRejection, IsProcedureRejection, IsStructureRejection, IsTypingRejection, IsWellTyped, Procedure, Typing, cases_lt, flows, same_Some, slice_get, slice_get-get_or, start_typing, structure_rejection_at}
use Rattle.tw_verify.specs.Theorems.{OneFirstRejection}
use Rattle.tw_verify.proofs.Programs.{not_accepted}
use Rattle.tw_verify.proofs.Typings.{agree, well_typed_front}

-- ---- one procedure

structure_once : (code : List Instr) (n m k l : ℕ) → IsStructureRejection code n k → IsStructureRejection code m l → (n ≡ m) × (k ≡ l)
structure_once code n m k l s t = by (cases_lt k l) (cases_lt l k)
  where
    by : (k < l) ⊎ (l ≤ k) → (l < k) ⊎ (k ≤ l) → (n ≡ m) × (k ≡ l)
    by (inl below) _ = let both : None ≡ Some n = sym (t.before k below) ∙ s.here in absurd cc
    by (inr _) (inl below) = let both : None ≡ Some m = sym (s.before l below) ∙ t.here in absurd cc
    by (inr low) (inr high) =
        let same : k ≡ l = omega arith in
        (same_Some n m (sym s.here ∙ ap (structure_rejection_at (flows code)) same ∙ t.here), same)

-- only one list of typings fits up to a place
typings_once : (program : List Procedure) (p : Procedure) (ts us : List Typing) (to : ℕ) → IsWellTyped program p ts to → IsWellTyped program p us to → ts ≡ us
typings_once program p ts us to v w = ext_get_or start ts us (v.long ∙ sym w.long) alike
  where
    start : Typing
    start = start_typing p.params

    alike : (k : ℕ) → k < length ts → get_or ts k start ≡ get_or us k start
    alike k inside = agree program p ts us to to v w k (get_or ts k start) (get_or us k start) (slice_get-get_or ts k start inside) (slice_get-get_or us k start (omega (arith, inside, v.long, w.long)))

-- a longer list that fits has a prefix that fits up to the place, this one included
typed_past : (program : List Procedure) (p : Procedure) (n k to : ℕ) (ts : List Typing) → IsTypingRejection program p n k → IsWellTyped program p ts to → k < to → ⊥
typed_past program p n k to ts s w past = s.none (take (k + 1) ts) (well_typed_front program p ts to (k + 1) w (omega (arith, past)))

typing_once : (program : List Procedure) (p : Procedure) (n m k l : ℕ) → IsTypingRejection program p n k → IsTypingRejection program p m l → (n ≡ m) × (k ≡ l)
typing_once program p n m k l s t = by (cases_lt k l) (cases_lt l k)
  where
    by : (k < l) ⊎ (l ≤ k) → (l < k) ⊎ (k ≤ l) → (n ≡ m) × (k ≡ l)
    by (inl below) _ = absurd (typed_past program p n k l t.typings s t.before below)
    by (inr _) (inl below) = absurd (typed_past program p m l k s.typings t s.before below)
    by (inr low) (inr high) =
        let same : k ≡ l = omega arith in
        let lists = typings_once program p s.typings t.typings l (subst (λ (j : ℕ). IsWellTyped program p s.typings j) same s.before) t.before in
        let here = subst (λ (j : ℕ). IsLowestRejection program p t.typings n j) same (subst (λ (ts : List Typing). IsLowestRejection program p ts n k) lists s.lowest) in
        (omega (arith, here.lowest m t.lowest.rejection, t.lowest.lowest n here.rejection), same)

procedure_once : (program : List Procedure) (p : Procedure) (n m k l : ℕ) → IsProcedureRejection program p n k → IsProcedureRejection program p m l → (n ≡ m) × (k ≡ l)
procedure_once program p n m k l (inl s) (inl t) = structure_once p.code n m k l s t
procedure_once program p n m k l (inl s) (inr (structured, _)) = let both : None ≡ Some n = sym (structured k) ∙ s.here in absurd cc
procedure_once program p n m k l (inr (structured, _)) (inl t) = let both : None ≡ Some m = sym (structured l) ∙ t.here in absurd cc
procedure_once program p n m k l (inr (_, inl s)) (inr (_, inl t)) = typing_once program p n m k l s t
procedure_once program p n m k l (inr (_, inl s)) (inr (_, inr (typable, _))) = absurd (typed_past program p n k (length p.code) typable.0 s typable.1 s.inside)
procedure_once program p n m k l (inr (_, inr (typable, _))) (inr (_, inl t)) = absurd (typed_past program p m l (length p.code) typable.0 t typable.1 t.inside)
procedure_once program p n m k l (inr (_, inr (_, b))) (inr (_, inr (_, c))) = (b.is ∙ sym c.is, b.first ∙ sym c.first)

-- ---- a program

pub one_first_rejection : OneFirstRejection
one_first_rejection program n m j q k l (inl s) (inl t) = (s.is ∙ sym t.is, s.first ∙ sym t.first, s.start ∙ sym t.start)
one_first_rejection program n m j q k l (inl s) (inr t) = let both : true ≡ false = sym t.main ∙ s.shape in absurd cc
one_first_rejection program n m j q k l (inr s) (inl t) = let both : true ≡ false = sym s.main ∙ t.shape in absurd cc
one_first_rejection program n m j q k l (inr s) (inr t) = by (cases_lt j q) (cases_lt q j)
  where
    by : (j < q) ⊎ (q ≤ j) → (q < j) ⊎ (j ≤ q) → (n ≡ m) × (j ≡ q) × (k ≡ l)
    by (inl below) _ = absurd (not_accepted program s.p n k (t.before j s.p below s.here) s.rejection)
    by (inr _) (inl below) = absurd (not_accepted program t.p m l (s.before q t.p below t.here) t.rejection)
    by (inr low) (inr high) =
        let same : j ≡ q = omega arith in
        let one = same_Some s.p t.p (sym s.here ∙ ap (slice_get program) same ∙ t.here) in
        let both = procedure_once program t.p n m k l (subst (λ (p : Procedure). IsProcedureRejection program p n k) one s.rejection) t.rejection in
        (both.0, same, both.1)
