-- Errors at a place, and lists of typings extended by one place without an error.
use Rattle.std.proofs.Common.{◌≡◌, ℕ, ◌+◌, ◌<◌, ◌≤◌, ◌⊎◌, inl, inr, Bool, true, false, List, [], ◌∷◌, ◌++◌, length, length-append, get_or, Option, Some, None, refl, sym, ap, ◌∙◌, subst, arith}
use Rattle.tw_verify.proofs.VerifierNames.{Brings, Completed, HasChanged, Instr, IsEndOf, IsReached, IsRejectionAt, IsTypingRejection, IsWellTyped, LeadsTo, Procedure, Reached, Skipped, Typing, Way, after, cases_lt, flow_of, lowest_at, onward, rejection_in, requires_at, same_Some, slice_get, slice_get-get_or, slice_get_within, start_typing}
use Rattle.tw_verify.proofs.Lists.{get_pushed}
use Rattle.tw_verify.proofs.Causes.{IsCause, cause_at, least_at}
use Rattle.tw_verify.proofs.Places.{loop_within}
use Rattle.tw_verify.proofs.Reaching.{outcome_number, HasReached, IsRow}
use Rattle.tw_verify.proofs.Typings.{onward_later, agree, brought_typing, reached_typing, reached_same}

-- an outcome of a place before another one comes before the outcomes of that
pub early_outcome : (before place : ℕ) (way : Way) → before < place → outcome_number before way < place + place
early_outcome before place Completed h = omega arith
early_outcome before place Skipped h = omega arith

-- ---- nothing is wrong

-- there are no typings before the first place
pub none_typed : (program : List Procedure) (p : Procedure) → IsWellTyped program p [] 0
none_typed program p = record {
  long = refl;
  begins = λ t at. cc;
  asks = λ k i t here at. cc;
  later = λ k next i way t left here at goes there. cc;
  loops = λ k first t begun end at there. cc;
  entered = λ k some inside. absurd (omega arith);
}

-- one place more
pub typed_more : (program : List Procedure) (p : Procedure) (typings : List Typing) (place : ℕ) (r : Reached) (i : Instr) → IsWellTyped program p typings place → HasReached program p typings (place + place) place r → slice_get p.code place ≡ Some i
    → rejection_in (requires_at program p place i r.typing) ≡ None → r.differs ≡ false → ((first : ℕ) (begun : Typing) → IsEndOf p.code first place → slice_get typings first ≡ Some begun → r.typing ≡ begun)
    → IsWellTyped program p (typings ++ r.typing ∷ []) (place + 1)
typed_more program p typings place r i w h here fine alike kept = record {
  long = omega (arith, length-append typings (r.typing ∷ []), w.long);
  begins = λ u at. begins u h.first (get_pushed typings r.typing place 0 u w.long at);
  asks = λ k j u there at. asks k j u there (get_pushed typings r.typing place k u w.long at);
  later = λ k next j way u v there at goes beyond. later k next j way u v there goes (get_pushed typings r.typing place k u w.long at) (get_pushed typings r.typing place next v w.long beyond);
  loops = λ k first u begun end at there. loops k first u begun end (get_pushed typings r.typing place k u w.long at) (get_pushed typings r.typing place first begun w.long there);
  entered = λ k some inside. entered k some inside h.first (cases_lt k place);
}
  where
    t : Typing
    t = r.typing

    begins : (u : Typing) → IsReached program p typings place t → ((0 < place) × (slice_get typings 0 ≡ Some u)) ⊎ ((0 ≡ place) × (u ≡ t)) → u ≡ start_typing p.params
    begins u f (inl (some, at)) = w.begins u at
    begins u (inl (start, is)) (inr (first, same)) = same ∙ is
    begins u (inr (before, f)) (inr (first, same)) = absurd (omega (arith, f.brings.step.earlier))

    asks : (k : ℕ) (j : Instr) (u : Typing) → slice_get p.code k ≡ Some j → ((k < place) × (slice_get typings k ≡ Some u)) ⊎ ((k ≡ place) × (u ≡ t)) → rejection_in (requires_at program p k j u) ≡ None
    asks k j u there (inl (before, at)) = w.asks k j u there at
    asks k j u there (inr (same, is)) =
        let same_instr = same_Some j i (sym there ∙ ap (slice_get p.code) same ∙ here) in
        ap (λ (n : ℕ). rejection_in (requires_at program p n j u)) same ∙ ap (λ (x : Instr). rejection_in (requires_at program p place x u)) same_instr ∙ ap (λ (x : Typing). rejection_in (requires_at program p place i x)) is ∙ fine

    later : (k next : ℕ) (j : Instr) (way : Way) (u v : Typing) → slice_get p.code k ≡ Some j → onward way k (flow_of j) ≡ Some next
        → ((k < place) × (slice_get typings k ≡ Some u)) ⊎ ((k ≡ place) × (u ≡ t)) → ((next < place) × (slice_get typings next ≡ Some v)) ⊎ ((next ≡ place) × (v ≡ t)) → v ≡ after program way j u
    later k next j way u v there goes (inl (before, at)) (inl (inside, beyond)) = w.later k next j way u v there at goes beyond
    later k next j way u v there goes (inl (before, at)) (inr (last, is)) =
        let brings : Brings program p typings k place (after program way j u) = record { step = record { earlier = before; instr = j; here = there; way = way; goes_on = goes ∙ ap Some last }; from = u; there = at; is = refl } in
        is ∙ sym (h.same alike k (after program way j u) brings (early_outcome k place way before))
    later k next j way u v there goes (inr (same, was)) (inl (inside, beyond)) = absurd (omega (arith, onward_later way k (flow_of j) next goes))
    later k next j way u v there goes (inr (same, was)) (inr (last, is)) = absurd (omega (arith, onward_later way k (flow_of j) next goes))

    loops : (k first : ℕ) (u begun : Typing) → IsEndOf p.code first k → ((k < place) × (slice_get typings k ≡ Some u)) ⊎ ((k ≡ place) × (u ≡ t)) → ((first < place) × (slice_get typings first ≡ Some begun)) ⊎ ((first ≡ place) × (begun ≡ t)) → u ≡ begun
    loops k first u begun end (inl (before, at)) (inl (inside, there)) = w.loops k first u begun end at there
    loops k first u begun end (inl (before, at)) (inr (last, is)) = absurd (omega (arith, (loop_within p.code first k end).1))
    loops k first u begun end (inr (same, was)) (inl (inside, there)) = was ∙ kept first begun (subst (λ (n : ℕ). IsEndOf p.code first n) same end) there
    loops k first u begun end (inr (same, was)) (inr (last, is)) = was ∙ sym is

    entered : (k : ℕ) → 0 < k → k < place + 1 → IsReached program p typings place t → (k < place) ⊎ (place ≤ k) → (before : ℕ) × LeadsTo p.code before k
    entered k some inside f (inl below) = w.entered k some below
    entered k some inside (inl (start, is)) (inr above) = absurd (omega arith)
    entered k some inside (inr (before, f)) (inr above) =
        let same : place ≡ k = omega arith in
        (before, subst (λ (n : ℕ). LeadsTo p.code before n) same f.brings.step)

-- ---- V09

-- a place that nothing leads to
pub unreached : (program : List Procedure) (p : Procedure) (typings : List Typing) (place : ℕ) → IsWellTyped program p typings place → IsRow program p typings (place + place) place None → place < length p.code → IsTypingRejection program p 9 place
unreached program p typings place w (some, none) inside = record {
  inside = inside;
  typings = typings;
  before = w;
  none = λ others v. let entry = v.entered place some (omega arith) in never entry.0 entry.1;
  lowest = record { rejection = inl (record { is = refl; later = some; never = never }); lowest = lowest };
}
  where
    never : (before : ℕ) → LeadsTo p.code before place → ⊥
    never before step = none before step (early_outcome before place step.way step.earlier)

    no_way : (t : Typing) → IsReached program p typings place t → ⊥
    no_way t (inl (start, is)) = absurd (omega arith)
    no_way t (inr (before, f)) = never before f.brings.step

    lowest : (other : ℕ) → IsRejectionAt program p typings other place → 9 ≤ other
    lowest other (inl u) = omega (arith, u.is)
    lowest other (inr (inl a)) = absurd (no_way a.typing a.reached)
    lowest other (inr (inr (inl d))) = absurd (no_way d.typing d.reached)
    lowest other (inr (inr (inr e))) = absurd (no_way e.typing e.reached)

-- ---- the other numbers

-- a test that isn't false
not_false : (b : Bool) → (b ≡ false → ⊥) → b ≡ true
not_false true h = refl
not_false false h = absurd (h refl)

-- a place that is reached and has an error
pub rejection_at : (program : List Procedure) (p : Procedure) (typings : List Typing) (place number : ℕ) (r : Reached) (i : Instr) (changed : Bool) → IsWellTyped program p typings place → HasReached program p typings (place + place) place r → slice_get p.code place ≡ Some i
    → (changed ≡ true → HasChanged p.code typings place r.typing) → ((first : ℕ) (begun : Typing) → changed ≡ false → IsEndOf p.code first place → slice_get typings first ≡ Some begun → r.typing ≡ begun)
    → lowest_at (rejection_in (requires_at program p place i r.typing)) r.differs changed ≡ Some number → IsTypingRejection program p number place
rejection_at program p typings place number r i changed w h here has kept is = record {
  inside = slice_get_within p.code place i here;
  typings = typings;
  before = w;
  none = λ others v. none others v cause;
  lowest = record { rejection = rejection cause; lowest = lowest };
}
  where
    own : Option ℕ
    own = rejection_in (requires_at program p place i r.typing)

    cause : IsCause own r.differs changed number
    cause = cause_at own r.differs changed number is

    rejection : IsCause own r.differs changed number → IsRejectionAt program p typings number place
    rejection (inl e) = inr (inl (record { typing = r.typing; reached = h.first; instr = i; here = here; vain = e }))
    rejection (inr (inl (e, seven))) = let o = h.another e in inr (inr (inl (record { is = seven; typing = r.typing; reached = h.first; before = o.0; other = o.1; brings = o.2; differs = o.3 })))
    rejection (inr (inr (e, eight))) = let o = has e in inr (inr (inr (record { is = eight; typing = r.typing; reached = h.first; first = o.first; end = o.end; begun = o.begun; there = o.there; differs = o.differs })))

    none : (others : List Typing) → IsWellTyped program p others (place + 1) → IsCause own r.differs changed number → ⊥
    none others v why = by why
      where
        u : Typing
        u = get_or others place r.typing

        at : slice_get others place ≡ Some u
        at = slice_get-get_or others place r.typing (omega (arith, v.long))

        same : u ≡ r.typing
        same = reached_typing program p typings others place (place + 1) place r.typing u w h.first v at

        by : IsCause own r.differs changed number → ⊥
        by (inl e) =
            let both : Some number ≡ None = sym e ∙ ap (λ (x : Typing). rejection_in (requires_at program p place i x)) (sym same) ∙ v.asks place i u here at in
            cc
        by (inr (inl (e, seven))) =
            let o = h.another e in
            o.3 (sym (brought_typing program p typings others place (place + 1) o.0 place o.1 u w o.2 v at) ∙ same)
        by (inr (inr (e, eight))) =
            let o = has e in
            let begun = get_or others o.first r.typing in
            let inside = slice_get_within typings o.first o.begun o.there in
            let there = slice_get-get_or others o.first r.typing (omega (arith, inside, v.long, w.long)) in
            let equal = agree program p others typings (place + 1) place v w o.first begun o.begun there o.there in
            o.differs (sym same ∙ v.loops place o.first u begun o.end at there ∙ equal)

    least : ((m : ℕ) → own ≡ Some m → number ≤ m) × (r.differs ≡ true → number ≤ 7) × (changed ≡ true → number ≤ 8)
    least = least_at own r.differs changed number is

    lowest : (other : ℕ) → IsRejectionAt program p typings other place → number ≤ other
    lowest other (inl u) = absurd (reached_by h.first)
      where
        reached_by : IsReached program p typings place r.typing → ⊥
        reached_by (inl (start, was)) = absurd (omega (arith, u.later))
        reached_by (inr (before, f)) = u.never before f.brings.step
    lowest other (inr (inl a)) =
        let same = reached_same program p typings place a.typing r.typing a.reached h.first in
        let instr = same_Some a.instr i (sym a.here ∙ here) in
        least.0 other (sym (ap (λ (x : Instr). rejection_in (requires_at program p place x a.typing)) instr ∙ ap (λ (x : Typing). rejection_in (requires_at program p place i x)) same) ∙ a.vain)
    lowest other (inr (inr (inl d))) =
        let same = reached_same program p typings place d.typing r.typing d.reached h.first in
        let differs : r.differs ≡ true = not_false r.differs (λ e. d.differs (h.same e d.before d.other d.brings (early_outcome d.before place d.brings.step.way d.brings.step.earlier) ∙ sym same)) in
        let seven = least.1 differs in
        omega (arith, d.is)
    lowest other (inr (inr (inr e))) =
        let same = reached_same program p typings place e.typing r.typing e.reached h.first in
        let changes : changed ≡ true = not_false changed (λ f. e.differs (same ∙ kept e.first e.begun f e.end e.there)) in
        let eight = least.2 changes in
        omega (arith, e.is)
