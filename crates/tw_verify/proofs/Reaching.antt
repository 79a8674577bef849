-- The typings that reach places, outcome by outcome.
use Rattle.std.proofs.Common.{◌≡◌, ◌≢◌, ℕ, zero, suc, ◌+◌, ◌<◌, ◌≤◌, ◌==◌, ◌⊎◌, inl, inr, Bool, true, false, not, ◌||◌, List, [], ◌∷◌, ◌++◌, length, drop, take, get_or, Option, Some, None, refl, sym, ap, ◌∙◌, subst, arith}
use Rattle.tw_verify.proofs.VerifierNames.{Brings, Completed, Instr, IsReached, LeadsTo, Procedure, Reached, RightType, Skipped, Typing, Way, after, and_parts, append-nil, cases_lt, drop_of_length-le, eqb-false, eqb-true, first_row, flow_of, if◌then◌else◌, is_place, noted, onward, option_eq, same_Some, same_type, sent, slice_get, slice_get-get_or, slice_get_within, start_typing, take-length}
use Rattle.std.specs.Bool.{Decides}
use Rattle.std.proofs.lemmas.Slice.Eq.{slice_eq-Decides}
use Rattle.tw_types.specs.declared.param.Mode.{Mode}
use Rattle.tw_types.specs.declared.param.Mode.TheVariants.{Val, Closed, Ref, Write}
use Rattle.tw_types.specs.Nesting.{NestedScalar}
use Rattle.tw_verify.specs.Same.{mode_rank, same_right, same_typing}
use Rattle.tw_verify.proofs.Lists.{get_front, get_last}
use Rattle.tw_types.proofs.SameTypes.{same_types, type_itself}
use Rattle.tw_verify.proofs.Typings.{onward_later}

-- ---- equal typings

same_mode : (a b : Mode) → (mode_rank a == mode_rank b) ≡ true → a ≡ b
same_mode Val Val h = refl
same_mode Val Closed h = cc
same_mode Val Ref h = cc
same_mode Val Write h = cc
same_mode Closed Val h = cc
same_mode Closed Closed h = refl
same_mode Closed Ref h = cc
same_mode Closed Write h = cc
same_mode Ref Val h = cc
same_mode Ref Closed h = cc
same_mode Ref Ref h = refl
same_mode Ref Write h = cc
same_mode Write Val h = cc
same_mode Write Closed h = cc
same_mode Write Ref h = cc
same_mode Write Write h = refl

own_mode : (a : Mode) → (mode_rank a == mode_rank a) ≡ true
own_mode Val = refl
own_mode Closed = refl
own_mode Ref = refl
own_mode Write = refl

right_decides : (a b : RightType) → Decides (same_right a b) (a ≡ b)
right_decides a b = (same, λ e. subst (λ (x : RightType). same_right a x ≡ true) e own)
  where
    same : same_right a b ≡ true → a ≡ b
    same h =
        let both = and_parts (mode_rank a.mode == mode_rank b.mode) (same_type a.ty b.ty) h in
        ap (λ (m : Mode). record { mode = m; ty = a.ty }) (same_mode a.mode b.mode both.0)
        ∙ ap (λ (t : NestedScalar). record { mode = b.mode; ty = t }) (same_types a.ty b.ty both.1)

    own : same_right a a ≡ true
    own = rw (own_mode a.mode) (type_itself a.ty)

slot_decides : (a b : Option RightType) → Decides (option_eq same_right a b) (a ≡ b)
slot_decides None None = (λ _. refl, λ _. refl)
slot_decides None (Some b) = (λ h. cc, λ h. cc)
slot_decides (Some a) None = (λ h. cc, λ h. cc)
slot_decides (Some a) (Some b) = (λ h. ap Some ((right_decides a b).0 h), λ h. (right_decides a b).1 (same_Some a b h))

pub typing_decides : (a b : Typing) → Decides (same_typing a b) (a ≡ b)
typing_decides a b = slice_eq-Decides slot_decides a b (same_typing a b) refl

-- ---- the outcomes in the order in which they are looked at

abbrev pub outcome_number : ℕ → Way → ℕ
outcome_number place Completed = place + place
outcome_number place Skipped = suc (place + place)

never_odd : (a b : ℕ) → a + a ≡ suc (b + b) → ⊥
never_odd zero b h = absurd (omega arith)
never_odd (suc a) zero h = absurd (omega arith)
never_odd (suc a) (suc b) h = never_odd a b (omega arith)

same_outcome : (a b : ℕ) (v w : Way) → outcome_number a v ≡ outcome_number b w → (a ≡ b) × (v ≡ w)
same_outcome a b Completed Completed h = (omega arith, refl)
same_outcome a b Completed Skipped h = absurd (never_odd a b h)
same_outcome a b Skipped Completed h = absurd (never_odd b a (sym h))
same_outcome a b Skipped Skipped h = (omega arith, refl)

earlier_outcome : (a b : ℕ) (v w : Way) → a < b → outcome_number a v < outcome_number b w
earlier_outcome a b Completed Completed h = omega arith
earlier_outcome a b Completed Skipped h = omega arith
earlier_outcome a b Skipped Completed h = omega arith
earlier_outcome a b Skipped Skipped h = omega arith

-- ---- rows

-- what has reached a place by the first outcomes
pub record HasReached (program : List Procedure) (p : Procedure) (typings : List Typing) (number place : ℕ) (r : Reached) : Type 0 where
  pub first : IsReached program p typings place r.typing
  pub same : r.differs ≡ false → (before : ℕ) (other : Typing) (b : Brings program p typings before place other) → outcome_number before b.step.way < number → other ≡ r.typing
  pub another : r.differs ≡ true → (before : ℕ) × (other : Typing) × Brings program p typings before place other × (other ≢ r.typing)

abbrev pub IsRow : List Procedure → Procedure → List Typing → ℕ → ℕ → Option Reached → Type 0
IsRow program p typings number place (Some r) = HasReached program p typings number place r
IsRow program p typings number place None = (0 < place) × ((before : ℕ) (step : LeadsTo p.code before place) → outcome_number before step.way < number → ⊥)

pub start_row : (program : List Procedure) (p : Procedure) (place : ℕ) → IsRow program p [] 0 place (first_row (start_typing p.params) place)
start_row program p place = by (place == 0) refl
  where
    by : (b : Bool) → (place == 0) ≡ b → IsRow program p [] 0 place (if b then Some (record { typing = start_typing p.params; differs = false }) else None)
    by true e = record {
      first = inl (eqb-true place 0 e, refl);
      same = λ d before other b below. absurd (omega arith);
      another = λ d. cc;
    }
    by false e = (omega (arith, eqb-false place 0 e), λ before step below. absurd (omega arith))

-- ---- a list that grows

brings_more : (program : List Procedure) (p : Procedure) (ts us : List Typing) (before place : ℕ) (t : Typing) → Brings program p ts before place t → Brings program p (ts ++ us) before place t
brings_more program p ts us before place t b = record {
  step = b.step;
  from = b.from;
  there = get_front ts us before (slice_get_within ts before b.from b.there) ∙ b.there;
  is = b.is;
}

reached_more : (program : List Procedure) (p : Procedure) (ts us : List Typing) (place : ℕ) (t : Typing) → IsReached program p ts place t → IsReached program p (ts ++ us) place t
unfolding brings_more
reached_more program p ts us place t (inl start) = inl start
reached_more program p ts us place t (inr (before, f)) = inr (before, record { brings = brings_more program p ts us before place t f.brings; least = f.least; done = f.done })

pub row_more : (program : List Procedure) (p : Procedure) (ts us : List Typing) (n place : ℕ) (row : Option Reached) → length ts ≡ n → IsRow program p ts (n + n) place row → IsRow program p (ts ++ us) (n + n) place row
row_more program p ts us n place None long h = h
row_more program p ts us n place (Some r) long h = record {
  first = reached_more program p ts us place r.typing h.first;
  same = λ e before other b below. h.same e before other (record { step = b.step; from = b.from; there = sym (get_front ts us before (omega (arith, long, early before b.step.way below))) ∙ b.there; is = b.is }) below;
  another = λ e. let o = h.another e in (o.0, o.1, brings_more program p ts us o.0 place o.1 o.2, o.3);
}
  where
    early : (before : ℕ) (way : Way) → outcome_number before way < n + n → before < n
    early before Completed below = omega arith
    early before Skipped below = omega arith

-- ---- one outcome more

-- a step before the next outcome is before this one, or is this one
newest : (code : List Instr) (before place next number : ℕ) (way : Way) (i : Instr) (step : LeadsTo code before next) → number ≡ outcome_number place way → slice_get code place ≡ Some i → outcome_number before step.way < suc number
    → (outcome_number before step.way < number) ⊎ ((before ≡ place) × (step.way ≡ way) × (step.instr ≡ i))
newest code before place next number way i step now here below = by (cases_lt (outcome_number before step.way) number)
  where
    by : (outcome_number before step.way < number) ⊎ (number ≤ outcome_number before step.way) → (outcome_number before step.way < number) ⊎ ((before ≡ place) × (step.way ≡ way) × (step.instr ≡ i))
    by (inl early) = inl early
    by (inr late) =
        let same : outcome_number before step.way ≡ outcome_number place way = omega (arith, now) in
        let both = same_outcome before place step.way way same in
        inr (both.0, both.1, same_Some step.instr i (sym step.here ∙ ap (slice_get code) both.0 ∙ here))

is_there : (place : ℕ) (to : Option ℕ) → is_place place to ≡ true → to ≡ Some place
is_there place None h = cc
is_there place (Some to) h = ap Some (eqb-true to place h)

is_elsewhere : (place : ℕ) (to : Option ℕ) → is_place place to ≡ false → to ≡ Some place → ⊥
is_elsewhere place None h e = cc
is_elsewhere place (Some to) h e = eqb-false to place h (same_Some to place e)

-- the instruction at a place, with its typing, and one of its outcomes, by its number
pub record IsOutcome (p : Procedure) (typings : List Typing) (number place : ℕ) (way : Way) (i : Instr) (t : Typing) : Type 0 where
  pub now : number ≡ outcome_number place way
  pub here : slice_get p.code place ≡ Some i
  pub there : slice_get typings place ≡ Some t

-- an earlier outcome brought it, or this one does
brought : (program : List Procedure) (p : Procedure) (ts : List Typing) (number place : ℕ) (way : Way) (i : Instr) (t : Typing) → IsOutcome p ts number place way i t → (before next : ℕ) (other : Typing) (b : Brings program p ts before next other) → outcome_number before b.step.way < suc number
    → (outcome_number before b.step.way < number) ⊎ (other ≡ after program way i t)
brought program p ts number place way i t now before next other b below = by (newest p.code before place next number way i b.step now.now now.here below)
  where
    by : (outcome_number before b.step.way < number) ⊎ ((before ≡ place) × (b.step.way ≡ way) × (b.step.instr ≡ i)) → (outcome_number before b.step.way < number) ⊎ (other ≡ after program way i t)
    by (inl early) = inl early
    by (inr (same, is, instr)) =
        let from = same_Some b.from t (sym b.there ∙ ap (slice_get ts) same ∙ now.there) in
        inr (b.is ∙ ap (λ (w : Way). after program w b.step.instr b.from) is ∙ ap (λ (x : Instr). after program way x b.from) instr ∙ ap (after program way i) from)

-- if it continues elsewhere, nothing changes
row_elsewhere : (program : List Procedure) (p : Procedure) (ts : List Typing) (number place : ℕ) (way : Way) (i : Instr) (t : Typing) → IsOutcome p ts number place way i t → (next : ℕ) (row : Option Reached) → (onward way place (flow_of i) ≡ Some next → ⊥) → IsRow program p ts number next row → IsRow program p ts (suc number) next row
row_elsewhere program p ts number place way i t now next row away h = by row h
  where
    not_now : (before : ℕ) (step : LeadsTo p.code before next) → (before ≡ place) × (step.way ≡ way) × (step.instr ≡ i) → ⊥
    not_now before step (same, is, instr) =
        away (sym (ap (λ (w : Way). onward w before (flow_of step.instr)) is ∙ ap (λ (n : ℕ). onward way n (flow_of step.instr)) same ∙ ap (λ (x : Instr). onward way place (flow_of x)) instr) ∙ step.goes_on)

    early : (before : ℕ) (step : LeadsTo p.code before next) → outcome_number before step.way < suc number → outcome_number before step.way < number
    early before step below = either (newest p.code before place next number way i step now.now now.here below)
      where
        either : (outcome_number before step.way < number) ⊎ ((before ≡ place) × (step.way ≡ way) × (step.instr ≡ i)) → outcome_number before step.way < number
        either (inl before_it) = before_it
        either (inr it) = absurd (not_now before step it)

    by : (row : Option Reached) → IsRow program p ts number next row → IsRow program p ts (suc number) next row
    by None k = (k.0, λ before step below. k.1 before step (early before step below))
    by (Some r) k = record { first = k.first; same = λ e before other b below. k.same e before other b (early before b.step below); another = k.another }

-- if it continues here, its typing is noted
row_here : (program : List Procedure) (p : Procedure) (ts : List Typing) (number place : ℕ) (way : Way) (i : Instr) (t : Typing) → IsOutcome p ts number place way i t → (next : ℕ) (row : Option Reached) → onward way place (flow_of i) ≡ Some next → IsRow program p ts number next row → IsRow program p ts (suc number) next (noted row (after program way i t))
row_here program p ts number place way i t now next row goes h = by row h
  where
    new : Typing
    new = after program way i t

    step : LeadsTo p.code place next
    step = record { earlier = onward_later way place (flow_of i) next goes; instr = i; here = now.here; way = way; goes_on = goes }

    brings : Brings program p ts place next new
    brings = record { step = step; from = t; there = now.there; is = refl }

    done : (w : Way) → number ≡ outcome_number place w → ((before : ℕ) (s : LeadsTo p.code before next) → outcome_number before s.way < number → ⊥) → onward Completed place (flow_of i) ≡ Some next → w ≡ Completed
    done Completed is none e = refl
    done Skipped is none e = absurd (none place (record { earlier = onward_later Completed place (flow_of i) next e; instr = i; here = now.here; way = Completed; goes_on = e }) (omega (arith, is)))

    again : (r : Reached) → HasReached program p ts number next r → (d s : Bool) → r.differs ≡ d → same_typing r.typing new ≡ s → HasReached program p ts (suc number) next (record { typing = r.typing; differs = d || not s })
    again r k true s e f = record { first = k.first; same = λ g. cc; another = λ g. k.another e }
    again r k false true e f = record {
      first = k.first;
      same = λ g before other b below. either before other b (brought program p ts number place way i t now before next other b below);
      another = λ g. cc;
    }
      where
        either : (before : ℕ) (other : Typing) (b : Brings program p ts before next other) → (outcome_number before b.step.way < number) ⊎ (other ≡ new) → other ≡ r.typing
        either before other b (inl early) = k.same e before other b early
        either before other b (inr is) = is ∙ sym ((typing_decides r.typing new).0 f)
    again r k false false e f = record {
      first = k.first;
      same = λ g. cc;
      another = λ g. (place, new, brings, λ is. let both : true ≡ false = sym ((typing_decides r.typing new).1 (sym is)) ∙ f in cc);
    }

    by : (row : Option Reached) → IsRow program p ts number next row → IsRow program p ts (suc number) next (noted row new)
    by None k = record {
      first = inr (place, record { brings = brings; least = λ other below s. k.1 other s (omega (arith, now.now, earlier_outcome other place s.way way below)); done = done way now.now k.1 });
      same = λ g before other b below. either before other b (brought program p ts number place way i t now before next other b below);
      another = λ g. cc;
    }
      where
        either : (before : ℕ) (other : Typing) (b : Brings program p ts before next other) → (outcome_number before b.step.way < number) ⊎ (other ≡ new) → other ≡ new
        either before other b (inl early) = absurd (k.1 before b.step early)
        either before other b (inr is) = is
    by (Some r) k = again r k r.differs (same_typing r.typing new) refl refl

pub row_sent : (program : List Procedure) (p : Procedure) (ts : List Typing) (number place : ℕ) (way : Way) (i : Instr) (t : Typing) → IsOutcome p ts number place way i t → (next : ℕ) (row : Option Reached) → IsRow program p ts number next row → IsRow program p ts (suc number) next (sent (onward way place (flow_of i)) (after program way i t) next row)
row_sent program p ts number place way i t now next row h = by (is_place next (onward way place (flow_of i))) refl
  where
    by : (b : Bool) → is_place next (onward way place (flow_of i)) ≡ b → IsRow program p ts (suc number) next (if b then noted row (after program way i t) else row)
    by true e = row_here program p ts number place way i t now next row (is_there next (onward way place (flow_of i)) e) h
    by false e = row_elsewhere program p ts number place way i t now next row (is_elsewhere next (onward way place (flow_of i)) e) h

-- both outcomes of a place
abbrev pub sent_both : List Procedure → ℕ → Instr → Typing → ℕ → Option Reached → Option Reached
sent_both program place i t next row = sent (onward Skipped place (flow_of i)) (after program Skipped i t) next (sent (onward Completed place (flow_of i)) (after program Completed i t) next row)

pub rows_more : (program : List Procedure) (p : Procedure) (ts : List Typing) (place : ℕ) (i : Instr) (t : Typing) (old new : List (Option Reached)) → length ts ≡ place → slice_get p.code place ≡ Some i → length new ≡ length old
    → ((k : ℕ) (row : Option Reached) → slice_get old k ≡ Some row → slice_get new k ≡ Some (sent_both program place i t k row))
    → ((k : ℕ) (row : Option Reached) → slice_get old k ≡ Some row → IsRow program p ts (place + place) k row)
    → (k : ℕ) (row : Option Reached) → slice_get new k ≡ Some row → IsRow program p (ts ++ t ∷ []) (place + 1 + (place + 1)) k row
rows_more program p ts place i t old new long here same step known k row at =
    let before = get_or old k None in
    let was : slice_get old k ≡ Some before = slice_get-get_or old k None (omega (arith, slice_get_within new k row at)) in
    let is : sent_both program place i t k before ≡ row = same_Some (sent_both program place i t k before) row (sym (step k before was) ∙ at) in
    let last : slice_get (ts ++ t ∷ []) place ≡ Some t = ap (slice_get (ts ++ t ∷ [])) (sym long) ∙ get_last ts t in
    let first = row_more program p ts (t ∷ []) place k before long (known k before was) in
    let second = row_sent program p (ts ++ t ∷ []) (place + place) place Completed i t (record { now = refl; here = here; there = last }) k before first in
    let third = row_sent program p (ts ++ t ∷ []) (suc (place + place)) place Skipped i t (record { now = refl; here = here; there = last }) k (sent (onward Completed place (flow_of i)) (after program Completed i t) k before) second in
    let numbers : suc (suc (place + place)) ≡ place + 1 + (place + 1) = omega arith in
    subst (λ (x : Option Reached). IsRow program p (ts ++ t ∷ []) (place + 1 + (place + 1)) k x) is
    (subst (λ (n : ℕ). IsRow program p (ts ++ t ∷ []) n k (sent_both program place i t k before)) numbers third)

-- a write through the slice of a whole vector
pub whole_slice : {A : Type 0} (xs old : List A) (n : ℕ) → length xs ≡ length old → n ≡ length old → take n (xs ++ drop (length xs) old) ≡ xs
whole_slice {A} xs old n e f =
    let m : n ≡ length xs = omega arith in
    ap (λ (ys : List A). take n (xs ++ ys)) (drop_of_length-le old (omega arith)) ∙ ap (λ (k : ℕ). take k (xs ++ [])) m ∙ ap (take (length xs)) (append-nil xs) ∙ take-length xs
