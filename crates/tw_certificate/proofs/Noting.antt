-- Contested insertions and copies, noted event by event; and events of accepted programs are short.
use Rattle.std.proofs.Common.{◌≡◌, ◌+◌, ◌<◌, ◌≤◌, ◌++◌, ◌==◌, ◌||◌, ℕ, Bool, true, false, if◌then◌else◌, List, [], ◌∷◌, Option, Some, None, MatchOption, length, take, get_or, append_assoc, append-nil, zero, suc, arith, refl, sym, ap, subst, ◌∙◌, nat_cmp}
use Rattle.std.proofs.lemmas.List.{take_all, take_more}
use Rattle.std.proofs.lemmas.Option.{slice_get-get_or}
use Rattle.std.specs.BTreeMap.{is_at}
use Rattle.std.specs.BTreeSet.{BTreeSet, contains}
use Rattle.std.specs.Cmp.{nat_eq_equiv, unsigned_tied}
use Rattle.std.specs.List.{list_any}
use Rattle.std.specs.Ordering.{eq_by_cmp}
use Rattle.tw_types.specs.declared.event.Event.{Event}
use Rattle.tw_types.specs.declared.input.Input.{Input}
use Rattle.tw_types.specs.Layout.{ActorCounts}
use Rattle.tw_types.specs.Outcome.{Outcome, Went, ◌>>=◌}
use Rattle.tw_types.proofs.Outcomes.{same_went, went_first}
use Rattle.tw_code.specs.declared.procedure.Procedure.{Procedure}
use Rattle.tw_code.specs.format.Program.{IsProgram}
use Rattle.tw_code.specs.accepting.Walk.{greatest_budget}
use Rattle.tw_code.specs.machine.Bounds.{size_of}
use Rattle.tw_code.specs.machine.Holders.{Typings}
use Rattle.tw_code.specs.machine.Inputs.{AreInputsOf}
use Rattle.tw_code.specs.machine.Machine.{run, step}
use Rattle.tw_code.specs.machine.Opening.{reached}
use Rattle.tw_code.specs.machine.State.{State}
use Rattle.tw_soundness.specs.Invariant.{IsHeld}
use Rattle.tw_soundness.specs.NoTrap.{AreRight}
use Rattle.tw_soundness.proofs.Along.{event_small}
use Rattle.tw_soundness.proofs.Safe.{kept_by, opened_held}
use Rattle.tw_machine.specs.PlainView.{PlainView}
use Rattle.tw_copies.specs.declared.check.CopyInsertion.{CopyInsertion}
use Rattle.tw_determinism.specs.Contested.{ContestsNone, Copied, contests, copied_by, none_copied, with_copy}
use Rattle.tw_certificate.specs.FirstContest.{IsFirstContestFrom, IsFirstFrom, MayBeInsertion}
use Rattle.tw_certificate.specs.Noted.{AreShort, IsAfter, IsContestedAt, IsNoted, Notes}

-- ---- sets of copied data

pub notes_none : (set : BTreeSet ℕ) → set.keys ≡ [] → Notes set none_copied
notes_none set none d = sym (ap (list_any (is_at (nat_cmp d))) none)

pub notes_one : (old new : BTreeSet ℕ) (id : ℕ) → ((q : ℕ) → contains nat_cmp new q ≡ (if eq_by_cmp nat_cmp id q then true else contains nat_cmp old q)) → (c : Copied) → Notes old c → Notes new (with_copy c (Some id))
notes_one old new id updates c h d = sym (updates d ∙ ap (λ (b : Bool). if b then true else contains nat_cmp old d) (unsigned_tied id d ∙ nat_eq_equiv.symm id d) ∙ by (d == id))
  where
    by : (b : Bool) → (if b then true else contains nat_cmp old d) ≡ (b || c d)
    by true = refl
    by false = sym (h d)

-- ---- one event more

module _ (program : List Procedure) (layout : ActorCounts) (events : List Event) (first : State) where
  pub first_noted : (set : BTreeSet ℕ) → set.keys ≡ [] → IsAfter program layout events 0 first first set
  first_noted set none = record { copied = none_copied; noted = notes_none set none; runs = λ more. refl; onward = λ more h. h; rest = λ more h. h }

  module _ (k : ℕ) (event : Event) (s : State) (set : BTreeSet ℕ) (inside : k < length events) (is : event ≡ get_or events k event) (done : IsAfter program layout events k first s set) where
    one : take (k + 1) events ≡ take k events ++ event ∷ []
    one = take_more events k event inside ∙ ap (λ (e : Event). take k events ++ e ∷ []) (sym is)

    shift : (more : List Event) → take (k + 1) events ++ more ≡ take k events ++ event ∷ more
    shift more = ap (λ (es : List Event). es ++ more) one ∙ append_assoc (take k events) (event ∷ []) more

    pub noted_on : (next : State) (new : BTreeSet ℕ) → IsNoted program layout event s next set new → IsAfter program layout events (k + 1) first next new
    unfolding run
    noted_on next new n = record {
      copied = with_copy done.copied (copied_by program event s);
      noted = n.notes done.copied done.noted;
      runs = λ more. ap (λ (es : List Event). run program layout es first) (shift more) ∙ done.runs (event ∷ more) ∙ ap (λ (o : Outcome State). o >>= run program layout more) n.goes;
      onward = λ more h.
          subst (λ (es : List Event). ContestsNone program layout none_copied es first) (sym (shift more))
          (done.onward (event ∷ more)
          (n.calm done.copied done.noted, λ t same. subst (ContestsNone program layout (with_copy done.copied (copied_by program event s)) more) (same_went next t (sym n.goes ∙ same)) h));
      rest = λ more h. (done.rest (event ∷ more) (subst (λ (es : List Event). ContestsNone program layout none_copied es first) (shift more) h)).1 next n.goes;
    }

    pub found_first : (at : CopyInsertion) → IsContestedAt program event s set at → IsFirstFrom program layout events first at
    unfolding run
    found_first at c = record {
      k = k;
      before = subst (λ (es : List Event). ContestsNone program layout none_copied es first) (append-nil (take k events)) (done.onward [] tt);
      contested = λ none.
          let calm : contests program done.copied event s ≡ false = (done.rest (event ∷ []) (subst (λ (es : List Event). ContestsNone program layout none_copied es first) one none)).0 in
          let never : false ≡ true = sym calm ∙ c.contested done.copied done.noted in
          cc;
      state = s;
      reaches = ap (λ (es : List Event). run program layout es first) (sym (append-nil (take k events))) ∙ done.runs [];
      event = event;
      is = slice_get-get_or events k event inside ∙ ap Some (sym is);
      calls = c.calls;
      inserts = c.inserts;
    }

  pub none_found : (k : ℕ) (s : State) (set : BTreeSet ℕ) → length events ≤ k → IsAfter program layout events k first s set → ContestsNone program layout none_copied events first
  none_found k s set all done =
      subst (λ (es : List Event). ContestsNone program layout none_copied es first) (append-nil (take k events) ∙ take_all k events all) (done.onward [] tt)

-- like `noted_on` and `found_first`, for a machine of the same program and layout
pub noted_next : (first at next : PlainView) (events : List Event) (k : ℕ) (event : Event) (set new : BTreeSet ℕ) → at.program ≡ first.program → at.layout ≡ first.layout → k < length events → event ≡ get_or events k event
    → IsAfter first.program first.layout events k first.state at.state set → IsNoted at.program at.layout event at.state next.state set new → IsAfter first.program first.layout events (k + 1) first.state next.state new
noted_next first at next events k event set new same_program same_layout inside is done n =
    noted_on first.program first.layout events first.state k event at.state set inside is done next.state new
    (subst (λ (l : ActorCounts). IsNoted first.program l event at.state next.state set new) same_layout (subst (λ (ps : List Procedure). IsNoted ps at.layout event at.state next.state set new) same_program n))

pub found_next : (first at : PlainView) (events : List Event) (k : ℕ) (event : Event) (set : BTreeSet ℕ) (found : CopyInsertion) → at.program ≡ first.program → k < length events → event ≡ get_or events k event
    → IsAfter first.program first.layout events k first.state at.state set → IsContestedAt at.program event at.state set found → IsFirstFrom first.program first.layout events first.state found
found_next first at events k event set found same_program inside is done c =
    found_first first.program first.layout events first.state k event at.state set inside is done found (subst (λ (ps : List Procedure). IsContestedAt ps event at.state set found) same_program c)

-- the place that is found has an insertion
pub inserted_there : (program : List Procedure) (layout : ActorCounts) (events : List Event) (first : State) (found : Option CopyInsertion) → IsFirstContestFrom program layout events first found → MayBeInsertion program found
inserted_there program layout events first None h = tt
inserted_there program layout events first (Some at) h = h.inserts

-- a result that isn't any value is none
pub left_none : {X : Type 0} (o : Option X) (A : Type 0) (B : X → Type 0) → ((x : X) → o ≡ Some x → ⊥) → MatchOption o A B → A
left_none None A B none h = h
left_none (Some x) A B none h = absurd (none x refl)

-- ---- sizes

at_index : (events : List Event) (k : ℕ) (d : Event) → AreShort events → k < length events → size_of (get_or events k d) ≤ greatest_budget
at_index [] k d all h = absurd (omega (arith, h))
at_index (e ∷ events) zero d all h = all.0
at_index (e ∷ events) (suc k) d all h = at_index events k d all.1 (omega (arith, h))

pub event_short : (events : List Event) (k : ℕ) (event : Event) → AreShort events → k < length events → event ≡ get_or events k event → size_of event ≤ 1000000000
event_short events k event all inside is = subst (λ (e : Event). size_of e ≤ greatest_budget) (sym is) (at_index events k event all inside)

module _ (program : List Procedure) (typings : Typings) (is : IsProgram program) (are : AreRight program typings) (layout : ActorCounts) where
  along : (events : List Event) (s t : State) → IsHeld program typings s → run program layout events s ≡ Went t → AreShort events
  unfolding run
  along [] s t held e = tt
  along (event ∷ events) s t held e =
      let one = went_first (step program layout event s) (run program layout events) t e in
      (event_small program typings is are layout event s one.0 held one.1, along events one.0 t (kept_by program typings layout event s one.0 is are held one.1) one.2)

  pub run_short : (inputs : List Input) (events : List Event) (t : State) → AreInputsOf program inputs → reached program inputs layout events ≡ Went t → AreShort events
  run_short inputs events t given e = along events _ t (opened_held program typings is are inputs given) e
