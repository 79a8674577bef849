-- All runs from one state have one end, if the core machine follows each event: a path of a whole run leads every other run.
use Rattle.std.proofs.Common.{◌≡◌, ◌⊎◌, inl, inr, ℕ, zero, suc, ◌<◌, ◌≤◌, true, false, List, [], ◌∷◌, refl, sym, ap, subst, ◌∙◌, arith}
use Rattle.tw_determinism.proofs.MachineNames.{ActorCounts, AreRight, ContestsNone, Event, IsHeld, IsProgram, Procedure, State, Typings, Went, accepted, accepts, contests, copied_by, kept_by, run_lasts, same_went, went_first, with_copy, ◌>>=◌}
use Rattle.tw_code.specs.machine.Machine.{run, step}
use Rattle.tw_determinism.proofs.Names.{Name}
use Rattle.tw_determinism.proofs.CoreEffects.{Net}
use Rattle.tw_determinism.proofs.CoreMachine.{IsMade, IsOver, Path, Steps, Wills}
use Rattle.tw_determinism.proofs.Growing.{made_kept}
use Rattle.tw_determinism.proofs.Paths.{comes_first}
use Rattle.tw_determinism.proofs.Showing.{Naming, Shows}
use Rattle.tw_determinism.proofs.Swapping.{same_step}

-- ---- paths

-- where a path leads to where nothing can be done, each other path can be continued to there
pub path_rest : (program : List Procedure) (k j : ℕ) (m to end : Net) → IsMade m → Path program k m end → IsOver program end → Path program j m to → (i : ℕ) × Path program i to end
path_rest program k zero m to end made path over other = (k, subst (λ z. Path program k z end) other path)
path_rest program k (suc j) m to end made path over other =
    let b = comes_first program k m end made path over other.0 other.2.wills in
    let same : b.next ≡ other.1 = same_step program m b.next other.1 other.0 b.step other.2 in
    path_rest program b.left j other.1 to end (made_kept program m other.1 made other.0 other.2) (subst (λ z. Path program b.left z end) same b.rest) over other.3

pub path_joined : (program : List Procedure) (k j : ℕ) (l m n : Net) → Path program k l m → Path program j m n → (i : ℕ) × Path program i l n
path_joined program zero j l m n one two = (j, subst (λ z. Path program j z n) (sym one) two)
path_joined program (suc k) j l m n one two = let rest = path_joined program k j one.1 m n one.3 two in (suc rest.0, (one.0, one.1, one.2, rest.1))

-- ---- an event

-- a path of the core machine leads to what the next state shows; or the event is contested, and no step there
pub record Goes (program : List Procedure) (typings : Typings) (event : Event) (n : Naming) (s : State) (m : Net) (next : State) : Type 0 where
  pub not_contested : contests program n.copied event s ≡ false
  pub steps : ℕ
  pub names : Naming
  pub to : Net
  pub path : Path program steps m to
  pub shows : Shows program typings names next to
  pub agree : (id : ℕ) → id < s.store.next → names.datum id ≡ n.datum id
  pub copied : names.copied ≡ with_copy n.copied (copied_by program event s)

pub record Stops (program : List Procedure) (event : Event) (n : Naming) (s : State) (m : Net) : Type 0 where
  pub is_contested : contests program n.copied event s ≡ true
  pub name : Name
  pub wills : Wills program m name
  pub never : (to : Net) → Steps program m name to → ⊥

abbrev pub FollowsEach : List Procedure → Typings → Type 0
FollowsEach program typings = (layout : ActorCounts) (event : Event) (s next : State) (n : Naming) (m : Net) → IsHeld program typings s → Shows program typings n s m → step program layout event s ≡ Went next
    → Goes program typings event n s m next ⊎ Stops program event n s m

-- ---- runs

module _ (program : List Procedure) (typings : Typings) (proper : IsProgram program) (are : AreRight program typings) (follows : FollowsEach program typings) where
  one_less : (layout : ActorCounts) (event : Event) (events : List Event) (s t : State) → run program layout (event ∷ events) s ≡ Went t → (x : State) × (step program layout event s ≡ Went x) × (run program layout events x ≡ Went t)
  unfolding run
  one_less layout event events s t e = went_first (step program layout event s) (λ next. run program layout events next) t e

  none_more : (layout : ActorCounts) (s t : State) → run program layout [] s ≡ Went t → s ≡ t
  unfolding run
  none_more layout s t e = same_went s t e

  -- what the core machine of a run does
  pub record Follows (layout : ActorCounts) (events : List Event) (s t : State) (n : Naming) (m : Net) : Type 0 where
    pub steps : ℕ
    pub names : Naming
    pub to : Net
    pub path : Path program steps m to
    pub shows : Shows program typings names t to
    pub agree : (id : ℕ) → id < s.store.next → names.datum id ≡ n.datum id
    pub held : IsHeld program typings t

  module _ (layout : ActorCounts) where
    one_event : (s t : State) (event : Event) → step program layout event s ≡ Went t → run program layout (event ∷ []) s ≡ Went t
    unfolding run
    one_event s t event e = ap (λ o. o >>= (λ next. run program layout [] next)) e

    less_or_same : (s t : State) → IsHeld program typings s → (event : Event) → step program layout event s ≡ Went t → s.store.next ≤ t.store.next
    less_or_same s t held event e = (run_lasts program typings (accepted program typings (accepts program typings proper are)) layout (event ∷ []) s t held (one_event s t event e)).store.next

    abbrev more : (event : Event) (events : List Event) (s x t : State) (n : Naming) (m : Net) → IsHeld program typings s → step program layout event s ≡ Went x → (g : Goes program typings event n s m x) → Follows layout events x t g.names g.to
        → Follows layout (event ∷ events) s t n m
    more event events s x t n m held e g rest = let p = path_joined program g.steps rest.steps m g.to rest.to g.path rest.path in record {
      steps = p.0;
      names = rest.names;
      to = rest.to;
      path = p.1;
      shows = rest.shows;
      agree = λ id less. rest.agree id (let l = less_or_same s x held event e in omega (arith, l, less)) ∙ g.agree id less;
      held = rest.held;
    }

    -- a run in which nothing is contested
    pub run_goes : (events : List Event) (s t : State) (n : Naming) (m : Net) → IsHeld program typings s → Shows program typings n s m → run program layout events s ≡ Went t → ContestsNone program layout n.copied events s → Follows layout events s t n m
    run_goes [] s t n m held shows e none = let same = none_more layout s t e in record {
      steps = 0;
      names = n;
      to = m;
      path = refl;
      shows = subst (λ z. Shows program typings n z m) same shows;
      agree = λ id less. refl;
      held = subst (IsHeld program typings) same held;
    }
    run_goes (event ∷ events) s t n m held shows e none =
        let x = one_less layout event events s t e in
        elim (follows layout event s x.0 n m held shows x.1) [
          | inl g ↦ more event events s x.0 t n m held x.1 g (run_goes events x.0 t g.names g.to (kept_by program typings layout event s x.0 proper are held x.1) g.shows x.2 (subst (λ c. ContestsNone program layout c events x.0) (sym g.copied) (none.1 x.0 x.1)))
          | inr stop ↦ let contested = stop.is_contested in let not = none.0 in cc
        ]

    -- a run from where a path leads to an end
    pub record Led (events : List Event) (s t : State) (n : Naming) (m end : Net) : Type 0 where
      pub way : Follows layout events s t n m
      pub rest : (i : ℕ) × Path program i way.to end
      pub none : ContestsNone program layout n.copied events s

    pub run_led : (events : List Event) (s t : State) (n : Naming) (m end : Net) (k : ℕ) → IsHeld program typings s → Shows program typings n s m → Path program k m end → IsOver program end → run program layout events s ≡ Went t → Led events s t n m end
    run_led [] s t n m end k held shows path over e = record {
      way = (let same = none_more layout s t e in record {
        steps = 0;
        names = n;
        to = m;
        path = refl;
        shows = subst (λ z. Shows program typings n z m) same shows;
        agree = λ id less. refl;
        held = subst (IsHeld program typings) same held;
      });
      rest = (k, path);
      none = tt;
    }
    run_led (event ∷ events) s t n m end k held shows path over e =
        let x = one_less layout event events s t e in
        elim (follows layout event s x.0 n m held shows x.1) [
          | inl g ↦
              let i = path_rest program k g.steps m g.to end shows.made path over g.path in
              let rest = run_led events x.0 t g.names g.to end i.0 (kept_by program typings layout event s x.0 proper are held x.1) g.shows i.1 over x.2 in
              record {
                way = more event events s x.0 t n m held x.1 g rest.way;
                rest = rest.rest;
                none = (g.not_contested, λ next same. subst (ContestsNone program layout (with_copy n.copied (copied_by program event s)) events) (same_went x.0 next (sym x.1 ∙ same)) (subst (λ c. ContestsNone program layout c events x.0) g.copied rest.none));
              }
          | inr stop ↦ let b = comes_first program k m end shows.made path over stop.name stop.wills in absurd (stop.never b.next b.step)
        ]
