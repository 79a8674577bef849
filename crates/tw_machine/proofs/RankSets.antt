-- Sets of ranks by target, if one of them changes.
use Rattle.tw_machine.proofs.Names.{AreSameIn, BTreeSet, Bool, IsMarkedAt, IsMarkedIn, IsSome, IsUnchanged, List, None, OnErr, OnOk, Option, Rank, Sets, Some, ap, cond, contains, eq_by_cmp, false, has_rank_at, has_rank_in, list_any, rank_cmp, refl, same_target, subst, sym, target_cmp, true, ℕ, ◌&&◌, ◌∙◌, ◌≡◌}
use Rattle.std.specs.declared.result.Result.{Result}
use Rattle.std.specs.declared.result.Result.TheVariants.{Ok, Err}
use Rattle.std.specs.BTreeMap.{UpdatesBy, WritesThrough, get}
use Rattle.tw_machine.proofs.Targets.{target_is}

module _ (target : Option ℕ) (old new : Sets) (set : BTreeSet Rank) (changed : UpdatesBy target_cmp (target_cmp target) old new (Some set)) where
  -- the set of this target, of which `was` has the ranks so far
  pub marked : (was : Option (BTreeSet Rank)) → get target_cmp old target ≡ was → (rank : Rank) (there : Bool)
      → ((r : Rank) → contains rank_cmp set r ≡ cond (eq_by_cmp rank_cmp rank r) there (has_rank_in was r)) → IsMarkedAt target rank there old new
  marked was is rank there now t r = ap (λ o. has_rank_in o r) (changed.0 t) ∙ by (same_target target t) refl
    where
      by : (b : Bool) → same_target target t ≡ b → has_rank_in (cond b (Some set) (get target_cmp old t)) r ≡ cond (b && eq_by_cmp rank_cmp rank r) there (has_rank_at old t r)
      by true e = now r ∙ ap (λ o. cond (eq_by_cmp rank_cmp rank r) there (has_rank_in o r)) (sym is ∙ ap (get target_cmp old) (target_is target t e))
      by false e = refl

  pub unchanged : (was : BTreeSet Rank) → get target_cmp old target ≡ Some was → IsUnchanged was set → AreSameIn old new
  unchanged was is same t r = ap (λ o. has_rank_in o r) (changed.0 t) ∙ by (same_target target t) refl
    where
      by : (b : Bool) → same_target target t ≡ b → has_rank_in (cond b (Some set) (get target_cmp old t)) r ≡ has_rank_at old t r
      by true e = ap (λ (ranks : List Rank). list_any (eq_by_cmp rank_cmp r) ranks) same ∙ ap (λ o. has_rank_in o r) (sym is ∙ ap (get target_cmp old) (target_is target t e))
      by false e = refl

module _ (target : Option ℕ) (old new : Sets) (was set : BTreeSet Rank) (is : Some was ≡ get target_cmp old target) (written : WritesThrough target_cmp (target_cmp target) old set new) (rank : Rank) where
  changed_to : UpdatesBy target_cmp (target_cmp target) old new (Some set)
  changed_to = written.3 (subst IsSome is refl)

  pub written_at : (there : Bool) → IsMarkedIn rank there was set → IsMarkedAt target rank there old new
  written_at there now = marked target old new set changed_to (Some was) (sym is) rank there now

  pub added_there : {E : Type 0} (r : Result (Unit {0}) E) → OnOk r (IsMarkedIn rank true was set) → OnOk r (IsMarkedAt target rank true old new)
  added_there (Ok x) now = written_at true now
  added_there (Err e) now = tt

  pub refused_there : {E : Type 0} (r : Result (Unit {0}) E) → OnErr r (IsUnchanged was set) → OnErr r (AreSameIn old new)
  refused_there (Ok x) same = tt
  refused_there (Err e) same = unchanged target old new set changed_to was (sym is) same

-- a new set with this rank alone
pub added_set : (target : Option ℕ) (old new : Sets) (set : BTreeSet Rank) (rank : Rank) → get target_cmp old target ≡ None → ((r : Rank) → contains rank_cmp set r ≡ eq_by_cmp rank_cmp rank r)
    → UpdatesBy target_cmp (target_cmp target) old new (Some set) → IsMarkedAt target rank true old new
added_set target old new set rank none alone changed = marked target old new set changed None none rank true (λ r. alone r ∙ itself (eq_by_cmp rank_cmp rank r))
  where
    itself : (b : Bool) → b ≡ cond b true false
    itself true = refl
    itself false = refl

-- no set, so nothing to remove
pub nothing_there : (target : Option ℕ) (old : Sets) (rank : Rank) → get target_cmp old target ≡ None → IsMarkedAt target rank false old old
nothing_there target old rank none t r = by (same_target target t) refl
  where
    gone : (b : Bool) (o : Option (BTreeSet Rank)) → o ≡ None → has_rank_in o r ≡ cond b false (has_rank_in o r)
    gone true None e = refl
    gone true (Some set) e = cc
    gone false o e = refl

    by : (b : Bool) → same_target target t ≡ b → has_rank_at old t r ≡ cond (b && eq_by_cmp rank_cmp rank r) false (has_rank_at old t r)
    by true e = gone (eq_by_cmp rank_cmp rank r) (get target_cmp old t) (ap (get target_cmp old) (sym (target_is target t e)) ∙ none)
    by false e = refl
