-- The best of the tasks, by look-ups in their map.
use Rattle.tw_machine.proofs.Names.{Actor, Bool, Equal, Greater, Less, List, None, Option, Ordering, Some, T, [], ap, cond, entries, entries_sorted, eq_by_cmp, false, find, get, get-entries, int_cmp, int_lt, is_lt, is_sorted, nat_cmp, ordering_then, rank_cmp, rank_of, refl, subst, sym, true, ℕ, ◌∙◌, ◌∷◌, ◌≡◌}
use Rattle.std.specs.FinMap.Entries.{below_all}
use Rattle.tw_types.specs.Task.{Task, Tasks, best, best_of, better, is_eligible}
use Rattle.tw_types.proofs.Found.{IsIn, in_first, in_later, later, same_no}
use Rattle.tw_types.proofs.Rising.{first, second}

-- the rank of f isn't before that of e
abbrev pub IsAhead : ℕ × Task → ℕ × Task → Type 0
IsAhead e f = is_lt (rank_cmp (rank_of f.0 f.1) (rank_of e.0 e.1)) ≡ false

not_less : (l g : Bool) (o : Ordering) → is_lt (ordering_then (cond l Less (cond g Greater Equal)) o) ≡ false → l ≡ false
not_less true g o e = cc
not_less false g o e = refl

greater : (l g : Bool) → is_lt (ordering_then (cond l Less (cond g Greater Equal)) Less) ≡ false → g ≡ true
greater true g e = cc
greater false true e = refl
greater false false e = cc

module _ (actor : Actor) where
  best_in : (es : List (ℕ × Task)) (e : ℕ × Task) → T (is_sorted nat_cmp es) → best_of actor es ≡ Some e → IsIn e es × (is_eligible actor e.1 ≡ true)
  best_in [] e sorted h = cc
  best_in (f ∷ es) e sorted h = by (λ g is. best_in es g (second _ _ sorted) is) (is_eligible actor f.1) refl h
    where
      Rest : Type 0
      Rest = (g : ℕ × Task) → best_of actor es ≡ Some g → IsIn g es × (is_eligible actor g.1 ≡ true)

      older : Rest → (o : Option (ℕ × Task)) → best_of actor es ≡ o → is_eligible actor f.1 ≡ true → Some (better f o) ≡ Some e → IsIn e (f ∷ es) × (is_eligible actor e.1 ≡ true)
      older rest None is may same = let one : f ≡ e = cc in subst (λ x. IsIn x (f ∷ es) × (is_eligible actor x.1 ≡ true)) one (in_first f es, may)
      older rest (Some g) is may same = choose (int_lt f.1.priority g.1.priority) same
        where
          choose : (b : Bool) → Some (cond b g f) ≡ Some e → IsIn e (f ∷ es) × (is_eligible actor e.1 ≡ true)
          choose true same =
              let one : g ≡ e = cc in
              let there = rest g is in
              subst (λ x. IsIn x (f ∷ es) × (is_eligible actor x.1 ≡ true)) one (in_later f g es (first _ _ sorted) there.0, there.1)
          choose false same = let one : f ≡ e = cc in subst (λ x. IsIn x (f ∷ es) × (is_eligible actor x.1 ≡ true)) one (in_first f es, may)

      by : Rest → (b : Bool) → is_eligible actor f.1 ≡ b → cond b (Some (better f (best_of actor es))) (best_of actor es) ≡ Some e → IsIn e (f ∷ es) × (is_eligible actor e.1 ≡ true)
      by rest true may is = older rest (best_of actor es) refl may is
      by rest false may is = let there = rest e is in (in_later f e es (first _ _ sorted) there.0, there.1)

  abbrev AreAllAfter : ℕ × Task → List (ℕ × Task) → Type 0
  AreAllAfter e es = (f : ℕ × Task) → IsIn f es → is_eligible actor f.1 ≡ true → IsAhead e f

  best_of_is : (es : List (ℕ × Task)) (e : ℕ × Task) → T (is_sorted nat_cmp es) → IsIn e es → is_eligible actor e.1 ≡ true → AreAllAfter e es → best_of actor es ≡ Some e
  best_of_is [] e sorted there may ahead = cc
  best_of_is (f ∷ es) e sorted there may ahead =
      by (λ is not_better. best_of_is es e (second _ _ sorted) is may not_better) (eq_by_cmp nat_cmp e.0 f.0) refl there
    where
      low : T (below_all nat_cmp f.0 es)
      low = first _ _ sorted

      ahead_later : AreAllAfter e es
      ahead_later g is may_g = ahead g (in_later f g es low is) may_g

      leads : (o : Option (ℕ × Task)) → best_of actor es ≡ o → better e o ≡ e
      leads None is = refl
      leads (Some g) is =
          let there = best_in es g (second _ _ sorted) is in
          let not_better : int_lt e.1.priority g.1.priority ≡ false = not_less _ _ _ (ahead_later g there.0 there.1) in
          rw not_better refl

      follows : is_eligible actor f.1 ≡ true → nat_cmp f.0 e.0 ≡ Less → better f (Some e) ≡ e
      follows may_f below =
          let not_better = ahead f (in_first f es) may_f in
          let over : int_lt f.1.priority e.1.priority ≡ true = greater _ _ (rw below at not_better) in
          rw over refl

      by : (IsIn e es → AreAllAfter e es → best_of actor es ≡ Some e) → (b : Bool) → eq_by_cmp nat_cmp e.0 f.0 ≡ b → cond b (Some f.1) (find nat_cmp e.0 es) ≡ Some e.1 → cond (is_eligible actor f.1) (Some (better f (best_of actor es))) (best_of actor es) ≡ Some e
      by rest true t is =
          let no : e.0 ≡ f.0 = same_no e f t in
          let task : f.1 ≡ e.1 = cc in
          let one : f ≡ e = λ i. (sym no i, task i) in
          rw (one, may) (ap Some (leads (best_of actor es) refl))
      by later_best false t is = chosen (is_eligible actor f.1) refl (later_best is ahead_later)
        where
          chosen : (b : Bool) → is_eligible actor f.1 ≡ b → best_of actor es ≡ Some e → cond b (Some (better f (best_of actor es))) (best_of actor es) ≡ Some e
          chosen true may_f rest = rw rest (ap Some (follows may_f (later f e es low is)))
          chosen false may_f rest = rest

  none_of : (o : Option (ℕ × Task)) → ((e : ℕ × Task) → o ≡ Some e → ⊥) → o ≡ None
  none_of None h = refl
  none_of (Some e) h = absurd (h e refl)

  pub best_is : (tasks : Tasks) (e : ℕ × Task) → get tasks e.0 ≡ Some e.1 → is_eligible actor e.1 ≡ true
      → ((q : ℕ) (other : Task) → get tasks q ≡ Some other → is_eligible actor other ≡ true → IsAhead e (q, other)) → best actor tasks ≡ Some e
  unfolding best
  best_is tasks e there may ahead = best_of_is (entries tasks) e (entries_sorted tasks) (sym (get-entries tasks e.0) ∙ there) may
      (λ f is may_f. ahead f.0 f.1 (get-entries tasks f.0 ∙ is) may_f)

  pub best_none : (tasks : Tasks) → ((q : ℕ) (other : Task) → get tasks q ≡ Some other → is_eligible actor other ≡ false) → best actor tasks ≡ None
  unfolding best
  best_none tasks none = none_of (best_of actor (entries tasks)) (λ e is.
      let there = best_in (entries tasks) e (entries_sorted tasks) is in
      let barred : is_eligible actor e.1 ≡ false = none e.0 e.1 (get-entries tasks e.0 ∙ there.0) in
      let may = there.1 in
      cc)
