-- Sorted lists of entries: look-ups and insertions.
use Rattle.std.proofs.Common.{◌≡◌, ◌<◌, ◌≤◌, ◌+◌, ◌-◌, ◌/◌, ◌∙◌, ℕ, Result, Ok, Err, IfOk, OnOk, OnErr, IsSome, List, [], ◌∷◌, ◌++◌, length, length-append, set, get_or, T, arith, refl, sym, ap, subst, append_assoc, append-nil, inl, inr}
use Rattle.std.specs.declared.cmp.Ordering.TheVariants.{Less, Equal, Greater}
use Rattle.std.specs.declared.option.Option.TheVariants.{Some, None}
use Rattle.std.proofs.Math.Seq.{get_or-append_seam, set-append_seam}
use Rattle.std.proofs.lemmas.Result.{on_err_weaker}
use Rattle.std.specs.FinMap.{find, put, is_sorted}
use Rattle.tw_types.specs.declared.value.Value.{Value}
use Rattle.tw_types.specs.ValueOrder.{value_cmp}
use Rattle.tw_types.proofs.ValueOrder.{value_cmp_total}
use Rattle.tw_datum.specs.Run.{IsAbove, IsEntryAt}
use Rattle.tw_datum.specs.Tree.{AreEven, IsAdded}
use Rattle.tw_datum.proofs.Entries.{nothing_in, still_sorted}
use Rattle.tw_datum.proofs.Order.{sorted_front, sorted_back, find_left, find_right, find_here, put_right, put_here}
use Rattle.tw_datum.proofs.Turns.{joined_length}

abbrev Sorted : {V : Type 0} → List (Value × V) → Type 0
Sorted es = T (is_sorted value_cmp es)

-- ---- a key that is greater than all

module _ {V : Type 0} (key : Value) (run : List (Value × V)) where
  pub above_none : IsAbove key run → Sorted run → find value_cmp key run ≡ None
  above_none (inl none) sorted = ap (find value_cmp key) (nothing_in run none)
  above_none (inr a) sorted = ap (find value_cmp key) a.2 ∙ find_right value_cmp_total key a.0 a.1 [] a.3 (subst Sorted a.2 sorted)

  pub above_put : (v : V) → IsAbove key run → Sorted run → put value_cmp key v run ≡ run ++ (key, v) ∷ []
  above_put v (inl none) sorted = subst (λ es. put value_cmp key v es ≡ es ++ (key, v) ∷ []) (sym (nothing_in run none)) refl
  above_put v (inr a) sorted =
      ap (put value_cmp key v) a.2 ∙ put_right value_cmp_total key v a.0 a.1 [] a.3 (subst Sorted a.2 sorted)
      ∙ sym (ap (λ es. es ++ (key, v) ∷ []) a.2 ∙ append_assoc a.0 (a.1 ∷ []) ((key, v) ∷ []))

  pub above_sorted : (v : V) → IsAbove key run → Sorted run → Sorted (run ++ (key, v) ∷ [])
  above_sorted v above sorted = still_sorted run (run ++ (key, v) ∷ []) key v sorted (sym (above_put v above sorted))

-- ---- the entry at a place

module _ {V : Type 0} (key : Value) (run : List (Value × V)) (place : ℕ) (at : IsEntryAt key run place) where
  pub entry_within : place < length run
  entry_within = let all = ap length at.is ∙ joined_length at.before at.own at.after in omega (arith, all, at.at)

  pub entry_read : (default : Value × V) → get_or run place default ≡ at.own
  entry_read default = ap (λ n. get_or run n default) (sym at.at) ∙ ap (λ es. get_or es (length at.before) default) at.is ∙ get_or-append_seam at.before at.own at.after default

  pub entry_found : Sorted run → find value_cmp key run ≡ Some at.own.1
  entry_found sorted = ap (find value_cmp key) at.is ∙ find_here value_cmp_total key at.before at.own at.after at.same (subst Sorted at.is sorted)

  pub entry_put : (v : V) → Sorted run → set run place (at.own.0, v) ≡ put value_cmp key v run
  entry_put v sorted =
      ap (λ n. set run n (at.own.0, v)) (sym at.at) ∙ ap (λ es. set es (length at.before) (at.own.0, v)) at.is ∙ set-append_seam at.before at.own at.after (at.own.0, v)
      ∙ sym (ap (put value_cmp key v) at.is ∙ put_here value_cmp_total key v at.before at.own at.after at.same (subst Sorted at.is sorted))

-- ---- a part of a list that has the key, if the list has it

pub record IsPartWith {V : Type 0} (key : Value) (run : List (Value × V)) (low : ℕ) (part : List (Value × V)) : Type 0 where
  pub before : List (Value × V)
  pub after : List (Value × V)
  pub is : run ≡ before ++ (part ++ after)
  pub at : length before ≡ low
  pub same : Sorted run → find value_cmp key run ≡ find value_cmp key part
  pub sorted : Sorted run → Sorted part

pub whole : {V : Type 0} (key : Value) (run : List (Value × V)) → IsPartWith key run 0 run
whole key run = record { before = []; after = []; is = sym (append-nil run); at = refl; same = λ s. refl; sorted = λ s. s }

module _ {V : Type 0} (key : Value) (run : List (Value × V)) (low : ℕ) (part : List (Value × V)) (h : IsPartWith key run low part) where
  pub nowhere : length part ≡ 0 → Sorted run → find value_cmp key run ≡ None
  nowhere none s = h.same s ∙ ap (find value_cmp key) (nothing_in part none)

  module _ (b : List (Value × V)) (o : Value × V) (a : List (Value × V)) (is : part ≡ b ++ o ∷ a) where
    opened : run ≡ h.before ++ (b ++ o ∷ (a ++ h.after))
    opened = h.is ∙ ap (λ es. h.before ++ es) (ap (λ es. es ++ h.after) is ∙ append_assoc b (o ∷ a) h.after)

    here : Sorted run → Sorted (b ++ o ∷ a)
    here s = subst Sorted is (h.sorted s)

    pub part_within : low + length b + 1 ≤ length run
    part_within =
        let all = ap length opened ∙ length-append h.before (b ++ o ∷ (a ++ h.after)) in
        let rest = joined_length b o (a ++ h.after) in
        omega (arith, all, rest, h.at)

    pub part_shorter : (length b < length part) × (length a < length part)
    part_shorter = let all = ap length is ∙ joined_length b o a in (omega (arith, all), omega (arith, all))

    pub to_left : value_cmp key o.0 ≡ Less → IsPartWith key run low b
    to_left less = record {
      before = h.before;
      after = o ∷ (a ++ h.after);
      is = opened;
      at = h.at;
      same = λ s. h.same s ∙ ap (find value_cmp key) is ∙ find_left value_cmp_total key b o a less (here s);
      sorted = λ s. sorted_front value_cmp_total b (o ∷ a) (here s);
    }

    pub to_right : value_cmp key o.0 ≡ Greater → IsPartWith key run (low + (length b + 1)) a
    to_right more = record {
      before = h.before ++ (b ++ o ∷ []);
      after = h.after;
      is = opened ∙ sym (append_assoc h.before (b ++ o ∷ []) (a ++ h.after) ∙ ap (λ es. h.before ++ es) (append_assoc b (o ∷ []) (a ++ h.after)));
      at = (let one = joined_length b o [] in let all = length-append h.before (b ++ o ∷ []) in omega (arith, one, all, h.at));
      same = λ s. h.same s ∙ ap (find value_cmp key) is ∙ find_right value_cmp_total key b o a more (here s);
      sorted = λ s. sorted_back value_cmp_total b o a (here s);
    }

    pub found : value_cmp key o.0 ≡ Equal → IsEntryAt key run (low + length b)
    found same = record {
      before = h.before ++ b;
      own = o;
      after = a ++ h.after;
      is = opened ∙ sym (append_assoc h.before b (o ∷ (a ++ h.after)));
      at = (let all = length-append h.before b in omega (arith, all, h.at));
      same = same;
    }

-- ---- what calls answer

module _ {V : Type 0} (key : Value) (v : V) (run : List (Value × V)) where
  pub appended : (new : List (Value × V)) → IsAbove key run → new ≡ run ++ (key, v) ∷ [] → (length new ≡ length run + 1) × (Sorted run → (find value_cmp key run ≡ None) × (new ≡ put value_cmp key v run))
  appended new above is = (ap length is ∙ (let all = length-append run ((key, v) ∷ []) in omega (arith, all)), λ s. (above_none key run above s, is ∙ sym (above_put key run v above s)))

  pub not_appended : {E : Type 0} (e : E) (new : List (Value × V)) → IsAbove key run → new ≡ run → IsAdded (Err e) key v run new
  not_appended e new above is = (is, above_none key run above)

pub there : {V : Type 0} (key : Value) (run : List (Value × V)) (place : ℕ) → IsEntryAt key run place → Sorted run → IsSome (find value_cmp key run)
there key run place at sorted = subst IsSome (sym (entry_found key run place at sorted)) refl

-- an element that is read for a change
pub put_at : {V : Type 0} (key : Value) (v : V) (run : List (Value × V)) (place : ℕ) (own : Value × V) → own ≡ get_or run place own → IsEntryAt key run place → Sorted run → set run place (own.0, v) ≡ put value_cmp key v run
put_at key v run place own is at sorted = ap (λ e. set run place (e.0, v)) (is ∙ entry_read key run place at own) ∙ entry_put key run place at v sorted

pub value_is : {V : Type 0} (key : Value) (run : List (Value × V)) (place : ℕ) (at : IsEntryAt key run place) (default : Value × V) → Sorted run → Some (get_or run place default).1 ≡ find value_cmp key run
value_is key run place at default sorted = ap (λ e. Some e.1) (entry_read key run place at default) ∙ sym (entry_found key run place at sorted)

-- ---- a tree of the last entries

before_and_after : {A : Type 0} (all first second third before : List A) (own : A) (after : List A) → all ≡ first ++ after → first ≡ second ++ own ∷ [] → second ≡ third ++ before → all ≡ third ++ (before ++ own ∷ after)
before_and_after all first second third before own after a b c =
    a ∙ ap (λ es. es ++ after) (b ∙ ap (λ es. es ++ own ∷ []) c) ∙ append_assoc (third ++ before) (own ∷ []) after ∙ append_assoc third before (own ∷ after)

pub planted_built : {A E : Type 0} (all first second third new before : List A) (own : A) (after : List A) (count : ℕ) (made : Result (List A) E) → all ≡ first ++ after → first ≡ second ++ own ∷ [] → second ≡ third ++ before → count ≡ length before + length after + 1 → IfOk made (λ tree. tree ≡ before ++ own ∷ after) → OnOk made (new ≡ third) → IfOk made (λ tree. (all ≡ new ++ tree) × (length tree ≡ count))
planted_built all first second third new before own after count (Ok tree) a b c n is kept =
    (before_and_after all first second third before own after a b c ∙ ap (λ es. es ++ (before ++ own ∷ after)) (sym kept) ∙ ap (λ es. new ++ es) (sym is), ap length is ∙ joined_length before own after ∙ sym n)
planted_built all first second third new before own after count (Err e) a b c n is kept = tt

pub planted_refused : {A E : Type 0} (all first second third new before : List A) (own : A) (after : List A) (made : Result (List A) E) → all ≡ first ++ after → first ≡ second ++ own ∷ [] → second ≡ third ++ before → OnErr made (new ≡ third ++ (before ++ own ∷ after)) → OnErr made (new ≡ all)
planted_refused all first second third new before own after made a b c = on_err_weaker made (λ is. is ∙ sym (before_and_after all first second third before own after a b c))

pub given_back : {A : Type 0} (all first second third after new : List A) (own : A) → all ≡ first ++ after → first ≡ second ++ own ∷ [] → third ≡ second ++ own ∷ [] → new ≡ third ++ after → new ≡ all
given_back all first second third after new own a b c d = d ∙ sym (a ∙ ap (λ es. es ++ after) (b ∙ sym c))

pub poured : {A : Type 0} (run one two three before : List A) (own : A) (after : List A) → one ≡ run ++ before → two ≡ one ++ own ∷ [] → three ≡ two ++ after → three ≡ run ++ (before ++ own ∷ after)
poured run one two three before own after a b c =
    c ∙ ap (λ es. es ++ after) (b ∙ ap (λ es. es ++ own ∷ []) a) ∙ append_assoc (run ++ before) (own ∷ []) after ∙ append_assoc run before (own ∷ after)

pub halves_even : (count left right : ℕ) → 0 < count → left ≡ count - count / 2 - 1 → right ≡ count / 2 → (count ≡ left + right + 1) × AreEven left right
halves_even count left right some l r = (omega arith, (omega arith, omega arith))
