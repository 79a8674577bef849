-- Changes of sets of notices, by which notices they have.
use Rattle.tw_instr.proofs.Names.{BTreeSet, Bool, List, Notice, Notices, Updates, [], ap, arith, cond, eq_by_cmp, eq_by_cmp_equiv, false, get_or, is_among, is_in, length, map, map-append, not, notice_cmp, notice_cmp-IsAntisymmetric, notice_cmp_total, refl, suc, sym, take, true, with_notices, zero, ℕ, ◌&&◌, ◌++◌, ◌+◌, ◌<◌, ◌||◌, ◌∙◌, ◌∷◌, ◌≡◌}
use Rattle.std.specs.declared.result.Result.{Result}
use Rattle.std.specs.declared.result.Result.TheVariants.{Ok, Err}
use Rattle.std.specs.Result.{OnErr, OnOk}
use Rattle.std.specs.FinSet.{contains, contains-from_list, contains-insert, contains-remove, from_list, insert, remove, same_set}
use Rattle.std.proofs.Math.Seq.{take-suc}
use Rattle.std.proofs.lemmas.List.Folds.{list_any-append}
use Rattle.tw_types.proofs.Orders.{tied}

-- ---- tests

or_none : (b : Bool) → (b || false) ≡ b
or_none true = refl
or_none false = refl

or_true : (b : Bool) → (b || true) ≡ true
or_true true = refl
or_true false = refl

or_turned : (a b c : Bool) → (a || (b || c)) ≡ ((b || a) || c)
or_turned true true c = refl
or_turned true false c = refl
or_turned false true c = refl
or_turned false false c = refl

or_moved : (a b c : Bool) → ((a || b) || c) ≡ ((a || c) || b)
or_moved true b c = refl
or_moved false true c = sym (or_true c)
or_moved false false c = sym (or_none c)

there_now : (a b c : Bool) → cond a true (b || c) ≡ ((b || a) || c)
there_now true true c = refl
there_now true false c = refl
there_now false true c = refl
there_now false false c = refl

gone_now : (b c : Bool) → cond b false c ≡ (not b && c)
gone_now true c = refl
gone_now false c = refl

-- ---- lists of notices

equal : (n m : Notice) → eq_by_cmp notice_cmp n m ≡ true → n ≡ m
equal n m e = notice_cmp-IsAntisymmetric n m (tied (notice_cmp n m) e)

pushed : (ns : List Notice) (m n : Notice) → is_among (ns ++ m ∷ []) n ≡ (is_among ns n || eq_by_cmp notice_cmp n m)
pushed ns m n = list_any-append (eq_by_cmp notice_cmp n) ns (m ∷ []) ∙ ap (λ b. is_among ns n || b) (or_none (eq_by_cmp notice_cmp n m))

prefix : (ns : List Notice) (i : ℕ) (n : Notice) → is_among (take i ns) n ≡ true → is_among ns n ≡ true
prefix [] zero n e = cc
prefix [] (suc i) n e = cc
prefix (x ∷ ns) zero n e = cc
prefix (x ∷ ns) (suc i) n e = by (prefix ns i n) (eq_by_cmp notice_cmp n x) e
  where
    by : (is_among (take i ns) n ≡ true → is_among ns n ≡ true) → (b : Bool) → (b || is_among (take i ns) n) ≡ true → (b || is_among ns n) ≡ true
    by rest true e = refl
    by rest false e = rest e

module _ {X : Type 0} (xs : List X) (i : ℕ) (x : X) (low : i < length xs) (is : x ≡ get_or xs i x) where
  one_more : take (i + 1) xs ≡ take i xs ++ x ∷ []
  one_more = let next : i + 1 ≡ suc i = omega arith in ap (λ (k : ℕ). take k xs) next ∙ take-suc xs i x low ∙ ap (λ (y : X). take i xs ++ y ∷ []) (sym is)

  among_next : (f : X → Notice) (n : Notice) → is_among (map f (take (i + 1) xs)) n ≡ (is_among (map f (take i xs)) n || eq_by_cmp notice_cmp n (f x))
  among_next f n = ap (λ (ys : List X). is_among (map f ys) n) one_more ∙ ap (λ (ns : List Notice). is_among ns n) (map-append f (take i xs) (x ∷ [])) ∙ pushed (map f (take i xs)) (f x) n

-- ---- one key is added or removed

turned : (m n : Notice) → eq_by_cmp notice_cmp m n ≡ eq_by_cmp notice_cmp n m
turned m n = (eq_by_cmp_equiv notice_cmp_total).symm m n

has : (keys : BTreeSet Notice) (n : Notice) → contains (from_list {R = notice_cmp} keys.keys) n ≡ is_in keys n
has keys n = contains-from_list notice_cmp_total keys.keys n

pub same_notices : (old new : BTreeSet Notice) → ((n : Notice) → is_in new n ≡ is_in old n) → from_list {R = notice_cmp} new.keys ≡ from_list old.keys
same_notices old new is = same_set notice_cmp_total notice_cmp-IsAntisymmetric _ _ (λ n. has new n ∙ is n ∙ sym (has old n))

pub removed_notice : (old new : BTreeSet Notice) (m : Notice) → Updates notice_cmp old new m false → from_list {R = notice_cmp} new.keys ≡ remove (from_list old.keys) m
removed_notice old new m changed = same_set notice_cmp_total notice_cmp-IsAntisymmetric _ _
    (λ n. has new n ∙ changed.0 n ∙ ap (λ b. cond b false (is_in old n)) (turned m n) ∙ gone_now (eq_by_cmp notice_cmp n m) (is_in old n)
    ∙ ap (λ b. not (eq_by_cmp notice_cmp n m) && b) (sym (has old n)) ∙ sym (contains-remove notice_cmp_total (from_list old.keys) m n))

pub added_next : (more : List Notice) (i : ℕ) (x : Notice) (old now new : BTreeSet Notice) → i < length more → x ≡ get_or more i x
    → ((n : Notice) → is_in now n ≡ (is_among (take i more) n || is_in old n)) → Updates notice_cmp now new x true → (n : Notice) → is_in new n ≡ (is_among (take (i + 1) more) n || is_in old n)
added_next more i x old now new low is before changed n =
    changed.0 n ∙ ap (λ b. cond b true (is_in now n)) (turned x n) ∙ ap (λ b. cond (eq_by_cmp notice_cmp n x) true b) (before n)
    ∙ there_now (eq_by_cmp notice_cmp n x) (is_among (take i more) n) (is_in old n)
    ∙ ap (λ b. b || is_in old n) (sym (ap (λ (ns : List Notice). is_among ns n) (one_more more i x low is) ∙ pushed (take i more) x n))

-- the keys so far are removed again
pub undone : (more : List Notice) (i : ℕ) (old now left new : BTreeSet Notice) → ((n : Notice) → is_among more n ≡ true → is_in old n ≡ false)
    → ((n : Notice) → is_in now n ≡ (is_among (take i more) n || is_in old n)) → left.keys ≡ now.keys
    → ((n : Notice) → is_in new n ≡ (not (is_among more n) && is_in left n)) → (n : Notice) → is_in new n ≡ is_in old n
undone more i old now left new apart before same gone n =
    gone n ∙ ap (λ (ns : List Notice). not (is_among more n) && is_among ns n) same ∙ ap (λ b. not (is_among more n) && b) (before n)
    ∙ by (is_among more n) refl (is_among (take i more) n) refl
  where
    by : (b : Bool) → is_among more n ≡ b → (c : Bool) → is_among (take i more) n ≡ c → (not b && (c || is_in old n)) ≡ is_in old n
    by true e c f = sym (apart n e)
    by false e true f = let there = prefix more i n f in cc
    by false e false f = refl

-- ---- the notices that aren't there

module _ {X : Type 0} (f : X → Notice) (xs : List X) (i : ℕ) (x : X) (low : i < length xs) (is : x ≡ get_or xs i x) (keys : BTreeSet Notice) (more : List Notice) where
  abbrev AreAll : List Notice → ℕ → Type 0
  AreAll ns k = (n : Notice) → (is_among ns n || is_in keys n) ≡ (is_among (map f (take k xs)) n || is_in keys n)

  abbrev AreApart : List Notice → Type 0
  AreApart ns = (n : Notice) → is_among ns n ≡ true → is_in keys n ≡ false

  -- the sets of both sides with x, which comes last
  last : (ns : List Notice) (n : Notice) → (is_among ns n || is_in keys n) ≡ (is_among (map f (take i xs)) n || is_in keys n)
      → ((is_among ns n || is_in keys n) || eq_by_cmp notice_cmp n (f x)) ≡ (is_among (map f (take (i + 1) xs)) n || is_in keys n)
  last ns n before =
      ap (λ b. b || eq_by_cmp notice_cmp n (f x)) before ∙ or_moved (is_among (map f (take i xs)) n) (is_in keys n) (eq_by_cmp notice_cmp n (f x))
      ∙ ap (λ b. b || is_in keys n) (sym (among_next xs i x low is f n))

  pub one_missing : is_in keys (f x) ≡ false → AreApart more → AreAll more i → AreApart (more ++ f x ∷ []) × AreAll (more ++ f x ∷ []) (i + 1)
  one_missing new apart all = (
    λ n there. by n (is_among more n) refl (eq_by_cmp notice_cmp n (f x)) refl (sym (pushed more (f x) n) ∙ there),
    λ n. ap (λ b. b || is_in keys n) (pushed more (f x) n) ∙ or_moved (is_among more n) (eq_by_cmp notice_cmp n (f x)) (is_in keys n) ∙ last more n (all n),
  )
    where
      by : (n : Notice) (b : Bool) → is_among more n ≡ b → (c : Bool) → eq_by_cmp notice_cmp n (f x) ≡ c → (b || c) ≡ true → is_in keys n ≡ false
      by n true e c g any = apart n e
      by n false e true g any = ap (is_in keys) (equal n (f x) g) ∙ new
      by n false e false g any = cc

  pub one_there : is_in keys (f x) ≡ true → AreAll more i → AreAll more (i + 1)
  one_there there all n = by (eq_by_cmp notice_cmp n (f x)) refl (last more n (all n))
    where
      by : (c : Bool) → eq_by_cmp notice_cmp n (f x) ≡ c → ((is_among more n || is_in keys n) || c) ≡ (is_among (map f (take (i + 1) xs)) n || is_in keys n)
          → (is_among more n || is_in keys n) ≡ (is_among (map f (take (i + 1) xs)) n || is_in keys n)
      by true g whole = ap (λ b. is_among more n || b) (ap (is_in keys) (equal n (f x) g) ∙ there) ∙ or_true (is_among more n) ∙ sym (or_true (is_among more n || is_in keys n)) ∙ whole
      by false g whole = sym (or_none (is_among more n || is_in keys n)) ∙ whole

-- ---- all are added

with_has : (s : Notices) (more : List Notice) (n : Notice) → contains (with_notices s more) n ≡ (is_among more n || contains s n)
with_has s [] n = refl
with_has s (m ∷ more) n =
    with_has (insert s m) more n ∙ ap (λ b. is_among more n || b) (contains-insert notice_cmp_total s m n)
    ∙ or_turned (is_among more n) (eq_by_cmp notice_cmp n m) (contains s n)

pub notified_is : {E : Type 0} (r : Result (Unit {0}) E) (old new : BTreeSet Notice) (s : Notices) (more ns : List Notice) → from_list {R = notice_cmp} old.keys ≡ s
    → ((n : Notice) → (is_among more n || is_in old n) ≡ (is_among ns n || is_in old n))
    → OnOk r ((n : Notice) → is_in new n ≡ (is_among more n || is_in old n)) → OnOk r (from_list {R = notice_cmp} new.keys ≡ with_notices s ns)
notified_is (Err e) old new s more ns is all added = tt
notified_is (Ok x) old new s more ns is all added =
    same_set notice_cmp_total notice_cmp-IsAntisymmetric _ _ (λ n. has new n ∙ added n ∙ all n ∙ ap (λ b. is_among ns n || b) (sym (has old n)) ∙ sym (with_has (from_list old.keys) ns n))
    ∙ ap (λ (t : Notices). with_notices t ns) is

pub refused_is : {E : Type 0} (r : Result (Unit {0}) E) (old new : BTreeSet Notice) (s : Notices) → from_list {R = notice_cmp} old.keys ≡ s
    → OnErr r ((n : Notice) → is_in new n ≡ is_in old n) → OnErr r (from_list {R = notice_cmp} new.keys ≡ s)
refused_is (Ok x) old new s is same = tt
refused_is (Err e) old new s is same = same_notices old new same ∙ is
