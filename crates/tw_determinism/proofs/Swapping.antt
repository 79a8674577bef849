-- The steps of two tasks can be made in either order, with the same result.
use Rattle.std.proofs.Common.{◌≡◌, ◌⊎◌, inl, inr, Bool, true, false, ◌||◌, List, Option, Some, None, refl, sym, ap, subst, ◌∙◌}
use Rattle.tw_determinism.proofs.MachineNames.{Procedure, Subscript, Value, Values, cases_Bool, eq_by_cmp, get, insert, insert_other, insert_same, int_of, option_and_then, option_map, own_key, same_Some, sum_with, tied, value_cmp, value_cmp-IsAntisymmetric, value_cmp_total, ℤ, ◌+ℤ◌}
use Rattle.std.specs.Int.{int_wrap, w64}
use Rattle.std.proofs.lemmas.Int.{int_wrap-add_left}
use Rattle.std.proofs.Math.IntN.{+ℤ_assoc, +ℤ_comm}
use Rattle.tw_types.specs.declared.value.Value.TheVariants as value
use Rattle.tw_determinism.proofs.Names.{Name, name_cmp, name_cmp_total, name_cmp-same, insert_swap, insert_twice}
use Rattle.tw_determinism.proofs.CoreEffects.{Cell, Cells, Unset, Set, Contains, Maps, Sums, MemberNames, Threads, Thread, Waits, Waiting, Writing, SetTo, Put, PutValue, Add, Shared, Effect, written, put_if_free, value_if_free, Net, effect_of, cell_at, subject_of, next_name}
use Rattle.tw_determinism.proofs.CoreMachine.{Edit, Leaves, Adds, Changes, edit_of, child_of, share_of, with_share, edited, with_child, threads_after, IsThere, IsMade, Steps, Wills}
use Rattle.tw_determinism.proofs.Options.{some_first, some_mapped}
use Rattle.tw_determinism.proofs.Persisting.{name_dec, new_cell, new_thread, set_stays, wills_kept}

-- ---- two writings of one datum

pub subscript_dec : (x y : Subscript) → (x ≡ y) ⊎ (x ≡ y → ⊥)
subscript_dec x y = elim (cases_Bool (eq_by_cmp value_cmp x y)) [
  | inl t ↦ inl (value_cmp-IsAntisymmetric x y (tied (value_cmp x y) t))
  | inr u ↦ inr (λ e. let own : eq_by_cmp value_cmp x x ≡ true = own_key value_cmp_total x in let other : eq_by_cmp value_cmp x x ≡ false = subst (λ z. eq_by_cmp value_cmp x z ≡ false) (sym e) u in cc)
]

put_done : (ms : MemberNames) (at : Subscript) (d : Name) (o : Option Name) (c : Cell) → put_if_free ms at d o ≡ Some c → (o ≡ None) × (Contains (insert ms at d) ≡ c)
put_done ms at d None c e = (refl, same_Some _ c e)
put_done ms at d (Some other) c e = cc

put_now : (ms : MemberNames) (at : Subscript) (d : Name) (o : Option Name) → o ≡ None → put_if_free ms at d o ≡ Some (Contains (insert ms at d))
put_now ms at d None e = refl
put_now ms at d (Some other) e = cc

abbrev Both : Writing → Writing → Cell → Cell → Type 0
Both v w a c = (b : Cell) × (written v a ≡ Some b) × (written w b ≡ Some c)

puts : (ms : MemberNames) (i j : Subscript) (d e : Name) (c : Cell) → get ms i ≡ None → written (Put j e) (Contains (insert ms i d)) ≡ Some c → Both (Put j e) (Put i d) (Contains ms) c
puts ms i j d e c free is =
    let second = put_done (insert ms i d) j e (get (insert ms i d) j) c is in
    let apart : j ≡ i → ⊥ = λ same. let there : get (insert ms i d) j ≡ Some d = ap (get (insert ms i d)) same ∙ insert_same value_cmp value_cmp_total ms i d in let none = second.0 in cc in
    let free_j : get ms j ≡ None = sym (insert_other value_cmp value_cmp_total value_cmp-IsAntisymmetric ms i d j apart) ∙ second.0 in
    let free_i : get (insert ms j e) i ≡ None = insert_other value_cmp value_cmp_total value_cmp-IsAntisymmetric ms j e i (λ same. apart (sym same)) ∙ free in (
      Contains (insert ms j e),
      put_now ms j e (get ms j) free_j,
      put_now (insert ms j e) i d (get (insert ms j e) i) free_i ∙ ap Some (ap Contains (insert_swap value_cmp_total value_cmp-IsAntisymmetric ms j i e d apart) ∙ second.1),
    )

value_done : (xs : Values) (at : Subscript) (x : Value) (o : Option Value) (c : Cell) → value_if_free xs at x o ≡ Some c → (o ≡ None) × (Maps (insert xs at x) ≡ c)
value_done xs at x None c e = (refl, same_Some _ c e)
value_done xs at x (Some other) c e = cc

value_now : (xs : Values) (at : Subscript) (x : Value) (o : Option Value) → o ≡ None → value_if_free xs at x o ≡ Some (Maps (insert xs at x))
value_now xs at x None e = refl
value_now xs at x (Some other) e = cc

after_value : (xs : Values) (i : Subscript) (x : Value) (v : Writing) (c : Cell) → get xs i ≡ None → written v (Maps (insert xs i x)) ≡ Some c → Both v (PutValue i x) (Maps xs) c
after_value xs i x (SetTo y) c free is = cc
after_value xs i x (Put j d) c free is = cc
after_value xs i x (Add j n) c free is = cc
after_value xs i x (PutValue j y) c free is =
    let second = value_done (insert xs i x) j y (get (insert xs i x) j) c is in
    let apart : j ≡ i → ⊥ = λ same. let there : get (insert xs i x) j ≡ Some x = ap (get (insert xs i x)) same ∙ insert_same value_cmp value_cmp_total xs i x in let none = second.0 in cc in
    let free_j : get xs j ≡ None = sym (insert_other value_cmp value_cmp_total value_cmp-IsAntisymmetric xs i x j apart) ∙ second.0 in
    let free_i : get (insert xs j y) i ≡ None = insert_other value_cmp value_cmp_total value_cmp-IsAntisymmetric xs j y i (λ same. apart (sym same)) ∙ free in (
      Maps (insert xs j y),
      value_now xs j y (get xs j) free_j,
      value_now (insert xs j y) i x (get (insert xs j y) i) free_i ∙ ap Some (ap Maps (insert_swap value_cmp_total value_cmp-IsAntisymmetric xs j i y x apart) ∙ second.1),
    )

-- the sums of two integers, in either order
wrap_swap : (a b : ℤ) → int_wrap w64 (a +ℤ b) ≡ int_wrap w64 (b +ℤ a)
wrap_swap a b = ap (int_wrap w64) (+ℤ_comm a b)

sums_swap : (o : Option Value) (n k : ℤ) → sum_with (Some (sum_with o n)) k ≡ sum_with (Some (sum_with o k)) n
sums_swap None n k = ap value.Int (wrap_swap n k)
sums_swap (Some old) n k = ap value.Int (
    int_wrap-add_left w64 (int_of old +ℤ n) k ∙ ap (int_wrap w64) (+ℤ_assoc (int_of old) n k ∙ ap (λ z. int_of old +ℤ z) (+ℤ_comm n k) ∙ sym (+ℤ_assoc (int_of old) k n)) ∙ sym (int_wrap-add_left w64 (int_of old +ℤ k) n))

sum_put : Values → Subscript → ℤ → Values
sum_put xs at n = insert xs at (sum_with (get xs at) n)

sums_apart : (xs : Values) (i j : Subscript) (n k : ℤ) → (j ≡ i → ⊥) → sum_put (sum_put xs i n) j k ≡ sum_put (sum_put xs j k) i n
unfolding sum_put
sums_apart xs i j n k apart =
    ap (λ o. insert (insert xs i (sum_with (get xs i) n)) j (sum_with o k)) (insert_other value_cmp value_cmp_total value_cmp-IsAntisymmetric xs i (sum_with (get xs i) n) j apart)
    ∙ insert_swap value_cmp_total value_cmp-IsAntisymmetric xs i j (sum_with (get xs i) n) (sum_with (get xs j) k) (λ same. apart (sym same))
    ∙ ap (λ o. insert (insert xs j (sum_with (get xs j) k)) i (sum_with o n)) (sym (insert_other value_cmp value_cmp_total value_cmp-IsAntisymmetric xs j (sum_with (get xs j) k) i (λ same. apart (sym same))))

sums_same : (xs : Values) (i : Subscript) (n k : ℤ) → sum_put (sum_put xs i n) i k ≡ sum_put (sum_put xs i k) i n
unfolding sum_put
sums_same xs i n k =
    ap (λ o. insert (insert xs i (sum_with (get xs i) n)) i (sum_with o k)) (insert_same value_cmp value_cmp_total xs i (sum_with (get xs i) n))
    ∙ insert_twice value_cmp_total value_cmp-IsAntisymmetric xs i (sum_with (get xs i) n) (sum_with (Some (sum_with (get xs i) n)) k)
    ∙ ap (insert xs i) (sums_swap (get xs i) n k)
    ∙ sym (insert_twice value_cmp_total value_cmp-IsAntisymmetric xs i (sum_with (get xs i) k) (sum_with (Some (sum_with (get xs i) k)) n))
    ∙ ap (λ o. insert (insert xs i (sum_with (get xs i) k)) i (sum_with o n)) (sym (insert_same value_cmp value_cmp_total xs i (sum_with (get xs i) k)))

after_sum : (xs : Values) (i : Subscript) (n : ℤ) (v : Writing) (c : Cell) → written v (Sums (insert xs i (sum_with (get xs i) n))) ≡ Some c → Both v (Add i n) (Sums xs) c
unfolding sum_put
after_sum xs i n (SetTo y) c is = cc
after_sum xs i n (Put j d) c is = cc
after_sum xs i n (PutValue j y) c is = cc
after_sum xs i n (Add j k) c is = (Sums (sum_put xs j k), refl, ap Some (ap Sums swapped ∙ same_Some _ c is))
  where
    swapped : sum_put (sum_put xs j k) i n ≡ sum_put (sum_put xs i n) j k
    swapped = elim (subscript_dec j i) [
      | inl same ↦ ap (λ q. sum_put (sum_put xs q k) i n) same ∙ sums_same xs i k n ∙ ap (λ q. sum_put (sum_put xs i n) q k) (sym same)
      | inr other ↦ sym (sums_apart xs i j n k other)
    ]

commutes : (w v : Writing) (a b c : Cell) → written w a ≡ Some b → written v b ≡ Some c → Both v w a c
commutes (SetTo x) v Unset b c e f = absurd (set_stays v x c (subst (λ z. written v z ≡ Some c) (sym (same_Some (Set x) b e)) f))
commutes (SetTo x) v (Set y) b c e f = cc
commutes (SetTo x) v (Contains ms) b c e f = cc
commutes (SetTo x) v (Maps xs) b c e f = cc
commutes (SetTo x) v (Sums xs) b c e f = cc
commutes (Put i d) v Unset b c e f = cc
commutes (Put i d) v (Set y) b c e f = cc
commutes (Put i d) (SetTo x) (Contains ms) b c e f =
    let first = put_done ms i d (get ms i) b e in
    let g : None ≡ Some c = subst (λ z. written (SetTo x) z ≡ Some c) (sym first.1) f in
    cc
commutes (Put i d) (Put j x) (Contains ms) b c e f =
    let first = put_done ms i d (get ms i) b e in
    puts ms i j d x c first.0 (subst (λ z. written (Put j x) z ≡ Some c) (sym first.1) f)
commutes (Put i d) (PutValue j x) (Contains ms) b c e f =
    let first = put_done ms i d (get ms i) b e in
    let g : None ≡ Some c = subst (λ z. written (PutValue j x) z ≡ Some c) (sym first.1) f in
    cc
commutes (Put i d) (Add j n) (Contains ms) b c e f =
    let first = put_done ms i d (get ms i) b e in
    let g : None ≡ Some c = subst (λ z. written (Add j n) z ≡ Some c) (sym first.1) f in
    cc
commutes (Put i d) v (Maps xs) b c e f = cc
commutes (Put i d) v (Sums xs) b c e f = cc
commutes (PutValue i x) v Unset b c e f = cc
commutes (PutValue i x) v (Set y) b c e f = cc
commutes (PutValue i x) v (Contains ms) b c e f = cc
commutes (PutValue i x) v (Sums xs) b c e f = cc
commutes (PutValue i x) v (Maps xs) b c e f =
    let first = value_done xs i x (get xs i) b e in
    after_value xs i x v c first.0 (subst (λ z. written v z ≡ Some c) (sym first.1) f)
commutes (Add i n) v Unset b c e f = cc
commutes (Add i n) v (Set y) b c e f = cc
commutes (Add i n) v (Contains ms) b c e f = cc
commutes (Add i n) v (Maps xs) b c e f = cc
commutes (Add i n) v (Sums xs) b c e f = after_sum xs i n v c (subst (λ z. written v z ≡ Some c) (sym (same_Some _ b e)) f)

-- ---- two edits

record Changed (cells : Cells) (d : Name) (w : Writing) (after : Cells) : Type 0 where
  before : Cell
  there : get cells d ≡ Some before
  cell : Cell
  is : written w before ≡ Some cell
  so : insert cells d cell ≡ after

changed : (cells : Cells) (next d : Name) (w : Writing) (after : Cells) → edited cells next (Changes d w) ≡ Some after → Changed cells d w after
changed cells next d w after e =
    let a = some_mapped (option_and_then (written w) (get cells d)) (insert cells d) after e in
    let b = some_first (get cells d) (written w) a.0 a.1 in
    record { before = b.0; there = b.1; cell = a.0; is = b.2; so = a.2 }

change : (cells : Cells) (next d : Name) (w : Writing) (b c : Cell) → get cells d ≡ Some b → written w b ≡ Some c → edited cells next (Changes d w) ≡ Some (insert cells d c)
change cells next d w b c there is = ap (λ o. option_map (insert cells d) (option_and_then (written w) o)) there ∙ ap (option_map (insert cells d)) is

abbrev IsElsewhere : Name → Edit → Type 0
IsElsewhere k Leaves = Unit {0}
IsElsewhere k (Adds c) = Unit {0}
IsElsewhere k (Changes d w) = d ≡ k → ⊥

abbrev InTurn : Cells → Name → Edit → Name → Edit → Cells → Type 0
InTurn cells j e k f y = (z : Cells) × (edited cells j e ≡ Some z) × (edited z k f ≡ Some y)

edits_swap : (cells : Cells) (j k : Name) (e f : Edit) (x y : Cells) → (j ≡ k → ⊥) → IsElsewhere k e → IsElsewhere j f → edited cells j e ≡ Some x → edited x k f ≡ Some y → InTurn cells k f j e y
edits_swap cells j k Leaves f x y apart a b g h = (y, subst (λ z. edited z k f ≡ Some y) (sym (same_Some cells x g)) h, refl)
edits_swap cells j k (Adds c) Leaves x y apart a b g h = (cells, refl, g ∙ h)
edits_swap cells j k (Changes d w) Leaves x y apart a b g h = (cells, refl, g ∙ h)
edits_swap cells j k (Adds c) (Adds d) x y apart a b g h =
    (insert cells k d, refl, ap Some (insert_swap name_cmp_total name_cmp-same cells k j d c (λ e. apart (sym e)) ∙ ap (λ z. insert z k d) (same_Some _ x g)) ∙ h)
edits_swap cells j k (Adds c) (Changes d w) x y apart a b g h =
    let two = changed x k d w y h in
    let there : get cells d ≡ Some two.before = sym (insert_other name_cmp name_cmp_total name_cmp-same cells j c d b) ∙ subst (λ z. get z d ≡ Some two.before) (sym (same_Some _ x g)) two.there in
    (insert cells d two.cell, change cells k d w two.before two.cell there two.is, ap Some (insert_swap name_cmp_total name_cmp-same cells d j two.cell c b ∙ ap (λ z. insert z d two.cell) (same_Some _ x g) ∙ two.so))
edits_swap cells j k (Changes d w) (Adds c) x y apart a b g h =
    let one = changed cells j d w x g in (
      insert cells k c,
      refl,
      change (insert cells k c) j d w one.before one.cell (insert_other name_cmp name_cmp_total name_cmp-same cells k c d a ∙ one.there) one.is
          ∙ ap Some (insert_swap name_cmp_total name_cmp-same cells k d c one.cell (λ e. a (sym e)) ∙ ap (λ z. insert z k c) one.so) ∙ h,
    )
edits_swap cells j k (Changes d w) (Changes b v) x y apart a c g h = elim (name_dec b d) [
  | inl same ↦
      let at : get x b ≡ Some one.cell = ap (get x) same ∙ subst (λ z. get z d ≡ Some one.cell) one.so (insert_same name_cmp name_cmp_total cells d one.cell) in
      let found : two.before ≡ one.cell = same_Some two.before one.cell (sym two.there ∙ at) in
      let both = commutes w v one.before one.cell two.cell one.is (subst (λ z. written v z ≡ Some two.cell) found two.is) in (
        insert cells b both.0,
        change cells k b v one.before both.0 (ap (get cells) same ∙ one.there) both.1,
        change (insert cells b both.0) j d w both.0 two.cell (ap (get (insert cells b both.0)) (sym same) ∙ insert_same name_cmp name_cmp_total cells b both.0) both.2
            ∙ ap Some (ap (λ z. insert (insert cells z both.0) d two.cell) same ∙ insert_twice name_cmp_total name_cmp-same cells d both.0 two.cell
            ∙ sym (insert_twice name_cmp_total name_cmp-same cells d one.cell two.cell) ∙ ap (λ z. insert (insert cells d one.cell) z two.cell) (sym same) ∙ ap (λ z. insert z b two.cell) one.so ∙ two.so),
      )
  | inr other ↦
      let there : get cells b ≡ Some two.before = sym (insert_other name_cmp name_cmp_total name_cmp-same cells d one.cell b other) ∙ subst (λ z. get z b ≡ Some two.before) (sym one.so) two.there in (
        insert cells b two.cell,
        change cells k b v two.before two.cell there two.is,
        change (insert cells b two.cell) j d w one.before one.cell (insert_other name_cmp name_cmp_total name_cmp-same cells b two.cell d (λ e. other (sym e)) ∙ one.there) one.is
            ∙ ap Some (insert_swap name_cmp_total name_cmp-same cells b d two.cell one.cell other ∙ ap (λ z. insert z b two.cell) one.so ∙ two.so),
      )
]
  where
    one : Changed cells d w x
    one = changed cells j d w x g

    two : Changed x b v y
    two = changed x k b v y h

-- ---- the threads

past_child : (threads : Threads) (t next : Name) (th : Thread) (o : Option Waiting) → (t ≡ next → ⊥) → with_child (insert threads t th) next o ≡ insert (with_child threads next o) t th
past_child threads t next th None apart = refl
past_child threads t next th (Some w) apart = insert_swap name_cmp_total name_cmp-same threads t next th (Waits w) apart

children_swap : (threads : Threads) (j k : Name) (o p : Option Waiting) → (j ≡ k → ⊥) → with_child (with_child threads j o) k p ≡ with_child (with_child threads k p) j o
children_swap threads j k None p apart = refl
children_swap threads j k (Some w) p apart = past_child threads j k (Waits w) p apart

threads_swap : (threads : Threads) (t u j k : Name) (e f : Effect) → (t ≡ u → ⊥) → (t ≡ k → ⊥) → (u ≡ j → ⊥) → (j ≡ k → ⊥)
    → threads_after (threads_after threads t j e) u k f ≡ threads_after (threads_after threads u k f) t j e
threads_swap threads t u j k e f tu tk uj jk =
    ap (λ z. with_child z k (child_of f.act)) (sym (past_child (insert threads t e.thread) u j f.thread (child_of e.act) uj))
    ∙ children_swap (insert (insert threads t e.thread) u f.thread) j k (child_of e.act) (child_of f.act) jk
    ∙ ap (λ z. with_child (with_child z k (child_of f.act)) j (child_of e.act)) (insert_swap name_cmp_total name_cmp-same threads t u e.thread f.thread tu)
    ∙ ap (λ z. with_child z j (child_of e.act)) (past_child (insert threads u f.thread) t k e.thread (child_of f.act) tk)

-- ---- what is shared

or_swap : (a b c : Bool) → (a || (b || c)) ≡ (b || (a || c))
or_swap true true c = refl
or_swap true false c = refl
or_swap false b c = refl

shares_swap : (shared : Shared) (o p : Option Name) → with_share (with_share shared o) p ≡ with_share (with_share shared p) o
shares_swap shared None p = refl
shares_swap shared (Some d) None = refl
shares_swap shared (Some d) (Some b) = λ i x. or_swap (eq_by_cmp name_cmp x b) (eq_by_cmp name_cmp x d) (shared x) i

-- ---- two steps

-- a task has one next step
pub same_wills : (program : List Procedure) (m : Net) (t : Name) (v w : Wills program m t) → (v.thread ≡ w.thread) × (v.effect ≡ w.effect)
same_wills program m t v w =
    let th_is : v.thread ≡ w.thread = same_Some v.thread w.thread (sym v.there ∙ w.there) in
    (th_is, same_Some v.effect w.effect (sym v.is ∙ ap (λ th. effect_of program (next_name t th) (cell_at m (subject_of program th)) th) th_is ∙ w.is))

-- the step, by what it is known to be
pub stepped : (program : List Procedure) (m n : Net) (t : Name) (v : Wills program m t) → Steps program m t n
    → (edited m.cells (next_name t v.thread) (edit_of v.effect.act) ≡ Some n.cells) × (n.threads ≡ threads_after m.threads t (next_name t v.thread) v.effect) × (n.shared ≡ with_share m.shared (share_of v.effect.act))
stepped program m n t v s = let same = same_wills program m t s.wills v in (
  ap (λ th. edited m.cells (next_name t th) (edit_of v.effect.act)) (sym same.0) ∙ ap (λ (e : Effect). edited m.cells (next_name t s.wills.thread) (edit_of e.act)) (sym same.1) ∙ s.cells,
  s.threads ∙ ap (λ (e : Effect). threads_after m.threads t (next_name t s.wills.thread) e) same.1 ∙ ap (λ th. threads_after m.threads t (next_name t th) v.effect) same.0,
  s.shared ∙ ap (λ (e : Effect). with_share m.shared (share_of e.act)) same.1,
)

pub same_net : (m n : Net) → m.cells ≡ n.cells → m.threads ≡ n.threads → m.shared ≡ n.shared → m ≡ n
same_net m n c d e = λ i. record { cells = c i; threads = d i; shared = e i }

pub same_step : (program : List Procedure) (m n o : Net) (t : Name) → Steps program m t n → Steps program m t o → n ≡ o
same_step program m n o t s r =
    let q = stepped program m o t s.wills r in
    same_net n o (same_Some n.cells o.cells (sym s.cells ∙ q.0)) (s.threads ∙ sym q.1) (s.shared ∙ sym q.2)

module _ (program : List Procedure) (m n : Net) (is_made : IsMade m) (t : Name) (step : Steps program m t n) (u : Name) (other : u ≡ t → ⊥) (v : Wills program m u) where
  -- neither makes what the other makes or writes
  names_apart : next_name t step.wills.thread ≡ next_name u v.thread → ⊥
  names_apart e = let same : t ≡ u = cc in other (sym same)

  elsewhere : (edit : Edit) (w : Name) (x : Wills program m w) → IsThere m.cells edit → IsElsewhere (next_name w x.thread) edit
  elsewhere Leaves w x is = tt
  elsewhere (Adds c) w x is = tt
  elsewhere (Changes d b) w x is = λ same. new_cell program m is_made w x is.0 (subst (λ z. get m.cells z ≡ Some is.0) same is.1)

  pub swaps : (o : Net) → Steps program n u o → (p : Net) × Steps program m u p × Steps program p t o
  swaps o second =
      let s = stepped program n o u (wills_kept program m n is_made t step u other v) second in
      let z = edits_swap m.cells (next_name t step.wills.thread) (next_name u v.thread) (edit_of step.wills.effect.act) (edit_of v.effect.act) n.cells o.cells names_apart
      (elsewhere (edit_of step.wills.effect.act) u v step.wills.target) (elsewhere (edit_of v.effect.act) t step.wills v.target) step.cells s.0 in
      let p : Net = record { cells = z.0; threads = threads_after m.threads u (next_name u v.thread) v.effect; shared = with_share m.shared (share_of v.effect.act) } in
      let first : Steps program m u p = record { wills = v; cells = z.1; threads = refl; shared = refl } in (
        p,
        first,
        record {
          wills = wills_kept program m p is_made u first t (λ e. other (sym e)) step.wills;
          cells = z.2;
          threads = s.1 ∙ ap (λ y. threads_after y u (next_name u v.thread) v.effect) step.threads
              ∙ threads_swap m.threads t u (next_name t step.wills.thread) (next_name u v.thread) step.wills.effect v.effect (λ e. other (sym e))
              (λ e. new_thread program m is_made u v step.wills.thread (subst (λ y. get m.threads y ≡ Some step.wills.thread) e step.wills.there))
              (λ e. new_thread program m is_made t step.wills v.thread (subst (λ y. get m.threads y ≡ Some v.thread) e v.there))
              names_apart;
          shared = s.2 ∙ ap (λ y. with_share y (share_of v.effect.act)) step.shared ∙ shares_swap m.shared (share_of step.wills.effect.act) (share_of v.effect.act);
        },
      )
