-- The tasks that a state shows, after an event: one changes or ends, one is new, or one is somewhere else.
use Rattle.std.proofs.Common.{◌≡◌, ◌⊎◌, inl, inr, Bool, true, false, eqb, Option, Some, None, refl, sym, ap, subst, ◌∙◌, if◌then◌else◌}
use Rattle.tw_determinism.proofs.MachineNames.{actor_cmp, actor_cmp-IsAntisymmetric, actor_cmp_total, cases_Bool, eq-eqb, eq_by_cmp, eqb-true, get, insert, insert_other, insert_same, own_key, put_or_before, tied}
use Rattle.tw_determinism.proofs.Names.{Name, name_cmp, name_cmp_total, name_cmp-same}
use Rattle.tw_determinism.proofs.CoreEffects.{Thread, Threads, Ended}
use Rattle.tw_determinism.proofs.Persisting.{name_dec}
use Rattle.tw_determinism.proofs.Showing.{Holder, OfFrame, OfTask, OfRule, ShowsThreads}

-- ---- holders are equal or not

abbrev pub is_same : Holder → Holder → Bool
is_same (OfFrame a) (OfFrame b) = eq_by_cmp actor_cmp a b
is_same (OfFrame a) (OfTask k) = false
is_same (OfFrame a) (OfRule k) = false
is_same (OfTask j) (OfFrame b) = false
is_same (OfTask j) (OfTask k) = eqb j k
is_same (OfTask j) (OfRule k) = false
is_same (OfRule j) (OfFrame b) = false
is_same (OfRule j) (OfTask k) = false
is_same (OfRule j) (OfRule k) = eqb j k

pub same_holder : (g h : Holder) → is_same g h ≡ true → g ≡ h
same_holder (OfFrame a) (OfFrame b) e = ap OfFrame (actor_cmp-IsAntisymmetric a b (tied (actor_cmp a b) e))
same_holder (OfFrame a) (OfTask k) e = cc
same_holder (OfFrame a) (OfRule k) e = cc
same_holder (OfTask j) (OfFrame b) e = cc
same_holder (OfTask j) (OfTask k) e = ap OfTask (eqb-true j k e)
same_holder (OfTask j) (OfRule k) e = cc
same_holder (OfRule j) (OfFrame b) e = cc
same_holder (OfRule j) (OfTask k) e = cc
same_holder (OfRule j) (OfRule k) e = ap OfRule (eqb-true j k e)

pub holder_itself : (h : Holder) → is_same h h ≡ true
holder_itself (OfFrame a) = own_key actor_cmp_total a
holder_itself (OfTask k) = eq-eqb k k refl
holder_itself (OfRule k) = eq-eqb k k refl

pub other_holder : (g h : Holder) → (g ≡ h → ⊥) → is_same g h ≡ false
other_holder g h apart = by (is_same g h) refl
  where
    by : (b : Bool) → is_same g h ≡ b → b ≡ false
    by true e = absurd (apart (same_holder g h e))
    by false e = refl

pub holder_dec : (g h : Holder) → (g ≡ h) ⊎ (g ≡ h → ⊥)
holder_dec g h = elim (cases_Bool (is_same g h)) [
  | inl t ↦ inl (same_holder g h t)
  | inr u ↦ inr (λ e. let own : is_same h h ≡ true = holder_itself h in let other : is_same h h ≡ false = subst (λ z. is_same z h ≡ false) e u in cc)
]

-- gives one holder another name
abbrev pub renamed : (Holder → Name) → Holder → Name → Holder → Name
renamed name g t h = if is_same h g then t else name h

pub renamed_same : (name : Holder → Name) (g : Holder) (t : Name) → renamed name g t g ≡ t
renamed_same name g t = ap (λ b. if b then t else name g) (holder_itself g)

pub renamed_other : (name : Holder → Name) (g : Holder) (t : Name) (h : Holder) → (h ≡ g → ⊥) → renamed name g t h ≡ name h
renamed_other name g t h apart = ap (λ b. if b then t else name h) (other_holder h g apart)

-- ---- one task changes, and is still there or has ended

-- what is there of the task afterwards
abbrev pub IsLeft : Option Thread → Thread → Type 0
IsLeft o th = (o ≡ Some th) ⊎ ((o ≡ None) × (th ≡ Ended))

module _ (at after : Holder → Option Thread) (name : Holder → Name) (threads : Threads) (shows : ShowsThreads at name threads) where
  -- one holder's thread is another, and all others are as they were
  pub changed : (h : Holder) (old new : Thread) → at h ≡ Some old → IsLeft (after h) new → ((g : Holder) → (g ≡ h → ⊥) → after g ≡ at g) → ShowsThreads after name (insert threads (name h) new)
  changed h old new was left others = record { there = there; all = all; apart = apart }
    where
      before : (g : Holder) (th : Thread) → after g ≡ Some th → (x : Thread) × (at g ≡ Some x)
      before g th e = elim (holder_dec g h) [
        | inl same ↦ (old, ap at same ∙ was)
        | inr other ↦ (th, sym (others g other) ∙ e)
      ]

      apart : (g i : Holder) (th ti : Thread) → after g ≡ Some th → after i ≡ Some ti → name g ≡ name i → g ≡ i
      apart g i th ti e f same = let x = before g th e in let y = before i ti f in shows.apart g i x.0 y.0 x.1 y.1 same

      there : (g : Holder) (th : Thread) → after g ≡ Some th → get (insert threads (name h) new) (name g) ≡ Some th
      there g th e = elim (holder_dec g h) [
        | inl same ↦ elim left [
          | inl stays ↦ ap (λ z. get (insert threads (name h) new) (name z)) same ∙ insert_same name_cmp name_cmp_total threads (name h) new ∙ sym stays ∙ ap after (sym same) ∙ e
          | inr ended ↦ let none : after g ≡ None = ap after same ∙ ended.0 in cc
        ]
        | inr other ↦
            let was_so : at g ≡ Some th = sym (others g other) ∙ e in
            insert_other name_cmp name_cmp_total name_cmp-same threads (name h) new (name g) (λ same. other (shows.apart g h th old was_so was same)) ∙ shows.there g th was_so
      ]

      all : (t : Name) (th : Thread) → get (insert threads (name h) new) t ≡ Some th → (th ≡ Ended) ⊎ ((g : Holder) × (name g ≡ t) × (after g ≡ Some th))
      all t th e = elim (name_dec t (name h)) [
        | inl same ↦
            let th_is : Some new ≡ Some th = sym (insert_same name_cmp name_cmp_total threads (name h) new) ∙ ap (get (insert threads (name h) new)) (sym same) ∙ e in
            elim left [
              | inl stays ↦ inr (h, sym same, stays ∙ th_is)
              | inr ended ↦ let over : th ≡ Ended = cc in inl over
            ]
        | inr other ↦ elim (shows.all t th (sym (insert_other name_cmp name_cmp_total name_cmp-same threads (name h) new t other) ∙ e)) [
          | inl over ↦ inl over
          | inr g ↦ inr (g.0, g.1, others g.0 (λ same. other (sym g.1 ∙ ap name same)) ∙ g.2)
        ]
      ]

  -- a holder more, with a new name
  pub joined : (h : Holder) (t : Name) (new : Thread) → at h ≡ None → ((th : Thread) → get threads t ≡ Some th → ⊥) → after h ≡ Some new → ((g : Holder) → (g ≡ h → ⊥) → after g ≡ at g)
      → ShowsThreads after (renamed name h t) (insert threads t new)
  joined h t new was fresh is others = record { there = there; all = all; apart = apart }
    where
      named_here : renamed name h t h ≡ t
      named_here = renamed_same name h t

      there : (g : Holder) (th : Thread) → after g ≡ Some th → get (insert threads t new) (renamed name h t g) ≡ Some th
      there g th e = elim (holder_dec g h) [
        | inl same ↦ ap (λ z. get (insert threads t new) (renamed name h t z)) same ∙ ap (get (insert threads t new)) named_here ∙ insert_same name_cmp name_cmp_total threads t new ∙ sym is ∙ ap after (sym same) ∙ e
        | inr other ↦
            let was_so : at g ≡ Some th = sym (others g other) ∙ e in
            let old = shows.there g th was_so in
            ap (get (insert threads t new)) (renamed_other name h t g other)
            ∙ insert_other name_cmp name_cmp_total name_cmp-same threads t new (name g) (λ same. fresh th (subst (λ z. get threads z ≡ Some th) same old)) ∙ old
      ]

      all : (u : Name) (th : Thread) → get (insert threads t new) u ≡ Some th → (th ≡ Ended) ⊎ ((g : Holder) × (renamed name h t g ≡ u) × (after g ≡ Some th))
      all u th e = elim (put_or_before name_cmp_total name_cmp-same threads t new u th e) [
        | inl here ↦ inr (h, named_here ∙ sym here.0, is ∙ ap Some here.1)
        | inr old ↦ elim (shows.all u th old) [
          | inl over ↦ inl over
          | inr g ↦
              let other : g.0 ≡ h → ⊥ = λ same. let none : at g.0 ≡ None = ap at same ∙ was in let some = g.2 in cc in
              inr (g.0, renamed_other name h t g.0 other ∙ g.1, others g.0 other ∙ g.2)
        ]
      ]

      -- an old holder has an old name
      old_name : (g : Holder) (th : Thread) → (g ≡ h → ⊥) → after g ≡ Some th → renamed name h t g ≡ t → ⊥
      old_name g th other e same =
          let was_so : at g ≡ Some th = sym (others g other) ∙ e in
          fresh th (subst (λ z. get threads z ≡ Some th) (sym (renamed_other name h t g other) ∙ same) (shows.there g th was_so))

      apart : (g i : Holder) (th ti : Thread) → after g ≡ Some th → after i ≡ Some ti → renamed name h t g ≡ renamed name h t i → g ≡ i
      apart g i th ti e f same = elim (holder_dec g h) [
        | inl g_is ↦ elim (holder_dec i h) [
          | inl i_is ↦ g_is ∙ sym i_is
          | inr i_other ↦ absurd (old_name i ti i_other f (sym same ∙ ap (renamed name h t) g_is ∙ named_here))
        ]
        | inr g_other ↦ elim (holder_dec i h) [
          | inl i_is ↦ absurd (old_name g th g_other e (same ∙ ap (renamed name h t) i_is ∙ named_here))
          | inr i_other ↦ shows.apart g i th ti (sym (others g g_other) ∙ e) (sym (others i i_other) ∙ f) (sym (renamed_other name h t g g_other) ∙ same ∙ renamed_other name h t i i_other)
        ]
      ]

  -- a task is at another holder
  pub moved : (h g : Holder) (th : Thread) → at h ≡ Some th → at g ≡ None → after h ≡ None → after g ≡ Some th → ((i : Holder) → (i ≡ h → ⊥) → (i ≡ g → ⊥) → after i ≡ at i)
      → ShowsThreads after (renamed name g (name h)) threads
  moved h g th was free gone is others = record { there = there; all = all; apart = apart }
    where
      named_here : renamed name g (name h) g ≡ name h
      named_here = renamed_same name g (name h)

      -- where a thread was before
      from : (i : Holder) (x : Thread) → after i ≡ Some x → (j : Holder) × (at j ≡ Some x) × (renamed name g (name h) i ≡ name j) × (((i ≡ g) × (j ≡ h)) ⊎ ((i ≡ g → ⊥) × (j ≡ i)))
      from i x e = elim (holder_dec i g) [
        | inl same ↦ (h, was ∙ sym is ∙ ap after (sym same) ∙ e, ap (renamed name g (name h)) same ∙ named_here, inl (same, refl))
        | inr other ↦
            let not_h : i ≡ h → ⊥ = λ same. let none : after i ≡ None = ap after same ∙ gone in cc in
            (i, sym (others i not_h other) ∙ e, renamed_other name g (name h) i other, inr (other, refl))
      ]

      there : (i : Holder) (x : Thread) → after i ≡ Some x → get threads (renamed name g (name h) i) ≡ Some x
      there i x e = let f = from i x e in ap (get threads) f.2 ∙ shows.there f.0 x f.1

      all : (u : Name) (x : Thread) → get threads u ≡ Some x → (x ≡ Ended) ⊎ ((i : Holder) × (renamed name g (name h) i ≡ u) × (after i ≡ Some x))
      all u x e = elim (shows.all u x e) [
        | inl over ↦ inl over
        | inr i ↦ elim (holder_dec i.0 h) [
          | inl same ↦
              let x_is : Some th ≡ Some x = sym was ∙ ap at (sym same) ∙ i.2 in
              inr (g, named_here ∙ ap name (sym same) ∙ i.1, is ∙ x_is)
          | inr other ↦
              let not_g : i.0 ≡ g → ⊥ = λ same. let none : at i.0 ≡ None = ap at same ∙ free in let some = i.2 in cc in
              inr (i.0, renamed_other name g (name h) i.0 not_g ∙ i.1, others i.0 other not_g ∙ i.2)
        ]
      ]

      apart : (i j : Holder) (x y : Thread) → after i ≡ Some x → after j ≡ Some y → renamed name g (name h) i ≡ renamed name g (name h) j → i ≡ j
      apart i j x y e f same =
          let a = from i x e in
          let b = from j y f in
          let k : a.0 ≡ b.0 = shows.apart a.0 b.0 x y a.1 b.1 (sym a.2 ∙ same ∙ b.2) in
          elim a.3 [
            | inl a_moved ↦ elim b.3 [
              | inl b_moved ↦ a_moved.0 ∙ sym b_moved.0
              | inr b_stays ↦
                  let j_is : j ≡ h = sym b_stays.1 ∙ sym k ∙ a_moved.1 in
                  let none : after j ≡ None = ap after j_is ∙ gone in
                  cc
            ]
            | inr a_stays ↦ elim b.3 [
              | inl b_moved ↦
                  let i_is : i ≡ h = sym a_stays.1 ∙ k ∙ b_moved.1 in
                  let none : after i ≡ None = ap after i_is ∙ gone in
                  cc
              | inr b_stays ↦ sym a_stays.1 ∙ k ∙ b_stays.1
            ]
          ]

  -- all are as they were
  pub unmoved : ((h : Holder) → after h ≡ at h) → ShowsThreads after name threads
  unmoved same = record {
    there = λ h th e. shows.there h th (sym (same h) ∙ e);
    all = λ t th e. elim (shows.all t th e) [ inl over ↦ inl over | inr h ↦ inr (h.0, h.1, same h.0 ∙ h.2) ];
    apart = λ g h th ti e f. shows.apart g h th ti (sym (same g) ∙ e) (sym (same h) ∙ f);
  }
