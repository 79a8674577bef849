-- A store to which data are added one by one: those of main's parameters, and a container before its members.
use Rattle.std.proofs.Common.{◌≡◌, ℕ, ◌+◌, ◌<◌, ◌≤◌, ◌⊎◌, inl, inr, [], Option, Some, None, refl, sym, ap, subst, ◌∙◌, arith, nat_cmp}
use Rattle.tw_soundness.proofs.MachineNames.{Balanced, BalancedAt, Datum, HasWriters, HaveWriters, IsDataType, IsOfType, IsTypedStore, Scalar, Store, added, cases_lt, count_of, data_insert_other, data_insert_same, element_of, get, insert, inside, members_of, nat_cmp-IsAntisymmetric, nat_cmp_total, part, part-le-total, put_or_before, scalar_type, subscripts_in}
use Rattle.tw_soundness.proofs.Registers.{Undisturbed}
use Rattle.tw_soundness.proofs.Sums.{sum_new}

-- r reads and w writes are held outside; so many members of a container, which are of this type, aren't there yet
pub record IsFilling (t : Store) (ty : Scalar) (left : ℕ) (r w : ℕ → ℕ) : Type 0 where
  pub fresh : (d : ℕ) (x : Datum) → get t.live d ≡ Some x → d < t.next
  pub contents : (d : ℕ) (x : Datum) → get t.live d ≡ Some x → IsOfType x.ty x.content
  pub types : (d : ℕ) (x : Datum) → get t.live d ≡ Some x → IsDataType x.ty
  pub writers : HaveWriters t.live
  pub members : (c d : ℕ) (x y : Datum) → get t.live c ≡ Some x → get t.live d ≡ Some y → 0 < subscripts_in d x → element_of x.ty ≡ Some y.ty
  pub awaited : (c d : ℕ) (x : Datum) → get t.live c ≡ Some x → t.next ≤ d → 0 < subscripts_in d x → element_of x.ty ≡ Some (scalar_type ty)
  pub counts : (d : ℕ) (x : Datum) → get t.live d ≡ Some x → (x.reads ≡ inside t.live d + r d) × (x.writes ≡ w d) × (0 < x.reads + x.writes)
  pub unheld : (d : ℕ) → get t.live d ≡ None → (r d ≡ 0) × (w d ≡ 0)
  pub freed : (d : ℕ) → d < t.next → get t.live d ≡ None → inside t.live d ≡ 0
  pub soon : (d : ℕ) → t.next ≤ d → d < t.next + left → inside t.live d ≡ 1
  pub never : (d : ℕ) → t.next + left ≤ d → inside t.live d ≡ 0

pub inside-le : (t : Store) (c d : ℕ) (x : Datum) → get t.live c ≡ Some x → subscripts_in d x ≤ inside t.live d
inside-le t c d x at = subst (λ (o : Option Datum). part (subscripts_in d) o ≤ inside t.live d) at (part-le-total nat_cmp nat_cmp_total nat_cmp-IsAntisymmetric (subscripts_in d) t.live c)

-- the datum that is added, with `left` members still to come
pub record IsNext (t : Store) (y : Datum) (ty : Scalar) (left : ℕ) (r w s v : ℕ → ℕ) : Type 0 where
  pub content : IsOfType y.ty y.content
  pub shallow : IsDataType y.ty
  pub writers : HasWriters y.content y.writes
  pub mine : (c : ℕ) (x : Datum) → get t.live c ≡ Some x → 0 < subscripts_in t.next x → element_of x.ty ≡ Some y.ty
  pub awaited : (c d : ℕ) (x : Datum) → get t.live c ≡ Some x → t.next < d → 0 < subscripts_in d x → element_of x.ty ≡ Some (scalar_type ty)
  pub own : (d : ℕ) → t.next < d → 0 < subscripts_in d y → element_of y.ty ≡ Some (scalar_type ty)
  pub none : (d : ℕ) → d ≤ t.next → subscripts_in d y ≡ 0
  pub soon : (d : ℕ) → t.next < d → d < t.next + 1 + left → subscripts_in d y + inside t.live d ≡ 1
  pub never : (d : ℕ) → t.next + 1 + left ≤ d → subscripts_in d y + inside t.live d ≡ 0
  pub others : (d : ℕ) → (d ≡ t.next → ⊥) → (s d ≡ r d) × (v d ≡ w d)
  pub reads : y.reads ≡ inside t.live t.next + s t.next
  pub writes : y.writes ≡ v t.next
  pub some : 0 < y.reads + y.writes

module _ (t : Store) (of : Scalar) (before : ℕ) (r w : ℕ → ℕ) (f : IsFilling t of before r w) where
  pub not_yet : get t.live t.next ≡ None
  not_yet = by (get t.live t.next) refl
    where
      by : (o : Option Datum) → get t.live t.next ≡ o → o ≡ None
      by None e = refl
      by (Some x) e = let h = f.fresh t.next x e in absurd (omega arith)

  pub undisturbed_added : (y : Datum) → Undisturbed t (added t y)
  undisturbed_added y = record { next = omega arith; kept = λ d z given at. (z, sym (data_insert_other t.live t.next y d (λ e. omega arith)) ∙ at, refl, λ c. c) }

  module _ (y : Datum) (ty : Scalar) (left : ℕ) (s v : ℕ → ℕ) (n : IsNext t y ty left r w s v) where
    inside_is : (d : ℕ) → inside (insert t.live t.next y) d ≡ subscripts_in d y + inside t.live d
    inside_is d = sum_new nat_cmp nat_cmp_total nat_cmp-IsAntisymmetric (subscripts_in d) t.live t.next y not_yet

    abbrev Either : ℕ → Datum → Type 0
    Either d x = ((d ≡ t.next) × (y ≡ x)) ⊎ (get t.live d ≡ Some x)

    either : (d : ℕ) (x : Datum) → get (insert t.live t.next y) d ≡ Some x → Either d x
    either d x at = put_or_before nat_cmp_total nat_cmp-IsAntisymmetric t.live t.next y d x at

    none_before : (d : ℕ) → get (insert t.live t.next y) d ≡ None → (d ≡ t.next → ⊥) × (get t.live d ≡ None)
    none_before d at =
        let other : d ≡ t.next → ⊥ = λ e. let there : None ≡ Some y = sym at ∙ ap (get (insert t.live t.next y)) e ∙ data_insert_same t.live t.next y in cc in
        (other, sym (data_insert_other t.live t.next y d other) ∙ at)

    fresh : (d : ℕ) (x : Datum) → Either d x → d < t.next + 1
    fresh d x (inl new) = let e = new.0 in omega arith
    fresh d x (inr old) = let l = f.fresh d x old in omega arith

    members : (c d : ℕ) (x z : Datum) → Either c x → Either d z → 0 < subscripts_in d x → element_of x.ty ≡ Some z.ty
    members c d x z (inl new) at_d some =
        let l = fresh d z at_d in
        let zero : subscripts_in d x ≡ 0 = ap (subscripts_in d) (sym new.1) ∙ n.none d (omega arith) in
        absurd (omega arith)
    members c d x z (inr old) (inl new) some = n.mine c x old (subst (λ k. 0 < subscripts_in k x) new.0 some) ∙ ap (λ (u : Datum). Some u.ty) new.1
    members c d x z (inr old) (inr older) some = f.members c d x z old older some

    awaited : (c d : ℕ) (x : Datum) → Either c x → t.next + 1 ≤ d → 0 < subscripts_in d x → element_of x.ty ≡ Some (scalar_type ty)
    awaited c d x (inl new) l some = ap (λ (u : Datum). element_of u.ty) (sym new.1) ∙ n.own d (omega arith) (subst (λ (u : Datum). 0 < subscripts_in d u) (sym new.1) some)
    awaited c d x (inr old) l some = n.awaited c d x old (omega arith) some

    counts : (d : ℕ) (x : Datum) → Either d x → (x.reads ≡ inside (insert t.live t.next y) d + s d) × (x.writes ≡ v d) × (0 < x.reads + x.writes)
    counts d x (inl new) =
        let i = inside_is t.next in
        let zero = n.none t.next (omega arith) in
        let at_next : (y.reads ≡ inside (insert t.live t.next y) t.next + s t.next) × (y.writes ≡ v t.next) × (0 < y.reads + y.writes) = (omega (arith, n.reads), n.writes, n.some) in
        subst (λ k. (x.reads ≡ inside (insert t.live t.next y) k + s k) × (x.writes ≡ v k) × (0 < x.reads + x.writes)) (sym new.0)
        (subst (λ (u : Datum). (u.reads ≡ inside (insert t.live t.next y) t.next + s t.next) × (u.writes ≡ v t.next) × (0 < u.reads + u.writes)) new.1 at_next)
    counts d x (inr old) =
        let l = f.fresh d x old in
        let c = f.counts d x old in
        let o = n.others d (λ e. omega arith) in
        let i = inside_is d in
        let zero = n.none d (omega arith) in
        (omega (arith, c.0, o.0), omega (arith, c.1, o.1), c.2)

    pub added_filling : IsFilling (added t y) ty left s v
    added_filling = record {
      fresh = λ d x at. fresh d x (either d x at);
      contents = λ d x at. elim (either d x at) [ inl new ↦ subst (λ (u : Datum). IsOfType u.ty u.content) new.1 n.content | inr old ↦ f.contents d x old ];
      types = λ d x at. elim (either d x at) [ inl new ↦ subst (λ (u : Datum). IsDataType u.ty) new.1 n.shallow | inr old ↦ f.types d x old ];
      writers = λ d x at. elim (either d x at) [ inl new ↦ subst (λ (u : Datum). HasWriters u.content u.writes) new.1 n.writers | inr old ↦ f.writers d x old ];
      members = λ c d x z at_c at_d some. members c d x z (either c x at_c) (either d z at_d) some;
      awaited = λ c d x at l some. awaited c d x (either c x at) l some;
      counts = λ d x at. counts d x (either d x at);
      unheld = λ d at. let old = none_before d at in let u = f.unheld d old.1 in let o = n.others d old.0 in (o.0 ∙ u.0, o.1 ∙ u.1);
      freed = λ d l at.
          let old = none_before d at in
          let other = old.0 in
          let less : d < t.next = elim (cases_lt d t.next) [ inl h ↦ h | inr h ↦ absurd (other (omega arith)) ] in
          let i = inside_is d in
          let zero = n.none d (omega arith) in
          let was = f.freed d less old.1 in
          omega arith;
      soon = λ d l m. inside_is d ∙ n.soon d (omega arith) (omega arith);
      never = λ d l. inside_is d ∙ n.never d (omega arith);
    }

-- ---- where none is left

pub filled : (t : Store) (ty : Scalar) (r w : ℕ → ℕ) → IsTypedStore t → Balanced t.live r w → HaveWriters t.live → IsFilling t ty 0 r w
filled t ty r w typed b written = record {
  fresh = typed.fresh;
  contents = typed.contents;
  types = typed.nested.types;
  writers = written;
  members = typed.nested.members;
  awaited = λ c d x at l some. let z = none d (over d l) in let le = inside-le t c d x at in absurd (omega (arith, z.0));
  counts = λ d x at. subst (λ o. BalancedAt o (inside t.live d) (r d) (w d)) at (b.at d);
  unheld = λ d at. let z = none d at in (z.1, z.2);
  freed = λ d l at. (none d at).0;
  soon = λ d l m. absurd (omega arith);
  never = λ d l. (none d (over d (omega arith))).0;
}
  where
    none : (d : ℕ) → get t.live d ≡ None → (inside t.live d ≡ 0) × (r d ≡ 0) × (w d ≡ 0)
    none d at = subst (λ o. BalancedAt o (inside t.live d) (r d) (w d)) at (b.at d)

    over : (d : ℕ) → t.next ≤ d → get t.live d ≡ None
    over d l = by (get t.live d) refl
      where
        by : (o : Option Datum) → get t.live d ≡ o → o ≡ None
        by None e = refl
        by (Some x) e = let h = typed.fresh d x e in absurd (omega arith)

module _ (t : Store) (ty : Scalar) (r w : ℕ → ℕ) (f : IsFilling t ty 0 r w) where
  pub filled_typed : IsTypedStore t
  filled_typed = record { contents = f.contents; nested = record { types = f.types; members = f.members }; fresh = f.fresh }

  pub filled_balanced : Balanced t.live r w
  filled_balanced = record { at = λ d. by d (get t.live d) refl }
    where
      by : (d : ℕ) (o : Option Datum) → get t.live d ≡ o → BalancedAt (get t.live d) (inside t.live d) (r d) (w d)
      by d (Some x) e = subst (λ o. BalancedAt o (inside t.live d) (r d) (w d)) (sym e) (f.counts d x e)
      by d None e =
          let u = f.unheld d e in
          let zero : inside t.live d ≡ 0 = elim (cases_lt d t.next) [ inl l ↦ f.freed d l e | inr l ↦ f.never d (omega arith) ] in
          subst (λ o. BalancedAt o (inside t.live d) (r d) (w d)) (sym e) (zero, u.0, u.1)

-- a datum without members, if no member is to come
pub plain_next : (t : Store) (of ty : Scalar) (r w s v : ℕ → ℕ) (y : Datum) → IsFilling t of 0 r w → IsOfType y.ty y.content → IsDataType y.ty → HasWriters y.content y.writes → members_of y.content ≡ []
    → ((d : ℕ) → (d ≡ t.next → ⊥) → (s d ≡ r d) × (v d ≡ w d)) → y.reads ≡ s t.next → y.writes ≡ v t.next → 0 < y.reads + y.writes → IsNext t y ty 0 r w s v
plain_next t of ty r w s v y f content shallow writers empty others reads writes some = record {
  content = content;
  shallow = shallow;
  writers = writers;
  mine = λ c x at more. let le = inside-le t c t.next x at in let zero = f.never t.next (omega arith) in absurd (omega arith);
  awaited = λ c d x at l more. let le = inside-le t c d x at in let zero = f.never d (omega arith) in absurd (omega arith);
  own = λ d l more. let zero = no_subscript d in absurd (omega arith);
  none = λ d l. no_subscript d;
  soon = λ d l m. absurd (omega arith);
  never = λ d l. let zero = no_subscript d in let old = f.never d (omega arith) in omega arith;
  others = others;
  reads = let zero = f.never t.next (omega arith) in omega (arith, reads);
  writes = writes;
  some = some;
}
  where
    no_subscript : (d : ℕ) → subscripts_in d y ≡ 0
    no_subscript d = ap (count_of d) empty
