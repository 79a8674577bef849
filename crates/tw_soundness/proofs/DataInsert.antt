-- A member is inserted into a container, with its read: the result of INS fits.
use Rattle.std.proofs.Common.{◌≡◌, ℕ, ◌+◌, ◌<◌, ◌≤◌, true, false, List, [], ◌∷◌, map, slice_set, Option, Some, None, refl, sym, ap, subst, ◌∙◌, arith, inl, inr, nat_cmp}
use Rattle.tw_soundness.proofs.MachineNames.{AreSubscriptsFor, Contains, Content, Context, Datum, HasWriters, IsDataType, IsOfType, IsTypedStore, Maps, Members, RightType, Set, Store, Subscript, Typing, Unset, balanced_none, by_container, cases_eq, container_only, count_of, element_is, element_of, entries, eqb-true, get, get-empty, hits, hits_other, hits_same, insert, inside, is_closed, is_container, is_container_by, is_element_of, is_scalar, is_write, members_in, members_kinds, members_of, nat_cmp-IsAntisymmetric, nat_cmp_total, one_more_kind, over, part, part-le-total, put_balanced, put_or_before, read_by, same_Some, scalar_of, subscripts_in, value_cmp, value_cmp-IsAntisymmetric, value_cmp_total, with_member, write_by}
use Rattle.std.specs.FinMap as fin
use Rattle.tw_types.specs.Totals.{sum_of, total}
use Rattle.tw_soundness.proofs.Registers.{Fits, Settles, At, Undisturbed, holds_undisturbed, rights_kept, emptied, rights_set}
use Rattle.tw_soundness.proofs.Sums.{sum_new}

-- ---- how often a datum is in a map of members

count_values : (d : ℕ) (es : List (Subscript × ℕ)) → count_of d (map (λ e. e.1) es) ≡ sum_of (hits d) es
count_values d [] = refl
count_values d (e ∷ es) = let h = count_values d es in omega arith

pub count_total : (d : ℕ) (ms : Members) → count_of d (fin.values ms) ≡ total (hits d) ms
unfolding total
count_total d ms = count_values d (entries ms)

-- one more under a new subscript
pub values_insert : (ms : Members) (k : Subscript) (v d : ℕ) → get ms k ≡ None → count_of d (fin.values (insert ms k v)) ≡ count_of d (fin.values ms) + hits d v
values_insert ms k v d none =
    let a = count_total d (insert ms k v) in
    let b = count_total d ms in
    let s = sum_new value_cmp value_cmp_total value_cmp-IsAntisymmetric (hits d) ms k v none in
    omega arith

-- ---- the container and its member

-- a container's content has its members
has_members : (x : Datum) → is_container x.ty ≡ true → IsOfType x.ty x.content → x.content ≡ Contains (members_in x.content)
has_members x deep of = at x.content of
  where
    at : (content : Content) → IsOfType x.ty content → content ≡ Contains (members_in content)
    at Unset h = let z : true ≡ false = sym h ∙ (container_only x.ty deep).0 in cc
    at (Set v) h = let z : true ≡ false = sym h.0 ∙ (container_only x.ty deep).0 in cc
    at (Contains members) h = refl
    at (Maps values) h = let z : true ≡ false = sym h.0 ∙ (container_only x.ty deep).1 in cc

module _ (typing : Typing) (c : Context) (r w : ℕ → ℕ) (fits : Fits typing c r w) (container member : ℕ) (q p : RightType) (h : At typing c r w container q) (g : At typing c r w member p)
    (mode : is_write q.mode ≡ true) (deep : is_scalar q.ty ≡ false) (reads : is_write p.mode ≡ false) (element : is_element_of p.ty q.ty ≡ true) (subscript : Subscript) (kind : is_container_by (scalar_of subscript) q.ty ≡ true) (free : get (members_in h.x.content) subscript ≡ None) where
  abbrev fuller : Datum
  fuller = with_member subscript g.id h.x

  of_member : element_of h.x.ty ≡ Some g.x.ty
  of_member = ap element_of h.ty ∙ element_is p.ty q.ty element ∙ ap Some (sym g.ty)

  content_is : h.x.content ≡ Contains (members_in h.x.content)
  content_is = has_members h.x (ap is_container h.ty ∙ by_container (scalar_of subscript) q.ty kind) (fits.store.contents h.id h.x h.live)

  one_more : (d : ℕ) → subscripts_in d fuller ≡ subscripts_in d h.x + hits d g.id
  one_more d =
      let a = values_insert (members_in h.x.content) subscript g.id d free in
      let b : subscripts_in d h.x ≡ count_of d (fin.values (members_in h.x.content)) = ap (λ z. count_of d (members_of z)) content_is in
      omega arith

  some_writes : 0 < h.x.writes
  some_writes = let s = h.has_write mode in let e = h.writes in omega arith

  was_open : is_closed h.x ≡ true → ⊥
  was_open t = at h.x.content content_is t
    where
      at : (content : Content) → content ≡ Contains (members_in h.x.content) → is_closed (record h.x { content = content }) ≡ true → ⊥
      at Unset e t = cc
      at (Set v) e t = cc
      at (Contains members) e t = let z = eqb-true h.x.writes 0 t in let s = some_writes in absurd (omega arith)
      at (Maps values) e t = cc

  abbrev after : Store
  after = record c.store { live = insert c.store.live h.id fuller }

  insert_undisturbed : Undisturbed c.store after
  insert_undisturbed = record {
    next = omega arith;
    kept = λ d y given at. elim (put_or_before nat_cmp_total nat_cmp-IsAntisymmetric c.store.live h.id fuller d y at) [
      | inl e ↦ (h.x, ap (get c.store.live) e.0 ∙ h.live, ap (λ (z : Datum). z.ty) (sym e.1), λ t. absurd (was_open t))
      | inr old ↦ (y, old, refl, λ t. t)
    ];
  }

  -- the type of the datum at an id doesn't change
  type_was : (m : ℕ) (y : Datum) → get (insert c.store.live h.id fuller) m ≡ Some y → (z : Datum) × (get c.store.live m ≡ Some z) × (z.ty ≡ y.ty)
  type_was m y at = elim (put_or_before nat_cmp_total nat_cmp-IsAntisymmetric c.store.live h.id fuller m y at) [
    | inl e ↦ (h.x, ap (get c.store.live) e.0 ∙ h.live, ap (λ (z : Datum). z.ty) e.1)
    | inr old ↦ (y, old, refl)
  ]

  -- the subscripts are still of the type that the container says
  kinds : AreSubscriptsFor h.x.ty (insert (members_in h.x.content) subscript g.id)
  kinds = one_more_kind h.x.ty (members_in h.x.content) subscript g.id (members_kinds h.x (fits.store.contents h.id h.x h.live)) (ap (is_container_by (scalar_of subscript)) h.ty ∙ kind)

  insert_typed : IsTypedStore after
  insert_typed = record {
    contents = λ d z at. elim (put_or_before nat_cmp_total nat_cmp-IsAntisymmetric c.store.live h.id fuller d z at) [
      | inl e ↦ subst (λ (x : Datum). IsOfType x.ty x.content) e.1 (ap is_container h.ty ∙ by_container (scalar_of subscript) q.ty kind, kinds)
      | inr old ↦ fits.store.contents d z old
    ];
    nested = record {
      types = λ d z at. let o = type_was d z at in subst IsDataType o.2 (fits.store.nested.types d o.0 o.1);
      members = λ d m x y at_d at_m some.
          let o = type_was m y at_m in
          elim (put_or_before nat_cmp_total nat_cmp-IsAntisymmetric c.store.live h.id fuller d x at_d) [
            | inl e ↦
                let x_ty : x.ty ≡ h.x.ty = ap (λ (z : Datum). z.ty) (sym e.1) in
                let total_is : subscripts_in m x ≡ subscripts_in m h.x + hits m g.id = ap (subscripts_in m) (sym e.1) ∙ one_more m in
                elim (cases_eq g.id m) [
                  | inl here ↦
                      let z_is : g.x ≡ o.0 = same_Some g.x o.0 (sym g.live ∙ ap (get c.store.live) here ∙ o.1) in
                      ap element_of x_ty ∙ of_member ∙ ap (λ (z : Datum). Some z.ty) z_is ∙ ap Some o.2
                  | inr other ↦
                      let no_hit = hits_other m g.id other in
                      ap element_of x_ty ∙ fits.store.nested.members h.id m h.x o.0 h.live o.1 (omega arith) ∙ ap Some o.2
                ]
            | inr old ↦ fits.store.nested.members d m x o.0 old o.1 some ∙ ap Some o.2
          ];
    };
    fresh = λ d z at. let o = type_was d z at in fits.store.fresh d o.0 o.1;
  }

  pub insert_settles : Settles (slice_set typing member None) c r w (record c { store = after; rights = slice_set c.rights member None })
  insert_settles =
      let sum_r : (e : ℕ) → over (read_by e) (slice_set typing member None) (slice_set c.rights member None) + hits e g.id ≡ over (read_by e) typing c.rights = λ e. rw reads at (emptied (read_by e) typing c.rights member p g.id refl g.typed g.register) in
      let sum_w : (e : ℕ) → over (write_by e) (slice_set typing member None) (slice_set c.rights member None) + 0 ≡ over (write_by e) typing c.rights = λ e. rw reads at (emptied (write_by e) typing c.rights member p g.id refl g.typed g.register) in
      let r_id = sum_r h.id in
      let w_id = sum_w h.id in
      let m_id = one_more h.id in
      let some = some_writes in
      record {
        others = insert_undisturbed;
        fits = record {
          balanced = put_balanced c.store.live _ _ _ _ h.id h.x fuller h.live fits.balanced
              (λ d ne. (let s = sum_r d in let m = one_more d in omega arith, let s = sum_w d in omega arith)) (omega (arith, h.reads)) (omega (arith, h.writes)) (omega arith);
          writers = λ d z at. elim (put_or_before nat_cmp_total nat_cmp-IsAntisymmetric c.store.live h.id fuller d z at) [
            | inl e ↦ subst (λ (x : Datum). HasWriters x.content x.writes) e.1 tt
            | inr old ↦ fits.writers d z old
          ];
          store = insert_typed;
          rights = rights_kept c.store after (slice_set typing member None) (slice_set c.rights member None) (holds_undisturbed c.store after insert_undisturbed) (rights_set c.store typing c.rights member None None fits.rights tt);
        };
      }

-- if the store and the registers don't change, all still fits
pub same_settles : (typing : Typing) (c k : Context) (r w : ℕ → ℕ) → Fits typing c r w → k.store ≡ c.store → k.rights ≡ c.rights → Settles typing c r w k
same_settles typing c k r w fits s t =
    let f : Fits typing (record k { store = c.store; rights = c.rights }) r w = record { balanced = fits.balanced; writers = fits.writers; store = fits.store; rights = fits.rights } in
    let itself : Undisturbed c.store c.store = record { next = omega arith; kept = λ d y given at. (y, at, refl, λ e. e) } in
    let done : Settles typing c r w (record k { store = c.store; rights = c.rights }) = record { fits = f; others = itself } in
    subst (λ (m : Store). Settles typing c r w (record k { store = m })) (sym s) (subst (λ (u : List (Option ℕ)). Settles typing c r w (record k { store = c.store; rights = u })) (sym t) done)

-- a member is in its container
pub found_inside : (x : Datum) (k : Subscript) (m : ℕ) → get (members_in x.content) k ≡ Some m → 0 < subscripts_in m x
found_inside x k m at = by x.content at
  where
    by : (content : Content) → get (members_in content) k ≡ Some m → 0 < count_of m (members_of content)
    by Unset e = let z : None ≡ Some m = sym (get-empty value_cmp k) ∙ e in cc
    by (Set v) e = let z : None ≡ Some m = sym (get-empty value_cmp k) ∙ e in cc
    by (Maps values) e = let z : None ≡ Some m = sym (get-empty value_cmp k) ∙ e in cc
    by (Contains ms) e =
        let l : hits m m ≤ total (hits m) ms = subst (λ o. part (hits m) o ≤ total (hits m) ms) e (part-le-total value_cmp value_cmp_total value_cmp-IsAntisymmetric (hits m) ms k) in
        let one = hits_same m in
        let t = count_total m ms in
        omega arith

-- the member that LOOK finds is live, and of the container's element type
module _ (typing : Typing) (c : Context) (r w : ℕ → ℕ) (fits : Fits typing c r w) where
  pub member_there : (id : ℕ) (x : Datum) (k : Subscript) (m : ℕ) → get c.store.live id ≡ Some x → get (members_in x.content) k ≡ Some m → (y : Datum) × (get c.store.live m ≡ Some y) × (element_of x.ty ≡ Some y.ty)
  member_there id x k m is at = by (get c.store.live m) refl
    where
      by : (o : Option Datum) → get c.store.live m ≡ o → (y : Datum) × (get c.store.live m ≡ Some y) × (element_of x.ty ≡ Some y.ty)
      by None e =
          let some = found_inside x k m at in
          let l : subscripts_in m x ≤ inside c.store.live m = subst (λ o. part (subscripts_in m) o ≤ inside c.store.live m) is (part-le-total nat_cmp nat_cmp_total nat_cmp-IsAntisymmetric (subscripts_in m) c.store.live id) in
          let none = balanced_none c.store.live (λ d. over (read_by d) typing c.rights + r d) (λ d. over (write_by d) typing c.rights + w d) m fits.balanced e in
          absurd (omega (arith, none.0))
      by (Some y) e = (y, e, fits.store.nested.members id m x y is e (found_inside x k m at))
