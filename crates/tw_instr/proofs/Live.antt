-- The live data: a `BTreeMap` by ids, seen as a finite map of what its data are.
use Rattle.tw_instr.proofs.Names.{Contains, FinMap, IsSome, KeptDatum, None, Option, Some, [], ap, bare, content_of as kept_content, data_of, datum_if, empty, empty_mapped, found_view, get, get_mapped, insert, insert_mapped, inserted_view, mapped_same, members_of, nat_cmp, nat_cmp-IsAntisymmetric, nat_cmp_total, refl, remove, remove_mapped, removed_view, same, subst, written_view, ℕ, ◌∙◌, ◌≡◌}
use Rattle.std.specs.BTreeMap.{BTreeMap, get_by, UpdatesBy, WritesThrough}
use Rattle.tw_datum.specs.declared.datum.Content.{Content}
use Rattle.tw_datum.specs.declared.datum.Content.TheVariants as content
use Rattle.tw_types.specs.Mapped.{mapped}
use Rattle.tw_instr.specs.Content.{content_of}

abbrev pub Kept : Type 0
Kept = KeptDatum ℕ

pub none_live : data_of [] ≡ empty
none_live = empty_mapped {R = nat_cmp} bare

-- the result of a look-up
pub found : (m : BTreeMap ℕ Kept) (id : ℕ) (r : Option Kept) → r ≡ get_by (nat_cmp id) m → get (data_of m.entries) id ≡ datum_if r
found m id r h = get_mapped bare _ id ∙ ap datum_if (found_view nat_cmp_total nat_cmp-IsAntisymmetric m id r h)

inserted_bare : (m : FinMap nat_cmp Kept) (id : ℕ) (x : Kept) → mapped bare (insert m id x) ≡ insert (mapped bare m) id x.datum
inserted_bare = insert_mapped bare nat_cmp_total nat_cmp-IsAntisymmetric

-- the effect of changing a datum
pub written : (m n : BTreeMap ℕ Kept) (id : ℕ) (x y : Kept) → Some x ≡ get_by (nat_cmp id) m → WritesThrough nat_cmp (nat_cmp id) m y n → data_of n.entries ≡ insert (data_of m.entries) id y.datum
written m n id x y here h = ap (mapped bare) (written_view nat_cmp_total nat_cmp-IsAntisymmetric m n id x y here h) ∙ inserted_bare _ id y

-- and the datum that is there then
pub written_found : (m n : BTreeMap ℕ Kept) (id : ℕ) (x y : Kept) → Some x ≡ get_by (nat_cmp id) m → WritesThrough nat_cmp (nat_cmp id) m y n → get_by (nat_cmp id) n ≡ Some y
written_found m n id x y here h = (h.3 (subst IsSome here refl)).1

-- a datum that was looked at stays
pub looked : (m n : BTreeMap ℕ Kept) (id : ℕ) (x : Kept) → Some x ≡ get_by (nat_cmp id) m → WritesThrough nat_cmp (nat_cmp id) m x n → data_of n.entries ≡ data_of m.entries
looked m n id x here h = written m n id x x here h ∙ same _ id x.datum (found m id (Some x) here)

-- the effect of a removal
pub removed : (m n : BTreeMap ℕ Kept) (id : ℕ) → UpdatesBy nat_cmp (nat_cmp id) m n None → data_of n.entries ≡ remove (data_of m.entries) id
removed m n id h = ap (mapped bare) (removed_view nat_cmp_total nat_cmp-IsAntisymmetric m n id h) ∙ remove_mapped bare nat_cmp_total nat_cmp-IsAntisymmetric _ id

-- the effect of an addition
pub inserted : (m n : BTreeMap ℕ Kept) (id : ℕ) (x : Kept) → UpdatesBy nat_cmp (nat_cmp id) m n (Some x) → data_of n.entries ≡ insert (data_of m.entries) id x.datum
inserted m n id x h = ap (mapped bare) (inserted_view nat_cmp_total nat_cmp-IsAntisymmetric m n id x h) ∙ inserted_bare _ id x

-- two results of one look-up have the same members
pub same_kept : (x y : Kept) (r : Option Kept) → Some x ≡ r → r ≡ Some y → members_of x.datum.content ≡ members_of y.datum.content
same_kept x y r e f = same_of x y (e ∙ f)
  where
    same_of : (x y : Kept) → Some x ≡ Some y → members_of x.datum.content ≡ members_of y.datum.content
    same_of x y e = cc

-- the ids of members that are ids are those
pub content_kept : (c : Content ℕ) → kept_content (λ id. id) c ≡ content_of c
content_kept content.Unset = refl
content_kept (content.Set value) = refl
content_kept (content.Maps values) = refl
content_kept (content.Contains members) = ap Contains (mapped_same members)
