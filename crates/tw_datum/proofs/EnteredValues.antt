-- The values of an input map are of its types.
use Rattle.std.proofs.Common.{◌≡◌, ◌<◌, ◌&&◌, ℕ, zero, suc, true, false, Bool, List, [], ◌∷◌, get_or, ◌++◌, ◌+◌, length, take, T, refl, sym, ap, ◌∙◌, arith}
use Rattle.std.specs.FinMap as map
use Rattle.std.specs.FinMap.{is_sorted, put}
use Rattle.std.specs.FinMap.Entries.{by_order}
use Rattle.std.specs.List.{list_all}
use Rattle.std.proofs.lemmas.Bool.{and_from, and_parts}
use Rattle.std.proofs.lemmas.List.{map-append, take_more}
use Rattle.tw_types.specs.declared.data_type.Scalar.{Scalar}
use Rattle.tw_types.specs.declared.value.Value.{Value}
use Rattle.tw_types.specs.DataType.{is_map, is_map_by, is_map_of, map_with, same_scalar}
use Rattle.tw_types.specs.Given.{entered, members_by}
use Rattle.tw_types.specs.Nesting.{NestedScalar}
use Rattle.tw_types.specs.Store.{Maps}
use Rattle.tw_types.specs.TypedStore.{AreEntriesFor}
use Rattle.tw_types.specs.Value.{is_short, scalar_of}
use Rattle.tw_types.specs.ValueOrder.{Subscript, value_cmp}
use Rattle.tw_types.proofs.Rising.{first, less, second}
use Rattle.tw_types.proofs.SameTypes.{scalar_itself}
use Rattle.tw_types.proofs.Subscripts.{no_entries, no_kinds, one_more_entry}
use Rattle.tw_datum.specs.Kept.{FitsType}
use Rattle.tw_datum.proofs.Entries.{inserted, map_of, nothing_seen}
use Rattle.tw_datum.proofs.Members.{not_container}

-- a map type is a map from its own types
pub map_itself : (sums : Bool) (by inside : Scalar) (ty : NestedScalar) → ty ≡ map_with sums by inside → is_map_of by inside ty ≡ true
map_itself sums by inside ty e = ap (is_map_of by inside) e ∙ own sums
  where
    own : (b : Bool) → is_map_of by inside (map_with b by inside) ≡ true
    own true = and_from (same_scalar by by) (same_scalar inside inside) (scalar_itself by) (scalar_itself inside)
    own false = and_from (same_scalar by by) (same_scalar inside inside) (scalar_itself by) (scalar_itself inside)

-- no text of an entry is too long
module _ {K V : Type 0} (subscript : K → Subscript) (value : V → Value) where
  abbrev pub is_short_entry : K × V → Bool
  is_short_entry e = is_short (subscript e.0) && is_short (value e.1)

  short_at : (members : List (K × V)) (index : ℕ) (d : K × V) → index < length members → list_all (λ e. is_short e.0 && is_short e.1) (members_by subscript value members) ≡ true → is_short_entry (get_or members index d) ≡ true
  short_at [] index d low short = absurd (omega (arith, low))
  short_at (e ∷ es) zero d low short = (and_parts (is_short_entry e) (list_all (λ e. is_short e.0 && is_short e.1) (members_by subscript value es)) short).0
  short_at (e ∷ es) (suc index) d low short = short_at es index d (omega (arith, low)) (and_parts (is_short_entry e) (list_all (λ e. is_short e.0 && is_short e.1) (members_by subscript value es)) short).1

  pub short_entry : (members : List (K × V)) (index : ℕ) (e : K × V) → e ≡ get_or members index e → index < length members → list_all (λ e. is_short e.0 && is_short e.1) (members_by subscript value members) ≡ true → is_short_entry e ≡ true
  short_entry members index e is low short = ap is_short_entry is ∙ short_at members index e low short

  pub one_more_member : (members : List (K × V)) (index : ℕ) (e : K × V) → e ≡ get_or members index e → index < length members → members_by subscript value (take (index + 1) members) ≡ members_by subscript value (take index members) ++ (subscript e.0, value e.1) ∷ []
  one_more_member members index e is low =
      ap (members_by subscript value) (take_more members index e low ∙ ap (λ m. take index members ++ m ∷ []) (sym is)) ∙ map-append (λ m. (subscript m.0, value m.1)) (take index members) (e ∷ [])

module _ {K V : Type 0} (subscript : K → Subscript) (value : V → Value) (by inside : Scalar) (of : (x : K) → scalar_of (subscript x) ≡ by) (is : (x : V) → scalar_of (value x) ≡ inside) (ty : NestedScalar) (fits : is_map_of by inside ty ≡ true) where
  entered_kinds : (members : List (K × V)) → AreEntriesFor ty (entered (members_by subscript value members))
  entered_kinds [] = no_entries ty
  entered_kinds (e ∷ es) =
      one_more_entry ty (entered (members_by subscript value es)) (subscript e.0) (value e.1) (entered_kinds es)
      (ap (λ (s : Scalar). is_map_of s (scalar_of (value e.1)) ty) (of e.0) ∙ ap (λ (s : Scalar). is_map_of by s ty) (is e.1) ∙ fits)

  pub entered_fit : (members : List (K × V)) → FitsType ty (Maps (entered (members_by subscript value members)))
  entered_fit members =
      let mapped : is_map ty ≡ true = (and_parts (is_map ty) _ (and_parts (is_map_by by ty) _ fits).0).0 in
      ((sym (not_container ty mapped), sym mapped), (no_kinds ty, entered_kinds members))

-- ---- values whose subscripts rise

put_first : (e : Subscript × Value) (es : List (Subscript × Value)) → T (is_sorted value_cmp (e ∷ es)) → put value_cmp e.0 e.1 es ≡ e ∷ es
put_first e [] s = refl
put_first e (f ∷ es) s = ap (λ o. by_order o ((e.0, e.1) ∷ f ∷ es) ((f.0, e.1) ∷ es) (f ∷ put value_cmp e.0 e.1 es)) (less _ (first _ _ (first _ _ s)))

pub entered_rising : (es : List (Subscript × Value)) → T (is_sorted value_cmp es) → entered es ≡ map_of es
entered_rising [] s = sym (nothing_seen [] refl)
entered_rising (e ∷ es) s = ap (λ m. map.insert m e.0 e.1) (entered_rising es (second _ _ s)) ∙ sym (inserted es (e ∷ es) e.0 e.1 (second _ _ s) (sym (put_first e es s)))
