-- Facts on the subscripts of a container or a map, and their types.
use Rattle.std.proofs.Common.{◌≡◌, ℕ, zero, suc, ℤ, pos, negsuc, List, [], ◌∷◌, Some, None, IfSome, true, refl, sym, ap, ◌∙◌, slice_get, option_map, map as each}
use Rattle.std.specs.declared.option.Option.{Option}
use Rattle.std.specs.declared.result.Result.TheVariants.{Ok}
use Rattle.std.specs.FinMap as map
use Rattle.std.specs.FinMap.{FinMap}
use Rattle.std.proofs.lemmas.Option.{same_Some, slice_get-map}
use Rattle.tw_types.specs.declared.cause.Cause.TheVariants.{WrongType}
use Rattle.tw_types.specs.declared.data_type.Scalar.{Scalar}
use Rattle.tw_types.specs.DataType.{has_subscripts_by}
use Rattle.tw_types.specs.Mapped.{entry_by}
use Rattle.tw_types.specs.Store.{Content, Unset, Set, Contains, Maps, Datum}
use Rattle.tw_types.specs.StoreCalls.{subscript_after, subscripts_of}
use Rattle.tw_types.specs.StoreChecks.{may_read_subscripts_by}
use Rattle.tw_types.specs.Value.{scalar_of}
use Rattle.tw_types.specs.ValueOrder.{Subscript, value_cmp}
use Rattle.tw_types.proofs.Mapped.{entries_mapped}
use Rattle.tw_types.proofs.Results.{must_then}
use Rattle.tw_types.proofs.Subscripts.{content_kind}
use Rattle.tw_datum.specs.Kept.{FitsType, KeptMembers, ids_of}

-- ---- the subscript at a place

pub nth_key : {V : Type 0} (vs : FinMap value_cmp V) (index : ℕ) → option_map (λ e. e.0) (slice_get (map.entries vs) index) ≡ slice_get (map.keys vs) index
nth_key vs index = sym (slice_get-map (λ e. e.0) (map.entries vs) index)

keys_each : {M : Type 0} (id : M → ℕ) (es : List (Subscript × M)) → each (λ e. e.0) (each (entry_by id) es) ≡ each (λ e. e.0) es
keys_each id [] = refl
keys_each id (e ∷ es) = ap (λ ks. e.0 ∷ ks) (keys_each id es)

pub nth_subscript : {M : Type 0} (id : M → ℕ) (ms : KeptMembers M) (index : ℕ) → option_map (λ e. e.0) (slice_get (map.entries ms) index) ≡ slice_get (map.keys (ids_of id ms)) index
nth_subscript id ms index = nth_key ms index ∙ ap (λ ks. slice_get ks index) (sym (ap (each (λ e. e.0)) (entries_mapped id ms) ∙ keys_each id (map.entries ms)))

pub nothing_after : (index : ℤ) → None ≡ subscript_after index []
nothing_after (pos n) = refl
nothing_after (negsuc n) = refl

-- ---- its type

fits_kind : (x : Datum) (by : Scalar) → FitsType x.ty x.content → has_subscripts_by by x.ty ≡ true → (index : ℤ) (k : Subscript) → subscript_after index (subscripts_of x.content) ≡ Some k → scalar_of k ≡ by
fits_kind x by fits kind index k is = at x.content fits is
  where
    none : subscript_after index [] ≡ Some k → scalar_of k ≡ by
    none e = let z : None ≡ Some k = nothing_after index ∙ e in cc

    at : (content : Content) → FitsType x.ty content → subscript_after index (subscripts_of content) ≡ Some k → scalar_of k ≡ by
    at Unset fits is = none is
    at (Set v) fits is = none is
    at (Contains members) fits is = content_kind (record x { content = Contains members }) by (sym fits.0.0, fits.1.0) kind index k is
    at (Maps values) fits is = content_kind (record x { content = Maps values }) by (sym fits.0.1, fits.1.1) kind index k is

may_by : (by : Scalar) (o : Option Datum) (x : Datum) → o ≡ Some x → may_read_subscripts_by by o ≡ Ok tt → has_subscripts_by by x.ty ≡ true
may_by by None x live may = cc
may_by by (Some y) x live may = ap (λ (d : Datum). has_subscripts_by by d.ty) (sym (same_Some y x live)) ∙ (must_then (has_subscripts_by by y.ty) WrongType _ tt may).0

-- a subscript that is found is of the type that was checked
pub kind_found : (x : Datum) (by : Scalar) (index : ℤ) (found : Option Subscript) (o : Option Datum) → o ≡ Some x → FitsType x.ty x.content → found ≡ subscript_after index (subscripts_of x.content) → may_read_subscripts_by by o ≡ Ok tt
    → IfSome found (λ subscript. scalar_of subscript ≡ by)
kind_found x by index None o live fits is may = tt
kind_found x by index (Some k) o live fits is may = fits_kind x by fits (may_by by o x live may) index k (sym is)
