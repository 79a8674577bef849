-- One member more, and one value more.
use Rattle.std.proofs.Common.{◌≡◌, ◌<◌, ◌≤◌, ◌+◌, ℕ, List, [], ◌∷◌, ◌++◌, length, take, get_or, sym, ap, ◌∙◌, arith, Option, Some, None, refl, option_map}
use Rattle.std.specs.Prelude.{slice_get}
use Rattle.std.proofs.lemmas.List.{take_all, take_more}
use Rattle.std.proofs.lemmas.Option.{slice_get-get_or, slice_get_within}
use Rattle.std.specs.FinMap as fin
use Rattle.serde_json.specs.Data as json
use Rattle.tw_types.specs.Store.{Data, Datum, Members, Values}
use Rattle.tw_types.specs.declared.value.Value.{Value}
use Rattle.tw_types.specs.ValueOrder.{Subscript}
use Rattle.tw_report.proofs.Reports.{entry_shown, member_of, same_entry, some_entry}
use Rattle.tw_json_output.specs.Outputs.{datum_json, key_of, members_json, scalar_json, values_json, with_members, with_values}

-- the object with one member more
abbrev added : Data → json.Members → Subscript × ℕ → json.Members
added live ms e = json.put (key_of e.0) (datum_json (fin.get live e.1)) ms

after_all : (live : Data) (ms : json.Members) (es : List (Subscript × ℕ)) (e : Subscript × ℕ) → with_members live ms (es ++ e ∷ []) ≡ added live (with_members live ms es) e
after_all live ms [] e = refl
after_all live ms (x ∷ es) e = after_all live (added live ms x) es e

pub one_member_more : (live : Data) (es : List (Subscript × ℕ)) (i : ℕ) (m : Subscript × Option Datum) (old new : json.Members) → Some m ≡ option_map (member_of live) (slice_get es i) → old ≡ members_json live (take i es)
    → new ≡ json.put (key_of m.0) (datum_json m.1) old → new ≡ members_json live (take (i + 1) es)
one_member_more live es i m old new at before made = by (entry_shown live m (slice_get es i) at)
  where
    by : (e : Subscript × ℕ) × (slice_get es i ≡ Some e) × (m ≡ member_of live e) → new ≡ members_json live (take (i + 1) es)
    by (e, found, found_member) =
        let lt : i < length es = slice_get_within es i e found in
        let is : get_or es i e ≡ e = some_entry _ _ (sym (slice_get-get_or es i e lt) ∙ found) in
        let one : take (i + 1) es ≡ take i es ++ e ∷ [] = take_more es i e lt ∙ ap (λ (x : Subscript × ℕ). take i es ++ x ∷ []) is in
        made
        ∙ ap (λ (x : Subscript × Option Datum). json.put (key_of x.0) (datum_json x.1) old) found_member
        ∙ ap (λ (ms : json.Members). added live ms e) before
        ∙ sym (after_all live json.no_members (take i es) e)
        ∙ ap (λ (xs : List (Subscript × ℕ)). members_json live xs) (sym one)

-- all have been added
pub all_members : (live : Data) (members : Members) (i count : ℕ) (made : json.Members) → count ≡ fin.len members → count ≤ i → made ≡ members_json live (take i (fin.entries members)) → made ≡ members_json live (fin.entries members)
all_members live members i count made all le before = before ∙ ap (λ (xs : List (Subscript × ℕ)). members_json live xs) (take_all i (fin.entries members) (omega (arith, all, le, fin.len-entries members)))

-- ---- values of a map

value_after : (ms : json.Members) (es : List (Subscript × Value)) (e : Subscript × Value) → with_values ms (es ++ e ∷ []) ≡ json.put (key_of e.0) (scalar_json e.1) (with_values ms es)
value_after ms [] e = refl
value_after ms (x ∷ es) e = value_after (json.put (key_of x.0) (scalar_json x.1) ms) es e

-- the object with one value more
pub one_value_more : (es : List (Subscript × Value)) (i : ℕ) (e : Subscript × Value) (old new : json.Members) → Some e ≡ slice_get es i → old ≡ values_json (take i es) → new ≡ json.put (key_of e.0) (scalar_json e.1) old → new ≡ values_json (take (i + 1) es)
one_value_more es i e old new at before made =
    let lt : i < length es = slice_get_within es i e (sym at) in
    let is : get_or es i e ≡ e = same_entry _ _ (sym (slice_get-get_or es i e lt) ∙ sym at) in
    let one : take (i + 1) es ≡ take i es ++ e ∷ [] = take_more es i e lt ∙ ap (λ (x : Subscript × Value). take i es ++ x ∷ []) is in
    made ∙ ap (λ (ms : json.Members). json.put (key_of e.0) (scalar_json e.1) ms) before ∙ sym (value_after json.no_members (take i es) e) ∙ ap (λ (xs : List (Subscript × Value)). values_json xs) (sym one)

-- all have been added
pub all_values : (values : Values) (i count : ℕ) (made : json.Members) → count ≡ fin.len values → count ≤ i → made ≡ values_json (take i (fin.entries values)) → made ≡ values_json (fin.entries values)
all_values values i count made all le before = before ∙ ap (λ (xs : List (Subscript × Value)). values_json xs) (take_all i (fin.entries values) (omega (arith, all, le, fin.len-entries values)))
