-- Appending one more output, one more member and one more value.
use Rattle.tw_report.proofs.Names.{List, None, Option, Some, Subscript, Value, [], ap, append-nil, append_assoc, arith, count_in, entries_in as values_in, false, flat_map_more, get_or, length, length-take, member_line, member_lines, option_map, output_text, output_texts, refl, slice_get-get_or, slice_get_within, suc, sym, take, take_all, take_more, true, value_line, value_lines, ℕ, ◌++◌, ◌+◌, ◌<◌, ◌∙◌, ◌∷◌, ◌≡◌, ◌≤◌}
use Rattle.std.specs.Prelude.{slice_get}
use Rattle.std.specs.FinMap as fin
use Rattle.tw_types.specs.Store.{Content, Contains, Data, Datum, Maps, Members, Set, Unset, Values}
use Rattle.tw_datum.specs.Kept.{has_entries}
use Rattle.tw_datum.proofs.Members.{no_values_there}

-- ---- outputs

append_text : (live : Data) (k : ℕ) (ids : List ℕ) (id : ℕ) → output_texts live k (ids ++ id ∷ []) ≡ output_texts live k ids ++ output_text live (k + length ids) (fin.get live id)
append_text live k [] id =
    let same : k ≡ k + 0 = omega arith in
    append-nil (output_text live k (fin.get live id)) ∙ ap (λ (n : ℕ). output_text live n (fin.get live id)) same
append_text live k (x ∷ ids) id =
    let same : suc k + length ids ≡ k + suc (length ids) = omega arith in
    ap (λ (t : List ℕ). output_text live k (fin.get live x) ++ t) (append_text live (suc k) ids id)
    ∙ sym (append_assoc (output_text live k (fin.get live x)) (output_texts live (suc k) ids) (output_text live (suc k + length ids) (fin.get live id)))
    ∙ ap (λ (n : ℕ). (output_text live k (fin.get live x) ++ output_texts live (suc k) ids) ++ output_text live n (fin.get live id)) same

-- the text with output n appended, if the outputs before it are there
pub one_output_more : (live : Data) (ids : List ℕ) (n id : ℕ) (old out new : List ℕ) → n < length ids → id ≡ get_or ids n id
    → out ≡ old ++ output_texts live 0 (take n ids) → new ≡ out ++ output_text live n (fin.get live id) → new ≡ old ++ output_texts live 0 (take (n + 1) ids)
one_output_more live ids n id old out new lt is before made =
    let len : 0 + length (take n ids) ≡ n = omega (arith, length-take n ids) in
    let one : take (n + 1) ids ≡ take n ids ++ id ∷ [] = take_more ids n id lt ∙ ap (λ (k : ℕ). take n ids ++ k ∷ []) (sym is) in
    let texts : output_texts live 0 (take (n + 1) ids) ≡ output_texts live 0 (take n ids) ++ output_text live n (fin.get live id) =
    ap (output_texts live 0) one ∙ append_text live 0 (take n ids) id ∙ ap (λ (k : ℕ). output_texts live 0 (take n ids) ++ output_text live k (fin.get live id)) len in
    made
    ∙ ap (λ (t : List ℕ). t ++ output_text live n (fin.get live id)) before
    ∙ append_assoc old (output_texts live 0 (take n ids)) (output_text live n (fin.get live id))
    ∙ ap (λ (t : List ℕ). old ++ t) (sym texts)

-- ---- members

pub some_entry : (x y : Subscript × ℕ) → ◌≡◌ {A = Option (Subscript × ℕ)} (Some x) (Some y) → x ≡ y
some_entry x y e = cc

-- the subscript and the datum of an entry
abbrev pub member_of : Data → Subscript × ℕ → Subscript × Option Datum
member_of live e = (e.0, fin.get live e.1)

-- the entry at an index, by the member that is returned for it
pub entry_shown : (live : Data) (m : Subscript × Option Datum) (found : Option (Subscript × ℕ)) → ◌≡◌ {A = Option (Subscript × Option Datum)} (Some m) (option_map (member_of live) found) → (e : Subscript × ℕ) × (found ≡ Some e) × (m ≡ member_of live e)
entry_shown live m None is = absurd (cc)
entry_shown live m (Some e) is = (e, refl, cc)

-- the text with the line of member i appended, if the lines before it are there
pub one_member_more : (live : Data) (es : List (Subscript × ℕ)) (i : ℕ) (m : Subscript × Option Datum) (old out new : List ℕ) → Some m ≡ option_map (member_of live) (slice_get es i) → out ≡ old ++ member_lines live (take i es)
    → new ≡ out ++ member_line m.0 m.1 → new ≡ old ++ member_lines live (take (i + 1) es)
one_member_more live es i m old out new at before made = by (entry_shown live m (slice_get es i) at)
  where
    by : (e : Subscript × ℕ) × (slice_get es i ≡ Some e) × (m ≡ member_of live e) → new ≡ old ++ member_lines live (take (i + 1) es)
    by (e, found, source) =
        let lt : i < length es = slice_get_within es i e found in
        let is : get_or es i e ≡ e = some_entry _ _ (sym (slice_get-get_or es i e lt) ∙ found) in
        let one : take (i + 1) es ≡ take i es ++ e ∷ [] = take_more es i e lt ∙ ap (λ (x : Subscript × ℕ). take i es ++ x ∷ []) is in
        made
        ∙ ap (λ (x : Subscript × Option Datum). out ++ member_line x.0 x.1) source
        ∙ ap (λ (t : List ℕ). t ++ member_line e.0 (fin.get live e.1)) before
        ∙ flat_map_more (λ (x : Subscript × ℕ). member_line x.0 (fin.get live x.1)) old (take i es) e
        ∙ ap (λ (ms : List (Subscript × ℕ)). old ++ member_lines live ms) (sym one)

never_none : (live : Data) (x : Subscript × ℕ) → ◌≡◌ {A = Option (Subscript × Option Datum)} None (option_map (member_of live) (Some x)) → ⊥
never_none live x e = cc

-- there is a member at each index below their number
pub is_there : (live : Data) (members : Members) (i count : ℕ) → count ≡ fin.len members → i < count → None ≡ option_map (member_of live) (slice_get (fin.entries members) i) → ⊥
is_there live members i count all lt none = by (fin.entries members) (omega (arith, lt, all, fin.len-entries members)) none
  where
    by : (es : List (Subscript × ℕ)) → i < length es → None ≡ option_map (member_of live) (slice_get es i) → ⊥
    by [] inside none = absurd (omega (arith, inside))
    by (e ∷ es) inside none = never_none live (get_or (e ∷ es) i e) (none ∙ ap (option_map (member_of live)) (slice_get-get_or (e ∷ es) i e inside))

-- all have been added
pub all_members : (live : Data) (members : Members) (i count : ℕ) (old out : List ℕ) → count ≡ fin.len members → count ≤ i → out ≡ old ++ member_lines live (take i (fin.entries members)) → out ≡ old ++ member_lines live (fin.entries members)
all_members live members i count old out all le before = before ∙ ap (λ (ms : List (Subscript × ℕ)). old ++ member_lines live ms) (take_all i (fin.entries members) (omega (arith, all, le, fin.len-entries members)))

-- ---- values

pub same_entry : (x y : Subscript × Value) → ◌≡◌ {A = Option (Subscript × Value)} (Some x) (Some y) → x ≡ y
same_entry x y e = cc

-- the text with the line of value i appended, if the lines before it are there
pub one_value_more : (es : List (Subscript × Value)) (i : ℕ) (e : Subscript × Value) (old out new : List ℕ) → Some e ≡ slice_get es i → out ≡ old ++ value_lines (take i es) → new ≡ out ++ value_line e
    → new ≡ old ++ value_lines (take (i + 1) es)
one_value_more es i e old out new at before made =
    let lt : i < length es = slice_get_within es i e (sym at) in
    let is : get_or es i e ≡ e = same_entry _ _ (sym (slice_get-get_or es i e lt) ∙ sym at) in
    let one : take (i + 1) es ≡ take i es ++ e ∷ [] = take_more es i e lt ∙ ap (λ (x : Subscript × Value). take i es ++ x ∷ []) is in
    made ∙ ap (λ (t : List ℕ). t ++ value_line e) before ∙ flat_map_more value_line old (take i es) e ∙ ap (λ (xs : List (Subscript × Value)). old ++ value_lines xs) (sym one)

-- there is a value at each index below their number
pub value_there : (values : Values) (i count : ℕ) → count ≡ fin.len values → i < count → None ≡ slice_get (fin.entries values) i → ⊥
value_there values i count all lt none = by (fin.entries values) (omega (arith, lt, all, fin.len-entries values)) none
  where
    never : (x : Subscript × Value) → ◌≡◌ {A = Option (Subscript × Value)} None (Some x) → ⊥
    never x e = cc

    by : (es : List (Subscript × Value)) → i < length es → None ≡ slice_get es i → ⊥
    by [] inside none = absurd (omega (arith, inside))
    by (e ∷ es) inside none = never (get_or (e ∷ es) i e) (none ∙ slice_get-get_or (e ∷ es) i e inside)

-- all have been added
pub all_values : (values : Values) (i count : ℕ) (old out : List ℕ) → count ≡ fin.len values → count ≤ i → out ≡ old ++ value_lines (take i (fin.entries values)) → out ≡ old ++ value_lines (fin.entries values)
all_values values i count old out all le before = before ∙ ap (λ (es : List (Subscript × Value)). old ++ value_lines es) (take_all i (fin.entries values) (omega (arith, all, le, fin.len-entries values)))

-- a map's number of values, and no values of another datum
pub count_of_map : (content : Content) → has_entries content ≡ true → count_in content ≡ fin.len (values_in content)
count_of_map Unset e = cc
count_of_map (Set v) e = cc
count_of_map (Contains members) e = cc
count_of_map (Maps values) e = refl

pub none_without_map : (content : Content) → has_entries content ≡ false → fin.entries (values_in content) ≡ []
none_without_map Unset e = no_values_there
none_without_map (Set v) e = no_values_there
none_without_map (Contains members) e = no_values_there
none_without_map (Maps values) e = cc
