-- Equal outputs are printed alike, if they have equal types. Types aren't in what is found; the invariant has them.
use Rattle.std.proofs.Common.{◌≡◌, ℕ, suc, ◌++◌, inl, inr, Bool, true, false, if◌then◌else◌, List, [], ◌∷◌, Option, Some, None, refl, sym, ap, subst, ◌∙◌, slice_get, length, map, codes, decimal}
use Rattle.std.proofs.lemmas.List.{length-map}
use Rattle.std.proofs.lemmas.Option.{same_Some}
use Rattle.std.specs.FinMap as fin
use Rattle.std.specs.FinMap.{get, len-entries}
use Rattle.std.specs.Option.{option_and_then, option_map}
use Rattle.serde_json.specs.Data as json
use Rattle.tw_types.proofs.Totals.{IsEntry, get_entry}
use Rattle.tw_types.proofs.ValueOrder.{value_cmp_total}
use Rattle.tw_types.specs.DataType.{element_of, is_container_by, is_map_by, is_sums}
use Rattle.tw_types.specs.Nesting.{NestedScalar}
use Rattle.tw_types.specs.declared.data_type.Scalar.TheVariants as scalar
use Rattle.tw_types.specs.declared.value.Value.TheVariants as value
use Rattle.tw_types.specs.Store.{Contains, Content, Data, Datum, Maps, Members, Set, Store, Unset, Values, is_closed}
use Rattle.tw_types.specs.StoreCalls.{entries_in as values_in, member_at, members_in, value_in}
use Rattle.tw_types.specs.TypedStore.{IsTypedStore}
use Rattle.tw_types.specs.ValueOrder.{Subscript, value_cmp}
use Rattle.tw_code.specs.declared.procedure.Procedure.{Procedure}
use Rattle.tw_code.specs.machine.Holders.{Typings}
use Rattle.tw_code.specs.machine.Rights.{RightType}
use Rattle.tw_code.specs.machine.State.{State}
use Rattle.tw_soundness.proofs.DataInsert.{found_inside}
use Rattle.tw_soundness.specs.InOrder.{HeldAsDue, IsInOrder, output_rights}
use Rattle.tw_determinism.specs.Found.{Entries, Look, Members as Subscripts, Nothing, SameOutputs, Shown, Single, Sums, at_path, found, look_of, shown}
use Rattle.tw_report.specs.Lines.{value_text}
use Rattle.tw_report.specs.Report.{closed_text, container_word, content_text, datum_text, entries_in, map_word, member_lines, output_line, output_text, output_texts, scalar_word, subscript_text, value_lines, values_of, values_word}
use Rattle.tw_json_output.specs.Outputs.{container_kind, content_json, content_kind, datum_json, datum_kind, key_of, kinds_json, map_kind, output_json, outputs_json, scalar_json, value_json, values_json, values_of as value_type, with_members}
use Rattle.tw_certificate.specs.Printed.{ArePrintedAlike}

abbrev Entry : Type 0
Entry = Subscript × ℕ

-- ---- one datum

-- two data of one type that show the same, or none in both places
abbrev AreTwins : Option Datum → Option Datum → Type 0
AreTwins None None = Unit {0}
AreTwins None (Some y) = ⊥
AreTwins (Some x) None = ⊥
AreTwins (Some x) (Some y) = (look_of x ≡ look_of y) × (x.ty ≡ y.ty)

same_length : (m n : Members) → fin.keys m ≡ fin.keys n → fin.len m ≡ fin.len n
same_length m n e =
    len-entries m ∙ sym (length-map (fin.entries m) (λ (e : Entry). e.0)) ∙ ap length e ∙ length-map (fin.entries n) (λ (e : Entry). e.0) ∙ sym (len-entries n)

-- what two contents have in common that show the same
abbrev AreAlike : Content → Content → Type 0
AreAlike Unset Unset = Unit {0}
AreAlike (Set u) (Set v) = u ≡ v
AreAlike (Contains m) (Contains n) = fin.keys m ≡ fin.keys n
AreAlike (Maps u) (Maps v) = u ≡ v
AreAlike c d = ⊥

abbrev shows_map : Shown → Bool
shows_map (Entries values) = true
shows_map (Sums values) = true
shows_map s = false

no_map : (s : Shown) → shows_map s ≡ false → (b : Bool) (values : Values) → (if b then Sums values else Entries values) ≡ s → ⊥
no_map s none true values e = let z : true ≡ false = ap shows_map e ∙ none in cc
no_map s none false values e = let z : true ≡ false = ap shows_map e ∙ none in cc

same_values : (a b : Bool) (u v : Values) → (if a then Sums u else Entries u) ≡ (if b then Sums v else Entries v) → u ≡ v
same_values true true u v e = cc
same_values true false u v e = cc
same_values false true u v e = cc
same_values false false u v e = cc

alike : (a b : NestedScalar) (c d : Content) → shown a c ≡ shown b d → AreAlike c d
alike a b Unset Unset e = tt
alike a b (Set u) (Set v) e = cc
alike a b (Contains m) (Contains n) e = cc
alike a b (Maps u) (Maps v) e = same_values (is_sums a) (is_sums b) u v e
alike a b (Maps u) Unset e = no_map Nothing refl (is_sums a) u e
alike a b (Maps u) (Set v) e = no_map (Single v) refl (is_sums a) u e
alike a b (Maps u) (Contains n) e = no_map (Subscripts (fin.keys n)) refl (is_sums a) u e
alike a b Unset (Maps v) e = no_map Nothing refl (is_sums b) v (sym e)
alike a b (Set u) (Maps v) e = no_map (Single u) refl (is_sums b) v (sym e)
alike a b (Contains m) (Maps v) e = no_map (Subscripts (fin.keys m)) refl (is_sums b) v (sym e)
alike a b c d e = cc

contents_alike : (x y : Datum) → look_of x ≡ look_of y → AreAlike x.content y.content
contents_alike x y e = alike x.ty y.ty x.content y.content (ap (λ (l : Look). l.content) e)

abbrev head_of : NestedScalar → Bool → List ℕ
head_of ty closed = container_word ty ++ (scalar_word ty.scalar ++ closed_text closed)

abbrev map_head_of : NestedScalar → Bool → List ℕ
map_head_of ty closed = map_word ty ++ (values_word ty ++ closed_text closed)

content_alike : (x y : Datum) (c d : Content) → AreAlike c d → is_closed x ≡ is_closed y → x.ty ≡ y.ty → content_text x c ≡ content_text y d
content_alike x y Unset Unset h closed ty = refl
content_alike x y (Set u) (Set v) h closed ty = ap value_text h
content_alike x y (Contains m) (Contains n) h closed ty =
    ap (λ c. head_of x.ty c ++ decimal (fin.len m)) closed ∙ ap (λ t. head_of t (is_closed y) ++ decimal (fin.len m)) ty ∙ ap (λ k. head_of y.ty (is_closed y) ++ decimal k) (same_length m n h)
content_alike x y (Maps u) (Maps v) h closed ty =
    ap (λ c. map_head_of x.ty c ++ decimal (fin.len u)) closed ∙ ap (λ t. map_head_of t (is_closed y) ++ decimal (fin.len u)) ty
    ∙ ap (λ (values : Values). map_head_of y.ty (is_closed y) ++ decimal (fin.len values)) h
content_alike x y c d h closed ty = absurd h

text_alike : (o p : Option Datum) → AreTwins o p → datum_text o ≡ datum_text p
text_alike None None h = refl
text_alike None (Some y) h = absurd h
text_alike (Some x) None h = absurd h
text_alike (Some x) (Some y) h = content_alike x y x.content y.content (contents_alike x y h.0) (ap (λ (l : Look). l.closed) h.0) h.1

value_alike : (c d : Content) → AreAlike c d → value_in c ≡ value_in d
value_alike Unset Unset h = refl
value_alike (Set u) (Set v) h = ap Some h
value_alike (Contains m) (Contains n) h = refl
value_alike (Maps u) (Maps v) h = refl
value_alike c d h = absurd h

json_alike : (o p : Option Datum) → AreTwins o p → datum_json o ≡ datum_json p
json_alike None None h = refl
json_alike None (Some y) h = absurd h
json_alike (Some x) None h = absurd h
json_alike (Some x) (Some y) h = ap value_json (value_alike x.content y.content (contents_alike x y h.0))

abbrev kind_at : NestedScalar → Bool → List ℕ
kind_at ty closed = container_kind (is_container_by scalar.Text ty) ty.scalar closed

abbrev map_kind_at : NestedScalar → Bool → List ℕ
map_kind_at ty closed = map_kind (is_map_by scalar.Text ty) (value_type ty) closed

content_kind_alike : (x y : Datum) (c d : Content) → AreAlike c d → is_closed x ≡ is_closed y → x.ty ≡ y.ty → content_kind x c ≡ content_kind y d
content_kind_alike x y Unset Unset h closed ty = refl
content_kind_alike x y (Set (value.Int n)) (Set (value.Int m)) h closed ty = refl
content_kind_alike x y (Set (value.Int n)) (Set (value.Text m)) h closed ty = cc
content_kind_alike x y (Set (value.Text n)) (Set (value.Int m)) h closed ty = cc
content_kind_alike x y (Set (value.Text n)) (Set (value.Text m)) h closed ty = refl
content_kind_alike x y (Contains m) (Contains n) h closed ty = ap (kind_at x.ty) closed ∙ ap (λ t. kind_at t (is_closed y)) ty
content_kind_alike x y (Maps u) (Maps v) h closed ty = ap (map_kind_at x.ty) closed ∙ ap (λ t. map_kind_at t (is_closed y)) ty
content_kind_alike x y c d h closed ty = absurd h

kind_alike : (o p : Option Datum) → AreTwins o p → datum_kind o ≡ datum_kind p
kind_alike None None h = refl
kind_alike None (Some y) h = absurd h
kind_alike (Some x) None h = absurd h
kind_alike (Some x) (Some y) h = content_kind_alike x y x.content y.content (contents_alike x y h.0) (ap (λ (l : Look). l.closed) h.0) h.1

values_same : (c d : Content) → AreAlike c d → fin.entries (values_in c) ≡ fin.entries (values_in d)
values_same Unset Unset h = refl
values_same (Set u) (Set v) h = refl
values_same (Contains m) (Contains n) h = refl
values_same (Maps u) (Maps v) h = ap (λ (values : Values). fin.entries values) h
values_same c d h = absurd h

listed_alike : (o p : Option Datum) → AreTwins o p → values_of o ≡ values_of p
listed_alike None None h = refl
listed_alike None (Some y) h = absurd h
listed_alike (Some x) None h = absurd h
listed_alike (Some x) (Some y) h = values_same x.content y.content (contents_alike x y h.0)

-- ---- members

module _ (live others : Data) where
  abbrev AreTwinLists : List Entry → List Entry → Type 0
  AreTwinLists [] [] = Unit {0}
  AreTwinLists [] (f ∷ fs) = ⊥
  AreTwinLists (e ∷ es) [] = ⊥
  AreTwinLists (e ∷ es) (f ∷ fs) = (e.0 ≡ f.0) × AreTwins (get live e.1) (get others f.1) × AreTwinLists es fs

  twins_by_keys : (es fs : List Entry) → map (λ e. e.0) es ≡ map (λ e. e.0) fs
      → ((e f : Entry) → IsEntry e es → IsEntry f fs → e.0 ≡ f.0 → AreTwins (get live e.1) (get others f.1)) → AreTwinLists es fs
  twins_by_keys [] [] same each = tt
  twins_by_keys [] (f ∷ fs) same each = cc
  twins_by_keys (e ∷ es) [] same each = cc
  twins_by_keys (e ∷ es) (f ∷ fs) same each =
      let key : e.0 ≡ f.0 = cc in
      let rest : map (λ (e : Entry). e.0) es ≡ map (λ (e : Entry). e.0) fs = cc in
      (key, each e f (inl refl) (inl refl) key, twins_by_keys es fs rest (λ a b i j k. each a b (inr i) (inr j) k))

  abbrev line_of : Subscript → List ℕ → List ℕ
  line_of subscript text = codes "  at " ++ (subscript_text subscript ++ (codes " " ++ (text ++ codes "\n")))

  members_alike : (es fs : List Entry) → AreTwinLists es fs → member_lines live es ≡ member_lines others fs
  members_alike [] [] h = refl
  members_alike [] (f ∷ fs) h = absurd h
  members_alike (e ∷ es) [] h = absurd h
  members_alike (e ∷ es) (f ∷ fs) h =
      ap (λ k. line_of k (datum_text (get live e.1)) ++ member_lines live es) h.0 ∙ ap (λ t. line_of f.0 t ++ member_lines live es) (text_alike (get live e.1) (get others f.1) h.1)
      ∙ ap (λ rest. line_of f.0 (datum_text (get others f.1)) ++ rest) (members_alike es fs h.2)

  object_alike : (already : json.Members) (es fs : List Entry) → AreTwinLists es fs → with_members live already es ≡ with_members others already fs
  object_alike already [] [] h = refl
  object_alike already [] (f ∷ fs) h = absurd h
  object_alike already (e ∷ es) [] h = absurd h
  object_alike already (e ∷ es) (f ∷ fs) h =
      ap (λ k. with_members live (json.put (key_of k) (datum_json (get live e.1)) already) es) h.0
      ∙ ap (λ v. with_members live (json.put (key_of f.0) v already) es) (json_alike (get live e.1) (get others f.1) h.1)
      ∙ object_alike (json.put (key_of f.0) (datum_json (get others f.1)) already) es fs h.2

  -- ---- outputs

  abbrev AreTwinOutputs : Option ℕ → Option ℕ → Type 0
  AreTwinOutputs None None = Unit {0}
  AreTwinOutputs None (Some j) = ⊥
  AreTwinOutputs (Some i) None = ⊥
  AreTwinOutputs (Some i) (Some j) = AreTwins (get live i) (get others j) × AreTwinLists (entries_in (get live i)) (entries_in (get others j))

  output_line_alike : (k : ℕ) (o p : Option Datum) → AreTwins o p → output_line k o ≡ output_line k p
  output_line_alike k o p h = ap (λ t. codes "out " ++ (decimal k ++ (codes " " ++ (t ++ codes "\n")))) (text_alike o p h)

  outputs_alike : (k : ℕ) (ids more : List ℕ) → ((n : ℕ) → AreTwinOutputs (slice_get ids n) (slice_get more n)) → output_texts live k ids ≡ output_texts others k more
  outputs_alike k [] [] h = refl
  outputs_alike k [] (j ∷ more) h = absurd (h 0)
  outputs_alike k (i ∷ ids) [] h = absurd (h 0)
  outputs_alike k (i ∷ ids) (j ∷ more) h =
      ap (λ line. (line ++ (member_lines live (entries_in (get live i)) ++ value_lines (values_of (get live i)))) ++ output_texts live (suc k) ids) (output_line_alike k (get live i) (get others j) (h 0).0)
      ∙ ap (λ lines. (output_line k (get others j) ++ (lines ++ value_lines (values_of (get live i)))) ++ output_texts live (suc k) ids) (members_alike (entries_in (get live i)) (entries_in (get others j)) (h 0).1)
      ∙ ap (λ values. (output_line k (get others j) ++ (member_lines others (entries_in (get others j)) ++ value_lines values)) ++ output_texts live (suc k) ids) (listed_alike (get live i) (get others j) (h 0).0)
      ∙ ap (λ rest. output_text others k (get others j) ++ rest) (outputs_alike (suc k) ids more (λ n. h (suc n)))

  content_json_alike : (c d : Content) → AreAlike c d → AreTwinLists (fin.entries (members_in c)) (fin.entries (members_in d)) → content_json live c ≡ content_json others d
  content_json_alike Unset Unset e h = refl
  content_json_alike (Set u) (Set v) e h = ap scalar_json e
  content_json_alike (Contains m) (Contains n) e h = ap json.object (object_alike json.no_members (fin.entries m) (fin.entries n) h)
  content_json_alike (Maps u) (Maps v) e h = ap (λ (values : Values). json.object (values_json (fin.entries values))) e
  content_json_alike c d e h = absurd e

  output_json_alike : (o p : Option Datum) → AreTwins o p → AreTwinLists (entries_in o) (entries_in p) → output_json live o ≡ output_json others p
  output_json_alike None None h members = refl
  output_json_alike None (Some y) h members = absurd h
  output_json_alike (Some x) None h members = absurd h
  output_json_alike (Some x) (Some y) h members = content_json_alike x.content y.content (contents_alike x y h.0) members

  values_alike : (ids more : List ℕ) → ((n : ℕ) → AreTwinOutputs (slice_get ids n) (slice_get more n)) → outputs_json live ids ≡ outputs_json others more
  values_alike [] [] h = refl
  values_alike [] (j ∷ more) h = absurd (h 0)
  values_alike (i ∷ ids) [] h = absurd (h 0)
  values_alike (i ∷ ids) (j ∷ more) h =
      ap (λ v. v ∷ outputs_json live ids) (output_json_alike (get live i) (get others j) (h 0).0 (h 0).1)
      ∙ ap (λ rest. output_json others (get others j) ∷ rest) (values_alike ids more (λ n. h (suc n)))

  kinds_alike : (ids more : List ℕ) → ((n : ℕ) → AreTwinOutputs (slice_get ids n) (slice_get more n)) → kinds_json live ids ≡ kinds_json others more
  kinds_alike [] [] h = refl
  kinds_alike [] (j ∷ more) h = absurd (h 0)
  kinds_alike (i ∷ ids) [] h = absurd (h 0)
  kinds_alike (i ∷ ids) (j ∷ more) h =
      ap (λ k. json.string k ∷ kinds_json live ids) (kind_alike (get live i) (get others j) (h 0).0)
      ∙ ap (λ rest. json.string (datum_kind (get others j)) ∷ rest) (kinds_alike ids more (λ n. h (suc n)))

-- ---- two states of one program

-- equal looks of data whose types are equal if both are there
twins_by_look : (o p : Option Datum) → option_map look_of o ≡ option_map look_of p → ((x y : Datum) → o ≡ Some x → p ≡ Some y → x.ty ≡ y.ty) → AreTwins o p
twins_by_look None None e ty = tt
twins_by_look None (Some y) e ty = cc
twins_by_look (Some x) None e ty = cc
twins_by_look (Some x) (Some y) e ty = let same : look_of x ≡ look_of y = cc in (same, ty x y refl refl)

module _ (s t : Store) (typed : IsTypedStore s) (also : IsTypedStore t) where
  module _ (i j : ℕ) (x y : Datum) (here : get s.live i ≡ Some x) (there : get t.live j ≡ Some y) (ty : x.ty ≡ y.ty) (same : (path : List Subscript) → found s path i ≡ found t path j) where
    own : AreTwins (Some x) (Some y)
    own = twins_by_look (Some x) (Some y) (sym (ap (option_map look_of) here) ∙ same [] ∙ ap (option_map look_of) there) (λ a b e f. sym (ap (λ (d : Datum). d.ty) (same_Some x a e)) ∙ ty ∙ ap (λ (d : Datum). d.ty) (same_Some y b f))

    keys_alike : (c d : Content) → AreAlike c d → map (λ (e : Entry). e.0) (fin.entries (members_in c)) ≡ map (λ (e : Entry). e.0) (fin.entries (members_in d))
    keys_alike Unset Unset h = refl
    keys_alike (Set u) (Set v) h = refl
    keys_alike (Contains m) (Contains n) h = h
    keys_alike (Maps u) (Maps v) h = refl
    keys_alike c d h = absurd h

    -- what is found at one subscript
    at_key : (u : Store) (id member : ℕ) (z : Datum) (key : Subscript) → get u.live id ≡ Some z → get (members_in z.content) key ≡ Some member → found u (key ∷ []) id ≡ option_map look_of (get u.live member)
    at_key u id member z key live is =
        let at : member_at u id key ≡ Some member = ap (option_and_then (λ (d : Datum). get (members_in d.content) key)) live ∙ is in
        ap (λ o. option_and_then (λ d. option_map look_of (get u.live d)) (option_and_then (at_path u []) o)) at

    member_twins : (e f : Entry) → IsEntry e (fin.entries (members_in x.content)) → IsEntry f (fin.entries (members_in y.content)) → e.0 ≡ f.0 → AreTwins (get s.live e.1) (get t.live f.1)
    member_twins e f first second key =
        let one = get_entry value_cmp value_cmp_total (members_in x.content) e first in
        let two = get_entry value_cmp value_cmp_total (members_in y.content) f second in
        twins_by_look (get s.live e.1) (get t.live f.1)
        (sym (at_key s i e.1 x e.0 here one) ∙ same (e.0 ∷ []) ∙ ap (λ k. found t (k ∷ []) j) key ∙ at_key t j f.1 y f.0 there two)
        (λ a b is also_is. same_Some a.ty b.ty
        (sym (typed.nested.members i e.1 x a here is (found_inside x e.0 e.1 one)) ∙ ap element_of ty ∙ also.nested.members j f.1 y b there also_is (found_inside y f.0 f.1 two)))

    entries_alike : AreTwinLists s.live t.live (fin.entries (members_in x.content)) (fin.entries (members_in y.content))
    entries_alike = twins_by_keys s.live t.live _ _ (keys_alike x.content y.content (contents_alike x y own.0)) member_twins

  both : (right : Option RightType) (a b : Option ℕ) → HeldAsDue s right a → HeldAsDue t right b → ((path : List Subscript) → option_and_then (found s path) a ≡ option_and_then (found t path) b) → AreTwinOutputs s.live t.live a b
  both None None None h g same = tt
  both None None (Some j) h g same = absurd g
  both None (Some i) b h g same = absurd h
  both (Some right) None b h g same = absurd h
  both (Some right) (Some i) None h g same = absurd g
  both (Some right) (Some i) (Some j) h g same =
      let ty : h.x.ty ≡ g.x.ty = h.ty ∙ sym g.ty in
      let own_twins = own i j h.x g.x h.live g.live ty same in
      let members = entries_alike i j h.x g.x h.live g.live ty same in (
        subst (λ o. AreTwins o (get t.live j)) (sym h.live) (subst (AreTwins (Some h.x)) (sym g.live) own_twins),
        subst (λ o. AreTwinLists s.live t.live (entries_in o) (entries_in (get t.live j))) (sym h.live) (subst (λ o. AreTwinLists s.live t.live (entries_in (Some h.x)) (entries_in o)) (sym g.live) members),
      )

pub printed_alike : (program : List Procedure) (typings : Typings) (s t : State) → IsInOrder program typings s → IsInOrder program typings t → SameOutputs s t → ArePrintedAlike s t
printed_alike program typings s t first second same = record {
  lines = λ last_lines. ap (λ texts. texts ++ last_lines) (outputs_alike s.store.live t.store.live 0 s.outputs t.outputs each);
  kinds = kinds_alike s.store.live t.store.live s.outputs t.outputs each;
  values = values_alike s.store.live t.store.live s.outputs t.outputs each;
}
  where
    each : (k : ℕ) → AreTwinOutputs s.store.live t.store.live (slice_get s.outputs k) (slice_get t.outputs k)
    each k = both s.store t.store first.types.store second.types.store (slice_get (output_rights program) k) (slice_get s.outputs k) (slice_get t.outputs k) (first.types.outputs k) (second.types.outputs k) (same k)
