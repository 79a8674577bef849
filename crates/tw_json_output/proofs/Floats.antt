-- No value here has a float.
use Rattle.std.proofs.Common.{◌≡◌, ℕ, ◌^◌, List, [], ◌∷◌, Bool, true, false, ◌||◌, map, Option, Some, None, Ordering, Less, Equal, Greater, refl, sym, ap, ◌∙◌, nat_lt, nat_cmp, true≢false, if◌then◌else◌}
use Rattle.std.specs.Cmp.Lexicographic.{slice_cmp}
use Rattle.std.specs.FinMap as fin
use Rattle.std.specs.Ordering.{match_ordering}
use Rattle.std.specs.Option.{option_and_then}
use Rattle.std.specs.Prelude.{ℤ, pos, negsuc, codes}
use Rattle.serde_json.specs.Data as json
use Rattle.serde_json.specs.Find.{of_integer}
use Rattle.serde_json.specs.View.{items_of}
use Rattle.serde_json.specs.Written.{has_float, items_have_float, members_have_float}
use Rattle.tw_types.specs.declared.pending.Link.{Link}
use Rattle.tw_types.specs.declared.value.Value.{Value}
use Rattle.tw_types.specs.declared.value.Value.TheVariants as value
use Rattle.tw_types.specs.Store.{Content, Unset, Set, Contains, Maps, Datum, Data}
use Rattle.tw_types.specs.StoreCalls.{value_in}
use Rattle.tw_types.specs.ValueOrder.{Subscript}
use Rattle.tw_json_output.specs.Outputs.{content_json, datum_json, datum_kind, key_of, kinds_json, members_json, output_json, outputs_json, scalar_json, value_json, with_members, with_values}
use Rattle.tw_json_output.specs.Run.{circle_json, link_json, run_json, run_members, size_json, with_circle, with_pending}

pub both : (a b : Bool) → a ≡ false → b ≡ false → a || b ≡ false
both false b left right = right
both true b left right = absurd (true≢false left)

pub first : (a b : Bool) → a || b ≡ false → a ≡ false
first false b e = refl
first true b e = absurd (true≢false e)

pub second : (a b : Bool) → a || b ≡ false → b ≡ false
second false b e = e
second true b e = absurd (true≢false e)

ordered : (o : Ordering) (a b c : json.Members) → members_have_float a ≡ false → members_have_float b ≡ false → members_have_float c ≡ false → members_have_float (match_ordering o a b c) ≡ false
ordered Less a b c x y z = x
ordered Equal a b c x y z = y
ordered Greater a b c x y z = z

pub one_more : (k : List ℕ) (d : json.Data) (ms : json.Members) → has_float d ≡ false → members_have_float ms ≡ false → members_have_float (json.put k d ms) ≡ false
one_more k d json.no_members value rest = both (has_float d) false value refl
one_more k d (json.member l e ms) value rest =
    let here = first (has_float e) (members_have_float ms) rest in
    let later = second (has_float e) (members_have_float ms) rest in
    ordered (slice_cmp nat_cmp k l) (json.member k d (json.member l e ms)) (json.member l d ms) (json.member l e (json.put k d ms))
    (both (has_float d) (members_have_float (json.member l e ms)) value rest)
    (both (has_float d) (members_have_float ms) value later)
    (both (has_float e) (members_have_float (json.put k d ms)) here (one_more k d ms value later))

integer : (n : ℤ) → has_float (json.number (of_integer n)) ≡ false
integer (pos n) = refl
integer (negsuc n) = refl

scalar : (v : Value) → has_float (scalar_json v) ≡ false
scalar (value.Int n) = integer n
scalar (value.Text text) = refl

valued : (v : Option Value) → has_float (value_json v) ≡ false
valued None = refl
valued (Some v) = scalar v

members : (live : Data) (ms : json.Members) (es : List (Subscript × ℕ)) → members_have_float ms ≡ false → members_have_float (with_members live ms es) ≡ false
members live ms [] before = before
members live ms (e ∷ es) before =
    members live (json.put (key_of e.0) (datum_json (fin.get live e.1)) ms) es
    (one_more (key_of e.0) (datum_json (fin.get live e.1)) ms (valued (option_and_then (λ d. value_in d.content) (fin.get live e.1))) before)

entries : (ms : json.Members) (es : List (Subscript × Value)) → members_have_float ms ≡ false → members_have_float (with_values ms es) ≡ false
entries ms [] before = before
entries ms (e ∷ es) before = entries (json.put (key_of e.0) (scalar_json e.1) ms) es (one_more (key_of e.0) (scalar_json e.1) ms (scalar e.1) before)

content : (live : Data) (c : Content) → has_float (content_json live c) ≡ false
content live Unset = refl
content live (Set v) = scalar v
content live (Contains ms) = members live json.no_members (fin.entries ms) refl
content live (Maps vs) = entries json.no_members (fin.entries vs) refl

output : (live : Data) (x : Option Datum) → has_float (output_json live x) ≡ false
output live None = refl
output live (Some x) = content live x.content

outputs : (live : Data) (ids : List ℕ) → items_have_float (items_of (outputs_json live ids)) ≡ false
outputs live [] = refl
outputs live (id ∷ ids) = both (has_float (output_json live (fin.get live id))) _ (output live (fin.get live id)) (outputs live ids)

kinds : (live : Data) (ids : List ℕ) → items_have_float (items_of (kinds_json live ids)) ≡ false
kinds live [] = refl
kinds live (id ∷ ids) = kinds live ids

sized : (small : Bool) (n : ℕ) → has_float (if small then json.number (json.unsigned n) else json.null) ≡ false
sized true n = refl
sized false n = refl

links : (all : List Link) → items_have_float (items_of (map link_json all)) ≡ false
links [] = refl
links (l ∷ ls) = links ls

pending : (rules : Option ℕ) (ms : json.Members) → members_have_float ms ≡ false → members_have_float (with_pending rules ms) ≡ false
pending None ms before = before
pending (Some rules) ms before = one_more (codes "pending") (json.number (json.unsigned rules)) ms refl before

circle : (found : Option (List Link)) (ms : json.Members) → members_have_float ms ≡ false → members_have_float (with_circle found ms) ≡ false
circle None ms before = before
circle (Some found) ms before = one_more (codes "circle") (circle_json found) ms (links found) before

each_run : (status : List ℕ) (events instructions : ℕ) (live : Data) (ids : List ℕ) → members_have_float (run_members status events instructions live ids) ≡ false
each_run status events instructions live ids =
    both _ _ (sized (nat_lt instructions (2 ^ 64)) instructions) (both _ _ (kinds live ids) (both _ _ (outputs live ids) refl))

pub of_run : (status : List ℕ) (rules : Option ℕ) (found : Option (List Link)) (events instructions : ℕ) (live : Data) (ids : List ℕ) → has_float (run_json status rules found events instructions live ids) ≡ false
of_run status rules found events instructions live ids = circle found (with_pending rules (run_members status events instructions live ids)) (pending rules (run_members status events instructions live ids) (each_run status events instructions live ids))
