-- A map of labels is a list of labels.
use Rattle.tw_asm.proofs.AsmNames.{Bool, Contains, List, None, Option, Placed, Some, [], ap, arith, bytes_eq, bytes_eq-Decides, cond, false, is_some, length, map, map-append, refl, seen_label, slice_index_or, suc, sym, true, zero, ℕ, ◌++◌, ◌<◌, ◌∙◌, ◌∷◌, ◌≡◌}
use denote.Ref.{Bor}
use Rattle.std.specs.Map.{lookup}

abbrev pub found_in : List ℕ → List (Bor (List ℕ) × ℕ) → Option ℕ
found_in name es = lookup (λ (k : Bor (List ℕ)). bytes_eq name k.now) es

none_some : {Z : Type 0} (q : ℕ) → ◌≡◌ {A = Option ℕ} None (Some q) → Z
none_some q e = absurd cc

label_is : (n m : List ℕ) (p q : ℕ) → n ≡ m → ◌≡◌ {A = Option ℕ} (Some p) (Some q) → ◌≡◌ {A = Placed} (record { name = m; place = p }) (record { name = n; place = q })
label_is n m p q e f = cc

shift : (x y : Placed) (ls : List Placed) → Contains ls y → Contains (x ∷ ls) y
shift x y ls c = (suc c.0, omega (arith, c.1), c.2)

found_at : (name key : List ℕ) (p q : ℕ) (rest : Option ℕ) (ls : List Placed) (t : Bool) → bytes_eq name key ≡ t → (rest ≡ Some q → Contains ls (record { name = name; place = q })) → cond t (Some p) rest ≡ Some q
    → Contains (record { name = key; place = p } ∷ ls) (record { name = name; place = q })
found_at name key p q rest ls true t later e = (0, omega arith, label_is name key p q ((bytes_eq-Decides name key).0 t) e)
found_at name key p q rest ls false t later e = shift (record { name = key; place = p }) (record { name = name; place = q }) ls (later e)

-- a result of a search is a label
pub label_found : (name : List ℕ) (es : List (Bor (List ℕ) × ℕ)) (q : ℕ) → found_in name es ≡ Some q → Contains (map seen_label es) (record { name = name; place = q })
label_found name [] q e = none_some q e
label_found name (x ∷ es) q e = found_at name x.0.now x.1 q (found_in name es) (map seen_label es) (bytes_eq name x.0.now) refl (λ f. label_found name es q f) e

name_first : (name key : List ℕ) (names : List (List ℕ)) → name ≡ key → Contains (key ∷ names) name
name_first name key names e = (0, omega arith, sym e)

name_later : (name key : List ℕ) (names : List (List ℕ)) → Contains names name → Contains (key ∷ names) name
name_later name key names c = (suc c.0, omega (arith, c.1), c.2)

present_at : (name key : List ℕ) (p : ℕ) (rest : Option ℕ) (names : List (List ℕ)) (t : Bool) → bytes_eq name key ≡ t → (true ≡ is_some rest → Contains names name) → true ≡ is_some (cond t (Some p) rest) → Contains (key ∷ names) name
present_at name key p rest names true t later e = name_first name key names ((bytes_eq-Decides name key).0 t)
present_at name key p rest names false t later e = name_later name key names (later e)

false_true : {Z : Type 0} → true ≡ false → Z
false_true e = absurd cc

pub name_present : (name : List ℕ) (es : List (Bor (List ℕ) × ℕ)) → true ≡ is_some (found_in name es) → Contains (map (λ (label : Placed). label.name) (map seen_label es)) name
name_present name [] e = false_true e
name_present name (x ∷ es) e = present_at name x.0.now x.1 (found_in name es) (map (λ (label : Placed). label.name) (map seen_label es)) (bytes_eq name x.0.now) refl (λ f. name_present name es f) e

absent_at : (name key : List ℕ) (p : ℕ) (rest : Option ℕ) (names : List (List ℕ)) (t : Bool) → bytes_eq name key ≡ t → (false ≡ is_some rest → Contains names name → ⊥) → false ≡ is_some (cond t (Some p) rest)
    → (k : ℕ) → k < suc (length names) → slice_index_or (key ∷ names) k name ≡ name → ⊥
absent_at name key p rest names true t later e k low at = false_true (sym e)
absent_at name key p rest names false t later e zero low at = false_true (sym ((bytes_eq-Decides name key).1 (sym at)) ∙ t)
absent_at name key p rest names false t later e (suc k) low at = later e (k, omega (arith, low), at)

pub name_absent : (name : List ℕ) (es : List (Bor (List ℕ) × ℕ)) → false ≡ is_some (found_in name es) → Contains (map (λ (label : Placed). label.name) (map seen_label es)) name → ⊥
name_absent name [] e c = absurd (omega (arith, c.1))
name_absent name (x ∷ es) e c = absent_at name x.0.now x.1 (found_in name es) (map (λ (label : Placed). label.name) (map seen_label es)) (bytes_eq name x.0.now) refl (λ f d. name_absent name es f d) e c.0 c.1 c.2

-- the entries after a new label is added
pub added_is : (name : Bor (List ℕ)) (place : ℕ) (es fs : List (Bor (List ℕ) × ℕ)) → fs ≡ es ++ (name, place) ∷ [] → map seen_label fs ≡ map seen_label es ++ (record { name = name.now; place = place } ∷ [])
added_is name place es fs e = ap (map seen_label) e ∙ map-append seen_label es ((name, place) ∷ [])
