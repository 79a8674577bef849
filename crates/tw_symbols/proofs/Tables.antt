-- A map of names is a table.
use Rattle.tw_symbols.proofs.TextNames.{Binding, Bor, List, Some, [], ap, bytes_eq, cond, map-append, meaning, refl, seen_entry, seen_table, ℕ, ◌++◌, ◌∙◌, ◌∷◌, ◌≡◌}
use Rattle.std.specs.Map.{lookup}

pub meaning_seen : (name : List ℕ) (es : List (Bor (List ℕ) × Binding)) → lookup (λ (k : Bor (List ℕ)). bytes_eq name k.now) es ≡ meaning name (seen_table es)
meaning_seen name [] = refl
meaning_seen name (e ∷ es) = ap (cond (bytes_eq name e.0.now) (Some e.1)) (meaning_seen name es)

pub name_more : (name : Bor (List ℕ)) (binding : Binding) (es fs : List (Bor (List ℕ) × Binding)) → fs ≡ es ++ (name, binding) ∷ [] → seen_table fs ≡ seen_table es ++ (name.now, binding) ∷ []
name_more name binding es fs e = ap seen_table e ∙ map-append seen_entry es ((name, binding) ∷ [])
