-- A name that may be defined has no meaning yet.
use Rattle.tw_symbols.proofs.TextNames.{Binding, Bool, List, Names, None, Option, Procedures, Some, [], false, is_name, is_none, known, may_name, meaning, or_else, refl, true, value_after, ℕ, ◌&&◌, ◌∷◌, ◌≡◌}
use Rattle.tw_symbols.specs.Answers.{IsAssigned}
use Rattle.std.specs.Prelude.{drop}

unknown : (a : Bool) (k : Option Binding) → (a && is_none k) ≡ true → k ≡ None
unknown a None e = refl
unknown true (Some x) e = absurd cc
unknown false (Some x) e = absurd cc

first_none : (a b : Option Binding) → or_else a b ≡ None → a ≡ None
first_none None b e = refl
first_none (Some x) b e = absurd cc

second_none : (a b c : Option Binding) → or_else a (or_else b c) ≡ None → b ≡ None
second_none None b c e = first_none b c e
second_none (Some x) b c e = absurd cc

pub free_register : (procedures : Procedures) (names : Names) (name : List ℕ) → may_name procedures names name ≡ true → meaning name names.registers ≡ None
free_register procedures names name e = first_none (meaning name names.registers) (or_else (meaning name names.constants) (meaning name procedures.table)) (unknown (is_name name) (known procedures names name) e)

pub free_constant : (procedures : Procedures) (names : Names) (name : List ℕ) → may_name procedures names name ≡ true → meaning name names.constants ≡ None
free_constant procedures names name e = second_none (meaning name names.registers) (meaning name names.constants) (meaning name procedures.table) (unknown (is_name name) (known procedures names name) e)

-- the value of the one word after `=`
pub assigned_value : {A : Type 0} (read : List ℕ → Option A) (words : List (List ℕ)) (word : List ℕ) (a : A) → IsAssigned words word → drop 2 words ≡ [] → read word ≡ Some a → value_after read words ≡ Some a
assigned_value read [] word a is none e = absurd is
assigned_value read (sign ∷ []) word a is none e = absurd is
assigned_value read (sign ∷ value ∷ []) word a (sign_is, same) none e = rw sign_is (rw same e)
assigned_value read (sign ∷ value ∷ other ∷ more) word a is none e = absurd cc
