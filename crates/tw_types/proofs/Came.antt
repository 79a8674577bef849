-- Consequences of a call's result.
use Rattle.std.proofs.Common.{◌≡◌, Bor, Some, None, OnErr, OnOk, refl}
use Rattle.std.specs.declared.option.Option.{Option}
use Rattle.std.specs.declared.result.Result.{Result}
use Rattle.std.specs.declared.result.Result.TheVariants.{Ok, Err}
use Rattle.std.specs.Option.{option_copied}

pub on_ok : {A E : Type 0} (r : Result A E) {P Q : Type 0} → OnOk r P → (P → Q) → OnOk r Q
on_ok (Ok x) h f = f h
on_ok (Err why) h f = tt

pub on_err : {A E : Type 0} (r : Result A E) {P Q : Type 0} → OnErr r P → (P → Q) → OnErr r Q
on_err (Ok x) h f = tt
on_err (Err why) h f = f h

-- a copied option wasn't None
pub copied_there : {A : Type 0} (r : Option (Bor A)) (y : A) → option_copied r ≡ Some y → ((x : Bor A) → r ≡ Some x → ⊥) → ⊥
copied_there None y e none = cc
copied_there (Some x) y e none = none x refl

-- equal Somes have equal contents
pub unsome : {X : Type 0} {x y : X} → Some x ≡ Some y → x ≡ y
unsome e = cc
