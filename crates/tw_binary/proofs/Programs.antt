-- Procedures and whole programs: a parsed value has this encoding, and an encoded value is parsed.
use Rattle.tw_binary.proofs.Names.{AllByRecursion, Broken, Err, Instr, IsInstrOf, IsList, IsParamOf, IsProcedureOf, IsProgramOf, IsVersioned, Item, Kind, List, Magic, Ok, Param, Procedure, Scalar, Trailing, Version, Versioned, [], ap, append-nil, arith, byte, cond, counted_items, encoding, eqb, eqb-true, instr_items, length, magic, nil_from_length, param_items, procedure_items, refl, scalar_items, subst, sym, version_items, wide, ℕ, ◌++◌, ◌∙◌, ◌∷◌, ◌≡◌}
use Rattle.tw_binary.specs.Reading.{counted, byte_at, wide_at, scalar_at, param_at, instr_at, procedure_at, header_at, front_at, whole, wrong}
use Rattle.tw_binary.proofs.Formats.{IsBytes, bind_ok, passed, ok_is, IsMade}
use Rattle.tw_binary.proofs.Breaks.{IsStrict, both_strict, then_strict, counted_strict, as_is_strict}
use Rattle.tw_binary.proofs.Bytes.{AnyOf, byte_strict, exactly_strict, kind_strict, scalar_strict, version_strict}
use Rattle.tw_binary.proofs.Numbers.{wide_strict}
use Rattle.tw_binary.proofs.Types.{param_strict}
use Rattle.tw_binary.proofs.Instructions.{instr_strict}

-- ---- procedures

params_strict : (version : Version) → IsStrict (IsList 0 8 (IsParamOf version)) (counted_items byte param_items) (counted (byte_at 0 8) (param_at version))
params_strict version = counted_strict (param_strict version) (byte_strict 0 8 (omega arith))

registers_strict : IsStrict (IsList 0 16 AnyOf) (counted_items byte scalar_items) (counted (byte_at 0 16) scalar_at)
registers_strict = counted_strict scalar_strict (byte_strict 0 16 (omega arith))

code_strict : (version : Version) → IsStrict (IsList 1 4096 (IsInstrOf version)) (counted_items wide instr_items) (counted (wide_at 1 4096) (instr_at version))
code_strict version = counted_strict (instr_strict version) (wide_strict 1 4096 (omega arith) (omega arith))

any_of_each : (xs : List Scalar) → AllByRecursion AnyOf xs
any_of_each [] = tt
any_of_each (x ∷ xs) = (tt, any_of_each xs)

abbrev Parts : Type 0
Parts = Kind × (List Param × (List Scalar × List Instr))

procedure_made : (version : Version) → IsMade (λ (x : Parts). AnyOf x.0 × (IsList 0 8 (IsParamOf version) x.1.0 × (IsList 0 16 AnyOf x.1.1.0 × IsList 1 4096 (IsInstrOf version) x.1.1.1))) (IsProcedureOf version)
    (λ x. record { kind = x.0; params = x.1.0; registers = x.1.1.0; code = x.1.1.1 }) (λ (p : Procedure). (p.kind, (p.params, (p.registers, p.code))))
procedure_made version = record {
  made = λ p h. refl;
  undone = λ x h. refl;
  fits = λ x h. record { params = h.1.0; registers = h.1.1.0.0; code = h.1.1.1 };
  parts_fit = λ p h. (tt, (h.params, ((h.registers, any_of_each p.registers), h.code)));
}

procedure_strict : (version : Version) → IsStrict (IsProcedureOf version) procedure_items (procedure_at version)
unfolding procedure_at
procedure_strict version = as_is_strict (procedure_made version) (both_strict kind_strict (both_strict (params_strict version) (both_strict registers_strict (code_strict version))))

-- ---- programs

header_made : IsMade (λ (x : ℕ × (ℕ × (ℕ × Version))). (x.0 ≡ 0x54) × ((x.1.0 ≡ 0x57) × ((x.1.1.0 ≡ 0x42) × AnyOf x.1.1.1))) AnyOf (λ x. x.1.1.1) (λ (v : Version). (0x54, (0x57, (0x42, v))))
header_made = record {
  made = λ v h. refl;
  undone = λ x h. rw (h.0, h.1.0, h.1.1.0) refl;
  fits = λ x h. tt;
  parts_fit = λ v h. (refl, (refl, (refl, tt)));
}

header_strict : IsStrict AnyOf (λ (v : Version). magic ++ version_items v) header_at
unfolding header_at
header_strict = as_is_strict header_made (both_strict (exactly_strict 0x54 Magic tt) (both_strict (exactly_strict 0x57 Magic tt) (both_strict (exactly_strict 0x42 Magic tt) version_strict)))

abbrev pub FrontFits : Version × List Procedure → Type 0
FrontFits x = AnyOf x.0 × IsProgramOf x.0 x.1

abbrev pub front_items : Version × List Procedure → List Item
front_items x = (magic ++ version_items x.0) ++ counted_items byte procedure_items x.1

pub front_strict : IsStrict FrontFits front_items front_at
front_strict = then_strict header_strict (λ v. counted_strict (procedure_strict v) (byte_strict 1 64 (omega arith)))

-- a program's encoding is parsed to its end
pub front_again : (p : Versioned) → IsVersioned p → front_at (encoding p) ≡ Ok ((p.version, p.procedures), [])
front_again p fits = ap front_at (sym (append-nil (encoding p))) ∙ front_strict.format.again (p.version, p.procedures) [] (tt, fits)

-- ---- the two theorems

abbrev pub versioned : Version × List Procedure → Versioned
versioned x = record { version = x.0; procedures = x.1 }

pub whole_takes : (bytes : List ℕ) (p : Versioned) → IsBytes bytes → whole bytes ≡ Ok p → IsVersioned p × (bytes ≡ encoding p)
unfolding whole
whole_takes bytes p fits e =
    let a = bind_ok (front_at bytes) (λ x. cond (eqb (length x.1) 0) (Ok (versioned x.0)) (wrong Trailing x.1)) p e in
    let g = passed (eqb (length a.0.1) 0) _ (versioned a.0.0) p a.2 in
    let t = front_strict.format.takes bytes a.0.0 a.0.1 fits a.1 in
    let nothing : a.0.1 ≡ [] = nil_from_length a.0.1 (eqb-true _ _ g.0) in
    let all : bytes ≡ encoding (versioned a.0.0) = t.0.parts ∙ ap (λ (r : List ℕ). encoding (versioned a.0.0) ++ r) nothing ∙ append-nil (encoding (versioned a.0.0)) in
    subst (λ (v : Versioned). IsVersioned v × (bytes ≡ encoding v)) g.1 (t.1.1, all)

pub whole_again : (p : Versioned) → IsVersioned p → whole (encoding p) ≡ Ok p
unfolding whole
whole_again p fits = rw (front_again p fits) refl

-- ---- as decoding needs them

pub one_program : (bytes : List ℕ) (p q : Versioned) → whole bytes ≡ Ok p → IsVersioned q → bytes ≡ encoding q → q ≡ p
one_program bytes p q e fits spelled = ok_is q p (sym (ap whole spelled ∙ whole_again q fits) ∙ e)

pub no_program : (bytes : List ℕ) (f : Broken) (q : Versioned) → whole bytes ≡ Err f → IsVersioned q → bytes ≡ encoding q → ⊥
no_program bytes f q e fits spelled = apart q f (sym (ap whole spelled ∙ whole_again q fits) ∙ e) where
  apart : (q : Versioned) (f : Broken) → Ok q ≡ Err f → ⊥
  apart q f h = cc
