-- The instructions and types of each version, within the limits.
use Rattle.tw_asm.proofs.AsmNames.{AllByRecursion, Closed, Five, Four, HasInstr, HasOperand, HasParam, HasType, Instr, Int, IsInstr, IsInstrOf, IsMapOf, IsOperand, IsOperandOf, IsParam, IsParamOf, IsSubscriptOf, IsTypeOfMode, IsTypeUnderOf, IsVersionNumber, IsWithin, List, MapKind, Mode, NestedScalar, NoMap, One, Operand, Param, Ref, Scalar, Sums, Text, Two, Val, Values, Version, Write, [], arith, depth_of, holds, inl, inr, is_scalar, last_version, refl, row, subst, suc, sym, true, version_by, version_number, zero, ℕ, ◌∷◌, ◌≡◌, ◌≤◌}
use Rattle.tw_code.specs.declared.form.Form.TheVariants as form

-- ---- numbers

pub number_back : (version : Version) → version_by (version_number version) ≡ version
number_back One = refl
number_back Two = refl
number_back Four = refl
number_back Five = refl

pub by_number : (n : ℕ) → IsVersionNumber n → version_number (version_by n) ≡ n
by_number n (inl h) = early n h
  where
    early : (n : ℕ) → IsWithin 1 2 n → version_number (version_by n) ≡ n
    early zero h = absurd (omega (arith, h.0))
    early (suc zero) h = refl
    early (suc (suc zero)) h = refl
    early (suc (suc (suc n))) h = absurd (omega (arith, h.1))
by_number n (inr h) = late n h
  where
    late : (n : ℕ) → IsWithin 4 5 n → version_number (version_by n) ≡ n
    late zero h = absurd (omega (arith, h.0))
    late (suc zero) h = absurd (omega (arith, h.0))
    late (suc (suc zero)) h = absurd (omega (arith, h.0))
    late (suc (suc (suc zero))) h = absurd (omega (arith, h.0))
    late (suc (suc (suc (suc zero)))) h = refl
    late (suc (suc (suc (suc (suc zero))))) h = refl
    late (suc (suc (suc (suc (suc (suc n)))))) h = absurd (omega (arith, h.1))

pub number_within : (version : Version) → IsVersionNumber (version_number version)
number_within One = inl (omega arith, omega arith)
number_within Two = inl (omega arith, omega arith)
number_within Four = inr (omega arith, omega arith)
number_within Five = inr (omega arith, omega arith)

-- ---- version 5 has all types

any_containers : (containers : List Scalar) → AllByRecursion (IsSubscriptOf last_version) containers
any_containers [] = tt
any_containers (Int ∷ inner) = (tt, any_containers inner)
any_containers (Text ∷ inner) = (tt, any_containers inner)

any_map : (version : Version) (scalar : Scalar) (kind : MapKind) → IsMapOf version scalar kind → IsMapOf last_version scalar kind
any_map version scalar NoMap h = tt
any_map version scalar (Values by) h = tt
any_map One scalar (Sums by) h = absurd h
any_map Two scalar (Sums by) h = absurd h
any_map Four Int (Sums by) h = tt
any_map Four Text (Sums by) h = absurd h
any_map Five scalar (Sums by) h = h

pub any_type : (version : Version) (ty : NestedScalar) → HasType version ty → HasType last_version ty
any_type version ty h = (any_containers ty.containers, any_map version ty.scalar ty.map h.1)

-- ---- instructions

operand_narrowed : (version : Version) (o : Operand) → HasOperand version o → IsOperand o → IsOperandOf version o
operand_narrowed version (holds form.TypeOf ty) has h = (h.0, has)
operand_narrowed version o has h = h

operands_narrowed : (version : Version) (os : List Operand) → AllByRecursion (HasOperand version) os → AllByRecursion IsOperand os → AllByRecursion (IsOperandOf version) os
operands_narrowed version [] has h = tt
operands_narrowed version (o ∷ os) has h = (operand_narrowed version o has.0 h.0, operands_narrowed version os has.1 h.1)

pub narrowed : (version : Version) (i : Instr) → HasInstr version i → IsInstr i → IsInstrOf version i
narrowed version i has h = (has.0, operands_narrowed version (row i).1 has.1 h.1)

had_operand : (version : Version) (o : Operand) → IsOperandOf version o → HasOperand version o
had_operand version (holds form.TypeOf ty) h = h.1
had_operand version o h = tt

had_operands : (version : Version) (os : List Operand) → AllByRecursion (IsOperandOf version) os → AllByRecursion (HasOperand version) os
had_operands version [] h = tt
had_operands version (o ∷ os) h = (had_operand version o h.0, had_operands version os h.1)

-- an instruction of the version has parts that the version has
pub had : (version : Version) (i : Instr) → IsInstrOf version i → HasInstr version i
had version i h = (h.0, had_operands version (row i).1 h.1)

-- ---- parameters

type_narrowed : (version : Version) (mode : Mode) (ty : NestedScalar) → HasType version ty → IsTypeUnderOf last_version mode ty → IsTypeUnderOf version mode ty
type_narrowed version Val ty has h = h
type_narrowed version Closed ty has h = (h.0, has)
type_narrowed version Ref ty has h = (h.0, has)
type_narrowed version Write ty has h = (h.0, has)

pub params_narrowed : (version : Version) (params : List Param) → AllByRecursion (HasParam version) params → AllByRecursion IsParam params → AllByRecursion (IsParamOf version) params
params_narrowed version [] has h = tt
params_narrowed version (param ∷ params) has h = (type_narrowed version param.mode param.ty has.0.1 h.0, params_narrowed version params has.1 h.1)

-- each version has scalars
scalar_had : (version : Version) (containers : List Scalar) (kind : MapKind) (scalar : Scalar) → is_scalar (record { containers = containers; scalar = scalar; map = kind }) ≡ true
    → HasType version (record { containers = containers; scalar = scalar; map = kind })
scalar_had version [] NoMap scalar e = (tt, tt)
scalar_had version [] (Values by) scalar e = absurd cc
scalar_had version [] (Sums by) scalar e = absurd cc
scalar_had version (by ∷ inner) kind scalar e = absurd cc

had_param : (version : Version) (mode : Mode) (ty : NestedScalar) → IsTypeUnderOf version mode ty → IsTypeOfMode mode (is_scalar ty) × HasType version ty
had_param version Val ty h = (h, scalar_had version ty.containers ty.map ty.scalar h)
had_param version Closed ty h = (tt, h.1)
had_param version Ref ty h = (tt, h.1)
had_param version Write ty h = (tt, h.1)

pub had_params : (version : Version) (params : List Param) → AllByRecursion (IsParamOf version) params → AllByRecursion (HasParam version) params
had_params version [] h = tt
had_params version (param ∷ params) h = (had_param version param.mode param.ty h.0, had_params version params h.1)

-- ---- depths

-- a type that is allowed with a mode is at most 3 deep
pub under_shallow : (mode : Mode) (ty : NestedScalar) → IsTypeUnderOf last_version mode ty → depth_of ty ≤ 3
under_shallow Val ty h = flat ty.containers ty.map ty.scalar h
  where
    flat : (containers : List Scalar) (kind : MapKind) (scalar : Scalar) → is_scalar (record { containers = containers; scalar = scalar; map = kind }) ≡ true
        → depth_of (record { containers = containers; scalar = scalar; map = kind }) ≤ 3
    flat [] kind scalar e = omega arith
    flat (by ∷ inner) kind scalar e = absurd cc
under_shallow Closed ty h = h.0
under_shallow Ref ty h = h.0
under_shallow Write ty h = h.0
