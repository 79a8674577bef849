-- A program of a version is one of each later version.
use Rattle.tw_binary.proofs.Names.{AllByRecursion, Closed, Five, Four, Instr, Int, IsInstrOf, IsMapOf, IsOperandOf, IsParamOf, IsProcedureOf, IsSubscriptOf, IsTypeOf, IsTypeUnderOf, List, MapKind, Mode, NestedScalar, NoMap, One, Operand, Procedure, Ref, Scalar, Sums, Text, Two, TypeOf, Val, Values, Version, Write, [], has_since, holds, refl, row, since, true, ◌∷◌, ◌≡◌}
use Rattle.tw_binary.specs.Versions.{HasInstr, HasOperand, HasParam, HasProcedure, HasTypeUnder, KeepsVersions}

-- ---- lists

each : {A : Type 0} (P Q : A → Type 0) → ((x : A) → P x → Q x) → (xs : List A) → AllByRecursion P xs → AllByRecursion Q xs
each P Q f [] h = tt
each P Q f (x ∷ xs) h = (f x h.0, each P Q f xs h.1)

both : {A : Type 0} (P Q R : A → Type 0) → ((x : A) → P x → Q x → R x) → (xs : List A) → AllByRecursion P xs → AllByRecursion Q xs → AllByRecursion R xs
both P Q R f [] h k = tt
both P Q R f (x ∷ xs) h k = (f x h.0 k.0, both P Q R f xs h.1 k.1)

-- ---- versions

has_one : (version : Version) → has_since version One ≡ true
has_one One = refl
has_one Two = refl
has_one Four = refl
has_one Five = refl

has_two : (version : Version) → has_since version Four ≡ true → has_since version Two ≡ true
has_two One h = cc
has_two Two h = cc
has_two Four h = refl
has_two Five h = refl

has_all : (version brought : Version) → has_since version Five ≡ true → has_since version brought ≡ true
has_all One brought h = cc
has_all Two brought h = cc
has_all Four brought h = cc
has_all Five brought h = refl

chain : (early late brought : Version) → has_since late early ≡ true → has_since early brought ≡ true → has_since late brought ≡ true
chain early late One h k = has_one late
chain One late Two h k = cc
chain Two late Two h k = h
chain Four late Two h k = has_two late h
chain One late Four h k = cc
chain Two late Four h k = cc
chain Four late Four h k = h
chain One late Five h k = cc
chain Two late Five h k = cc
chain Four late Five h k = cc
chain Five late brought h k = has_all late brought h

-- ---- types

texts_are : (version : Version) → IsSubscriptOf version Text → has_since version Two ≡ true
texts_are One h = absurd h
texts_are Two h = refl
texts_are Four h = refl
texts_are Five h = refl

may_be_texts : (version : Version) → has_since version Two ≡ true → IsSubscriptOf version Text
may_be_texts One h = cc
may_be_texts Two h = tt
may_be_texts Four h = tt
may_be_texts Five h = tt

maps_are : (version : Version) (s by : Scalar) → IsMapOf version s (Values by) → has_since version Four ≡ true
maps_are One s by h = absurd h
maps_are Two s by h = absurd h
maps_are Four s by h = refl
maps_are Five s by h = refl

may_be_maps : (version : Version) (s by : Scalar) → has_since version Four ≡ true → IsMapOf version s (Values by)
may_be_maps One s by h = cc
may_be_maps Two s by h = cc
may_be_maps Four s by h = tt
may_be_maps Five s by h = tt

sums_are : (version : Version) (by : Scalar) → IsMapOf version Int (Sums by) → has_since version Four ≡ true
sums_are One by h = absurd h
sums_are Two by h = absurd h
sums_are Four by h = refl
sums_are Five by h = refl

may_be_sums : (version : Version) (by : Scalar) → has_since version Four ≡ true → IsMapOf version Int (Sums by)
may_be_sums One by h = cc
may_be_sums Two by h = cc
may_be_sums Four by h = tt
may_be_sums Five by h = tt

no_sums : (version : Version) (by : Scalar) → IsMapOf version Text (Sums by) → ⊥
no_sums One by h = h
no_sums Two by h = h
no_sums Four by h = h
no_sums Five by h = h

-- ---- programs

module _ (early late : Version) (later : has_since late early ≡ true) where
  subscript : (by : Scalar) → IsSubscriptOf early by → IsSubscriptOf late by
  subscript Int h = tt
  subscript Text h = may_be_texts late (chain early late Two later (texts_are early h))

  map_kind : (s : Scalar) (kind : MapKind) → IsMapOf early s kind → IsMapOf late s kind
  map_kind s NoMap h = tt
  map_kind s (Values by) h = may_be_maps late s by (chain early late Four later (maps_are early s by h))
  map_kind Int (Sums by) h = may_be_sums late by (chain early late Four later (sums_are early by h))
  map_kind Text (Sums by) h = absurd (no_sums early by h)

  type_wide : (ty : NestedScalar) → IsTypeOf early ty → IsTypeOf late ty
  type_wide ty h = (h.0, (each (IsSubscriptOf early) (IsSubscriptOf late) subscript ty.containers h.1.0, map_kind ty.scalar ty.map h.1.1))

  under_wide : (mode : Mode) (ty : NestedScalar) → IsTypeUnderOf early mode ty → IsTypeUnderOf late mode ty
  under_wide Val ty h = h
  under_wide Closed ty h = type_wide ty h
  under_wide Ref ty h = type_wide ty h
  under_wide Write ty h = type_wide ty h

  under_has : (mode : Mode) (ty : NestedScalar) → IsTypeUnderOf early mode ty → HasTypeUnder early mode ty
  under_has Val ty h = tt
  under_has Closed ty h = h.1
  under_has Ref ty h = h.1
  under_has Write ty h = h.1

  under_narrow : (mode : Mode) (ty : NestedScalar) → IsTypeUnderOf late mode ty → HasTypeUnder early mode ty → IsTypeUnderOf early mode ty
  under_narrow Val ty h k = h
  under_narrow Closed ty h k = (h.0, k)
  under_narrow Ref ty h k = (h.0, k)
  under_narrow Write ty h k = (h.0, k)

  operand_wide : (o : Operand) → IsOperandOf early o → IsOperandOf late o
  operand_wide (holds TypeOf ty) h = type_wide ty h
  operand_wide o h = h

  operand_has : (o : Operand) → IsOperandOf early o → HasOperand early o
  operand_has (holds TypeOf ty) h = h.1
  operand_has o h = tt

  operand_narrow : (o : Operand) → IsOperandOf late o → HasOperand early o → IsOperandOf early o
  operand_narrow (holds TypeOf ty) h k = (h.0, k)
  operand_narrow o h k = h

  instr_wide : (i : Instr) → IsInstrOf early i → IsInstrOf late i
  instr_wide i h = (chain early late (since (row i).0) later h.0, each (IsOperandOf early) (IsOperandOf late) operand_wide (row i).1 h.1)

  instr_has : (i : Instr) → IsInstrOf early i → HasInstr early i
  instr_has i h = (h.0, each (IsOperandOf early) (HasOperand early) operand_has (row i).1 h.1)

  instr_narrow : (i : Instr) → IsInstrOf late i → HasInstr early i → IsInstrOf early i
  instr_narrow i h k = (k.0, both (IsOperandOf late) (HasOperand early) (IsOperandOf early) operand_narrow (row i).1 h.1 k.1)

  wide : (p : Procedure) → IsProcedureOf early p → IsProcedureOf late p
  wide p h = record {
    params = (h.params.0, each (IsParamOf early) (IsParamOf late) (λ q. under_wide q.mode q.ty) p.params h.params.1);
    registers = h.registers;
    code = (h.code.0, each (IsInstrOf early) (IsInstrOf late) instr_wide p.code h.code.1);
  }

  has : (p : Procedure) → IsProcedureOf early p → HasProcedure early p
  has p h = record {
    params = each (IsParamOf early) (HasParam early) (λ q. under_has q.mode q.ty) p.params h.params.1;
    code = each (IsInstrOf early) (HasInstr early) instr_has p.code h.code.1;
  }

  narrow : (p : Procedure) → IsProcedureOf late p → HasProcedure early p → IsProcedureOf early p
  narrow p h k = record {
    params = (h.params.0, both (IsParamOf late) (HasParam early) (IsParamOf early) (λ q. under_narrow q.mode q.ty) p.params h.params.1 k.params);
    registers = h.registers;
    code = (h.code.0, both (IsInstrOf late) (HasInstr early) (IsInstrOf early) instr_narrow p.code h.code.1 k.code);
  }

pub keeps_versions : KeepsVersions
keeps_versions early late procedures later = record {
  same = (
    λ h. ((h.0, each (IsProcedureOf early) (IsProcedureOf late) (wide early late later) procedures h.1), each (IsProcedureOf early) (HasProcedure early) (has early late later) procedures h.1),
    λ h. (h.0.0, both (IsProcedureOf late) (HasProcedure early) (IsProcedureOf early) (narrow early late later) procedures h.0.1 h.1),
  );
  bytes = refl;
}
