-- A program of any version is a program of the last.
use Rattle.std.proofs.Common.{List, [], ◌∷◌, refl}
use Rattle.std.specs.List.{AllByRecursion}
use Rattle.tw_types.specs.declared.data_type.MapKind.{MapKind}
use Rattle.tw_types.specs.declared.data_type.MapKind.TheVariants as kind
use Rattle.tw_types.specs.declared.data_type.Scalar.{Scalar}
use Rattle.tw_types.specs.declared.data_type.Scalar.TheVariants.{Int, Text}
use Rattle.tw_types.specs.declared.param.Mode.{Mode}
use Rattle.tw_types.specs.declared.param.Mode.TheVariants.{Val, Closed, Ref, Write}
use Rattle.tw_types.specs.Nesting.{NestedScalar}
use Rattle.tw_code.specs.declared.form.Form.TheVariants.{TypeOf}
use Rattle.tw_code.specs.declared.instr.Instr.{Instr}
use Rattle.tw_code.specs.declared.procedure.Procedure.{Procedure}
use Rattle.tw_code.specs.declared.version.Version.{Version}
use Rattle.tw_code.specs.declared.version.Version.TheVariants.{One, Two, Four, Five}
use Rattle.tw_code.specs.format.Program.{IsInstr, IsInstrOf, IsMapOf, IsOperand, IsOperandOf, IsParam, IsParamOf, IsProcedure, IsProcedureOf, IsProgram, IsProgramOf, IsSubscriptOf, IsTypeOf, IsTypeUnder, IsTypeUnderOf}
use Rattle.tw_code.specs.format.Table.{Operand, holds, row}
use Rattle.tw_code.specs.format.Versions.{last_version}

all_widened : {A : Type 0} (P Q : A → Type 0) → ((x : A) → P x → Q x) → (xs : List A) → AllByRecursion P xs → AllByRecursion Q xs
all_widened P Q f [] h = tt
all_widened P Q f (x ∷ xs) h = (f x h.0, all_widened P Q f xs h.1)

subscript_widened : (version : Version) (by : Scalar) → IsSubscriptOf version by → IsSubscriptOf last_version by
subscript_widened version Int h = tt
subscript_widened version Text h = tt

map_widened : (version : Version) (scalar : Scalar) (map : MapKind) → IsMapOf version scalar map → IsMapOf last_version scalar map
map_widened version scalar kind.NoMap h = tt
map_widened version scalar (kind.Values by) h = tt
map_widened version Int (kind.Sums by) h = tt
map_widened One Text (kind.Sums by) h = absurd h
map_widened Two Text (kind.Sums by) h = absurd h
map_widened Four Text (kind.Sums by) h = absurd h
map_widened Five Text (kind.Sums by) h = absurd h

type_widened : (version : Version) (ty : NestedScalar) → IsTypeOf version ty → IsTypeOf last_version ty
type_widened version ty h = (h.0, (all_widened (IsSubscriptOf version) (IsSubscriptOf last_version) (subscript_widened version) ty.containers h.1.0, map_widened version ty.scalar ty.map h.1.1))

operand_widened : (version : Version) (o : Operand) → IsOperandOf version o → IsOperand o
operand_widened version (holds TypeOf ty) h = type_widened version ty h
operand_widened version o h = h

under_widened : (version : Version) (mode : Mode) (ty : NestedScalar) → IsTypeUnderOf version mode ty → IsTypeUnder mode ty
under_widened version Val ty h = h
under_widened version Closed ty h = type_widened version ty h
under_widened version Ref ty h = type_widened version ty h
under_widened version Write ty h = type_widened version ty h

pub instr_widened : (version : Version) (i : Instr) → IsInstrOf version i → IsInstr i
instr_widened version i h = (refl, all_widened (IsOperandOf version) IsOperand (operand_widened version) (row i).1 h.1)

procedure_widened : (version : Version) (p : Procedure) → IsProcedureOf version p → IsProcedure p
procedure_widened version p h = record { params = (h.params.0, all_widened (IsParamOf version) IsParam (λ q g. under_widened version q.mode q.ty g) p.params h.params.1); registers = h.registers; code = (h.code.0, all_widened (IsInstrOf version) IsInstr (instr_widened version) p.code h.code.1) }

pub widened : (version : Version) (procedures : List Procedure) → IsProgramOf version procedures → IsProgram procedures
widened version procedures h = (h.0, all_widened (IsProcedureOf version) IsProcedure (procedure_widened version) procedures h.1)
