-- The theorem on programs of several versions. What a program does depends on its procedures alone, and not on its version.
use Rattle.std.specs.Prelude.{◌≡◌, ◌↔◌, true, List, drop}
use Rattle.std.specs.List.{AllByRecursion}
use Rattle.tw_code.specs.declared.form.Form.TheVariants.{TypeOf}
use Rattle.tw_code.specs.declared.instr.Instr.{Instr}
use Rattle.tw_code.specs.declared.procedure.Procedure.{Procedure}
use Rattle.tw_code.specs.declared.version.Version.{Version}
use Rattle.tw_code.specs.format.Program.{IsMapOf, IsProgramOf, IsSubscriptOf}
use Rattle.tw_code.specs.format.Table.{Operand, has_opcode, holds, row}
use Rattle.tw_code.specs.format.Versions.{has_since}
use Rattle.tw_binary.specs.Spelling.{encoding}
use Rattle.tw_types.specs.Nesting.{NestedScalar}
use Rattle.tw_types.specs.declared.param.Mode.{Mode}
use Rattle.tw_types.specs.declared.param.Mode.TheVariants.{Val}
use Rattle.tw_types.specs.declared.param.Param.{Param}

-- ---- programs without features of later versions

abbrev pub HasType : Version → NestedScalar → Type 0
HasType version ty = AllByRecursion (IsSubscriptOf version) ty.containers × IsMapOf version ty.scalar ty.map

abbrev pub HasTypeUnder : Version → Mode → NestedScalar → Type 0
HasTypeUnder version Val ty = Unit {0}
HasTypeUnder version mode ty = HasType version ty

abbrev pub HasParam : Version → Param → Type 0
HasParam version p = HasTypeUnder version p.mode p.ty

abbrev pub HasOperand : Version → Operand → Type 0
HasOperand version (holds TypeOf ty) = HasType version ty
HasOperand version o = Unit {0}

abbrev pub HasInstr : Version → Instr → Type 0
HasInstr version i = (has_opcode version (row i).0 ≡ true) × AllByRecursion (HasOperand version) (row i).1

pub record HasProcedure (version : Version) (p : Procedure) : Type 0 where
  pub params : AllByRecursion (HasParam version) p.params
  pub code : AllByRecursion (HasInstr version) p.code

-- ---- the theorem

-- A program of a version is one of each later version without an opcode or a type of a later one, and the other way round. In both versions it has the
-- same bytes after the version's.
pub record AreKept (early late : Version) (procedures : List Procedure) : Type 0 where
  pub same : IsProgramOf early procedures ↔ (IsProgramOf late procedures × AllByRecursion (HasProcedure early) procedures)
  pub bytes : drop 4 (encoding (record { version = early; procedures = procedures })) ≡ drop 4 (encoding (record { version = late; procedures = procedures }))

abbrev pub KeepsVersions : Type 0
KeepsVersions = (early late : Version) (procedures : List Procedure) → has_since late early ≡ true → AreKept early late procedures
