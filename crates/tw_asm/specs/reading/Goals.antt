-- How goals are resolved.
use Rattle.std.specs.Prelude.{◌≡◌, ◌⊎◌, ℕ, ◌+◌, ◌≤◌, List, [], ◌∷◌, map, Option, Some, None, Result, Ok, Err}
use Rattle.std.specs.List.{AllByRecursion, Contains}
use Rattle.tw_code.specs.declared.instr.Instr.{Instr}
use Rattle.tw_code.specs.declared.procedure.Procedure.{Procedure}
use Rattle.tw_asm.specs.Seen.{with_skip}
use Rattle.tw_asm.specs.declared.fault.AsmFault.{AsmFault}
use Rattle.tw_asm.specs.declared.fault.FaultNo.{FaultNo}
use Rattle.tw_asm.specs.declared.fault.FaultNo.TheVariants as fault
use Rattle.tw_asm.specs.Spelling.{Placed}
use Rattle.tw_asm.specs.reading.Progress.{Drafted, Section, IsMemory}

-- an instruction that may have a goal, with its place and all labels of its procedure
pub record Goal : Type 0 where
  pub labels : List Placed
  pub place : ℕ
  pub draft : Drafted

abbrev pub goals_in : List Placed → ℕ → List Drafted → List Goal
goals_in labels place [] = []
goals_in labels place (draft ∷ others) = record { labels = labels; place = place; draft = draft } ∷ goals_in labels (place + 1) others

abbrev pub section_goals : Section → List Goal
section_goals section = goals_in section.labels 0 section.drafts

-- holds if a label with this name is at this place
abbrev pub IsLabelAt : List Placed → List ℕ → ℕ → Type 0
IsLabelAt labels name place = Contains labels (record { name = name; place = place })

-- holds if a name is no goal, with this fault
abbrev pub IsNoGoal : List Placed → ℕ → List ℕ → FaultNo → Type 0
IsNoGoal labels place name which =
    ((which ≡ fault.UnknownLabel) × (Contains (map (λ label. label.name) labels) name → ⊥))
    ⊎ ((which ≡ fault.LabelNotForward) × ((at : ℕ) × IsLabelAt labels name at × (at ≤ place)))

abbrev pub IsSkipTo : List Placed → ℕ → List ℕ → Result ℕ FaultNo → Type 0
IsSkipTo labels place name (Ok skip) = IsLabelAt labels name (place + 1 + skip) × (skip ≤ 4096)
IsSkipTo labels place name (Err which) = IsNoGoal labels place name which

-- holds if this is the instruction with its skip
abbrev pub IsLinkedTo : List Placed → ℕ → Option (List ℕ) → Instr → Instr → Type 0
IsLinkedTo labels place None draft i = i ≡ draft
IsLinkedTo labels place (Some name) draft i = (skip : ℕ) × IsLabelAt labels name (place + 1 + skip) × (skip ≤ 4096) × (i ≡ with_skip skip draft)

abbrev pub IsLinked : Goal → Instr → Type 0
IsLinked goal i = IsLinkedTo goal.labels goal.place goal.draft.goal goal.draft.instr i

-- holds if the goal has this fault, at the instruction's line
abbrev pub IsUnlinked : Goal → AsmFault → Type 0
IsUnlinked goal f = (name : List ℕ) × (goal.draft.goal ≡ Some name) × IsNoGoal goal.labels goal.place name f.no × (f.line ≡ goal.draft.number) × (f.found ≡ None)

abbrev pub AreLinkedCode : List Goal → List Instr → Type 0
AreLinkedCode [] [] = Unit {0}
AreLinkedCode [] (i ∷ code) = ⊥
AreLinkedCode (goal ∷ goals) [] = ⊥
AreLinkedCode (goal ∷ goals) (i ∷ code) = IsLinked goal i × AreLinkedCode goals code

-- holds if the first goal that can't be resolved has this fault
abbrev pub FirstUnlinked : List Goal → AsmFault → Type 0
FirstUnlinked [] f = ⊥
FirstUnlinked (goal ∷ goals) f = IsUnlinked goal f ⊎ (((i : Instr) × IsLinked goal i) × FirstUnlinked goals f)

pub record IsLinkedProcedure (section : Section) (procedure : Procedure) : Type 0 where
  pub kind : procedure.kind ≡ section.kind
  pub params : procedure.params ≡ section.params
  pub registers : procedure.registers ≡ section.registers
  pub code : AreLinkedCode (section_goals section) procedure.code

abbrev pub AreLinkedProcedures : List Section → List Procedure → Type 0
AreLinkedProcedures [] [] = Unit {0}
AreLinkedProcedures [] (procedure ∷ procedures) = ⊥
AreLinkedProcedures (section ∷ sections) [] = ⊥
AreLinkedProcedures (section ∷ sections) (procedure ∷ procedures) = IsLinkedProcedure section procedure × AreLinkedProcedures sections procedures

abbrev pub IsLinkedInstr : List Placed → ℕ → Drafted → Result Instr AsmFault → Type 0
IsLinkedInstr labels place draft (Ok i) = IsLinked (record { labels = labels; place = place; draft = draft }) i
IsLinkedInstr labels place draft (Err f) = IsMemory f ⊎ IsUnlinked (record { labels = labels; place = place; draft = draft }) f

abbrev pub IsLinkedSection : Section → Result Procedure AsmFault → Type 0
IsLinkedSection section (Ok procedure) = IsLinkedProcedure section procedure
IsLinkedSection section (Err f) = IsMemory f ⊎ FirstUnlinked (section_goals section) f

-- holds if no label is after place 4096
abbrev pub AreWithin : List Placed → Type 0
AreWithin labels = AllByRecursion (λ label. label.place ≤ 4096) labels

abbrev pub HasLabelsWithin : Section → Type 0
HasLabelsWithin section = AreWithin section.labels
