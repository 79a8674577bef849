-- Code with instructions that may take microseconds, as others don't: searches in texts, and READI.
use Rattle.std.specs.Prelude.{ℕ, ◌+◌, Bool, true, false, if◌then◌else◌, List, [], ◌∷◌}
use Rattle.std.specs.List.{list_any}
use Rattle.tw_code.specs.declared.instr.Instr.{Instr}
use Rattle.tw_code.specs.declared.instr.Instr.TheVariants as instr
use Rattle.tw_code.specs.declared.instr.LocalInstr.TheVariants as local
use Rattle.tw_code.specs.declared.procedure.Procedure.{Procedure}

abbrev pub is_search : Instr → Bool
is_search (instr.Local (local.Seek sought to text pattern start skip)) = true
is_search i = false

abbrev pub is_slow : Instr → Bool
is_slow (instr.Local (local.Seek sought to text pattern start skip)) = true
is_slow (instr.Local (local.ReadInt to from skip)) = true
is_slow i = false

abbrev pub has_slow : List Instr → Bool
has_slow code = list_any is_slow code

-- returns 1 for a procedure with a search
abbrev pub search_count : Procedure → ℕ
search_count p = if list_any is_search p.code then 1 else 0

-- returns how many procedures have a search
abbrev pub searching : List Procedure → ℕ
searching [] = 0
searching (p ∷ procedures) = search_count p + searching procedures
