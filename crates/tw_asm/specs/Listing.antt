-- The pieces of a procedure's text, to be written with something next to each instruction.
use Rattle.std.specs.Prelude.{ℕ, ◌+◌, List, ◌∷◌, ◌++◌, None}
use Rattle.std.specs.List.{flat_map, join_with_byte}
use Rattle.tw_types.specs.declared.param.Param.{Param}
use Rattle.tw_code.specs.declared.instr.Instr.{Instr}
use Rattle.tw_code.specs.declared.procedure.Procedure.{Procedure}
use Rattle.tw_asm.specs.Disassembly.{label_at}
use Rattle.tw_asm.specs.Parts.{Right, instr_parts, param_parts}
use Rattle.tw_asm.specs.Statement.{Head, Registers}
use Rattle.tw_asm.specs.Written.{goal_word, line_of, part_words}

-- returns the lines before the code
abbrev pub head_lines : Procedure → List ℕ
head_lines p = line_of (goal_word None) (Head p.kind p.params) ++ line_of (goal_word None) (Registers p.registers)

-- returns the line of an instruction at a place, without its line feed; labels are at these places
abbrev pub instr_text : List ℕ → ℕ → Instr → List ℕ
instr_text labels place i = join_with_byte 32 (flat_map (part_words (λ skip. goal_word (label_at labels (place + 1 + skip)) skip)) (instr_parts i))

-- returns a right register and what it holds, written like a parameter
abbrev pub right_text : ℕ → Param → List ℕ
right_text register held = join_with_byte 32 (flat_map (part_words (goal_word None)) (Right register ∷ param_parts held))
