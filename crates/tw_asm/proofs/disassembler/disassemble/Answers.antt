use Rattle.tw_asm.proofs.AsmNames.{EncodesProgram, Global, IsUtf8, List, Procedure, Vec, Version, ap, disassembly, false, flat_map, procedure_lines, subst, sym, true, version_line, ℕ, ◌++◌, ◌∙◌, ◌≡◌}
use Rattle.tw_asm.proofs.Disassembled.{disassembly_encodes, disassembly_text}
use Rattle.tw_asm.proofs.disassembler.disassemble.Goals as goal

not_true : false ≡ true → ⊥
not_true e = cc

-- the text of a program, from its version and procedures
parts_text : (text : List ℕ) (v w : Version) (ps qs : List Procedure) → text ≡ version_line v ++ flat_map procedure_lines ps → v ≡ w → ps ≡ qs → text ≡ disassembly (record { version = w; procedures = qs })
parts_text text v w ps qs e f g = e ∙ (ap (λ (x : Version). version_line x ++ flat_map procedure_lines ps) f ∙ ap (λ (x : List Procedure). version_line w ++ flat_map procedure_lines x) g)

pub unreachable-requires : goal.unreachable-requires
unreachable-requires c =
    let program = c.args.program.now in
    let text : c.in_ok-out.out.items ≡ disassembly program = parts_text _ c.version.result program.version c.procedures.result.now program.procedures c.in_ok-out.ensures c.version.ensures c.procedures.ensures.is in
    not_true (rw c.in-Err.is at (c.from_utf8.ensures.succeeds (subst IsUtf8 (sym text) (disassembly_text program c.procedures.ensures.version))))

pub returns-clause-text : goal.returns-clause-text
returns-clause-text c =
    let program = c.args.program.now in
    let text : c.in_ok-out.out.items ≡ disassembly program = parts_text _ c.version.result program.version c.procedures.result.now program.procedures c.in_ok-out.ensures c.version.ensures c.procedures.ensures.is in
    ap (λ (v : Vec ℕ Global). v.items) c.in-Ok.ensures.ok ∙ text

pub returns-clause-spells : goal.returns-clause-spells
returns-clause-spells c =
    let program = c.args.program.now in
    let text : c.in_ok-out.out.items ≡ disassembly program = parts_text _ c.version.result program.version c.procedures.result.now program.procedures c.in_ok-out.ensures c.version.ensures c.procedures.ensures.is in
    subst (EncodesProgram program) (sym (ap (λ (v : Vec ℕ Global). v.items) c.in-Ok.ensures.ok ∙ text)) (disassembly_encodes program c.procedures.ensures.version)
