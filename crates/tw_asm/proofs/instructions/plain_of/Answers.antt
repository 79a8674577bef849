use Rattle.std.proofs.Common.{◌≡◌, ◌∙◌, List, Ok, Err, ap, map, sym}
use Rattle.tw_code.specs.declared.form.Form.{Form}
use Rattle.tw_asm.proofs.AsmNames.{forms_of, gathered_in, seen as seen_word}
use Rattle.tw_asm.proofs.ByForms.{drafts_none, drafts_one}
use Rattle.tw_asm.proofs.instructions.plain_of.Goals as goal

pub returns-in-Ok : goal.returns-in-Ok
returns-in-Ok c =
    let read : gathered_in c.args.version (forms_of c.args.opcode) (map seen_word c.args.words.now) ≡ Ok c.in-Ok.gathered =
    ap (λ (forms : List Form). gathered_in c.args.version forms (map seen_word c.args.words.now)) (sym c.forms.ensures) ∙ sym c.operands_of.ensures ∙ c.in-Ok.is in
    ap Ok c.unlinked.ensures ∙ drafts_one c.args.version c.args.opcode (map seen_word c.args.words.now) c.requires c.in-Ok.gathered read

pub returns-in-Err : goal.returns-in-Err
returns-in-Err c =
    let read : gathered_in c.args.version (forms_of c.args.opcode) (map seen_word c.args.words.now) ≡ Err c.in-Err.flaw =
    ap (λ (forms : List Form). gathered_in c.args.version forms (map seen_word c.args.words.now)) (sym c.forms.ensures) ∙ sym c.operands_of.ensures ∙ c.in-Err.is in
    drafts_none c.args.version c.args.opcode (map seen_word c.args.words.now) c.requires c.in-Err.flaw read
