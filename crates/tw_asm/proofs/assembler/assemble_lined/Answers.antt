use Rattle.tw_asm.proofs.AsmNames.{err_from_is_err_and, map, seen_section}
use Rattle.tw_asm.proofs.Origins.{origins}
use Rattle.tw_asm.proofs.SpelledSections.{is_program, labels_fit, encodes_program}
use Rattle.tw_asm.proofs.FaultTheorems.{not_linked, not_read}
use Rattle.tw_asm.proofs.assembler.assemble_lined.Goals as goal

pub returns-in_err-unlinked : goal.returns-in_err-unlinked
returns-in_err-unlinked c =
    let p = err_from_is_err_and c.from_residual.result c.from_residual.ensures.1 in
    rw (p.1, p.2) (not_read c.args.text.now c.in_err-unlinked.field-0.0 c.in_err-unlinked.ensures)

pub link-requires : goal.link-requires
link-requires c = labels_fit c.args.text.now c.in_ok-unlinked.unlinked.version (map seen_section c.in_ok-unlinked.unlinked.sections.items) c.in_ok-unlinked.ensures

pub returns-in_err-procedures : goal.returns-in_err-procedures
returns-in_err-procedures c =
    let p = err_from_is_err_and c.from_residual-in_err-procedures.result c.from_residual-in_err-procedures.ensures.1 in
    rw (p.1, p.2) (not_linked c.args.text.now c.in_ok-unlinked.unlinked.version (map seen_section c.in_ok-unlinked.unlinked.sections.items) c.in_err-procedures.field-0.0 c.in_ok-unlinked.ensures c.in_err-procedures.ensures)

pub new-requires : goal.new-requires
new-requires c = is_program c.args.text.now c.in_ok-unlinked.unlinked.version (map seen_section c.in_ok-unlinked.unlinked.sections.items) c.in_ok-procedures.procedures.items c.in_ok-unlinked.ensures c.in_ok-procedures.ensures

pub returns : goal.returns
returns c =
    let all = map seen_section c.in_ok-unlinked.unlinked.sections.items in (
      rw c.new.ensures (encodes_program c.args.text.now c.in_ok-unlinked.unlinked.version all c.in_ok-procedures.procedures.items c.in_ok-unlinked.ensures c.in_ok-procedures.ensures),
      rw (c.new.ensures, c.in_ok-lines.ensures, c.deref.ensures.value) (origins c.args.text.now c.in_ok-unlinked.unlinked.version all c.in_ok-procedures.procedures.items c.in_ok-unlinked.ensures c.in_ok-procedures.ensures),
    )
