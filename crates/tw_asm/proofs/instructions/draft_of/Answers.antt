use Rattle.tw_code.proofs.TableRows.{plain_others}
use Rattle.tw_asm.proofs.instructions.draft_of.Goals as goal

pub plain_of-requires : goal.plain_of-requires
plain_of-requires c = plain_others c.args.opcode c.in_default.not-Text c.in_default.not-Rule c.in_default.not-Put c.in_default.not-RuleComputed c.in_default.not-PutComputed
