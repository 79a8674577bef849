use Rattle.tw_code.proofs.TableRows.{plain_others}
use Rattle.tw_binary.proofs.rows.operands_of.Goals as goal

pub plain_instr-requires : goal.plain_instr-requires
plain_instr-requires c = plain_others c.args.opcode c.in_default.not-Text c.in_default.not-Rule c.in_default.not-Put c.in_default.not-RuleComputed c.in_default.not-PutComputed
