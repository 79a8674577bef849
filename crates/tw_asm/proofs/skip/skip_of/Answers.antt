use Rattle.std.proofs.Common.{◌∙◌}
use Rattle.tw_asm.proofs.Skips.{skip_by_flow}
use Rattle.tw_asm.proofs.skip.skip_of.Goals as goal

pub returns : goal.returns
returns c = c.skip_in.ensures ∙ skip_by_flow c.args.instr.now c.flow.result c.flow.ensures
