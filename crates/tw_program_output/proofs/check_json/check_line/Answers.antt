use Rattle.std.proofs.Common.{Global, Vec, subst, sym, ℕ}
use Rattle.tw_json_output.specs.Lines.{IsJsonLine}
use Rattle.tw_program_output.proofs.check_json.check_line.Goals as goal

pub returns : goal.returns
returns c = subst (λ (v : Vec ℕ Global). IsJsonLine v.items) (sym c.into_bytes.ensures.value) c.in_ok-line.ensures
