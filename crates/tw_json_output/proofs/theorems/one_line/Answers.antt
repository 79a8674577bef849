use Rattle.tw_json_output.proofs.OneLine as line
use Rattle.tw_json_output.proofs.theorems.one_line.Goals as goal

pub returns : goal.returns
returns c = line.one_line
