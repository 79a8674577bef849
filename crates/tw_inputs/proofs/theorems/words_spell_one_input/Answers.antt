use Rattle.tw_inputs.proofs.InputTheorems.{one_input, one_refused_word}
use Rattle.tw_inputs.proofs.theorems.words_spell_one_input.Goals as goal

pub returns : goal.returns
returns c = record { input = one_input; refused = one_refused_word }
