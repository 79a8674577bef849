-- How contracts see the parameters that are read so far. The code keeps them from the last one on. Contracts have them in the order of the
-- text.
use Rattle.std.specs.Prelude.{reverse}
use Rattle.tw_asm.specs.declared.heads.Params as heads
use Rattle.tw_asm.specs.reading.Lines.{Params}
use Rattle.tw_lexer.specs.Digits.{as_is}

abbrev pub seen_params : heads.Params → Params
seen_params params = record { whole = as_is (λ v. reverse v.items) params.whole; begun = params.begun }
