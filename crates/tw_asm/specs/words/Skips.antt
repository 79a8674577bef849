-- The skip of an instruction, from its flow.
use Rattle.std.specs.Prelude.{ℕ, Option, Some, None}
use Rattle.tw_code.specs.declared.flow.Flow.{Flow}
use Rattle.tw_code.specs.declared.flow.Flow.TheVariants.{Straight, Branch, Jump, Begin, Close, Stop}

abbrev pub skip_in : Flow → Option ℕ
skip_in Straight = None
skip_in (Branch skip) = Some skip
skip_in (Jump skip) = Some skip
skip_in (Begin iterations) = None
skip_in Close = None
skip_in Stop = None
