use Rattle.std.proofs.Common.{◌+◌, ◌*◌, ℕ, ap, ◌∙◌}
use Rattle.std.specs.Prelude.{min}
use Rattle.tw_lexer.proofs.Numerals.{no_digit, one_digit}
use Rattle.tw_lexer.proofs.numbers.digits.Goals as goal

pub returns-in_default : goal.returns-in_default
returns-in_default c n = no_digit c.args.text.now c.loop-byte.byte-index n c.loop-byte-test.true c.in_default.ensures

pub loop-byte-preserved : goal.loop-byte-preserved
loop-byte-preserved c =
    one_digit c.args.text.now (c.from-past.result + 1) c.loop-byte.byte-index c.loop-byte.value c.in-Some.digit c.min-value.result
    c.loop-byte.invariant c.loop-byte-test.true c.in-Some.ensures.0 c.in-Some.ensures.1
    (c.min-value.ensures ∙ ap (λ (d : ℕ). min (c.from-past.result + 1) (10 * c.loop-byte.value + d)) c.from.ensures)
