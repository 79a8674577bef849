-- The bytes that a session is given, and their parts.
use Rattle.std.specs.Prelude.{◌≡◌, ◌+◌, ◌-◌, if◌then◌else◌}
use Rattle.tw_session.specs.Names.{ℕ, Bool, List, [], Option, None, Some, IsUtf8, MatchOption, codes, length, take, nat_eq, nat_lt, Order, AreParts, after_inputs, before_inputs}
use Rattle.std.specs.List.{ends_with}
use Rattle.std.specs.Option.{option_map, option_map_or}
use Rattle.tw_order.specs.declared.order.Order.TheVariants.{Replay, Run}
use Rattle.tw_order.specs.declared.runs.RunInputs.TheVariants.{Json, Words}
use Rattle.tw_source.specs.Input.{most_bytes}
use Rattle.tw_session.specs.declared.parts.Given.{Given as Made}
use Rattle.tw_session.specs.declared.parts.Parts.{Parts as Read}

-- ---- what is given

-- a program, and its inputs and a trace if they are apart from it; if not, they follow it
pub record Given : Type 0 where
  pub program : List ℕ
  pub inputs : Option (List ℕ)
  pub trace : Option (List ℕ)

abbrev pub given : List ℕ → Option (List ℕ) → Option (List ℕ) → Given
given program inputs trace = record { program = program; inputs = inputs; trace = trace }

abbrev pub alone : List ℕ → Given
alone program = given program None None

abbrev pub seen_given : Made → Given
seen_given g = given g.program.now (option_map (λ bytes. bytes.now) g.inputs) (option_map (λ bytes. bytes.now) g.trace)

abbrev pub length_of : Option (List ℕ) → ℕ
length_of bytes = option_map_or length bytes 0

-- returns whether there are more bytes than a session accepts
abbrev pub is_too_long : Given → Bool
is_too_long g = nat_lt most_bytes (length g.program + length_of g.inputs + length_of g.trace)

-- ---- its parts

-- a program, the inputs after it and a trace, and whether they are too long
pub record Parts : Type 0 where
  pub program : List ℕ
  pub inputs : List ℕ
  pub trace : List ℕ
  pub too_long : Bool

abbrev pub parts : List ℕ → List ℕ → List ℕ → Bool → Parts
parts program inputs trace too_long = record { program = program; inputs = inputs; trace = trace; too_long = too_long }

abbrev pub seen : Read → Parts
seen p = parts p.program.now p.inputs.now p.trace.now p.too_long

-- returns a text without the end of its last line
abbrev pub without_last_feed : List ℕ → List ℕ
without_last_feed text =
    if ends_with nat_eq text (codes "\r\n") then take (length text - 2) text else
    if ends_with nat_eq text (codes "\n") then take (length text - 1) text else text

-- holds for what precedes a trace, and the trace
abbrev pub AreTraced : Given → List ℕ → List ℕ → Type 0
AreTraced g before trace = MatchOption g.trace (AreParts g.program before trace) (λ apart. (before ≡ g.program) × (trace ≡ apart))

-- return a program and its inputs, by what precedes a trace
abbrev pub program_of : Given → List ℕ → List ℕ
program_of g before = option_map_or (λ apart. before) g.inputs (before_inputs before)

abbrev pub inputs_of : Given → List ℕ → List ℕ
inputs_of g before = option_map_or (λ apart. apart) g.inputs (after_inputs before)

-- returns a program with its inputs, and a trace
abbrev pub with_inputs : Given → List ℕ → List ℕ → Parts
with_inputs g before trace = parts (program_of g before) (without_last_feed (inputs_of g before)) trace (is_too_long g)

-- holds for the parts that an order needs: the program, or also its inputs, a trace or both
abbrev pub AreReadAs : Order → Given → Parts → Type 0
AreReadAs (Run source options Words) g p = p ≡ with_inputs g g.program []
AreReadAs (Run source options Json) g p = p ≡ with_inputs g g.program []
AreReadAs (Replay source answer layout None) g p = (before : List ℕ) × (trace : List ℕ) × AreTraced g before trace × (p ≡ with_inputs g before trace)
AreReadAs (Replay source answer layout (Some given)) g p = (before : List ℕ) × (trace : List ℕ) × AreTraced g before trace × (p ≡ parts before [] trace (is_too_long g))
AreReadAs order g p = p ≡ parts g.program [] [] (is_too_long g)

-- holds if all parts are UTF-8
abbrev pub AreTexts : Parts → Type 0
AreTexts p = IsUtf8 p.program × IsUtf8 p.inputs × IsUtf8 p.trace
