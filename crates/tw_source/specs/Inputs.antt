-- Inputs that follow the program in what is read: after it a line `inputs`, and then a line for each word.
use Rattle.std.specs.Prelude.{◌≡◌, ◌⊎◌, ◌==◌, ◌++◌, ◌||◌, ℕ, Bool, List, [], ◌∷◌, Option, Some, None, codes, decimal, length, if◌then◌else◌}
use Rattle.std.specs.List.{join_with_byte, slice_split}
use Rattle.std.specs.Option.{option_map, option_map_or}
use Rattle.std.specs.Str.{bytes_eq}
use Rattle.clap.specs.Words.{Text}
use Rattle.tw_types.specs.declared.input.Input.{Input}
use Rattle.tw_inputs.specs.declared.json_inputs.Place.{Place}
use Rattle.tw_inputs.specs.declared.json_inputs.Place.TheVariants as place
use Rattle.tw_inputs.specs.InputWords.{AreEncoded, IsRejectedWord, RejectedWord}
use Rattle.tw_source.specs.Failure.{uncoded}
use Rattle.tw_source.specs.declared.failure.Position.{Position}
use Rattle.tw_source.specs.declared.failure.Position.TheVariants as position
use Rattle.tw_source.specs.Reply.{Reply, reply}
use Rattle.tw_source.specs.declared.close.Close.TheVariants.{Unreadable}
use Rattle.tw_visible.specs.Visible.{visible_bytes}

-- ---- lines

-- returns the lines of what is read, without their line feeds
abbrev pub lines_in : List ℕ → List (List ℕ)
lines_in text = slice_split (λ b. b == 10) text

-- returns whether inputs follow a line, with a carriage return or without
abbrev pub begins_inputs : List ℕ → Bool
begins_inputs line = bytes_eq line (codes "inputs") || bytes_eq line (codes "inputs\r")

-- returns what precedes the first line `inputs`, and what follows it, if there is such a line
abbrev pub cut_inputs : List (List ℕ) → Option (List ℕ × List ℕ)
cut_inputs [] = None
cut_inputs (line ∷ others) = if begins_inputs line then Some ([], join_with_byte 10 others) else option_map (λ cut. (line ++ 10 ∷ cut.0, cut.1)) (cut_inputs others)

-- return the program, and the inputs after it; without a line `inputs` all is the program
abbrev pub before_inputs : List ℕ → List ℕ
before_inputs text = option_map_or (λ cut. cut.0) (cut_inputs (lines_in text)) text

abbrev pub after_inputs : List ℕ → List ℕ
after_inputs text = option_map_or (λ cut. cut.1) (cut_inputs (lines_in text)) []

-- returns the words: the lines up to `end`, without the empty ones
abbrev pub words_in : List Text → List Text
words_in [] = []
words_in (line ∷ others) = if bytes_eq line (codes "end") then [] else if length line == 0 then words_in others else line ∷ words_in others

-- ---- replies

-- words count from 1
abbrev pub input_word_line : ℕ → List ℕ
input_word_line number = codes "input word " ++ (decimal number ++ codes " refused\n")

-- holds for the line with the first input word that can't be parsed, and the one with the reason
abbrev pub PrintsInputWord : RejectedWord → Reply → Type 0
PrintsInputWord refused r = r ≡ reply (input_word_line refused.number ++ visible_bytes refused.reason) (Unreadable (uncoded (position.Input refused.number)))

-- returns where a fault of JSON inputs is: in one input, or in all
abbrev pub fault_position : Place → Position
fault_position place.Text = position.Nowhere
fault_position place.Array = position.Nowhere
fault_position (place.Item n) = position.Input n

-- returns the reply with these lines of such a fault
abbrev pub unreadable : Place → List ℕ → Reply
unreadable at text = reply (visible_bytes text) (Unreadable (uncoded (fault_position at)))

-- holds if each word encodes its input, and this is the reply to these; or if one encodes none
abbrev pub RepliesByWords : List Text → (List Input → Reply → Type 0) → Reply → Type 0
RepliesByWords words Answers r =
    ((given : List Input) × AreEncoded given words × Answers given r) ⊎ ((refused : RejectedWord) × IsRejectedWord words refused × PrintsInputWord refused r)
