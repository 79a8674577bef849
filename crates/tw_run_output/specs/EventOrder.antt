-- Whether the order of events may show in the outputs of a run that has ended.
use Rattle.std.specs.Prelude.{◌≡◌, ℕ, Bool, true, false, if◌then◌else◌, List, codes, Option, Some, None}
use Rattle.serde_json.specs.Data as json
use Rattle.tw_copies.specs.declared.check.CopyInsertion.{CopyInsertion}
use Rattle.tw_json_output.specs.Run.{json_line}
use Rattle.tw_pool.specs.declared.answer.Closing.{Closing}
use Rattle.tw_pool.specs.declared.answer.Closing.TheVariants.{Quiet, Stuck, Stopped, Limit}
use Rattle.tw_program_output.specs.EventOrder.{IsOrderLine, order_json}

-- returns whether the run was ended before it ended by itself
abbrev pub is_cut : Closing → Bool
is_cut Quiet = false
is_cut (Stuck rules) = false
is_cut Stopped = true
is_cut Limit = true

-- returns the line of a run that contests no insertion
abbrev pub calm_line : Closing → List ℕ
calm_line closing = if is_cut closing then codes "order may show after the last event\n" else codes "order same\n"

-- holds for that line, or for the place of the first contested insertion, with its line of the text
abbrev pub IsOrderText : Option (List ℕ) → Closing → Option CopyInsertion → List ℕ → Type 0
IsOrderText source closing None lines = lines ≡ calm_line closing
IsOrderText source closing (Some at) lines = IsOrderLine source (Some at) lines

-- returns the word `same` or the place; null if the run was cut off and contested no insertion before
abbrev pub end_order_json : Closing → Option CopyInsertion → json.Data
end_order_json closing None = if is_cut closing then json.null else order_json None
end_order_json closing (Some at) = order_json (Some at)

-- returns the object of a run with these members and the order, on one line
abbrev pub order_line : Closing → Option CopyInsertion → json.Members → List ℕ
order_line closing found members = json_line (json.object (json.put (codes "order") (end_order_json closing found) members))
