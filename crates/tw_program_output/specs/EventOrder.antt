-- Whether outputs are the same in every order of events, as `run --order` prints it.
use Rattle.std.specs.Prelude.{◌≡◌, ℕ, List, codes, Option, Some, None}
use Rattle.serde_json.specs.Data as json
use Rattle.tw_copies.specs.declared.check.CopyInsertion.{CopyInsertion}
use Rattle.tw_program_output.specs.Place.{IsPlaced, placed_line}

-- returns the place of an insertion that may show the order
abbrev pub insertion_line : CopyInsertion → List ℕ
insertion_line at = placed_line (codes "order may show in procedure ") at.procedure at.place (codes "\n")

-- holds for that line, followed by the insertion's line of the text
abbrev pub IsOrderLine : Option (List ℕ) → Option CopyInsertion → List ℕ → Type 0
IsOrderLine source None text = text ≡ codes "order same\n"
IsOrderLine source (Some at) text = IsPlaced source (insertion_line at) at.procedure at.place text

-- returns a word, or the place of the insertion
abbrev pub order_json : Option CopyInsertion → json.Data
order_json None = json.string (codes "same")
order_json (Some at) =
    json.object (json.put (codes "procedure") (json.number (json.unsigned at.procedure)) (json.put (codes "place") (json.number (json.unsigned at.place)) json.no_members))
