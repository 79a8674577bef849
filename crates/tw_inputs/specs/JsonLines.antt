-- A line of inputs as JSON: an array of the inputs, or an object of two members, in any order: `id`, a number or a string, and `inputs`, the array.
use Rattle.std.specs.Prelude.{◌==◌, ◌&&◌, ℕ, Bool, List, Option, Some, None, codes, if◌then◌else◌, is_some, length, option_and_then, option_map, unwrap_or}
use Rattle.std.specs.Option.{option_map_or}
use Rattle.json.specs.Find.{as_object, get}
use Rattle.json.specs.Json.{Json, null, boolean, number, string, array, object}
use Rattle.json.specs.Print.{quoted}
use Rattle.tw_inputs.specs.JsonInputs.{entries, json_in}

-- returns the JSON text of an id: a number's is what was written
abbrev pub id_text : Json → Option (List ℕ)
id_text null = None
id_text (boolean b) = None
id_text (number s) = Some s
id_text (string s) = Some (quoted s)
id_text (array items) = None
id_text (object ms) = None

-- returns that of an object's member `id`
abbrev pub id_in : Json → Option (List ℕ)
id_in j = option_and_then id_text (get (codes "id") j)

abbrev pub has_two_members : Json → Bool
has_two_members j = option_map_or (λ ms. length (entries ms) == 2) (as_object j) Bool.false

-- returns the member `inputs` of an object that has an id and no third member, and any other value as it is
abbrev pub inputs_in : Json → Json
inputs_in j = if has_two_members j && is_some (id_in j) then unwrap_or (get (codes "inputs") j) j else j

-- return a line's id, if it has one, and the value that is its inputs, if it is JSON
abbrev pub line_id : List ℕ → Option (List ℕ)
line_id text = option_and_then id_in (json_in text)

abbrev pub line_json : List ℕ → Option Json
line_json text = option_map inputs_in (json_in text)
