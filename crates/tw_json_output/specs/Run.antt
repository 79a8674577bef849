-- The object of a run, and its line.
use Rattle.std.specs.Prelude.{ℕ, ◌^◌, nat_lt, if◌then◌else◌, List, ◌++◌, codes, map, Option, Some, None}
use Rattle.serde_json.specs.Data as json
use Rattle.serde_json.specs.View.{items_of}
use Rattle.serde_json.specs.Written.{compact_text}
use Rattle.tw_types.specs.declared.pending.Link.{Link}
use Rattle.tw_types.specs.Store.{Data}
use Rattle.tw_json_output.specs.Outputs.{kinds_json, outputs_json}

-- returns a number, or null past 64 bits
abbrev pub size_json : ℕ → json.Data
size_json n = if nat_lt n (2 ^ 64) then json.number (json.unsigned n) else json.null

-- returns the numbers of a link: a rule, a datum for which it waits, and a rule that may write that
abbrev pub link_json : Link → json.Data
link_json l = json.array (json.item (json.number (json.unsigned l.rule)) (json.item (json.number (json.unsigned l.datum)) (json.item (json.number (json.unsigned l.next)) json.no_items)))

abbrev pub circle_json : List Link → json.Data
circle_json links = json.array (items_of (map link_json links))

-- adds what only a stuck run has: the number of its pending rules, and the circle among them if there is one
abbrev pub with_pending : Option ℕ → json.Members → json.Members
with_pending None members = members
with_pending (Some rules) members = json.put (codes "pending") (json.number (json.unsigned rules)) members

abbrev pub with_circle : Option (List Link) → json.Members → json.Members
with_circle None members = members
with_circle (Some links) members = json.put (codes "circle") (circle_json links) members

-- returns what each run has
abbrev pub run_members : List ℕ → ℕ → ℕ → Data → List ℕ → json.Members
run_members status events instructions live ids =
    json.member (codes "events") (json.number (json.unsigned events))
    (json.member (codes "instructions") (size_json instructions)
    (json.member (codes "kinds") (json.array (items_of (kinds_json live ids)))
    (json.member (codes "outputs") (json.array (items_of (outputs_json live ids)))
    (json.member (codes "status") (json.string status) json.no_members))))

-- return the members, and the object, of a run that has ended so, after so many events and instructions, with these outputs in the live data
abbrev pub end_members : List ℕ → Option ℕ → Option (List Link) → ℕ → ℕ → Data → List ℕ → json.Members
end_members status pending circle events instructions live ids = with_circle circle (with_pending pending (run_members status events instructions live ids))

abbrev pub run_json : List ℕ → Option ℕ → Option (List Link) → ℕ → ℕ → Data → List ℕ → json.Data
run_json status pending circle events instructions live ids = json.object (end_members status pending circle events instructions live ids)

-- returns the object on one line
abbrev pub json_line : json.Data → List ℕ
json_line d = compact_text d ++ codes "\n"
