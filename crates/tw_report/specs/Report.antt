-- The report of a state: a line for each output, followed by lines for a container's members or a map's values, and a line that says
-- how the run ended.
use Rattle.std.specs.Prelude.{ℕ, suc, Bool, true, false, if◌then◌else◌, List, [], ◌∷◌, ◌++◌, codes, decimal, Option, Some, None, option_map, slice_get}
use Rattle.std.specs.FinMap as fin
use Rattle.std.specs.Fmt.{signed_decimal}
use Rattle.std.specs.List.{flat_map}
use Rattle.tw_types.specs.DataType.{has_sums, is_container_by, is_map_by}
use Rattle.tw_types.specs.Nesting.{NestedScalar}
use Rattle.tw_types.specs.declared.data_type.Scalar.{Scalar}
use Rattle.tw_types.specs.declared.data_type.Scalar.TheVariants as scalar
use Rattle.tw_types.specs.Store.{Content, Unset, Set, Contains, Maps, Datum, Data, is_closed}
use Rattle.tw_types.specs.StoreCalls.{entries_in as values_in, members_in}
use Rattle.tw_types.specs.ValueOrder.{Subscript}
use Rattle.tw_types.specs.declared.value.Value.{Value}
use Rattle.tw_types.specs.declared.value.Value.TheVariants as value
use Rattle.tw_lexer.specs.Quoted.{quoted}
use Rattle.tw_types.specs.declared.ending.Ending.{Ending}
use Rattle.tw_types.specs.declared.ending.Ending.TheVariants.{Quiet, Stuck}
use Rattle.tw_types.specs.declared.pending.Link.{Link}
use Rattle.tw_code.specs.declared.procedure.Procedure.{Procedure}
use Rattle.tw_code.specs.machine.Ending.{ending}
use Rattle.tw_code.specs.machine.Pending.{circle}
use Rattle.tw_code.specs.machine.State.{State}
use Rattle.tw_report.specs.Lines.{value_text}

abbrev pub scalar_word : Scalar → List ℕ
scalar_word scalar.Int = codes "int"
scalar_word scalar.Text = codes "text"

abbrev pub closed_text : Bool → List ℕ
closed_text true = codes " closed "
closed_text false = codes " open "

-- returns the kind of a container, by the type of its subscripts
abbrev pub container_word : NestedScalar → List ℕ
container_word ty = if is_container_by scalar.Text ty then codes "tcont " else codes "cont "

-- returns the type of a container of scalars, and whether it is closed
abbrev pub container_head : Datum → List ℕ
container_head x = container_word x.ty ++ (scalar_word x.ty.scalar ++ closed_text (is_closed x))

-- returns the kind of a map, by the type of its subscripts
abbrev pub map_word : NestedScalar → List ℕ
map_word ty = if is_map_by scalar.Text ty then codes "tmap " else codes "map "

-- returns the type of a map's values, or that they are sums
abbrev pub values_word : NestedScalar → List ℕ
values_word ty = if has_sums ty.map then codes "sum" else scalar_word ty.scalar

abbrev pub map_head : Datum → List ℕ
map_head x = map_word x.ty ++ (values_word x.ty ++ closed_text (is_closed x))

abbrev pub content_text : Datum → Content → List ℕ
content_text x Unset = codes "unset"
content_text x (Set value) = value_text value
content_text x (Contains members) = container_head x ++ decimal (fin.len members)
content_text x (Maps values) = map_head x ++ decimal (fin.len values)

-- returns the content of a datum, or that it was freed
abbrev pub datum_text : Option Datum → List ℕ
datum_text None = codes "gone"
datum_text (Some x) = content_text x x.content

abbrev pub output_line : ℕ → Option Datum → List ℕ
output_line k x = codes "out " ++ (decimal k ++ (codes " " ++ (datum_text x ++ codes "\n")))

-- returns a subscript; a text is quoted
abbrev pub subscript_text : Subscript → List ℕ
subscript_text (value.Int n) = signed_decimal n
subscript_text (value.Text text) = quoted text

-- returns the line of a container's member; that is a scalar, since main's containers are containers of scalars
abbrev pub member_line : Subscript → Option Datum → List ℕ
member_line subscript x = codes "  at " ++ (subscript_text subscript ++ (codes " " ++ (datum_text x ++ codes "\n")))

abbrev pub member_lines : Data → List (Subscript × ℕ) → List ℕ
member_lines live members = flat_map (λ e. member_line e.0 (fin.get live e.1)) members

-- returns the members of a datum, by rising subscripts
abbrev pub entries_in : Option Datum → List (Subscript × ℕ)
entries_in None = []
entries_in (Some x) = fin.entries (members_in x.content)

-- returns the line of a map's value
abbrev pub value_line : Subscript × Value → List ℕ
value_line e = codes "  at " ++ (subscript_text e.0 ++ (codes " " ++ (value_text e.1 ++ codes "\n")))

abbrev pub value_lines : List (Subscript × Value) → List ℕ
value_lines es = flat_map value_line es

-- returns the values of a datum, by rising subscripts
abbrev pub values_of : Option Datum → List (Subscript × Value)
values_of None = []
values_of (Some x) = fin.entries (values_in x.content)

-- returns the member of a container with `index` smaller subscripts: its subscript, and its datum if that is live
abbrev pub member_shown : Data → Datum → ℕ → Option (Subscript × Option Datum)
member_shown live container index = option_map (λ e. (e.0, fin.get live e.1)) (slice_get (entries_in (Some container)) index)

-- returns the line of an output, and those of its members or values
abbrev pub output_text : Data → ℕ → Option Datum → List ℕ
output_text live k x = output_line k x ++ (member_lines live (entries_in x) ++ value_lines (values_of x))

-- returns the outputs from number k on
abbrev pub output_texts : Data → ℕ → List ℕ → List ℕ
output_texts live k [] = []
output_texts live k (id ∷ ids) = output_text live k (fin.get live id) ++ output_texts live (suc k) ids

-- returns the report of outputs, from number 0 on, with its last lines
abbrev pub report : Data → List ℕ → List ℕ → List ℕ
report live outputs last_lines = output_texts live 0 outputs ++ last_lines

-- ---- the last lines

-- returns the line of a link: a rule, a datum for which it waits, and a rule that may write that
abbrev pub link_line : Link → List ℕ
link_line l = codes "waits " ++ (decimal l.rule ++ (codes " " ++ (decimal l.datum ++ (codes " " ++ (decimal l.next ++ codes "\n")))))

abbrev pub link_lines : List Link → List ℕ
link_lines links = flat_map link_line links

-- returns the lines of a circle, if there is one
abbrev pub circle_lines : Option (List Link) → List ℕ
circle_lines None = []
circle_lines (Some links) = link_lines links

-- returns the lines on pending rules
abbrev pub stuck_lines : ℕ → Option (List Link) → List ℕ
stuck_lines rules found = codes "stuck " ++ (decimal rules ++ (codes "\n" ++ circle_lines found))

-- returns the lines on how a run has ended, or that it is still running
abbrev pub ending_lines : Option Ending → Option (List Link) → List ℕ
ending_lines (Some Quiet) found = codes "quiet\n"
ending_lines (Some (Stuck rules)) found = stuck_lines rules found
ending_lines None found = codes "running\n"

abbrev pub state_report : List Procedure → State → List ℕ
state_report program s = report s.store.live s.outputs (ending_lines (ending s) (circle program s))
