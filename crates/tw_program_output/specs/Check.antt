-- Output of `check` about a program. Without options its text is specified; what options add is only tested, as is JSON, which is one line that is read back.
use Rattle.std.specs.Prelude.{◌≡◌, ℕ, List, [], ◌∷◌, ◌++◌, codes, ◌==◌, if◌then◌else◌, Option, Some, None, option_map}
use Rattle.std.specs.List.{flat_map}
use Rattle.tw_code.specs.declared.procedure.Procedure.{Procedure}
use Rattle.tw_order.specs.declared.check.CheckLines.{CheckLines}
use Rattle.tw_order.specs.declared.check.CheckOrder.{CheckOrder}
use Rattle.tw_order.specs.declared.check.TheConstants.CheckLines.{NONE}
use Rattle.tw_order.specs.declared.form.Places.{Places}
use Rattle.tw_order.specs.declared.form.Places.TheVariants.{Hidden, Shown}
use Rattle.tw_order.specs.declared.form.Form.{Form}
use Rattle.tw_order.specs.declared.form.Form.TheVariants as form
use Rattle.tw_json_output.specs.Lines.{IsJsonLine}
use Rattle.tw_symbols.specs.Symbols.{name_at}
use Rattle.tw_program_output.specs.Admission.{RepliesIfAdmitted}
use Rattle.tw_program_output.specs.Answer.{IsAnswer, kind_word}
use Rattle.tw_program_output.specs.Rows.{Value, Number, Word, Name, row_text}
use Rattle.tw_program_output.specs.declared.answer.CheckAnswer.{CheckAnswer}
use Rattle.tw_program_output.specs.declared.answer.ProcedureRow.{ProcedureRow}
use Rattle.tw_source.specs.Reply.{Reply, reply}
use Rattle.tw_source.specs.declared.close.Close.TheVariants.{Success}

-- ---- the text of an answer

-- returns the number of a procedure, its kind and its budget, and its name if it has one
abbrev pub procedure_cells : List ℕ → ProcedureRow → List (List ℕ × Value)
procedure_cells name row = (codes "proc ", Number row.number) ∷ (codes " ", Word (kind_word row.kind)) ∷ (codes " budget ", Number row.budget) ∷ ([], Name name) ∷ []

abbrev pub procedure_line : List ℕ → ProcedureRow → List ℕ
procedure_line name row = row_text (procedure_cells name row) ++ codes "\n"

abbrev pub procedure_lines : List (List ℕ) → List ProcedureRow → List ℕ
procedure_lines names rows = flat_map (λ (row : ProcedureRow). procedure_line (name_at names row.number) row) rows

-- returns how many engines and workers the targets need
abbrev pub needs_cells : ℕ → ℕ → List (List ℕ × Value)
needs_cells engines workers = (codes "needs engines ", Number engines) ∷ (codes " workers ", Number workers) ∷ []

abbrev pub needs_line : ℕ → ℕ → List ℕ
needs_line engines workers = row_text (needs_cells engines workers) ++ codes "\n"

-- returns how many procedures have a search, if any has
abbrev pub searches_line : ℕ → List ℕ
searches_line searching = if searching == 0 then [] else row_text ((codes "searches ", Number searching) ∷ []) ++ codes "\n"

-- returns the names that budgets have: only beside a listing
abbrev pub shown_names : Places → List (List ℕ) → List (List ℕ)
shown_names Hidden names = []
shown_names Shown names = names

abbrev pub listing_text : Option (List ℕ) → List ℕ
listing_text None = []
listing_text (Some listing) = listing

-- returns the listing, the budgets, the needs and the searches, then these lines about what is requested
abbrev pub check_text : CheckOrder → CheckAnswer → List ℕ → List ℕ
check_text order answer more =
    listing_text (option_map (λ t. t.items) answer.listing) ++ (codes "accepted\n"
    ++ (procedure_lines (shown_names order.places answer.names) answer.procedures.items ++ (needs_line answer.needs.0 answer.needs.1 ++ (searches_line answer.searching ++ more))))

-- holds for any lines about what is requested
abbrev pub MayHaveMore : CheckLines → List ℕ → Type 0
MayHaveMore requested lines = requested ≡ NONE → lines ≡ []

abbrev pub IsCheckText : CheckOrder → CheckAnswer → List ℕ → Type 0
IsCheckText order answer text = (more : List ℕ) × MayHaveMore order.lines more × (text ≡ check_text order answer more)

-- ---- replies

-- holds for the answer in this form: its lines, or an object
abbrev pub IsInForm : Form → CheckOrder → CheckAnswer → List ℕ → Type 0
IsInForm form.Text order answer text = IsCheckText order answer text
IsInForm form.Json order answer text = IsJsonLine text

abbrev pub IsPrinted : CheckOrder → List Procedure → List ℕ → Type 0
IsPrinted order program text = (answer : CheckAnswer) × IsAnswer order program answer × IsInForm order.form order answer text

-- holds for the check of an admitted program, or for its rejection
abbrev pub RepliesByCheck : CheckOrder → Option (List ℕ) → List Procedure → Reply → Type 0
RepliesByCheck order source program r =
    RepliesIfAdmitted order.places source program order.limit order.caps (λ checked. (text : List ℕ) × IsPrinted order program text × (checked ≡ reply text Success)) r
