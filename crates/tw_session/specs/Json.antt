-- Replies as JSON.
use Rattle.std.specs.Prelude.{◌≡◌}
use Rattle.tw_session.specs.Names.{Bool, MatchBool, is_some, Answer, Order, Reply, reply}
use Rattle.tw_order.specs.declared.runs.Answer.TheVariants as answer
use Rattle.tw_order.specs.declared.form.Assembling.{Assembling}
use Rattle.tw_order.specs.declared.form.Assembling.TheVariants as assembling
use Rattle.tw_order.specs.declared.order.Order.TheVariants.{Assemble, Check, Disassemble, Each, Replay, Run}
use Rattle.tw_order.specs.declared.form.Places.{Places}
use Rattle.tw_order.specs.declared.form.Places.TheVariants.{Hidden, Shown}
use Rattle.tw_order.specs.declared.runs.RunAnswer.{RunAnswer}
use Rattle.tw_order.specs.declared.runs.RunAnswer.TheVariants as written
use Rattle.tw_cli.specs.declared.explanations.Explained.{Explained}
use Rattle.tw_order.specs.declared.form.Form.{Form}
use Rattle.tw_order.specs.declared.form.Form.TheVariants as form
use Rattle.tw_json_output.specs.declared.text_object.Printed.{Printed}
use Rattle.tw_json_output.specs.declared.text_object.Printed.TheVariants as printed
use Rattle.tw_program_output.specs.ErrorJson.{IsJsonReply, failure_in}
use Rattle.tw_source.specs.declared.close.Close.{Close}
use Rattle.tw_source.specs.declared.close.Close.TheVariants as close
use Rattle.tw_session.specs.declared.json.Rendering.{Rendering}
use Rattle.tw_session.specs.declared.json.Rendering.TheVariants.{Plain, Errors, ListedErrors, Whole}

-- ---- the form of a text

abbrev pub in_json : Form → Rendering → Rendering
in_json form.Text rendering = Plain
in_json form.Json rendering = rendering

-- return the object of a text that `asm` or `disasm` prints
abbrev pub assembled_as : Assembling → Printed
assembled_as assembling.Text = printed.Digits
assembled_as assembling.Names = printed.Digits
assembled_as assembling.Plain = printed.Plain

abbrev pub disassembled_as : Places → Printed
disassembled_as Hidden = printed.Text
disassembled_as Shown = printed.Listing

-- return the form of the errors of a check, a run and a replay, whose other replies are JSON already
abbrev pub checked_as : Places → Rendering
checked_as Hidden = Errors
checked_as Shown = ListedErrors

abbrev pub run_as_json : RunAnswer → Rendering
run_as_json written.Json = Errors
run_as_json written.OrderJson = Errors
run_as_json answer = Plain

abbrev pub replayed_as : Answer → Rendering
replayed_as answer.Json = Errors
replayed_as other = Plain

-- returns the form of the reply to an order; those to lines of inputs are JSON already
abbrev pub rendering_of : Order → Rendering
rendering_of (Assemble order) = in_json order.form (Whole (assembled_as order.what))
rendering_of (Disassemble source order) = in_json order.form (Whole (disassembled_as order.places))
rendering_of (Check source order) = in_json order.form (checked_as order.places)
rendering_of (Run source options inputs) = run_as_json options.answer
rendering_of (Each source order) = Plain
rendering_of (Replay source answer layout inputs) = replayed_as answer

-- ---- replies

-- returns whether a reply that closes so is of an error
abbrev pub is_error : Close → Bool
is_error close = is_some (failure_in close)

-- holds for a reply in the requested form: as it is, or as JSON
abbrev pub IsInForm : Rendering → Reply → Reply → Type 0
IsInForm Plain text r = r ≡ text
IsInForm Errors text r = MatchBool (is_error text.close) (IsJsonReply text r) (r ≡ text)
IsInForm ListedErrors text r = MatchBool (is_error text.close) (IsJsonReply text r) (r ≡ text)
IsInForm (Whole made) text r = IsJsonReply text r

-- ---- explanations

abbrev pub IsExplainedAs : Form → Reply → Reply → Type 0
IsExplainedAs form.Text text r = r ≡ text
IsExplainedAs form.Json text r = IsJsonReply text r

-- holds for the reply with an explanation
abbrev pub IsExplanation : Explained → Reply → Type 0
IsExplanation e r = IsExplainedAs e.form (reply e.text.items close.Success) r
