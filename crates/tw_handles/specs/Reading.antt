-- Calls on a report: how the run ended, and its outputs.
use Rattle.std.specs.Prelude.{◌≡◌, ◌≤◌, ◌<◌, ◌⊎◌, ◌||◌, ◌==◌, ◌++◌, ◌∷◌, if◌then◌else◌}
use Rattle.tw_handles.specs.Names.{[], ℕ, List, Option, Some, None, MatchOption, Result, Ok, Err, MatchResult, drop, length, pos, slice_get, get, option_and_then, EndedRun, Closing, FinalView, has_subscripts_by, has_sums, is_map, NestedScalar, Datum, is_closed, count_in, value_in, Value}
use Rattle.tw_in_turn.specs.declared.rounds.End.{End}
use Rattle.tw_in_turn.specs.declared.rounds.End.TheVariants as end
use Rattle.tw_pool.specs.declared.answer.Closing.TheVariants.{Quiet, Stuck, Stopped, Limit}
use Rattle.tw_types.specs.declared.data_type.Scalar.{Scalar}
use Rattle.tw_types.specs.declared.data_type.Scalar.TheVariants as scalar
use Rattle.tw_types.specs.StoreChecks.{is_unset}
use Rattle.tw_types.specs.declared.value.Value.TheVariants as value
use Rattle.tw_handles.specs.Asking.{Fails}
use Rattle.tw_handles.specs.Codes.{done, no_index, no_report, no_room, no_text, unfinished}
use Rattle.tw_handles.specs.Loading.{finished_in}
use Rattle.tw_handles.specs.declared.finished.Finished.{Finished}
use Rattle.tw_handles.specs.declared.held.Held.{Held}
use Rattle.tw_handles.specs.declared.item.Item.{Item}

-- returns the exit status of `tw run`: 0 quiet, 3 stuck, 4 limit; a finished run has no other
abbrev pub closing_status : Option Closing → ℕ
closing_status None = 5
closing_status (Some Quiet) = 0
closing_status (Some (Stuck rules)) = 3
closing_status (Some Stopped) = 5
closing_status (Some Limit) = 4

-- returns the exit status of `tw run`, which is 5 if an allocation failed; 8 if it was stopped, which no run of `tw` is
abbrev pub status_at : End → Option Closing → ℕ
status_at end.Over closing = closing_status closing
status_at end.NoMemory closing = 5
status_at (end.Stopped cut) closing = 8

abbrev pub end_status : EndedRun → ℕ
end_status left = status_at left.end left.outcome.closing

-- returns the numbers of events and of outputs, and the status
abbrev pub ending_of : EndedRun → List ℕ
ending_of left = length left.history.events ∷ length left.outcome.outputs ∷ end_status left ∷ []

-- returns the outputs and the store of a report: those of a run that ended by itself, quiet, or whose options ask for what is there
abbrev pub readable_of : Option Finished → Result FinalView ℕ
readable_of None = Err no_report
readable_of (Some run) = if run.partial || (end_status run.left == 0) then Ok run.left.outcome else Err unfinished

abbrev pub readable : Option Held → Result FinalView ℕ
readable held = readable_of (finished_in held)

-- what a call does with a handle's report; or the handle holds none
abbrev pub WithReport : {A : Type 0} → (Finished → A → A → ℕ → Type 0) → Option Held → A → A → ℕ → Type 0
WithReport Does held old new code = MatchOption (finished_in held) (Fails no_report old new code) (λ run. Does run old new code)

-- what a call does with outputs that are read; or the code says why they aren't, and nothing is written
abbrev pub WithOutputs : {A : Type 0} → (FinalView → A → A → ℕ → Type 0) → Option Held → A → A → ℕ → Type 0
WithOutputs Does held old new code = MatchResult (readable held) (λ final. Does final old new code) (λ why. Fails why old new code)

-- ---- a datum

-- returns i or t
abbrev pub letter_of : Scalar → ℕ
letter_of scalar.Int = 105
letter_of scalar.Text = 116

-- returns the letter of the scalar inside all containers, or of a map's values: s of sums
abbrev pub leaf_letter : NestedScalar → ℕ
leaf_letter ty = if has_sums ty.map then 115 else letter_of ty.scalar

-- returns i with the integer, or t with the text's length
abbrev pub value_item : Value → Item
value_item (value.Int n) = record { number = n; length = 0; kind = 105; closed = 1; scalar = 105; by = 0 }
value_item (value.Text text) = record { number = pos 0; length = length text; kind = 116; closed = 1; scalar = 116; by = 0 }

-- returns u for an unset scalar
abbrev pub unset_item : NestedScalar → Item
unset_item ty = record { number = pos 0; length = 0; kind = 117; closed = 0; scalar = letter_of ty.scalar; by = 0 }

-- returns c for a container or m for a map, how many members or values it has, whether it is closed, and the types of scalars and subscripts
abbrev pub container_item : Datum → Item
container_item x =
    record {
      number = pos 0;
      length = count_in x.content;
      kind = if is_map x.ty then 109 else 99;
      closed = if is_closed x then 1 else 0;
      scalar = leaf_letter x.ty;
      by = if has_subscripts_by scalar.Text x.ty then 116 else 105;
    }

abbrev pub valueless_item : Datum → Item
valueless_item x = if is_unset x.content then unset_item x.ty else container_item x

abbrev pub item_by : Datum → Option Value → Item
item_by x None = valueless_item x
item_by x (Some v) = value_item v

-- returns 0 if the datum isn't live
abbrev pub item_of : Option Datum → Item
item_of None = record { number = pos 0; length = 0; kind = 0; closed = 0; scalar = 0; by = 0 }
item_of (Some x) = item_by x (value_in x.content)

-- ---- outputs

-- holds if this is the datum of the output with this index, or there is none
abbrev pub IsOutputIn : FinalView → ℕ → Item → Item → ℕ → Type 0
IsOutputIn final index old new code =
    MatchOption (slice_get final.outputs index) (Fails no_index old new code) (λ id. (new ≡ item_of (get final.store.store.live id)) × (code ≡ done))

abbrev pub text_of : Option Value → Option (List ℕ)
text_of None = None
text_of (Some (value.Int n)) = None
text_of (Some (value.Text text)) = Some text

-- holds if the text is at the start of the buffer, or doesn't fit
abbrev pub IsFilled : List ℕ → List ℕ → List ℕ → ℕ → Type 0
IsFilled text old new code =
    ((length text ≤ length old) × (new ≡ text ++ drop (length text) old) × (code ≡ done)) ⊎ ((length old < length text) × Fails no_room old new code)

abbrev pub IsWritten : Option Value → List ℕ → List ℕ → ℕ → Type 0
IsWritten v old new code = MatchOption (text_of v) (Fails no_text old new code) (λ text. IsFilled text old new code)

abbrev pub value_of : Option Datum → Option Value
value_of datum = option_and_then (λ x. value_in x.content) datum

abbrev pub IsOutputTextIn : FinalView → ℕ → List ℕ → List ℕ → ℕ → Type 0
IsOutputTextIn final index old new code =
    MatchOption (slice_get final.outputs index) (Fails no_index old new code) (λ id. IsWritten (value_of (get final.store.store.live id)) old new code)
