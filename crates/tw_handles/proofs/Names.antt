-- Passes on what the files here use of other crates and of the definitions.
pub use Rattle.core.proofs.alloc.Calls.{Al, Goes-blank, handle_tells}
pub use Rattle.core.proofs.atomic.Steps.{Ptr-Good, fm}
pub use Rattle.core.proofs.cell.Inside.{Good}
pub use Rattle.std.proofs.BoxSteps.Steps.{box_in, box_out}
pub use Rattle.std.proofs.Common.{Bool, Err, IfOk, IsTrue, List, MatchOption, MatchResult, None, Ok, Option, Result, Some, T, Vec, [], ap, arith, false, if◌then◌else◌, inl, inr, length, lit<, map, min, option_copied, option_map, pos, refl, set, slice_get, string_bytes, subst, suc, sym, take, true, zero, ℕ, ◌++◌, ◌+◌, ◌-◌, ◌/◌, ◌<◌, ◌==◌, ◌↔◌, ◌∙◌, ◌∷◌, ◌≡◌, ◌≢◌, ◌≤◌, ◌⊎◌}
pub use Rattle.std.proofs.lemmas.Bool.{cases_lt}
pub use Rattle.std.proofs.lemmas.List.{length-map, length-set, take_all}
pub use Rattle.std.proofs.lemmas.Option.{get_or_from_slice_get, same_Some, slice_get-map, slice_get_past, slice_get_read, slice_get_within}
pub use Rattle.std.proofs.raw_atomic.Walks.{leaves, proved_at}
pub use Rattle.std.specs.FinMap.{entries, entries_sorted, get, is_sorted, len-entries}
pub use Rattle.std.specs.List.{range_with_len}
pub use Rattle.std.specs.Option.{option_and_then, option_or}
pub use Rattle.std.specs.contracts.impls.GlobalAllocator.TheImpl.{ghosts}
pub use Rattle.std.specs.declared.alloc.Global.{Global}
pub use Rattle.std_alloc.proofs.ResultValues.{and_tt}
pub use Rattle.tw_bounds.specs.Runs.{instructions_in, tasks_by, tasks_in}
pub use Rattle.tw_code.specs.declared.procedure.Procedure.{Procedure}
pub use Rattle.tw_code.specs.machine.Opening.{reached}
pub use Rattle.tw_datum.specs.Kept.{datum_if, has_entries}
pub use Rattle.tw_flags.specs.Flags.{IsSeen}
pub use Rattle.tw_handles.specs.Asking.{Fails}
pub use Rattle.tw_handles.specs.Certificates.{IsCertificate, IsOfRun, calm, certificate_of, own_end}
pub use Rattle.tw_handles.specs.Lists.{AreTexts, AreTextsTo, IsListAdded, IsTextAt, IsWhy, begin_of, text_in}
pub use Rattle.tw_handles.specs.Loading.{finished_in, inputs_in, program_in}
pub use Rattle.tw_handles.specs.Many.{AreReadTo, IsReadAt}
pub use Rattle.tw_handles.specs.Reading.{item_of, value_of}
pub use Rattle.tw_handles.specs.Running.{IsAdded, IsRunBy, IsRunIfWithin, IsRunIn, IsRunUntil, IsRunWith, Looks, counts_of}
pub use Rattle.tw_handles.specs.Shown.{AtSubscript, at_member, at_value, shown_of}
pub use Rattle.tw_handles.specs.Slot.{slot_owns}
pub use Rattle.tw_handles.specs.Texts.{IsTextKept, IsTextMade, capped}
pub use Rattle.tw_handles.specs.declared.held.Held.{Held}
pub use Rattle.tw_handles.specs.declared.item.Item.{Item}
pub use Rattle.tw_handles.specs.declared.members.Member.{Member}
pub use Rattle.tw_in_turn.specs.Stopping.{IsLeftBy, cut_of, executed_in}
pub use Rattle.tw_in_turn.specs.declared.run.EndedRun.{EndedRun}
pub use Rattle.tw_pool.specs.Ends.{FinalView, IsLeftOf}
pub use Rattle.tw_pool.specs.History.{HistoryView}
pub use Rattle.tw_pool.specs.declared.open.OpenError.TheVariants.{InputCount, InputType, LimitRange, MissingTarget, NoMemory}
pub use Rattle.tw_run_output.specs.Ends.{IsEndReport}
pub use Rattle.tw_run_output.specs.Json.{IsEndLine}
pub use Rattle.tw_stop.specs.Looks.{Looked}
pub use Rattle.tw_types.proofs.Elements.{get_set_other, get_set_same, none_past}
pub use Rattle.tw_types.specs.Layout.{ActorCounts}
pub use Rattle.tw_types.specs.Outcome.{Went}
pub use Rattle.tw_types.specs.Store.{Contains, Content, Datum, Maps, Set, Unset}
pub use Rattle.tw_types.specs.StoreCalls.{count_in, entries_in, members_in, subscripts_of}
pub use Rattle.tw_types.specs.ValueOrder.{Subscript, named, value_cmp}
pub use Rattle.tw_types.specs.declared.event.Event.{Event}
pub use Rattle.tw_types.specs.declared.input.Input.{Input}
pub use Rattle.tw_verify.specs.Typed.{TypedProgram}
