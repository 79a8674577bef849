-- Passes on what several files here use of other crates.
pub use Rattle.std.specs.FinMap.{entries, get}
pub use Rattle.std.specs.Option.{option_and_then, option_copied, option_map_or}
pub use Rattle.std.specs.Prelude.{Bool, Err, IsUtf8, List, MatchOption, MatchResult, None, Ok, Option, Result, Some, [], drop, false, get_or, length, map, min, not, pos, slice_get, suc, take, true, unwrap_or, zero, ℕ, ℤ}
pub use Rattle.tw_code.specs.declared.procedure.Procedure.{Procedure}
pub use Rattle.tw_code.specs.machine.Inputs.{AreInputsOf, has_fitting_inputs, has_input_count}
pub use Rattle.tw_copies.specs.declared.check.CopyInsertion.{CopyInsertion}
pub use Rattle.tw_determinism.specs.OneResult.{IsDeterministic, IsOnlyResult, IsWholeRun}
pub use Rattle.tw_flags.specs.Flags.{IsFlagOf, IsSeen, IsSet, IsShared, values_of}
pub use Rattle.tw_flags.specs.declared.flag.StopFlag.{StopFlag}
pub use Rattle.tw_in_turn.specs.Stopping.{IsLeftBy, cut_of, executed_in}
pub use Rattle.tw_in_turn.specs.declared.run.EndedRun.{EndedRun}
pub use Rattle.tw_pool.specs.Ends.{FinalView, IsLeftOf}
pub use Rattle.tw_pool.specs.declared.answer.Closing.{Closing}
pub use Rattle.tw_pool.specs.declared.open.OpenError.{OpenError}
pub use Rattle.tw_types.specs.DataType.{depth_of, element_of, has_subscripts_by, has_sums, is_container, is_container_by, is_map, map_by}
pub use Rattle.tw_types.specs.Layout.{ActorCounts, IsLayout}
pub use Rattle.tw_types.specs.Nesting.{NestedScalar}
pub use Rattle.tw_types.specs.Store.{Contains, Content, Datum, Maps, Set, Unset, is_closed}
pub use Rattle.tw_types.specs.StoreCalls.{count_in, subscripts_of, value_in}
pub use Rattle.tw_types.specs.declared.input.Input.{Input}
pub use Rattle.tw_types.specs.declared.value.Value.{Value}
pub use Rattle.tw_verify.specs.Typed.{TypedProgram}
