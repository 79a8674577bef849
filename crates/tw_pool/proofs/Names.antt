-- Passes on what the files here use of other crates and of the definitions.
pub use Rattle.std.proofs.Common.{Bool, IsSome, List, None, Option, Some, [], add-one, ap, append-nil, append_assoc, arith, cond, drop, drop-cons, false, get_or, if◌then◌else◌, inl, inr, length, length-append, map, nat_lt, not, option_map, option_to_list, refl, replicate, set, slice_get, subst, suc, sym, take, true, zero, ℕ, ◌%◌, ◌&&◌, ◌*◌, ◌++◌, ◌+◌, ◌-◌, ◌/◌, ◌<◌, ◌==◌, ◌^◌, ◌||◌, ◌∙◌, ◌∷◌, ◌≡◌, ◌≢◌, ◌≤◌, ◌⊎◌}
pub use Rattle.std.proofs.lemmas.Bool.{and_parts, cases_eq, cases_lt, eq-eqb, eqb-true, ltb-false, ltb-true}
pub use Rattle.std.proofs.lemmas.Bool.Decides.{nat_tests}
pub use Rattle.std.proofs.lemmas.List.{get_or-set_other, get_or-set_same, map-append}
pub use Rattle.std.proofs.lemmas.Option.{same_Some, slice_get_within}
pub use Rattle.std.specs.Cmp.{nat_cmp_total, tied_itself}
pub use Rattle.std.specs.FinMap.{entries, get, get-empty, get-insert, get-remove, insert}
pub use Rattle.std.specs.List.{All, flat_map}
pub use Rattle.std.specs.Option.{option_and_then, option_or}
pub use Rattle.std.specs.Ordering.{eq_by_cmp, is_eq, nat_cmp}
pub use Rattle.tw_code.proofs.Growth.{below_more, opening_is_small}
pub use Rattle.tw_code.proofs.Leaving.{ask_leaves, deliver_leaves, end_leaves, release_leaves}
pub use Rattle.tw_code.proofs.Runs.{run_more}
pub use Rattle.tw_code.specs.declared.instr.Instr.{Instr}
pub use Rattle.tw_code.specs.declared.procedure.Procedure.{Procedure}
pub use Rattle.tw_code.specs.machine.Bounds.{AreNumbersBelow, opening_bound}
pub use Rattle.tw_code.specs.machine.Due.{IsDueFree, event_of, first_of, instr_here, take_of}
pub use Rattle.tw_code.specs.machine.History.{actor_of}
pub use Rattle.tw_code.specs.machine.Opening.{opening, reached}
pub use Rattle.tw_code.specs.machine.Pending.{pending_of, waited_for, written_by}
pub use Rattle.tw_code.specs.machine.Rights.{RightType, right_of}
pub use Rattle.tw_code.specs.machine.State.{Frame, State}
pub use Rattle.tw_frame.specs.Jobs.{DoneView, FrameView, IsDone, JobView, bare_frame, job_of}
pub use Rattle.tw_pool.specs.Actors.{AreCounts, HasPlace, actor_of_place, events_of, place_of, same_actor}
pub use Rattle.tw_pool.specs.History.{HistoryView}
pub use Rattle.tw_pool.specs.Kept.{AreIssued, HasNoAsk, HasNoRelease, IsFree, IsKept, IsOwedBy, MayTakeNow}
pub use Rattle.tw_pool.specs.Pendings.{pending_with_data, waited_at, waits_in, written_at}
pub use Rattle.tw_pool.specs.PoolView.{HasState, PoolView, oldest_notice, with_events}
pub use Rattle.tw_pool.specs.Turns.{Answers, AreOwn, IsTurn, IsTurnBy, Issues, Line, Makes, OrNoMemory, Submits, TakesBack, TakesMemory, Turns, TurnsFree, TurnsUnless, closing_at, closing_of, instr_after, is_last, issued_to, steps_of}
pub use Rattle.tw_pool.specs.Words.{FitsWord, IsPlaced, events_in, unpack, word_of}
pub use Rattle.tw_pool.specs.Work.{AreIdle, AreTargeted, HasNoWork, HasNoneDue, IsIdle, IsNextBusy, LacksWork, RunsOn}
pub use Rattle.tw_pool.specs.declared.answer.Closing.{Closing}
pub use Rattle.tw_pool.specs.declared.answer.Closing.TheVariants.{Limit, Stopped}
pub use Rattle.tw_pool.specs.declared.answer.Turn.{Turn}
pub use Rattle.tw_pool.specs.declared.answer.Turn.TheVariants.{Ended, Foreign, Idle, NoMemory, Over, Owed, Run}
pub use Rattle.tw_pool_state.specs.Fits.{AreParts, ArgMatches, ArgsMatch, FrameFits, IsReached}
pub use Rattle.tw_pool_state.specs.Memory.{CallTakes, EventTakes, InstrTakes, IsAskOfOpen, IsAtAllocating, TakesTexts}
pub use Rattle.tw_pool_state.specs.Notes.{AreQueued, is_among, queue_at}
pub use Rattle.tw_pool_state.specs.Parts.{state_of}
pub use Rattle.tw_pool_state.specs.Queued.{Queues, no_notices, queues_after, queues_along}
pub use Rattle.tw_pool_state.specs.RunningTasks.{RunningView, TasksByActor}
pub use Rattle.tw_pool_state.specs.declared.parts.Parts.{Parts}
pub use Rattle.tw_rights.specs.Bare.{bare_arg, bare_rule, bare_task}
pub use Rattle.tw_rights.specs.Rights.{Right}
pub use Rattle.tw_rights.specs.declared.arg.Arg.{Arg}
pub use Rattle.tw_rules.specs.Table.{erased_arg, erasure}
pub use Rattle.tw_soundness.proofs.Along.{numbers_along, small_along}
pub use Rattle.tw_soundness.proofs.Safe.{opened_held, reached_is_held}
pub use Rattle.tw_soundness.specs.Invariant.{ArgFits, IsHeld, RuleArgsFit}
pub use Rattle.tw_store.specs.Served.{KnowsPlaces, Served}
pub use Rattle.tw_types.proofs.Chosen.{best_mapped, next_ask_mapped, next_release_mapped}
pub use Rattle.tw_types.proofs.Mapped.{entries_mapped, get_mapped}
pub use Rattle.tw_types.proofs.Outcomes.{same_went, went_after, went_first, went_of, went_only}
pub use Rattle.tw_types.specs.Actor.{actor_at, actor_cmp, actor_count, index_of, is_in, may_take}
pub use Rattle.tw_types.specs.Layout.{ActorCounts, IsLayout}
pub use Rattle.tw_types.specs.Mapped.{entry_by, mapped}
pub use Rattle.tw_types.specs.Notices.{Notices, notice_cmp}
pub use Rattle.tw_types.specs.Outcome.{Went, only_if}
pub use Rattle.tw_types.specs.Rule.{Rule, RuleOf, RulesOf, is_waiting, next_ask, next_release}
pub use Rattle.tw_types.specs.Store.{Store, server_of}
pub use Rattle.tw_types.specs.Task.{Task, TaskOf, TasksOf, best}
pub use Rattle.tw_types.specs.declared.actor.Actor.{Actor}
pub use Rattle.tw_types.specs.declared.actor.Actor.TheVariants.{Engine, Server, Worker}
pub use Rattle.tw_types.specs.declared.event.Event.{Event}
pub use Rattle.tw_types.specs.declared.event.Event.TheVariants.{Ask, Call, Deliver, End, Local, Release, Take}
pub use Rattle.tw_types.specs.declared.input.Input.{Input}
pub use Rattle.tw_types.specs.declared.notice.Notice.{Notice}
pub use Rattle.tw_types.specs.declared.param.Param.{Param}
pub use Rattle.tw_types.specs.declared.stage.Stage.{Stage}
pub use Rattle.tw_verify.specs.Typed.{TypedProgram, typings_of}
