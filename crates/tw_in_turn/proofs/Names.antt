-- Passes on what the files here use of other crates and of the definitions.
pub use Rattle.std.proofs.Common.{Bool, IfSome, List, None, Option, Some, [], add-one, ap, append-nil, arith, cond, false, get_or, if◌then◌else◌, inl, inr, is_some, length, length-append, nat_eq, nat_lt, not, option_map, refl, rules, set, slice_get, subst, suc, sym, true, zero, ℕ, ◌%◌, ◌*◌, ◌++◌, ◌+◌, ◌-◌, ◌/◌, ◌<◌, ◌==◌, ◌∙◌, ◌∷◌, ◌≡◌, ◌≢◌, ◌≤◌, ◌⊎◌}
pub use Rattle.std.proofs.Math.Nat.{add-mod_right, div-lt_iff_lt-mul, mod-eq_of_lt, mod-lt, suc-mul, zero-mul}
pub use Rattle.std.proofs.lemmas.Bool.{and_parts, cases_eq, cases_lt, cases_order, eq-eqb, eqb-true, ltb-true}
pub use Rattle.std.proofs.lemmas.Bool.Decides.{nat_tests}
pub use Rattle.std.proofs.lemmas.List.{get_or-set_other, get_or-set_same, length-set, replicate_more}
pub use Rattle.std.proofs.lemmas.List.Sums.{sum_by-append, sum_by-cons, sum_by-le, sum_by-set, sum_by_push}
pub use Rattle.std.specs.FinMap.{get, get-empty, get-insert, get-remove, insert, remove}
pub use Rattle.std.specs.Option.{option_or}
pub use Rattle.tw_bounds.proofs.Along.{few_events, within}
pub use Rattle.tw_bounds.specs.Runs.{IsBoundOfMain, instructions_alone, instructions_by, instructions_in}
pub use Rattle.tw_code.specs.declared.instr.Instr.{Instr}
pub use Rattle.tw_code.specs.declared.procedure.Procedure.{Procedure}
pub use Rattle.tw_code.specs.machine.Due.{IsDelivery, IsDueFor, IsDueFree, event_of}
pub use Rattle.tw_code.specs.machine.Ending.{ending, is_quiet}
pub use Rattle.tw_code.specs.machine.Inputs.{AreInputsOf}
pub use Rattle.tw_code.specs.machine.Machine.{local_step, local_steps, run, step}
pub use Rattle.tw_code.specs.machine.Opening.{opening, reached}
pub use Rattle.tw_code.specs.machine.Position.{Position}
pub use Rattle.tw_code.specs.machine.State.{Frame, Frames, State, with_frame}
pub use Rattle.tw_frame.specs.Jobs.{DoneView, IsCut, IsDone, JobView}
pub use Rattle.tw_in_turn.specs.Bounded.{EndsByItself, ExecutesFew, HasEndedByItself, HasFew, IsBoundedBy}
pub use Rattle.tw_in_turn.specs.Drawn.{place_for}
pub use Rattle.tw_in_turn.specs.InTurn.{Continues, Has, HasDone, HasEnded, IsAfter, IsDrawn, IsLeftIn, IsMove, IsNext, IsOutOfMemory, IsOver, IsReachedWith, IsWorkOf, actor_after, actor_from}
pub use Rattle.tw_in_turn.specs.Rounds.{AreKept, ContinuesOrEnds, Ends, IsGrown, IsRoundResult, IsTurned, IsWatched, Keeps, MayTurn, all_owed, answers_in, looks_at, owed, turns_in}
pub use Rattle.tw_in_turn.specs.Stopping.{EndsAfter, Executes, IsLeftAfter, IsLeftBy, IsLeftIf, IsReachedAfter, MayExecute, cut_of, is_stop, looks_in, looks_within}
pub use Rattle.tw_in_turn.specs.declared.rounds.End.{End}
pub use Rattle.tw_pool.proofs.Counting.{AreBy, few, others_same, the_same}
pub use Rattle.tw_pool.specs.Actors.{events_of, same_actor}
pub use Rattle.tw_pool.specs.Ends.{FinalView, IsClosedPool}
pub use Rattle.tw_pool.specs.History.{HistoryView}
pub use Rattle.tw_pool.specs.Kept.{IsOwedBy}
pub use Rattle.tw_pool.specs.Openings.{opened}
pub use Rattle.tw_pool.specs.PoolView.{HasState, PoolView, oldest_notice, with_events}
pub use Rattle.tw_pool.specs.Turns.{Answers, IsOldest, IsTurn, Issues, Makes, TakesBack, Turns, TurnsFree, TurnsUnless, closing_at, closing_of, instr_after, is_last, issued_to, steps_of}
pub use Rattle.tw_pool.specs.Work.{AreIdle, IsIdle}
pub use Rattle.tw_pool.specs.declared.answer.Closing.{Closing}
pub use Rattle.tw_pool.specs.declared.answer.Turn.{Turn}
pub use Rattle.tw_pool.specs.declared.answer.Turn.TheVariants.{Idle, Over, Run}
pub use Rattle.tw_stop.proofs.Looking.{last_look, more_looks, more_noes, never_stops, one_no}
pub use Rattle.tw_stop.specs.Looks.{Looked, always_no, looks, noes}
pub use Rattle.tw_types.proofs.Outcomes.{same_went, went_first, went_of}
pub use Rattle.tw_types.specs.Actor.{actor_at, actor_cmp, actor_count, index_of, is_in}
pub use Rattle.tw_types.specs.Layout.{ActorCounts, IsLayout}
pub use Rattle.tw_types.specs.Outcome.{NotEnabled, Went}
pub use Rattle.tw_types.specs.declared.actor.Actor.{Actor}
pub use Rattle.tw_types.specs.declared.actor.Actor.TheVariants.{Engine, Server, Worker}
pub use Rattle.tw_types.specs.declared.ending.Ending.{Ending}
pub use Rattle.tw_types.specs.declared.event.Event.{Event}
pub use Rattle.tw_types.specs.declared.input.Input.{Input}
pub use Rattle.tw_verify.specs.Typed.{TypedProgram, typings_of}
