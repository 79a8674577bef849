-- Passes on what the files here use of other crates and of the definitions.
pub use Rattle.std.proofs.Common.{Bool, List, None, Option, Some, [], ap, append-nil, append_assoc, arith, bit_and, bit_or, cond, drop, false, get_or, if◌then◌else◌, inl, inr, length, length-append, map, max, min, nat_lt, not, option_to_list, refl, subst, suc, sym, take, tests, true, vec_capacity, vec_len, w64, zero, ℕ, ◌%◌, ◌&&◌, ◌*◌, ◌++◌, ◌+◌, ◌-◌, ◌<◌, ◌==◌, ◌^◌, ◌||◌, ◌∙◌, ◌∷◌, ◌≡◌, ◌≢◌, ◌≤◌, ◌⊎◌}
pub use Rattle.std.proofs.lemmas.Bool.{and_parts, eq-eqb, eqb-false, eqb-true, ltb-false, ltb-true}
pub use Rattle.std.proofs.lemmas.Bool.Decides.{nat_tests}
pub use Rattle.std.proofs.lemmas.List.{drop_all, drop_at, drop_more, get_or-map, get_or-set_other, get_or-set_same, length-drop, length-map, length-set, map-append}
pub use Rattle.std.proofs.lemmas.List.Elements.{All-tail, filter-append}
pub use Rattle.std.proofs.lemmas.List.FromFn.{fill_by_all, get_or-map-range_with_len, get_or-range_with_len, length-map-range_with_len, length-range_with_len, map-range_with_len_more}
pub use Rattle.std.proofs.lemmas.List.Sorted.{All-permutation, Contains-permutation, IsPermutation-map, IsPermutation-sym, IsPermutation-trans, length_permutation, sum_by-IsPermutation}
pub use Rattle.std.proofs.lemmas.Nat.{and_le_l, and_le_r, one_shl, pow_pos}
pub use Rattle.std.proofs.lemmas.Nat.Bits.{and_pow, bit_at-lt, bit_at-trailing_zeros, bit_at-zero, bit_at_above, bit_at_and, bit_at_clear_other, bit_at_clear_same, bit_at_not, bit_at_ones, bit_at_ones_above, bit_at_or, bit_at_set_other, bit_at_set_same, same_from_bits}
pub use Rattle.std.proofs.lemmas.Option.{get_or_from_slice_get, same_Some, slice_get-get_or, slice_get_cases}
pub use Rattle.std.specs.FinMap.{entries, find, get, get-empty, get-entries, insert, nat_cmp-IsAntisymmetric}
pub use Rattle.std.specs.Int.{bit_at, bit_not, trailing_zeros}
pub use Rattle.std.specs.List.{All, Contains, SwappedAt, range_with_len}
pub use Rattle.std.specs.List.Sorted.{IsPermutation}
pub use Rattle.std.specs.Option.{option_map, option_or}
pub use Rattle.std.specs.Prelude.{IsSomeAnd, is_some, slice_get, slice_index_or, sum_by, ◌↔◌}
pub use Rattle.std.specs.Vec.Iter.{into_iter_items, into_iter_len}
pub use Rattle.tw_code.specs.accepting.Needs.{HasTargets}
pub use Rattle.tw_code.specs.declared.instr.Instr.{Instr}
pub use Rattle.tw_code.specs.declared.procedure.Procedure.{Procedure}
pub use Rattle.tw_code.specs.format.Program.{IsProgram}
pub use Rattle.tw_code.specs.machine.Due.{event_of}
pub use Rattle.tw_code.specs.machine.Ending.{ending}
pub use Rattle.tw_code.specs.machine.History.{actor_of}
pub use Rattle.tw_code.specs.machine.State.{Frame, Frames, State, context_of}
pub use Rattle.tw_frame.specs.Banks.{HasText, IsText}
pub use Rattle.tw_frame.specs.Jobs.{DoneView, IsDone, JobView}
pub use Rattle.tw_frame.specs.Ready.{IsStop, StopsAt}
pub use Rattle.tw_host.specs.Ends.{Closes, IsDifference, IsOneEach, IsOther, seen_of}
pub use Rattle.tw_host.specs.Holds.{AreTurns, HasNextResult, IsAtStop, IsBrief, RunsHere, SeesTurns, SeesUpTo, SomeTurns, few_instructions}
pub use Rattle.tw_host.specs.Run.{Run, run_of}
pub use Rattle.tw_host.specs.Seats.{NoneOf, SeatEvents, actor_at, actor_count, actors_of, seen_by}
pub use Rattle.tw_host.specs.Sees.{IsAnswerOf, IsDoneOf, Sees, SomeTurn, TurnsOrNot}
pub use Rattle.tw_host.specs.Sleeping.{AreWoken, Covers, HasCleared, HaveNoWork, Is, IsCleared, IsConsidered, IsCovered, IsKnown, IsMarked, IsOver, IsRange, Isnt, KnownBy, TakesNone, Wakes, WakesAfter, WakesKind, WakesOne, WakesOwn, WakesServers, end_of, first_of, has_job, is_idle, is_over_turn}
pub use Rattle.tw_pool.proofs.Counting.{AreBy, few, itself, not_same, the_same}
pub use Rattle.tw_pool.specs.Actors.{events_of, same_actor}
pub use Rattle.tw_pool.specs.Kept.{InState, IsOwedBy}
pub use Rattle.tw_pool.specs.PoolView.{HasState, PoolView, with_events}
pub use Rattle.tw_pool.specs.Turns.{AreOwn, IsTurn, Issues, Makes, TakesBack, Turns, TurnsUnless, closing_at, closing_of, instr_after, is_last, issued_to, steps_of}
pub use Rattle.tw_pool.specs.Work.{AreTargeted, HasNoWork, LacksWork}
pub use Rattle.tw_pool.specs.declared.answer.Closing.{Closing}
pub use Rattle.tw_pool.specs.declared.answer.Closing.TheVariants.{Limit, Stopped}
pub use Rattle.tw_pool.specs.declared.answer.Turn.{Turn}
pub use Rattle.tw_queue.specs.Targets.{HaveTargets, IsNoTarget}
pub use Rattle.tw_types.proofs.Outcomes.{IfWent, if_both, same_went, went_first, went_of}
pub use Rattle.tw_types.specs.Actor.{actor_cmp, index_of, is_control, is_in, may_take, number_in_kind}
pub use Rattle.tw_types.specs.Layout.{ActorCounts, IsLayout}
pub use Rattle.tw_types.specs.Outcome.{NotEnabled, Outcome, Went, ◌>>=◌}
pub use Rattle.tw_types.specs.Rule.{next_ask, next_release}
pub use Rattle.tw_types.specs.declared.actor.Actor.{Actor}
pub use Rattle.tw_types.specs.declared.actor.Actor.TheVariants.{Engine, Server, Worker}
pub use Rattle.tw_types.specs.declared.actor.Kind.{Kind}
pub use Rattle.tw_types.specs.declared.actor.Kind.TheVariants.{Control, Leaf}
pub use Rattle.tw_types.specs.declared.data_type.Scalar.{Scalar}
pub use Rattle.tw_types.specs.declared.event.Event.{Event}
pub use Rattle.tw_types.specs.declared.event.Event.TheVariants.{Ask, Call, Deliver, End, Local, Release, Take}
pub use Rattle.tw_verify.specs.Typed.{TypedProgram, typings_of}
