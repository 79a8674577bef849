-- Passes on what the files here use of other crates and of the definitions.
pub use Rattle.std.proofs.Common.{Bool, Err, IsSome, IsTrue, List, None, Ok, Option, Result, SFits, Some, [], ap, arith, drop, false, get_or, if◌then◌else◌, inl, inr, length, length-append, ltb, map, nat_lt, negsuc, not, of_z, option_map, pos, refl, replicate, set, slice_get, slice_index_or, subst, suc, sym, take, to_z, to_z-of_z, true, w64, zero, ℕ, ℤ, ◌++◌, ◌+◌, ◌-◌, ◌<◌, ◌^◌, ◌↔◌, ◌∙◌, ◌∷◌, ◌≡◌, ◌≤◌}
pub use Rattle.std.proofs.lemmas.List.{get_or-take, length-map, map-append, map-set, reverse-reverse, take_more}
pub use Rattle.std.proofs.lemmas.Option.{get_or_from_slice_get, same_Some, slice_get-get_or, slice_get-map}
pub use Rattle.std.specs.Prelude.{IsSomeAnd, is_some, reverse}
pub use Rattle.tw_budget.proofs.FrameTheorems.{below_budget, starts_within}
pub use Rattle.tw_code.specs.accepting.Flow.{flow_of, flows, local_flow}
pub use Rattle.tw_code.specs.declared.flow.Flow.TheVariants.{Begin, Close}
pub use Rattle.tw_code.specs.declared.instr.Instr.{Instr}
pub use Rattle.tw_code.specs.declared.instr.LocalInstr.{LocalInstr}
pub use Rattle.tw_code.specs.declared.procedure.Procedure.{Procedure}
pub use Rattle.tw_code.specs.format.Program.{IsProgram}
pub use Rattle.tw_code.specs.machine.Machine.{local_of, local_step, local_steps}
pub use Rattle.tw_code.specs.machine.Position.{Cursor, Loop, Position, after_end, at_goal, at_next_place, int_at, must_have_type, text_at, value_at, with_result}
pub use Rattle.tw_code.specs.machine.State.{filled, frame_of, ids_in, values_in}
pub use Rattle.tw_frame.specs.Banks.{HasText, IsText, RegistersView, first_int, first_text, in_bits, rest_of, value_of, woven}
pub use Rattle.tw_frame.specs.Drafts.{MayStart, started, value_in}
pub use Rattle.tw_frame.specs.Innermost.{with_innermost}
pub use Rattle.tw_frame.specs.Jobs.{DraftView, FrameView, IsDone, IsJob, JobView, MayBeAt, bare_frame, position_of}
pub use Rattle.tw_frame.specs.Pace.{IsPaced, IsSeen, IsSeenCut, due, most_unseen, steps_to_pause}
pub use Rattle.tw_frame.specs.Positions.{DoesThat, position_at}
pub use Rattle.tw_frame.specs.Ready.{AreMade, IsLocalAt, IsLocalQuick, IsMade, IsPairAt, IsReached, IsReady, IsShort, LeadsOn, MayTry}
pub use Rattle.tw_frame.specs.Requirements.{MayExecute, MayExecuteQuick, MayExecuteSome, TakesMemory}
pub use Rattle.tw_frame.specs.Slots.{text_in}
pub use Rattle.tw_frame.specs.declared.context.Context.{Context}
pub use Rattle.tw_rights.specs.Bare.{bare_arg, bare_file}
pub use Rattle.tw_rights.specs.declared.arg.Arg.{Arg}
pub use Rattle.tw_soundness.proofs.Moving.{IsLeftBy, asked, has_loop, inside, step_goes, steps_keep}
pub use Rattle.tw_soundness.proofs.Safe.{accepts}
pub use Rattle.tw_soundness.proofs.Steps.{happens_keeps, keeps_went}
pub use Rattle.tw_soundness.specs.AtPlace.{Accepts, IsAtPosition}
pub use Rattle.tw_stop.proofs.Looking.{last_look, one_no}
pub use Rattle.tw_types.proofs.Outcomes.{went_first}
pub use Rattle.tw_types.specs.Outcome.{Went, ◌>>=◌}
pub use Rattle.tw_types.specs.Value.{blank_of, scalar_of}
pub use Rattle.tw_types.specs.declared.cause.Cause.{Cause}
pub use Rattle.tw_types.specs.declared.data_type.Scalar.{Scalar}
pub use Rattle.tw_types.specs.declared.value.Value.{Value}
pub use Rattle.tw_verify.specs.Quick.{AreQuick, IsOverInts, IsThat, declared_of, second_of}
pub use Rattle.tw_verify.specs.Searching.{has_slow}
pub use Rattle.tw_verify.specs.Typed.{TypedProgram, typings_of}
pub use Rattle.tw_verify.specs.declared.quick.Quick.{Quick}
pub use Rattle.tw_verify.specs.declared.quick.Quick.TheVariants.{Add, AddAdd, AddEnd, CopyInt, Declared, Divide, End, EqualInts, Jump, Less, LessEnd, Multiply, Remainder, Repeat, Subtract}
