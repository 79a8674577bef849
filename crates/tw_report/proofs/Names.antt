-- Passes on what the files here use of other crates and of the definitions.
pub use Rattle.std.proofs.Common.{Bool, Err, Global, List, None, Ok, Option, Result, Some, Vec, [], add-one, ap, append_assoc, arith, codes, cond, drop, drop-cons, false, get_or, if◌then◌else◌, inl, inr, length, map, option_map, refl, slice_get, subst, suc, sym, take, true, zero, ℕ, ◌++◌, ◌+◌, ◌-◌, ◌<◌, ◌==◌, ◌^◌, ◌∙◌, ◌∷◌, ◌≡◌, ◌≤◌, ◌⊎◌}
pub use Rattle.std.proofs.Math.Nat.{min-eq_left, min-le_right}
pub use Rattle.std.proofs.lemmas.Bool.{eqb-true}
pub use Rattle.std.proofs.lemmas.List.{append-nil, flat_map_more, length-append, length-drop, length-take, take-append-drop, take_all, take_more}
pub use Rattle.std.proofs.lemmas.List.Splits.{length-slice_split, slice_split-cons_no, slice_split-cons_yes}
pub use Rattle.std.proofs.lemmas.Option.{slice_get-get_or, slice_get_read, slice_get_within}
pub use Rattle.std.proofs.lemmas.Result.{IfOk-weaker, err_from_is_err_and}
pub use Rattle.std.specs.BTreeMap.{get}
pub use Rattle.std.specs.BTreeSet.{contains}
pub use Rattle.std.specs.FinMap.{entries, len}
pub use Rattle.std.specs.Int.{IsInRange}
pub use Rattle.std.specs.List.{AllByRecursion, filter, join_with_byte, onto_first, slice_split}
pub use Rattle.std.specs.Option.{option_and_then}
pub use Rattle.std.specs.Ordering.{nat_cmp}
pub use Rattle.std.specs.Prelude.{min, ◌||◌}
pub use Rattle.tw_code.specs.declared.procedure.Procedure.{Procedure}
pub use Rattle.tw_code.specs.machine.Pending.{circle, pending_of, pending_rules, waited_for, written_by}
pub use Rattle.tw_code.specs.machine.State.{State}
pub use Rattle.tw_instr.specs.Arguments.{arg_of}
pub use Rattle.tw_lexer.specs.Number.{EncodesDigits, IsRead}
pub use Rattle.tw_lexer.specs.Words.{IsBare, is_edge, is_parting}
pub use Rattle.tw_report.specs.Events.{EncodeParts, EncodesEvent, EncodesPart, EventsAreReadBack, IsByte, IsEvent, IsWord, Name, Number, OneEvent, Parameter, Part, actor_part, event_parts, has_bytes, part_text, words_in}
pub use Rattle.tw_report.specs.History.{HasNoLineFeed, IsBlank, IsEnd, IsTraceOf, OneHistory, after_blank, after_event, lines_in}
pub use Rattle.tw_report.specs.Report.{link_lines, member_line, member_lines, output_text, output_texts, value_line, value_lines}
pub use Rattle.tw_report.specs.reading.Event.{actor_in, number_after, number_in, parameter_in}
pub use Rattle.tw_report.specs.reading.History.{IsFirstLine, IsReadTo, Takes, onto}
pub use Rattle.tw_report.specs.reading.Words.{IsAtWord, with_word, word_length}
pub use Rattle.tw_types.specs.Actor.{number_in_kind}
pub use Rattle.tw_types.specs.Circle.{circle_of, is_met, since, step_from, walk, writer_of}
pub use Rattle.tw_types.specs.Distinct.{is_among}
pub use Rattle.tw_types.specs.StoreCalls.{count_in, entries_in, members_in}
pub use Rattle.tw_types.specs.ValueOrder.{Subscript}
pub use Rattle.tw_types.specs.declared.actor.Actor.{Actor}
pub use Rattle.tw_types.specs.declared.actor.Actor.TheVariants.{Engine, Server, Worker}
pub use Rattle.tw_types.specs.declared.event.Event.{Event}
pub use Rattle.tw_types.specs.declared.event.Event.TheVariants.{Ask, Call, Deliver, End, Local, Release, Take}
pub use Rattle.tw_types.specs.declared.pending.Link.{Link}
pub use Rattle.tw_types.specs.declared.pending.Pending.{Pending}
pub use Rattle.tw_types.specs.declared.value.Value.{Value}
