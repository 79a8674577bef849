-- Reexports names of statements, their words and lemmas on them, for the files here.
pub use Rattle.std.proofs.Common.{Bool, Bor, Global, List, MatchOption, None, Option, Some, Vec, [], ap, append_assoc, arith, codes, cond, drop, false, get_or, inl, inr, length, map, pos, refl, rules, subst, suc, sym, take, true, zero, ℕ, ◌++◌, ◌+◌, ◌-◌, ◌<◌, ◌^◌, ◌∙◌, ◌∷◌, ◌≡◌, ◌≢◌, ◌≤◌, ◌⊎◌}
pub use Rattle.std.proofs.Math.Seq.{split_at, take-append_seam, take-suc}
pub use Rattle.std.proofs.lemmas.Bool.{cases_lt, eqb-true, ltb-true}
pub use Rattle.std.proofs.lemmas.Bool.Decides.{Decides-and, Decides-eqb, Decides-or, nat_tests}
pub use Rattle.std.proofs.lemmas.Fmt.{decimal_injective, decimal_is_IsNumeral, length-decimal-le}
pub use Rattle.std.proofs.lemmas.Grind.{flat_map-append}
pub use Rattle.std.proofs.lemmas.Iterator.Adapters.{YieldsList-from_vec}
pub use Rattle.std.proofs.lemmas.Iterator.Consumers.{YieldsList-at, YieldsList-end, YieldsList-from_enumerate, YieldsList-so_far, YieldsList-turn}
pub use Rattle.std.proofs.lemmas.List.{append-nil, append_cancel_left, append_cancel_right, get_or_default, length-append, length-map, map-append, map-id, take_all}
pub use Rattle.std.proofs.lemmas.List.Elements.{All-contains, All-from_recursion, Contains-append_cases, Contains-append_left, Contains-append_right, Contains-push_cases}
pub use Rattle.std.proofs.lemmas.List.Quantifiers.{all_pairs_push, position-Some}
pub use Rattle.std.proofs.lemmas.Result.{err_from_is_err_and}
pub use Rattle.std.proofs.lemmas.Slice.Eq.{bytes_eq-Decides}
pub use Rattle.std.proofs.lemmas.Str.{IsUtf8-append, IsUtf8-from_ascii, IsUtf8-nil, IsUtf8-string_bytes}
pub use Rattle.std.proofs.lemmas.Str.Ascii.{IsAscii-cons, IsAscii-nil}
pub use Rattle.std.proofs.lemmas.Str.Parse.{digit_from_value}
pub use Rattle.std.specs.Int.{IsInRange, w64}
pub use Rattle.std.specs.List.{AllByRecursion, AllPairs, Contains, concat, enumerate_from, find, flat_map, join_with_byte, list_any, slice_get, slice_index_or}
pub use Rattle.std.specs.Option.{is_some, option_and_then, option_map}
pub use Rattle.std.specs.Prelude.{Err, FitsSigned, IsTrue, IsUtf8, Ok, OnOk, Result, decimal, if◌then◌else◌, nat_eq, nat_lt, not, ◌&&◌, ◌==◌, ◌||◌, ◌↔◌}
pub use Rattle.std.specs.Str.{IsAscii, bytes_eq}
pub use Rattle.std.specs.Str.Lines.{lines}
pub use Rattle.std.specs.Str.Parse.{AllDigits, IsNumeral}
pub use Rattle.tw_asm.specs.Disassembly.{code_lines, disassembly, first_ones, goal_from, goals_from, label_at, label_line, label_places, procedure_lines, version_line}
pub use Rattle.tw_asm.specs.Fault.{AfterHead, AfterVersion, Begins, GoalFault, HasStatement, HasWords, HaveStatements, InBody, IsEmpty, IsEndFault, IsFirstFault, IsFirstGoalFault, IsLineFault, IsOutset, IsUnfinished, IsWhole, LineFault, MayBegin, MayFollow, ParserState, Stage, Start, after, after_line, at_start, empty, instructions, label_twice, labels_ahead, limit, not_forward, operand, procedures, situation, situation_from, unknown, word}
pub use Rattle.tw_asm.specs.LineAnswers.{Answers, IsFlawed}
pub use Rattle.tw_asm.specs.Parts.{Literal, Name, Natural, Number, Part, Right, Skip, Target, TypeOf, Value, container_word, head_parts, instr_parts, kind_word, leaf_words, map_word, mode_word, operand_parts, param_parts, register_part, registers_parts, scalar_word, skip_among, skip_of, sum_word, type_words, version_parts}
pub use Rattle.tw_asm.specs.Seen.{IsRead, NoName, OnlyName, Read, bytes_of, with_skip}
pub use Rattle.tw_asm.specs.Spelling.{AreCode, EncodeProcedures, EncodesProcedure, EncodesProgram, EncodesVersion, HaveWords, Placed, SkipsTo}
pub use Rattle.tw_asm.specs.Statement.{AnyName, AnyShortName, Code, EncodeParts, Encodes, EncodesInLimits, EncodesPart, EncodesWith, Goals, HasForm, HasInstr, HasOperand, HasParam, HasType, HaveForm, Head, IsExpected, IsInLimits, IsInName, IsInstrWord, IsLabelWord, IsLetter, IsName, IsShortName, IsTypeOfMode, IsVersionNumber, Label, NamesLabel, OfVersion, Registers, Statement, statement_parts}
pub use Rattle.tw_asm.specs.Written.{goal_word, line_of, part_words}
pub use Rattle.tw_asm.specs.declared.fault.AsmFault.{AsmFault}
pub use Rattle.tw_asm.specs.declared.fault.FaultNo.{FaultNo}
pub use Rattle.tw_asm.specs.declared.gathering.Begun.{Begun}
pub use Rattle.tw_asm.specs.declared.rejection.Rejection.{Rejection}
pub use Rattle.tw_asm.specs.declared.statement.First.{First}
pub use Rattle.tw_asm.specs.reading.ByForms.{IsOfOneWord, gathered_in, of_goal, of_type, with_one, word_in}
pub use Rattle.tw_asm.specs.reading.Expected.{IsExpectedBy, expectation, is_plainly_blank}
pub use Rattle.tw_asm.specs.reading.Goals.{AreLinkedCode, AreLinkedProcedures, FirstUnlinked, HasLabelsWithin, IsLinked, IsLinkedProcedure, IsLinkedTo, IsNoGoal, IsUnlinked, goals_in, section_goals}
pub use Rattle.tw_asm.specs.reading.Lines.{Line, LineContent, around, before, code_read, contained, draft_in, each, each_from, few, joined, label_in, line_in, mapped, params_from, put_first, type_from, type_in, typed, version_known, whole_type, with_type}
pub use Rattle.tw_asm.specs.reading.Operands.{Goal, at_label, both, container_in, further, is_sum, literal_in, map_in, map_word_in, mode_in, name_in, natural_in, number_in, register_in, scalar_in, target_in, text_container}
pub use Rattle.tw_asm.specs.reading.Progress.{AreClosed, AreFinished, AreNotRead, AreTextRead, AtStart, Drafted, HasSections, HeadRead, IsEmptyAt, IsFlawFault, IsGoalOf, IsLimit, IsLimitLine, IsMemory, IsNotClosed, IsNotFinished, LineRead, LinesRead, Place, Progress, Section, Stopped, TakenLine, TakenStatement, VersionRead, Within, WordsRead, begun, drafts_at, ended, labels_at, line_step, outset, progress_from, section_numbers, seen_draft, seen_label, seen_reading, seen_section, seen_stage, situation_of, stage_of, step}
pub use Rattle.tw_asm.specs.words.Lines.{operand_words, spaced, spaced_all}
pub use Rattle.tw_code.proofs.TableRows.{instr_in, instr_of, made_again, split}
pub use Rattle.tw_code.proofs.Widening.{instr_widened, widened}
pub use Rattle.tw_code.specs.declared.instr.Arithmetic.{Arithmetic}
pub use Rattle.tw_code.specs.declared.instr.Arithmetic.TheVariants.{Add}
pub use Rattle.tw_code.specs.declared.instr.DataInstr.{DataInstr}
pub use Rattle.tw_code.specs.declared.instr.Instr.{Instr}
pub use Rattle.tw_code.specs.declared.instr.LocalInstr.{LocalInstr}
pub use Rattle.tw_code.specs.declared.instr.Priority.{Priority}
pub use Rattle.tw_code.specs.declared.instr.Priority.TheVariants.{Computed, Constant}
pub use Rattle.tw_code.specs.declared.instr.Sought.{Sought}
pub use Rattle.tw_code.specs.declared.opcode.Opcode.{Opcode}
pub use Rattle.tw_code.specs.declared.opcode.TheConstants.{OPCODES}
pub use Rattle.tw_code.specs.declared.procedure.Procedure.{Procedure}
pub use Rattle.tw_code.specs.declared.version.Version.{Version}
pub use Rattle.tw_code.specs.declared.version.Version.TheVariants.{Five, Four, One, Two}
pub use Rattle.tw_code.specs.format.Operands.{ArePlain, IsPlain, gathered, made_of, plain}
pub use Rattle.tw_code.specs.format.Program.{IsInstr, IsInstrOf, IsList, IsMapOf, IsOperand, IsOperandOf, IsParam, IsParamOf, IsProcedure, IsProcedureOf, IsProgramOf, IsRegister, IsSkip, IsSubscriptOf, IsTarget, IsTypeOf, IsTypeUnderOf, IsVersioned, IsWithin, Versioned}
pub use Rattle.tw_code.specs.format.Table.{Contents, Operand, a_row, forms_in, forms_of, has_opcode, holds, if_had, opcode_in, priority_operand, row, word_of}
pub use Rattle.tw_code.specs.format.Versions.{has_maps, last_version, version_by, version_number}
pub use Rattle.tw_lexer.proofs.Breaks.{IsOneLine, one_lines_back, with_line_feed}
pub use Rattle.tw_lexer.proofs.LineLoops.{IsAtLine, all_lines, line_turn}
pub use Rattle.tw_lexer.proofs.Numerals.{one_number, one_size, shown}
pub use Rattle.tw_lexer.proofs.Once.{blank_no_word, broken_here, broken_no_line, first_word_once, line_blank, line_once}
pub use Rattle.tw_lexer.proofs.Readings.{Reads, carried, digits_read, signed_read}
pub use Rattle.tw_lexer.specs.Digits.{as_is, digits_in, is_within, signed_in}
pub use Rattle.tw_lexer.specs.Names.{all_in_name, before_colon, is_in_name, is_letter, is_name}
pub use Rattle.tw_lexer.specs.Number.{EncodesDigits, EncodesNumber, IsIn64}
pub use Rattle.tw_lexer.specs.Quoted.{escaped, hex_digit, quoted}
pub use Rattle.tw_lexer.specs.Seen.{IsRead as IsLineRead, seen}
pub use Rattle.tw_lexer.specs.Words.{Bare, IsBrokenLine, IsFirstWord, IsLine, IsWord, Quoted, Word, is_edge}
pub use Rattle.tw_lexer.specs.declared.numbers.TokenError.{TokenError}
pub use Rattle.tw_lexer.specs.declared.numbers.TokenError.TheVariants.{Form, Limit}
pub use Rattle.tw_types.proofs.Came.{on_ok}
pub use Rattle.tw_types.specs.DataType.{by_of, container_of, depth_of, element_of, has_sums, is_container_by, is_scalar, map_of, scalar_type, sums_of}
pub use Rattle.tw_types.specs.Nesting.{NestedScalar}
pub use Rattle.tw_types.specs.declared.actor.Kind.{Kind}
pub use Rattle.tw_types.specs.declared.actor.Kind.TheVariants.{Control, Leaf}
pub use Rattle.tw_types.specs.declared.data_type.MapKind.{MapKind}
pub use Rattle.tw_types.specs.declared.data_type.MapKind.TheVariants.{NoMap, Sums, Values}
pub use Rattle.tw_types.specs.declared.data_type.Scalar.{Scalar}
pub use Rattle.tw_types.specs.declared.data_type.Scalar.TheVariants.{Int, Text}
pub use Rattle.tw_types.specs.declared.param.Mode.{Mode}
pub use Rattle.tw_types.specs.declared.param.Mode.TheVariants.{Closed, Ref, Val, Write}
pub use Rattle.tw_types.specs.declared.param.Param.{Param}
