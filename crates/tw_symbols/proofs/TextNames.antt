-- Imports for the proofs here: the definitions of symbolic assembly, of words and of names.
pub use denote.Ref.{Bor}
pub use Rattle.std.proofs.Common.{Bool, Bor, Err, IfOk, IfSome, List, None, Ok, Option, Result, Some, [], ap, append_assoc, arith, cond, drop, eqb, false, filter, get_or, if◌then◌else◌, inl, inr, length, map, refl, rules, subst, suc, sym, take, true, zero, ℕ, ◌%◌, ◌++◌, ◌+◌, ◌-◌, ◌/◌, ◌<◌, ◌==◌, ◌∙◌, ◌∷◌, ◌≡◌, ◌≢◌, ◌≤◌, ◌⊎◌}
pub use Rattle.std.proofs.Math.Seq.{drop-cons, split_at, take-suc}
pub use Rattle.std.proofs.lemmas.Bool.{eqb-true}
pub use Rattle.std.proofs.lemmas.Bool.Decides.{eqb_tells, nat_tests}
pub use Rattle.std.proofs.lemmas.Iterator.Consumers.{YieldsList-at, YieldsList-end, YieldsList-from_enumerate, YieldsList-so_far, YieldsList-turn}
pub use Rattle.std.proofs.lemmas.Iterator.Splits.{YieldsList-from_lines}
pub use Rattle.std.proofs.lemmas.List.{append-nil, drop-drop, drop-map, drop_all, flat_map_more, get_or-drop, get_or-set_other, get_or-set_same, length-append, length-drop, length-map, length-set, map-append, take-append-drop, take-map, take_all, take_at}
pub use Rattle.std.proofs.lemmas.Result.{IfOk-weaker, err_from_is_err_and, on_ok_weaker}
pub use Rattle.std.proofs.lemmas.Slice.Eq.{bytes_eq-Decides}
pub use Rattle.std.proofs.lemmas.Str.{IsCharBoundary-before_ascii, IsUtf8-append, IsUtf8-nil, IsUtf8-take}
pub use Rattle.std.specs.List.{AllByRecursion, filter_map, find, flat_map, onto_first, slice_get, slice_split}
pub use Rattle.std.specs.Option.{is_some, option_map_or, option_or, unwrap_or}
pub use Rattle.std.specs.Prelude.{IsUtf8, codes, decimal, is_none, nat_le, nat_lt, not, option_map, slice_index, slice_set, ◌&&◌, ◌||◌}
pub use Rattle.std.specs.Result.{IsErr, result_ok}
pub use Rattle.std.specs.Str.{bytes_eq}
pub use Rattle.std.specs.Str.Lines.{lines, lines_of_parts, strip_carriage_return}
pub use Rattle.tw_code.specs.declared.opcode.Opcode.{Opcode}
pub use Rattle.tw_code.specs.format.Table.{forms_of, opcode_in}
pub use Rattle.tw_code.specs.format.Versions.{last_version}
pub use Rattle.tw_lexer.proofs.Breaks.{HasNoLineFeed}
pub use Rattle.tw_lexer.proofs.Colons.{before, found_before}
pub use Rattle.tw_lexer.proofs.LineLoops.{all_lines, line_turn}
pub use Rattle.tw_lexer.proofs.Once.{blank_no_word, first_word_once, gap_once, word_here}
pub use Rattle.tw_lexer.proofs.Readings.{digits_same, signed_same}
pub use Rattle.tw_lexer.proofs.Texts.{edge_small, parting_small, rest_utf8}
pub use Rattle.tw_lexer.proofs.Utf8.{cut_front, cut_rest, one_ascii}
pub use Rattle.tw_lexer.specs.Digits.{all_digits, digits_in}
pub use Rattle.tw_lexer.specs.Names.{all_in_name, before_colon, is_in_name, is_letter}
pub use Rattle.tw_lexer.specs.Seen.{seen}
pub use Rattle.tw_lexer.specs.Words.{Bare, IsAtEdge, IsAtWord, IsBare, IsBlank, IsBroken, IsFirstWord, IsGap, IsWord, Quoted, Word, is_parting}
pub use Rattle.tw_lexer.specs.reading.Next.{IsAfterGap, is_at_edge}
pub use Rattle.tw_symbols.specs.declared.meaning.Bank.{Bank}
pub use Rattle.tw_symbols.specs.declared.meaning.Binding.{Binding}
pub use Rattle.tw_symbols.specs.declared.meaning.Expected.{Expected}
pub use Rattle.tw_symbols.specs.declared.meaning.Listed.{Listed}
pub use Rattle.tw_symbols.specs.declared.meaning.Origin.{Origin}
pub use Rattle.tw_symbols.specs.declared.rejection.NameError.{NameError}
pub use Rattle.tw_symbols.specs.Answers.{IsNamed, IsRenamedBy, begins_with_p, is_plainly_blank, lists_entry, named_by, pieces_left}
pub use Rattle.tw_symbols.specs.Expansion.{ExpandsTo, HasNames}
pub use Rattle.tw_symbols.specs.Heads.{procedures_of, with_head, with_line, with_lines, with_name, with_words}
pub use Rattle.tw_symbols.specs.LineNames.{argument_of, at_head, bank_of_mode, begins, begins_at, begins_first, counted, expected_of, is_names_line, is_unnamed, list_name, name_before, names_after_constant, names_after_let, names_after_list, number_in, number_of, parameters, procedure_name, register_in, register_of, value_after, value_types}
pub use Rattle.tw_symbols.specs.Lines.{AreTaken, AreWords, Broken, HasNoHead, IsTail, IsTaken, Line, StartWith, StartsWith, Worded, begins_procedure, has_quote, is_sign, line_words, pieces, pieces_after, some_piece}
pub use Rattle.tw_symbols.specs.Meanings.{Head, Names, Procedures, Table, above, and_then, is_bank, is_listed, is_name, is_origin, known, lists, may_name, meaning, name_register, names_after_reading, no_names, or_else, with_constant, with_hidden, with_listed, with_read, with_register}
pub use Rattle.tw_symbols.specs.Renamed.{AreLines, IsLine, IsRenamed}
pub use Rattle.tw_symbols.specs.Seen.{now, seen_entry, seen_names, seen_procedures, seen_table, texts}
pub use Rattle.tw_symbols.specs.Symbols.{head_names, line_names}
