-- Passes on what the files here use of other crates and of the definitions.
pub use Rattle.std.proofs.Common.{Bool, Err, List, None, Ok, Option, Result, Some, [], ap, append_assoc, arith, cond, drop, eqb, false, get_or, if◌then◌else◌, inl, inr, length, lit<, ltb, map, refl, rules, subst, suc, sym, take, true, zero, ℕ, ℤ, ◌++◌, ◌+◌, ◌-◌, ◌<◌, ◌==◌, ◌^◌, ◌∙◌, ◌∷◌, ◌≡◌, ◌≤◌, ◌⊎◌}
pub use Rattle.std.proofs.lemmas.Bool.{cases_lt, eqb-true, le-ltb, ltb-false, ltb-true}
pub use Rattle.std.proofs.lemmas.List.{append-nil, drop_at, get_or-drop, get_or-take, get_or_past, length-append, length-take, nil_from_length, take-append-drop, take_all, take_at, take_more}
pub use Rattle.std.proofs.lemmas.List.Elements.{All-from_recursion}
pub use Rattle.std.proofs.lemmas.Result.{err_from_is_err_and}
pub use Rattle.std.specs.List.{AllByRecursion, concat, find, flat_map}
pub use Rattle.tw_binary.specs.Reading.{Fails, Reading, as_is, both, container_in, content_at, contents_at, counted, gathers, made_at, many, map_in, operand_at, then_at, type_at}
pub use Rattle.tw_binary.specs.Spelling.{Item, byte, container_code, counted_items, encoding, instr_items, kind_code, leaf_items, magic, map_code, mode_code, nested_items, number, operand_items, param_items, procedure_items, register_items, scalar_code, scalar_items, target_code, text_items, type_items, values_items, version_items, wide}
pub use Rattle.tw_binary.specs.declared.fault.Broken.{Broken}
pub use Rattle.tw_binary.specs.declared.fault.FaultNo.{FaultNo}
pub use Rattle.tw_binary.specs.declared.fault.FaultNo.TheVariants.{Limit, Magic, Nesting, Trailing, Unknown, Utf8}
pub use Rattle.tw_binary.specs.declared.fault.Stop.{Stop}
pub use Rattle.tw_code.proofs.TableRows.{code_known, instr_in, instr_of, is_made, made_again, made_row, operands_of, split}
pub use Rattle.tw_code.specs.declared.form.Form.{Form}
pub use Rattle.tw_code.specs.declared.form.Form.TheVariants.{Args, Callee, Iterations, Literal, Number, Right, Skip, Target, TypeOf, Value}
pub use Rattle.tw_code.specs.declared.instr.Instr.{Instr}
pub use Rattle.tw_code.specs.declared.opcode.Opcode.{Opcode}
pub use Rattle.tw_code.specs.declared.operands.Operands.{Operands}
pub use Rattle.tw_code.specs.declared.procedure.Procedure.{Procedure}
pub use Rattle.tw_code.specs.declared.version.Version.{Version}
pub use Rattle.tw_code.specs.declared.version.Version.TheVariants.{Five, Four, One, Two}
pub use Rattle.tw_code.specs.format.Program.{IsInstr, IsInstrOf, IsList, IsMapOf, IsOperand, IsOperandOf, IsParamOf, IsProcedure, IsProcedureOf, IsProgram, IsProgramOf, IsRegister, IsSubscriptOf, IsTarget, IsTypeOf, IsTypeUnderOf, IsVersioned, IsWithin, Versioned}
pub use Rattle.tw_code.specs.format.Sink.{seen}
pub use Rattle.tw_code.specs.format.Table.{Content, Contents, Operand, Row, a_row, code_of, forms_in, forms_of, has_opcode, holds, if_had, opcode_at, row, row_of, since}
pub use Rattle.tw_code.specs.format.Versions.{has_maps, has_since, has_texts}
pub use Rattle.tw_types.specs.DataType.{by_of, container_of, depth_of, has_sums, is_scalar, scalar_type}
pub use Rattle.tw_types.specs.Nesting.{NestedScalar}
pub use Rattle.tw_types.specs.Result.{◌>>=◌}
pub use Rattle.tw_types.specs.declared.actor.Kind.{Kind}
pub use Rattle.tw_types.specs.declared.data_type.MapKind.{MapKind}
pub use Rattle.tw_types.specs.declared.data_type.MapKind.TheVariants.{NoMap, Sums, Values}
pub use Rattle.tw_types.specs.declared.data_type.Scalar.{Scalar}
pub use Rattle.tw_types.specs.declared.data_type.Scalar.TheVariants.{Int, Text}
pub use Rattle.tw_types.specs.declared.param.Mode.{Mode}
pub use Rattle.tw_types.specs.declared.param.Mode.TheVariants.{Closed, Ref, Val, Write}
pub use Rattle.tw_types.specs.declared.param.Param.{Param}
