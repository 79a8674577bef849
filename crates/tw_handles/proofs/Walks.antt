-- Passes on what the walks of `Loose` and `Handle` use of the logic.
pub use Rattle.core.specs.declared.option.Option.TheVariants.{None, Some}
pub use Rattle.tw_handles.specs.contracts.held.Held.{the_row as R}
pub use base.Fml.{flft, fsep, ftrue}
pub use base.Logic.{SProp, emp, ent, fst∗, guard_i, id⊢, never, snd∗, via}
pub use contract.Monad.{fact, fact_i, fact_use}
pub use contract.Running.{tables}
pub use denote.Builtin.{RawPtr}
pub use denote.Exit.{no, yes}
pub use denote.Param.{bounded, layout, param}
pub use denote.Param.Laws.{Laws, param_laws}
pub use denote.RattleType.{RattleType, Valss, owns}
pub use denote.RawPtr.{Ptr, Testable, block_ptr, in_a_block, lies_at, null_ptr, ptr_val, tests_null}
pub use denote.Signature.{plain, type_at, types_at}
pub use denote.Steps.{heard, nothing, only}
pub use denote.Triple.Call.{calls_at, calls_at_last}
pub use denote.Triple.Spec.{triple_of}
pub use denote.Triple.Walked.{Goes-dropped, Stays, stay_dropped, walk_of}
pub use mir.MapTy.{inst_fn}
pub use mir.Raw.{raw as bare}
pub use mir.Syntax.{a_type, dcons, dnil, impl, tnil}
pub use mir.Val.{Val, WT, has_ty, of_list, vcons, vnil, vnull, vptr, vstruct}
pub use prog.Wp.{WpFn}
pub use types.ByLocal.{alloc_all, env, free_all, get, get_in, lands_as, lands_last, look_at, pass_all, sets, sets_last}
pub use types.Kit.{ !, Goal, Item, Seq, Step, at_ret, await, by, drop, feq_i, feq_l, fjoin, fpack, fpick, fsplit, given, join, keep, later, learn, move, pick, qed, raw, rewrite, some, split, split3, step, suffices, use0, use1, ‵, ◌$◌, ◌∵◌, ◌⊛◌}
pub use types.Logic.{Logic, sem}
pub use types.Part.{agg, sub, whole}
pub use types.Run.{and_then, bin, blocks, branches, enter, exec, first, fld, lit, no_more, of_opd, returns, stop}
