-- Passes on what the files here use of other crates and of the definitions.
pub use Rattle.std.proofs.Common.{Bool, IfOk, IfSome, IsSome, IsTrue, List, None, Some, [], ap, arith, cond, drop, false, fold, get_or, inl, inr, length, length-append, map, not, of_z, pos, refl, replicate, reverse, set, subst, suc, sym, take, to_z, true, vec_len, w64, zero, ℕ, ℤ, ◌&&◌, ◌*◌, ◌++◌, ◌+◌, ◌-◌, ◌<◌, ◌==◌, ◌||◌, ◌↔◌, ◌∙◌, ◌∷◌, ◌≡◌, ◌≤◌, ◌⊎◌}
pub use Rattle.std.proofs.lemmas.List.{append-nil, length-map, map-append, reverse-append, take_at, take_more}
pub use Rattle.std.proofs.lemmas.Option.{slice_get-get_or}
pub use Rattle.std.proofs.lemmas.Result.{err_from_is_err_and}
pub use Rattle.std.proofs.lemmas.Slice.Zip.{either_empty_from_Zip}
pub use Rattle.std.specs.BTreeSet.{BTreeSet, Updates}
pub use Rattle.std.specs.Cmp.{eq_by_cmp_equiv, nat_cmp_total, tied_itself}
pub use Rattle.std.specs.FinMap.{FinMap, empty, get, insert, len-entries, nat_cmp-IsAntisymmetric, remove}
pub use Rattle.std.specs.FinSet.{contains, contains-from_list, len}
pub use Rattle.std.specs.Iterator.Adapters.{zip_first, zip_second}
pub use Rattle.std.specs.Ordering.{eq_by_cmp, is_eq, nat_cmp}
pub use Rattle.std.specs.Prelude.{Result, slice_get}
pub use Rattle.std.specs.Slice.Iter.{iter_rest}
pub use Rattle.std.specs.declared.option.Option.{Option}
pub use Rattle.tw_code.specs.declared.instr.Instr.{Instr}
pub use Rattle.tw_code.specs.machine.Arguments.{MovedArgs, all_pass, moved_args, values_suit}
pub use Rattle.tw_code.specs.machine.Machine.{local_step, local_steps}
pub use Rattle.tw_code.specs.machine.Position.{Loop, Position, after_end, turned, with_last}
pub use Rattle.tw_code.specs.machine.Rights.{Rights, first_rights}
pub use Rattle.tw_code.specs.machine.State.{Frame, filled, ids_in, values_in}
pub use Rattle.tw_datum.proofs.Puts.{add_takes, put_takes}
pub use Rattle.tw_datum.proofs.Subscripts.{kind_found, nothing_after}
pub use Rattle.tw_datum.specs.Kept.{FitsType, KeptDatum, closed_datum, content_of, datum_if}
pub use Rattle.tw_datum.specs.Puts.{TakesValue}
pub use Rattle.tw_instr.specs.Arguments.{arg_of, test_of}
pub use Rattle.tw_instr.specs.Attempts.{IsStopped, MayFail, stopped_by}
pub use Rattle.tw_instr.specs.NoticeSets.{is_among, is_in}
pub use Rattle.tw_instr.specs.Parts.{bare, data_of, store_of}
pub use Rattle.tw_instr.specs.declared.failure.Failure.{Failure}
pub use Rattle.tw_instr.specs.declared.stopped.Stopped.{Stopped}
pub use Rattle.tw_types.proofs.Came.{copied_there, on_err, on_ok}
pub use Rattle.tw_types.proofs.Mapped.{each_same, empty_mapped, get_mapped, insert_mapped, mapped_same, remove_mapped}
pub use Rattle.tw_types.proofs.Maps.{found_view, if_none, if_some, inserted_view, remove_insert, removed_view, written_view}
pub use Rattle.tw_types.proofs.NoticeOrder.{notice_cmp-IsAntisymmetric, notice_cmp_total}
pub use Rattle.tw_types.proofs.Outcomes.{same_went, went_first}
pub use Rattle.tw_types.proofs.Passed.{drop_write_live, drop_write_write, insert_container, insert_live, none_is, store_live, store_scalar, store_write}
pub use Rattle.tw_types.proofs.Settled.{absent_is, changed_is, here, here_is, same, settled_gone, settled_held, settled_written, with_live}
pub use Rattle.tw_types.specs.Notices.{Notices, notice_cmp, with_notices}
pub use Rattle.tw_types.specs.Outcome.{Outcome, Went, outcome_of, ◌>>=◌}
pub use Rattle.tw_types.specs.Store.{Contains, Data, Datum, Store, added, drop_read_within, is_closed, is_unheld, members_of, notice_to, settled, subscribers_cleared}
pub use Rattle.tw_types.specs.StoreCalls.{entry_at, notices_of_stored, notices_of_write_dropped, one_read_more, one_write_less, one_write_more, set_to, size_at, store_after, subscript_after, subscripts_at, value_put, with_entry, with_member, with_subscriber}
pub use Rattle.tw_types.specs.Value.{blank_of, scalar_of}
pub use Rattle.tw_types.specs.ValueOrder.{Subscript}
pub use Rattle.tw_types.specs.declared.cause.Cause.{Cause}
pub use Rattle.tw_types.specs.declared.notice.Notice.{Notice}
pub use Rattle.tw_types.specs.declared.value.Value.{Value}
