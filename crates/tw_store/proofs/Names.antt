-- Passes on what the files here use of other crates and of the definitions.
pub use Rattle.slab.proofs.SlabLemmas.{Contains-cons, Contains-cons_cases, Contains-entries}
pub use Rattle.slab.specs.Slab.{Slab, entries_from}
pub use Rattle.std.proofs.Common.{Bool, Contains, IfNone, IfOk, IfSome, IsSome, List, None, OnErr, OnOk, Some, [], ap, arith, cond, drop, false, fold, get_or, inl, inr, is_some, length, map, min, of_z, option_map, pos, refl, replicate, rules, set, slice_get, slice_set, subst, suc, sym, take, to_z, to_z-of_z, true, w64, zero, ℕ, ◌%◌, ◌*◌, ◌++◌, ◌+◌, ◌-◌, ◌<◌, ◌^◌, ◌∙◌, ◌∷◌, ◌≡◌, ◌≢◌, ◌≤◌, ◌⊎◌}
pub use Rattle.std.proofs.lemmas.Bool.Decides.{eqb_tells}
pub use Rattle.std.proofs.lemmas.List.{get_or-map, get_or-set_other, get_or-set_same, length-map, length-set, map-set, take_all}
pub use Rattle.std.proofs.lemmas.List.Sums.{sum_by-cons, sum_by_more}
pub use Rattle.std.proofs.lemmas.Option.{slice_get-get_or, slice_get_cases}
pub use Rattle.std.specs.Cmp.{nat_cmp_total}
pub use Rattle.std.specs.FinMap.{FinMap, find, from_entries, get, get-from_entries, get-insert, get-remove, insert, len-empty, len-entries, nat_cmp-IsAntisymmetric, remove, same_map}
pub use Rattle.std.specs.List.{sum_by}
pub use Rattle.std.specs.Option.{option_copied}
pub use Rattle.std.specs.Ordering.{eq_by_cmp, nat_cmp}
pub use Rattle.std.specs.VecDeque.{deque_capacity, deque_len}
pub use Rattle.std.specs.declared.alloc.Global.{Global}
pub use Rattle.std.specs.declared.collections.VecDeque.{VecDeque}
pub use Rattle.std.specs.declared.option.Option.{Option}
pub use Rattle.std.specs.declared.result.Result.{Result}
pub use Rattle.std.specs.declared.result.Result.TheVariants.{Err, Ok}
pub use Rattle.tw_datum.specs.Kept.{IsMemberAdded, closed_datum, datum_if, with_kept_member}
pub use Rattle.tw_rights.specs.Rights.{Right}
pub use Rattle.tw_store.specs.Amounts.{byte_count, capped, member_count, text_bytes, text_bytes_if}
pub use Rattle.tw_store.specs.Calls.{HasMemberRoom, closed_by}
pub use Rattle.tw_store.specs.Parts.{HaveOtherRoom, HaveRoom, Queues, data_room_of, notices_in, room_of, rooms_in, served_of}
pub use Rattle.tw_store.specs.Placed.{PlacedDatum, PlacedMembers, id_of, ids_in}
pub use Rattle.tw_store.specs.Served.{AreOwn, HasNoticeRoom, IsHere, IsLeft, IsNow, IsUnchanged, KeepsOtherRooms, KeepsPlaces, KeepsRooms, KnowsPlaces, Served, queued, waiting_for}
pub use Rattle.tw_store.specs.Slots.{AllAt, AreApart, AreSeated, IsAt, IsAtPlace, IsChanged, IsChangedAt, IsInsertedAt, IsSettled, IsSlotOf, Remains, Slots, WasThere, datum_in, live_of, place_in, places_of, shown, slot_at}
pub use Rattle.tw_store.specs.declared.member.Member.{Member}
pub use Rattle.tw_store.specs.declared.slot.Slot.{Slot}
pub use Rattle.tw_types.proofs.Came.{copied_there, on_err, on_ok}
pub use Rattle.tw_types.proofs.Drops.{drop_absent, drop_held, drop_last, drop_lowest, drop_unread}
pub use Rattle.tw_types.proofs.Passed.{drop_write_write, insert_container, look_kept, retrieve_value, store_scalar, store_write}
pub use Rattle.tw_types.proofs.Settled.{changed_is, here_is, same, settled_gone, settled_held, settled_written, with_live}
pub use Rattle.tw_types.proofs.Totals.{part, total-empty, total-insert}
pub use Rattle.tw_types.specs.DataType.{is_container_by, is_map_of, is_scalar}
pub use Rattle.tw_types.specs.Room.{HasReadRoom, HasWriteRoom}
pub use Rattle.tw_types.specs.Store.{Data, Datum, Maps, Store, added, drop_read_within, is_closed, is_unheld, members_of, notice_to, settled, subscribers_cleared}
pub use Rattle.tw_types.specs.StoreCalls.{changed, count_in, created, entries_in, entry_at, inserted, member_at, members_in, notices_after, one_read_more, one_write_less, one_write_more, read_copied, set_to, size_at, store_after, subscript_after, subscripts_at, subscripts_of, value_at, value_in, value_put, with_entry, with_member, with_subscriber}
pub use Rattle.tw_types.specs.Value.{scalar_of}
pub use Rattle.tw_types.specs.ValueOrder.{Subscript, named, value_cmp}
pub use Rattle.tw_types.specs.declared.notice.Notice.{Notice}
pub use Rattle.tw_types.specs.declared.notice.Subscriber.{Subscriber}
pub use Rattle.tw_types.specs.declared.value.Value.{Value}
