-- Passes on what the files here use of other crates and of the definitions.
pub use Rattle.std.proofs.Common.{Bool, Bor, IsSome, List, T, [], ap, arith, cond, false, get_or, inl, inr, is_some, length, map, nat_eq, nat_lt, not, option_map, refl, rules, slice_index_or, slice_set, subst, suc, sym, take, true, zero, ℕ, ◌&&◌, ◌++◌, ◌+◌, ◌-◌, ◌<◌, ◌||◌, ◌∙◌, ◌∷◌, ◌≡◌, ◌≤◌, ◌⊎◌}
pub use Rattle.std.proofs.lemmas.Bool.{and_from, and_parts}
pub use Rattle.std.proofs.lemmas.Bool.Decides.{nat_tests}
pub use Rattle.std.proofs.lemmas.List.Sorted.{All-permutation, Contains-permutation, IsNonDecreasingBy-from_sort, IsPermutation-cons, IsPermutation-map, IsPermutation-middle, IsPermutation-pop_more, IsPermutation-refl, IsPermutation-sym, IsPermutation-trans, answers_always, length_permutation, sum_by-IsPermutation}
pub use Rattle.std.proofs.lemmas.Option.{slice_get-get_or, slice_get_past, slice_get_read, slice_get_within}
pub use Rattle.std.specs.BinaryHeap.{IsHeap, IsUpperBound, heap_items, heap_len}
pub use Rattle.std.specs.Cmp.{nat_cmp_total}
pub use Rattle.std.specs.FinMap.{FinMap, empty, entries, entries-insert, entries_sorted, find, from_entries, get, get-empty, get-entries, get-from_entries, get-insert, get-remove, insert, is_sorted, len, len-empty, len-entries, len-insert, nat_cmp-IsAntisymmetric, remove, same_map}
pub use Rattle.std.specs.HashMap.{hash_map_len, spare}
pub use Rattle.std.specs.List.{AllByRecursion, AllZip, Contains, IsDistinct, list_all, list_any, sum_by}
pub use Rattle.std.specs.List.Sorted.{IsNonDecreasingBy, IsPermutation}
pub use Rattle.std.specs.Option.{IfNone, IfSome, option_copied}
pub use Rattle.std.specs.Ordering.{eq_by_cmp, is_eq, is_lt, nat_cmp}
pub use Rattle.std.specs.Prelude.{option_and_then, slice_get}
pub use Rattle.std.specs.Vec.{vec_capacity, vec_len}
pub use Rattle.std.specs.declared.cmp.Ordering.{Ordering}
pub use Rattle.std.specs.declared.cmp.Ordering.TheVariants.{Equal, Greater, Less}
pub use Rattle.std.specs.declared.option.Option.TheVariants.{None, Some}
pub use Rattle.tw_rights.specs.declared.arg.Arg.{Arg}
pub use Rattle.tw_rules.specs.Agendas.{HasMoved, HasOneMoreAsk, HasReleased, IsSameAgenda}
pub use Rattle.tw_rules.specs.Entries.{entry_of, rule_in, rules_in}
pub use Rattle.tw_rules.specs.Indexed.{AreAsks, AreFitting, AreReleases, IsAgenda, IsFirstAskable, IsIndexed, IsLeastPending, IsTrimmed, Rules, agenda_room, has_place, is_askable, is_some_unasked, open_count, rooms_of}
pub use Rattle.tw_rules.specs.Numbers.{IsLeast, Rises, from_first, numbers_in}
pub use Rattle.tw_rules.specs.Table.{AreArgsOf, FitsStages, SuitsMode, SuitsStage, Table, erased_arg, erasure, new_rule, read_right, right_at, room_for, stage_at, staged}
pub use Rattle.tw_rules.specs.declared.agenda.Agenda.{Agenda}
pub use Rattle.tw_rules.specs.declared.erased.ErasedRule.{ErasedRule}
pub use Rattle.tw_types.proofs.Came.{unsome}
pub use Rattle.tw_types.proofs.Elements.{all_at, appended_cases, appended_last, appended_old, contains_cases, contains_here, contains_later, contains_none, first_there, get_set_other, get_set_same, mapped_from, mapped_has, none_past}
pub use Rattle.tw_types.proofs.Numbers.{lt_test, nat_apart, nat_flips, nat_is, nat_same, same_or_apart, test_lt}
pub use Rattle.tw_types.proofs.Rising.{first, less, second}
pub use Rattle.tw_types.proofs.Totals.{get-remove_same, insert_other, insert_same, part, part-le-total, remove_other, total-empty, total-insert, total-remove}
pub use Rattle.tw_types.specs.Rule.{RuleOf, RulesOf, at_stage, first_stage, first_unasked, has_unasked, is_releasable, is_settled, is_unasked, next_ask, next_release}
pub use Rattle.tw_types.specs.declared.param.Param.{Param}
pub use Rattle.tw_types.specs.declared.stage.Stage.{Stage}
pub use Rattle.tw_types.specs.declared.stage.Stage.TheVariants.{Free, Ready, Unasked, Waiting}
