-- Passes on what the files here use of other crates and of the definitions.
pub use Rattle.std.proofs.Common.{Bool, List, None, Option, Some, [], ap, arith, drop, false, get_or, inl, inr, leb, length, max, min, not, refl, set, subst, suc, sym, take, true, zero, ℕ, ◌&&◌, ◌*◌, ◌++◌, ◌+◌, ◌-◌, ◌<◌, ◌∙◌, ◌∷◌, ◌≡◌, ◌≢◌, ◌≤◌, ◌⊎◌}
pub use Rattle.std.proofs.lemmas.Bool.{cases_lt, eqb-false, eqb-true, le-leb, leb-false, leb-true}
pub use Rattle.std.proofs.lemmas.List.{drop_more, get_or-set_other, length-map, length-set, take_more}
pub use Rattle.std.proofs.lemmas.Option.{get_or_from_slice_get, slice_get-get_or, slice_get_within}
pub use Rattle.std.specs.Option.{option_and_then}
pub use Rattle.std.specs.Prelude.{if◌then◌else◌, is_some, nat_lt, slice_get, ◌==◌}
pub use Rattle.tw_budget.specs.Frames.{IsWithinBudget, LoopsFit}
pub use Rattle.tw_budget.specs.Longest.{AtMost, IsLongest, Reaches, Tail}
pub use Rattle.tw_budget.specs.Rows.{IsRow, RowsFrom, greatest_length}
pub use Rattle.tw_budget.specs.Sound.{IsSound}
pub use Rattle.tw_budget.specs.declared.row.Row.{Row}
pub use Rattle.tw_code.specs.accepting.Flow.{data_flow, flow_of, flows, is_stop, local_flow}
pub use Rattle.tw_code.specs.accepting.Structure.{IsStructured, block_of, depth_after, depth_of, end_from, end_of, ends_well, is_in_block, is_matched, same_block, skips_in_block, structure_rejection}
pub use Rattle.tw_code.specs.accepting.Walk.{IsBudget, IsOverBudget, IsWalk, Rest, greatest_budget, moved, next}
pub use Rattle.tw_code.specs.declared.flow.Flow.{Flow}
pub use Rattle.tw_code.specs.declared.flow.Flow.TheVariants.{Begin, Branch, Close, Jump, Stop, Straight}
pub use Rattle.tw_code.specs.declared.flow.Way.{Way}
pub use Rattle.tw_code.specs.declared.flow.Way.TheVariants.{Completed, Skipped}
pub use Rattle.tw_code.specs.declared.instr.Instr.{Instr}
pub use Rattle.tw_code.specs.machine.Position.{Cursor, Loop, after_end, goal_of, turned, with_last}
