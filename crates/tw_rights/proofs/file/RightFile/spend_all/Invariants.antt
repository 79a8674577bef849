use Rattle.std.proofs.Common.{◌≡◌, ◌≤◌, ◌<◌, ℕ, length, replicate, take}
use Rattle.std.specs.declared.option.Option.TheVariants.{None}
use Rattle.std.specs.Prelude.{slice_index_or}
use Rattle.tw_rights.proofs.file.RightFile.spend_all.Given as goal

abbrev pub invariant-loop-place : goal.invariant-loop-place
invariant-loop-place l = record {
  spent : (place : ℕ) → place < l.place → slice_index_or l.self place None ≡ None;
  count : length l.self ≡ 16;
  end : l.place-end ≤ 16;
  rest : (place : ℕ) → l.place-end ≤ place → slice_index_or l.self place None ≡ None;
}
