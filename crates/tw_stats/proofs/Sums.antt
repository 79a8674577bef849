-- Counts and chains with one more event.
use Rattle.std.proofs.Common.{arith, ◌≡◌, ◌+◌, ◌-◌, ◌<◌, ◌≤◌, ◌^◌, ◌==◌, ℕ, Bool, true, false, min, sym, subst}
use Rattle.tw_stats.specs.Sums.{AddUp, AreWithin, IsShare, one_if, without_instruction}
use Rattle.tw_stats.specs.Tables.{IsAdded, IsWithin, number_at, sum_of}
use Rattle.tw_stats.specs.declared.counts.Counts.{Counts}
use Rattle.tw_stats.specs.declared.depths.Depths.{Depths}
use Rattle.tw_stats.specs.declared.share.Share.{Share}
use Rattle.tw_stats.specs.declared.table.Table.{Table}
use Rattle.tw_stats.proofs.Tables.{at_most_sum}

one_at_most : (b : Bool) → one_if b ≤ 1
one_at_most true = omega arith
one_at_most false = omega arith

-- the counts still add up with the share of one more event
pub sums_added : (share : Share) (procedure : ℕ) (old new : Counts) → new.events ≡ min (old.events + 1) (2 ^ 64 - 1) → new.steps ≡ min (old.steps + share.steps) (2 ^ 64 - 1)
    → (sum_of old.kinds + 1 < 2 ^ 64 → IsAdded old.kinds share.kind 1 new.kinds) → (sum_of old.tasks + share.tasks < 2 ^ 64 → IsAdded old.tasks procedure share.tasks new.tasks)
    → (sum_of old.instructions + share.instructions < 2 ^ 64 → IsAdded old.instructions procedure share.instructions new.instructions) → IsShare share → AddUp old → AddUp new
sums_added share procedure old new events steps kinds tasks instructions is before small =
    let h = before (omega arith) in
    let one = one_at_most (share.kind == 0) in
    let low = at_most_sum old.kinds 0 in
    let kind = kinds (omega (arith, h.kinds)) in
    let task = tasks (omega (arith, h.kinds, h.tasks, is.tasks)) in
    let instruction = instructions (omega (arith, h.instructions, is.steps)) in
    record {
      kinds = omega (arith, kind.sum, h.kinds);
      tasks = omega (arith, task.sum, h.tasks, is.tasks, kind.each 0);
      instructions = omega (arith, instruction.sum, h.instructions, is.steps, kind.each 0, kind.each 4, kind.each 5, kind.each 6);
    }

more : (t : Table) (few many : ℕ) → few ≤ many → IsWithin t few → IsWithin t many
more t few many low h k = let here = h k in omega arith

pub within_more : (d : Depths) (few many : ℕ) → few ≤ many → AreWithin d few → AreWithin d many
within_more d few many low h = record {
  tasks = more d.tasks few many low h.tasks;
  rules = more d.rules few many low h.rules;
  answers = more d.answers few many low h.answers;
  written = more d.written few many low h.written;
}
