-- Statistics that add up.
use Rattle.std.specs.Prelude.{◌≡◌, ◌+◌, ◌-◌, ◌<◌, ◌≤◌, ◌^◌, ◌==◌, ℕ, Bool, if◌then◌else◌}
use Rattle.tw_stats.specs.Tables.{IsWithin, number_at, sum_of}
use Rattle.tw_stats.specs.declared.chains.Chains.{Chains}
use Rattle.tw_stats.specs.declared.counts.Counts.{Counts}
use Rattle.tw_stats.specs.declared.depths.Depths.{Depths}
use Rattle.tw_stats.specs.declared.share.Share.{Share}
use Rattle.tw_stats.specs.declared.stats.Stats.{Stats}
use Rattle.tw_stats.specs.declared.stats_builder.StatsBuilder.{StatsBuilder}

abbrev pub one_if : Bool → ℕ
one_if test = if test then 1 else 0

-- returns a number for each of the kinds of events that execute no instruction: Take, Ask, Deliver and Release
abbrev pub without_instruction : (ℕ → ℕ) → ℕ
without_instruction number = number 0 + (number 4 + (number 5 + number 6))

-- the share of an event: a Take takes a task, and a step is an instruction or an event without one
pub record IsShare (s : Share) : Type 0 where
  pub tasks : s.tasks ≡ one_if (s.kind == 0)
  pub steps : s.steps ≡ s.instructions + without_instruction (λ k. one_if (s.kind == k))

-- the sums over kinds of events and over procedures
pub record AreSums (c : Counts) : Type 0 where
  -- the kinds' events are all
  pub kinds : sum_of c.kinds ≡ c.events
  -- the procedures' tasks are those that are taken
  pub tasks : sum_of c.tasks ≡ number_at c.kinds 0
  -- the procedures' instructions are all steps but the events without one
  pub instructions : sum_of c.instructions + without_instruction (number_at c.kinds) ≡ c.steps

-- holds if the counts add up; counts of 2^64 - 1 events and steps may be too small
abbrev pub AddUp : Counts → Type 0
AddUp c = c.events + c.steps < 2 ^ 64 - 1 → AreSums c

-- statistics whose counts add up, and whose longest chain has no more steps than all events
pub record AddsUp (s : Stats) : Type 0 where
  pub counts : AddUp s.counts
  pub chain : s.chain ≤ s.counts.steps

-- the lengths of chains, of which none has more steps than this
pub record AreWithin (d : Depths) (most : ℕ) : Type 0 where
  pub tasks : IsWithin d.tasks most
  pub rules : IsWithin d.rules most
  pub answers : IsWithin d.answers most
  pub written : IsWithin d.written most

pub record AreChains (c : Chains) (most : ℕ) : Type 0 where
  pub longest : c.longest ≤ most
  pub depths : AreWithin c.depths most

-- the builder of statistics that add up
pub record IsTally (b : StatsBuilder) : Type 0 where
  pub fits : b.counts.steps < 2 ^ 64
  pub counts : AddUp b.counts
  pub chains : AreChains b.chains b.counts.steps
