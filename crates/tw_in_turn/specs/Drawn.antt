-- The words that a seed draws, by the generator SplitMix64 of the library rand_xoshiro: one for each `seed % 8 + 1` steps. So steps with
-- the same word follow one another, the more of them the larger that remainder is.
use Rattle.std.specs.Prelude.{ℕ, ◌+◌, ◌*◌, ◌/◌, ◌%◌, ◌^◌}
use Rattle.rand_core.specs.Steps.{stream_of}
use Rattle.rand_core.specs.Stream.{next_u64}
use Rattle.rand_xoshiro.specs.SplitMix64.{splitmix_steps}

-- returns the generator's state for a step
abbrev pub state_for : ℕ → ℕ → ℕ
state_for seed step = (seed + step / (seed % 8 + 1) * 0x9e3779b97f4a7c15 % 2 ^ 64) % 2 ^ 64

unfoldable pub word_for : ℕ → ℕ → ℕ
word_for seed step = (next_u64 (stream_of splitmix_steps (state_for seed step))).0

-- returns the index of the actor with which a step's search for work begins
abbrev pub place_for : ℕ → ℕ → ℕ → ℕ
place_for seed step count = word_for seed step % count
