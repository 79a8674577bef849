use Rattle.std.proofs.Common.{◌≡◌, ◌<◌, [], ℕ, get_or, length, map}
use Rattle.tw_host.proofs.close.first_longer.Given as goal

abbrev pub invariant-loop-j : goal.invariant-loop-j
invariant-loop-j g l = (i : ℕ) → i < l.j → get_or l.found i 0 ≡ length (get_or (map (λ s. s.events.items) l.seats) i [])
