use Rattle.std.proofs.Common.{arith, ◌+◌, ◌-◌, ◌≤◌, ◌^◌, ℕ, min, subst, sym}
use Rattle.std.proofs.Math.Nat.{max-le}
use Rattle.std.proofs.lemmas.Result.{on_ok_weaker}
use Rattle.tw_stats.proofs.Sums.{within_more}
use Rattle.tw_stats.proofs.chains.Chains.add.Goals as goal

pub returns : goal.returns
returns c =
    on_ok_weaker c.deepen.result
    (λ deepened most small h.
    let bound : ℕ = min (most + c.args.steps) (2 ^ 64 - 1) in
    let low : most ≤ bound = omega (arith, small) in
    let depth : c.saturating_add-depth.result ≤ bound = omega (arith, c.deepest.ensures most h.depths, c.saturating_add-depth.ensures) in
    let before : c.args.self.now.longest ≤ bound = omega (arith, low, h.longest) in
    record {
      longest = subst (λ (n : ℕ). n ≤ bound) (sym c.max-self.ensures) (max-le before depth);
      depths = deepened bound depth (within_more c.args.self.now.depths most bound low h.depths);
    }) c.deepen.ensures
