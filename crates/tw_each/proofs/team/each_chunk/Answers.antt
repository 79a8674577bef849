use Rattle.tw_each.proofs.Names.{IfOk-weaker, arith, length, subst, ℕ, ◌≤◌}
use Rattle.std.specs.Prelude.{max, vec_len}
use Rattle.tw_each.proofs.Sharing.{few_chunks}
use Rattle.tw_each.proofs.team.each_chunk.Goals as goal

pub returns-clause-few : goal.returns-clause-few
returns-clause-few g c =
    let size = c.max-size.result in
    IfOk-weaker _ _ (λ results. vec_len results ≤ max 1 c.args.team.now.jobs)
    (λ results len. subst (λ (threads : ℕ). vec_len results ≤ threads) c.size.ensures
    (few_chunks (vec_len results) (length c.args.items.now) size c.div_ceil.result c.size.result (omega (arith, c.size.ensures)) c.div_ceil.ensures (omega (arith, c.max-size.ensures)) (omega (arith, c.max-size.ensures), len))) c.map_chunks.ensures.len
