use Rattle.tw_host.proofs.Names.{ap, arith, one_shl, pow_pos, ℕ, ◌%◌, ◌*◌, ◌^◌, ◌∙◌, ◌≡◌}
use Rattle.tw_host.proofs.bits.bit.Goals as goal

pub returns-clause-is : goal.returns-clause-is
returns-clause-is c =
    let small : c.args.index % 64 ≡ c.args.index = let low = c.requires in omega arith in
    c.wrapping_shl.ensures ∙ (ap (λ (k : ℕ). 1 * 2 ^ k % 2 ^ 64) small ∙ one_shl c.args.index 64 c.requires)

pub returns-clause-positive : goal.returns-clause-positive
returns-clause-positive c =
    let small : c.args.index % 64 ≡ c.args.index = let low = c.requires in omega arith in
    let is = c.wrapping_shl.ensures ∙ (ap (λ (k : ℕ). 1 * 2 ^ k % 2 ^ 64) small ∙ one_shl c.args.index 64 c.requires) in
    omega (arith, is, pow_pos c.args.index)
