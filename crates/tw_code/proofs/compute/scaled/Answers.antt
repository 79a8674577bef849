use Rattle.std.proofs.Common.{◌≡◌, ℤ, pos, ◌<ℤ◌, arith, to_z, of_z}
use Rattle.std.specs.Prelude.{int_div, ◌*ℤ◌}
use Rattle.std.specs.Int.{w64, w128}
use Rattle.std.proofs.lemmas.Grind.{common_steps}
use Rattle.std.proofs.lemmas.Int.{to_z-of_z}
use Rattle.tw_code.proofs.Computing.{is_scaled}
use Rattle.tw_code.proofs.compute.scaled.Goals as goal

pub returns : goal.returns
returns c =
    let positive : pos 0 <ℤ c.args.divisor = grind (arith, common_steps) in
    let a : to_z w64 (of_z w64 c.args.left) ≡ c.args.left = to_z-of_z w64 c.args.left c.ranges.left in
    let b : to_z w64 (of_z w64 c.args.right) ≡ c.args.right = to_z-of_z w64 c.args.right c.ranges.right in
    let d : to_z w64 (of_z w64 c.args.divisor) ≡ c.args.divisor = to_z-of_z w64 c.args.divisor c.ranges.divisor in
    let exact : to_z w128 (of_z w128 c.divided-quotient.result) ≡ int_div (c.args.left *ℤ c.args.right) c.args.divisor = grind (arith, common_steps, a, b, d, c.divided-quotient.ensures, c.product-product.ensures) in
    is_scaled c.args.left c.args.right c.args.divisor (to_z w128 (of_z w128 c.divided-quotient.result)) c.in_64.result positive exact c.in_64.ensures
