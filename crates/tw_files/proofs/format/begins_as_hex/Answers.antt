use Rattle.std.proofs.Common.{◌≡◌, ◌∙◌, ℕ, List, ap, codes, nat_eq, take}
use Rattle.std.specs.List.{starts_with}
use Rattle.tw_files.proofs.Words.{cut}
use Rattle.tw_files.specs.Format.{without_gaps}
use Rattle.tw_files.proofs.format.begins_as_hex.Goals as goal

pub returns : goal.returns
returns c =
    let head : c.in_ok-head.head.items ≡ take 64 c.args.bytes.now = c.in_ok-head.ensures.items_if_clones_equal (λ x y e. e) ∙ cut 64 c.min.result c.args.bytes.now c.min.ensures in
    c.starts_with.ensures.value
    ∙ ap (λ (bytes : List ℕ). starts_with nat_eq bytes (codes "545742")) (c.deref.ensures.value ∙ c.without_gaps.ensures ∙ ap without_gaps head)
