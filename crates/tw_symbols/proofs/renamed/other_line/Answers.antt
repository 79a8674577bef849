use Rattle.tw_symbols.proofs.TextNames.{IfOk-weaker, List, None, Option, Some, arith, false, inl, is_some, length, nat_le, nat_tests, rules, seen_procedures, sym, true, ℕ, ◌∙◌, ◌≡◌, ◌<◌, ◌≤◌}
use Rattle.tw_symbols.specs.Heads.{HasTooMany}
use Rattle.tw_symbols.specs.Renamed.{IsRenamedUpTo}
use Rattle.tw_symbols.proofs.RenamedLines.{by_heads}
use Rattle.tw_symbols.proofs.renamed.other_line.Goals as goal

few : (n : ℕ) → nat_le n 64 ≡ true → n ≤ 64
few n e = grind (arith, nat_tests)

pub returns-then-reads_heads : goal.returns-then-reads_heads
returns-then-reads_heads c =
    let heads = c.in_ok-procedures.ensures.all (few (length c.in_ok-procedures.procedures.heads.items) (sym c.reads_heads.ensures ∙ c.if-reads_heads.true)) in
    IfOk-weaker c.line_apart.result _ _ (λ (number : Option ℕ) h none. by_heads c.args.text.now c.args.plain.now (seen_procedures c.in_ok-procedures.procedures) c.args.up_to heads (h none)) c.line_apart.ensures

many : (n : ℕ) → nat_le n 64 ≡ false → 64 < n
many n e = grind (arith, nat_tests)

too_many : (text plain : List ℕ) (up_to : Option ℕ) → is_some up_to ≡ true → HasTooMany text → IsRenamedUpTo up_to text plain
too_many text plain None some has = absurd cc
too_many text plain (Some most) some has = inl has

pub returns-then-is_some : goal.returns-then-is_some
returns-then-is_some c =
    let has = c.in_ok-procedures.ensures.many (many (length c.in_ok-procedures.procedures.heads.items) (sym c.reads_heads.ensures ∙ c.if-reads_heads.false)) in
    λ _. too_many c.args.text.now c.args.plain.now c.args.up_to (search rules) has
