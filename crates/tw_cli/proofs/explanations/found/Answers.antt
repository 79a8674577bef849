use Rattle.tw_cli.proofs.Names.{IfSome, None, Option, Some, ap, is_some, subst, sym, true, ◌∙◌, ◌≡◌}
use Rattle.std.specs.Str.{bytes_eq}
use Rattle.std.proofs.lemmas.Slice.Eq.{bytes_eq-Decides}
use Rattle.tw_cli.specs.declared.explanations.Explanation.{Explanation}
use Rattle.tw_cli.proofs.FoundRows.{found_passes, some_found}
use Rattle.tw_cli.proofs.explanations.found.Goals as goal

pub returns-clause-known : goal.returns-clause-known
returns-clause-known c = ap is_some c.first_named.ensures ∙ some_found (λ (row : Explanation). bytes_eq row.number.now c.args.word.now) c.args.rows.now

pub returns-clause-number : goal.returns-clause-number
returns-clause-number c =
    same c.first_named.result (subst (λ (o : Option Explanation). IfSome o (λ row. bytes_eq row.number.now c.args.word.now ≡ true)) (sym c.first_named.ensures)
    (found_passes (λ (row : Explanation). bytes_eq row.number.now c.args.word.now) c.args.rows.now))
  where
    same : (o : Option Explanation) → IfSome o (λ row. bytes_eq row.number.now c.args.word.now ≡ true) → IfSome o (λ row. row.number.now ≡ c.args.word.now)
    same None h = tt
    same (Some row) h = (bytes_eq-Decides row.number.now c.args.word.now).0 h
