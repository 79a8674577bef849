use Rattle.tw_cli.proofs.Names.{None, Option, Some, Text, [], ap, codes, first_of, first_value-rows, found_of, rows_of, sym, unwrap_or, ◌∙◌, ◌≡◌}
use Rattle.tw_cli.proofs.orders.explanation_given.Goals as goal

pub returns-in-Some : goal.returns-in-Some
returns-in-Some c =
    let given : first_of (codes "number") (rows_of (found_of c.args.matches.now)) ≡ Some c.in-Some.word.now =
    sym (c.in-Some.ensures ∙ first_value-rows (found_of c.args.matches.now) (codes "number")) in
    c.explanation_of.ensures (rows_of (found_of c.args.matches.now)) (ap (λ (o : Option Text). unwrap_or o []) given)

pub returns-in-None : goal.returns-in-None
returns-in-None c =
    let given : first_of (codes "number") (rows_of (found_of c.args.matches.now)) ≡ None =
    sym (c.in-None.ensures ∙ first_value-rows (found_of c.args.matches.now) (codes "number")) in
    c.explanation_of-in-None.ensures (rows_of (found_of c.args.matches.now)) (ap (λ (o : Option Text). unwrap_or o []) given)
