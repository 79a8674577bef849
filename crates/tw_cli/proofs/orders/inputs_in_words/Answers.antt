use Rattle.tw_cli.proofs.Names.{None, Some, all_of, codes, found_of, map, raw_values-rows, rows_of, sym, ◌∙◌, ◌≡◌}
use Rattle.tw_cli.proofs.orders.inputs_in_words.Goals as goal

pub returns-in-Some : goal.returns-in-Some
returns-in-Some c =
    let given : all_of (codes "input") (rows_of (found_of c.args.matches.now)) ≡ Some (map (λ v. v.now) c.in-Some.words.now) =
    sym (c.in-Some.ensures ∙ raw_values-rows (found_of c.args.matches.now) (codes "input")) in
    rw given c.inputs_of.ensures

pub returns-in-None : goal.returns-in-None
returns-in-None c =
    let given : all_of (codes "input") (rows_of (found_of c.args.matches.now)) ≡ None =
    sym (c.in-None.ensures ∙ raw_values-rows (found_of c.args.matches.now) (codes "input")) in
    rw given c.inputs_of-in-None.ensures
