use Rattle.tw_cli.proofs.Names.{Gives, List, Row, ap, command_line, found_after, map, string_bytes, subcommand_of, subst, sym, ◌∙◌, ◌≡◌}
use Rattle.tw_cli.proofs.Words.{found_in, found_is}
use Rattle.tw_cli.proofs.orders.read_order.Goals as goal

pub returns-in-Some : goal.returns-in-Some
returns-in-Some c =
    let words = map string_bytes c.args.words.now in
    let parsed = c.in-Ok-try_get_matches_from in
    let found = found_is _ words parsed.matches c.in-Ok.ensures parsed.ensures.matches in
    let rows = found_in _ _ c.in-Some.ensures.rows in
    subst (λ (rs : List Row). Gives rs c.order_of.result) (sym (ap found_after (sym found) ∙ rows)) c.order_of.ensures

pub returns : goal.returns
returns c = c.reason_of.ensures (found_after (subcommand_of command_line (map string_bytes c.args.words.now)))
