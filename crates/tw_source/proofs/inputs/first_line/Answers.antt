use Rattle.std.proofs.Common.{◌≡◌, rules, tests}
use Rattle.std.specs.List.{position}
use Rattle.std.proofs.lemmas.Iterator.{YieldsList-from_slice}
use Rattle.std.proofs.lemmas.Iterator.Search.{position_from_yields_List}
use Rattle.tw_source.proofs.InputLines.{feed_found, is_feed, no_feed}
use Rattle.tw_source.proofs.inputs.first_line.Goals as goal

pub returns-in-Some : goal.returns-in-Some
returns-in-Some c =
    let found : c.position.result ≡ position is_feed c.args.text.now = position_from_yields_List is_feed _ _ _ c.position.ensures.ran (YieldsList-from_slice c.args.text.now cc) (λ x b q k. search (rules, tests)) in
    feed_found c.args.text.now c.position.result c.in-Some.at found c.in-Some.is

pub returns-in-None : goal.returns-in-None
returns-in-None c =
    let found : c.position.result ≡ position is_feed c.args.text.now = position_from_yields_List is_feed _ _ _ c.position.ensures.ran (YieldsList-from_slice c.args.text.now cc) (λ x b q k. search (rules, tests)) in
    no_feed c.args.text.now c.position.result found c.in-None.is
