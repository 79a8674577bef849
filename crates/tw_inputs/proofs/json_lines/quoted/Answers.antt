use Rattle.std.proofs.Common.{◌≡◌, ◌++◌, ◌∙◌, ℕ, List, [], ◌∷◌, ap}
use Rattle.std.proofs.lemmas.Result.{IfOk-at_ok}
use Rattle.json.specs.Print.{print}
use Rattle.json.specs.Token.{Token, string}
use Rattle.tw_inputs.proofs.Seen.{string_printed}
use Rattle.tw_inputs.proofs.json_lines.quoted.Goals as goal

pub returns : goal.returns
returns c =
    let written = c.string.new.self in
    let text = string c.args.text.now ∷ [] in
    let before : written.before ≡ [] = c.string.ensures.room.0 ∙ c.new-writer.ensures.before ∙ c.new.ensures.items in
    let added = IfOk-at_ok (λ _. written.tokens ≡ c.new-writer.result.tokens ++ text) c.in_ok-string.was c.string.ensures.ok in
    let tokens : written.tokens ≡ text = added ∙ ap (λ (ts : List Token). ts ++ text) c.new-writer.ensures.tokens in
    c.into_inner.ensures.items ∙ ap (λ (b : List ℕ). b ++ print written.tokens) before ∙ ap print tokens ∙ string_printed c.args.text.now
