use Rattle.std.proofs.Common.{◌≡◌, ◌≢◌, ◌++◌, ◌∷◌, [], Bor, List, MatchOption, Option, ℕ, subst}
use Rattle.std.proofs.lemmas.Str.Pattern.{strip_suffix_char}
use Rattle.tw_calls.proofs.Ends.{left_whole, stripped}
use Rattle.tw_calls.proofs.arguments.without_last_end.Goals as goal

pub returns-in-Some : goal.returns-in-Some
returns-in-Some c =
    let text = c.args.text.now in
    let ending = c.args.ending in
    let found = strip_suffix_char ending text c.strip_suffix.result c.strip_suffix.ensures.cases c.requires in
    stripped ending c.in-Some.front.now text (subst (λ (r : Option (Bor (List ℕ))). MatchOption r ((front : List ℕ) → text ≢ front ++ (ending ∷ [])) (λ x. text ≡ x.now ++ (ending ∷ []))) c.in-Some.is found)

pub returns-in-None : goal.returns-in-None
returns-in-None c =
    let text = c.args.text.now in
    let ending = c.args.ending in
    let found = strip_suffix_char ending text c.strip_suffix.result c.strip_suffix.ensures.cases c.requires in
    left_whole ending text (subst (λ (r : Option (Bor (List ℕ))). MatchOption r ((front : List ℕ) → text ≢ front ++ (ending ∷ [])) (λ x. text ≡ x.now ++ (ending ∷ []))) c.in-None.is found)
