use Rattle.std.proofs.Common.{IfOk, List, Option, ℕ, subst, sym}
use Rattle.tw_source.specs.NamePlace.{IsPlaceIn, IsPlaceInSome}
use Rattle.tw_source.proofs.name_place.text_place.Goals as goal

pub returns-in-Some : goal.returns-in-Some
returns-in-Some c =
    let placed = subst (λ (code : List ℕ). IfOk c.place_in.result (IsPlaceIn c.in-Some.line.now code c.args.name.now)) c.without_comment.ensures c.place_in.ensures in
    subst (λ (line : Option (List ℕ)). IfOk c.place_in.result (IsPlaceInSome line c.args.name.now)) (sym c.in-Some.ensures) placed
