use Rattle.std.proofs.Common.{ℕ, None, Some, arith, length, take, ap, sym, ◌∙◌}
use Rattle.std.proofs.lemmas.List.{take_all}
use Rattle.std.proofs.lemmas.Str.Pattern.{split_once_first}
use Rattle.tw_source.proofs.name_place.before_semicolon.Goals as goal

pub returns-in-Some : goal.returns-in-Some
returns-in-Some c = (split_once_first 59 c.args.line.now (Some (c.in-Some.front, c.in-Some.field-0-1)) c.in-Some.ensures.cases (omega arith)).1

pub returns-in-None : goal.returns-in-None
returns-in-None c =
    let all = split_once_first 59 c.args.line.now None c.in-None.ensures.cases (omega arith) in
    sym (ap (λ (n : ℕ). take n c.args.line.now) all ∙ take_all (length c.args.line.now) c.args.line.now (omega arith))
