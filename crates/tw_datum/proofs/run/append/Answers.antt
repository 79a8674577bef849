use Rattle.std.proofs.Common.{◌∙◌, ap, refl, ◌++◌, ◌∷◌, []}
use Rattle.std.proofs.lemmas.Result.{err_from_is_err_and}
use Rattle.tw_types.specs.ValueOrder.{named}
use Rattle.tw_datum.proofs.Runs.{appended, not_appended}
use Rattle.tw_datum.proofs.run.append.Goals as goal

pub returns-in_err-own : goal.returns-in_err-own
returns-in_err-own g c =
    let p = err_from_is_err_and c.from_residual.result c.from_residual.ensures.1 in
    rw p.1 (not_appended (named c.args.key) c.args.value c.args.run.now.items p.0 _ c.requires.above refl)

pub returns-in_err-make_room : goal.returns-in_err-make_room
returns-in_err-make_room g c =
    let p = err_from_is_err_and c.from_residual-in_err-make_room.result c.from_residual-in_err-make_room.ensures.1 in
    rw p.1 (not_appended (named c.args.key) c.args.value c.args.run.now.items p.0 _ c.requires.above c.make_room.ensures.items)

pub returns : goal.returns
returns g c =
    appended (named c.args.key) c.args.value c.args.run.now.items _ c.requires.above
    (c.push_reserved.ensures.items ∙ ap (λ es. es ++ (c.in_ok-own.own, c.args.value) ∷ []) c.make_room.ensures.items ∙ ap (λ k. c.args.run.now.items ++ (k, c.args.value) ∷ []) c.in_ok-own.ensures.copy)
