use Rattle.std.proofs.Common.{◌++◌, ◌∷◌, [], arith, length, ap, ◌∙◌}
use Rattle.tw_datum.proofs.Runs.{given_back, halves_even, planted_built, planted_refused}
use Rattle.tw_datum.proofs.tree.Tree.+build.Goals as goal

pub planted-requires-clause-right : goal.planted-requires-clause-right
planted-requires-clause-right g t c =
    let right = c.in_ok-after.ensures.built.1 in
    let left = c.in-Ok.ensures.built.1 in
    halves_even c.args.count (length c.in-Ok.before) (length c.in_ok-after.after) (omega (arith, c.if-count-eq0.false)) left right

pub returns-in-Ok-clause-built : goal.returns-in-Ok-clause-built
returns-in-Ok-clause-built g t c =
    let right = c.in_ok-after.ensures.built.1 in
    let left = c.in-Ok.ensures.built.1 in
    planted_built c.args.run.now.items c.build.new.run.items c.take_last-own.new.self.items c.build-2.new.run.items c.planted.new.run.items c.in-Ok.before c.take_last-own.result c.in_ok-after.after c.args.count c.planted.result
    c.in_ok-after.ensures.built.0 c.take_last-own.ensures.items c.in-Ok.ensures.built.0 (halves_even c.args.count (length c.in-Ok.before) (length c.in_ok-after.after) (omega (arith, c.if-count-eq0.false)) left right).0 c.planted.ensures.planted c.planted.ensures.kept

pub returns-in-Ok-clause-refused : goal.returns-in-Ok-clause-refused
returns-in-Ok-clause-refused g t c =
    planted_refused c.args.run.now.items c.build.new.run.items c.take_last-own.new.self.items c.build-2.new.run.items c.planted.new.run.items c.in-Ok.before c.take_last-own.result c.in_ok-after.after c.planted.result
    c.in_ok-after.ensures.built.0 c.take_last-own.ensures.items c.in-Ok.ensures.built.0 c.planted.ensures.refused

pub returns-in-Err-clause-refused : goal.returns-in-Err-clause-refused
returns-in-Err-clause-refused g t c =
    given_back c.args.run.now.items c.build.new.run.items c.take_last-own.new.self.items c.push_reserved.new.self.items c.in_ok-after.after c.pour.new.run.items c.take_last-own.result
    c.in_ok-after.ensures.built.0 c.take_last-own.ensures.items (c.push_reserved.ensures.items ∙ ap (λ es. es ++ c.take_last-own.result ∷ []) c.in-Err.ensures.refused) c.pour.ensures.items
