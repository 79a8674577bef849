use Rattle.std.proofs.Common.{◌≡◌, ◌++◌, ◌∷◌, ap, sym, ◌∙◌}
use Rattle.tw_datum.specs.Tree.{seen, in_fork}
use Rattle.tw_datum.proofs.Runs.{poured}
use Rattle.tw_datum.proofs.tree.Tree.+pour.Goals as goal

pub returns-in-Some-clause-items : goal.returns-in-Some-clause-items
returns-in-Some-clause-items g t c =
    let f = c.into_inner-before.result in
    let is : f.before ++ f.own ∷ f.after ≡ c.args.self = ap in_fork c.into_inner-before.ensures ∙ ap seen (sym c.in-Some.is) ∙ c.self.view_is in
    poured c.args.run.now.items c.pour.new.run.items c.push_reserved.new.self.items c.pour-in-Some.new.run.items f.before f.own f.after c.pour.ensures.items c.push_reserved.ensures.items c.pour-in-Some.ensures.items
    ∙ ap (λ es. c.args.run.now.items ++ es) is
