use Rattle.std.proofs.Common.{◌≡◌, ◌++◌, ◌∷◌, sym, ap, ◌∙◌, refl}
use Rattle.tw_types.specs.ValueOrder.{named}
use Rattle.tw_datum.specs.Tree.{seen, in_fork}
use Rattle.tw_datum.proofs.Sides.{found_left, found_right, found_here}
use Rattle.tw_datum.proofs.tree.Tree.+get.Goals as goal

pub returns-in-Less : goal.returns-in-Less
returns-in-Less g t c =
    let f = c.deref-fork.result.now in
    let is : c.args.self.now ≡ f.before ++ f.own ∷ f.after = sym c.self.view_is ∙ ap seen c.in-Some.is ∙ ap in_fork (sym c.deref-fork.ensures) in
    λ sorted. found_left _ f.before f.own f.after (named c.args.key) (named c.args.key) refl is sorted f.before refl c.get.ensures c.in-Less.ensures

pub returns-in-Equal : goal.returns-in-Equal
returns-in-Equal g t c =
    let f = c.deref-fork.result.now in
    let is : c.args.self.now ≡ f.before ++ f.own ∷ f.after = sym c.self.view_is ∙ ap seen c.in-Some.is ∙ ap in_fork (sym c.deref-fork.ensures) in
    λ sorted. found_here _ f.before f.own f.after (named c.args.key) (named c.args.key) refl is sorted c.in-Equal.ensures

pub returns-in-Greater : goal.returns-in-Greater
returns-in-Greater g t c =
    let f = c.deref-fork.result.now in
    let is : c.args.self.now ≡ f.before ++ f.own ∷ f.after = sym c.self.view_is ∙ ap seen c.in-Some.is ∙ ap in_fork (sym c.deref-fork.ensures) in
    λ sorted. found_right _ f.before f.own f.after (named c.args.key) (named c.args.key) refl is sorted f.after refl c.get-in-Greater.ensures c.in-Greater.ensures
