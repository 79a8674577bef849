use Rattle.std.proofs.Common.{◌≡◌, ◌++◌, ◌∷◌, sym, ap, ◌∙◌, refl}
use Rattle.tw_types.specs.ValueOrder.{value_cmp}
use Rattle.tw_datum.specs.Tree.{seen, in_fork}
use Rattle.tw_datum.proofs.Sides.{put_on_left, put_on_right, put_on_own}
use Rattle.tw_datum.proofs.tree.Tree.+insert.Goals as goal
use Rattle.tw_datum.proofs.tree.Tree.+insert.Goals.{in-Less+in_ok-insert-in-Less, in-Equal+in-Text-1, in-Equal+in-Int-1, in-Greater+in_ok-insert-in-Greater}

pub returns-after-compare-clause-added : goal.returns-after-compare-clause-added
returns-after-compare-clause-added g t c =
    let d = c.args.self.now in
    let f = c.deref_mut-fork.result.now in
    let k = c.args.key in
    let v = c.args.value in
    let is : d ≡ f.before ++ f.own ∷ f.after = sym c.self.view_is ∙ ap seen c.in-Some.is ∙ ap in_fork (sym c.deref_mut-fork.ensures.value) in
    let named = ap (λ q. value_cmp q f.own.0) c.borrowed.ensures.is in
    elim c.match-compare.branch [
      | in-Less+in_ok-insert-in-Less w ↦ rw (w.self-inside-is, w.result-is) (λ sorted. put_on_left d f.before f.own f.after k k refl is sorted f.before w.insert.new.self _ v refl w.in_ok-insert-in-Less.ensures.added (w.in-Less.ensures ∙ named) w.even_out.ensures.entries)
      | in-Equal+in-Text-1 w ↦ rw (w.self-inside-is, w.result-is) (λ sorted. put_on_own d f.before f.own f.after k k refl is sorted _ v (w.in-Equal.ensures ∙ named) refl)
      | in-Equal+in-Int-1 w ↦ rw (w.self-inside-is, w.result-is) (λ sorted. put_on_own d f.before f.own f.after k k refl is sorted _ v (w.in-Equal.ensures ∙ named) refl)
      | in-Greater+in_ok-insert-in-Greater w ↦ rw (w.self-inside-is, w.result-is) (λ sorted. put_on_right d f.before f.own f.after k k refl is sorted f.after w.insert-in-Greater.new.self _ v refl w.in_ok-insert-in-Greater.ensures.added (w.in-Greater.ensures ∙ named) w.even_out-in-Greater.ensures.entries)
    ]
