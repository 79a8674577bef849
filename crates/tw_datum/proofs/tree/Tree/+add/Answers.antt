use Rattle.std.proofs.Common.{◌≡◌, ◌+◌, ◌++◌, ◌∷◌, length, arith, sym, ap, ◌∙◌, refl, subst, IsSome, true, false}
use Rattle.std.proofs.lemmas.Result.{err_from_is_err_and}
use Rattle.tw_types.specs.ValueOrder.{named}
use Rattle.tw_datum.specs.Tree.{seen, in_fork}
use Rattle.tw_datum.proofs.Sides.{left, right, found_left, found_right, found_here, put_on_left, put_on_right}
use Rattle.tw_datum.proofs.Turns.{joined_length}
use Rattle.tw_datum.proofs.tree.Tree.+add.Goals as goal
use Rattle.tw_datum.proofs.tree.Tree.+add.Goals.{in-Less+in_ok-add-in-Less+else-not-branch, in-Equal, in-Greater+in_ok-add-in-Greater+else-not-branch-2}

pub returns-in_err-add-in-Less : goal.returns-in_err-add-in-Less
returns-in_err-add-in-Less g t c =
    let f = c.deref_mut-fork.result.now in
    let k = named c.args.key in
    let is : c.args.self.now ≡ f.before ++ f.own ∷ f.after = sym c.self.view_is ∙ ap seen c.in-Some.is ∙ ap in_fork (sym c.deref_mut-fork.ensures.value) in
    let h = c.in_err-add-in-Less.ensures in
    let p = err_from_is_err_and c.from_residual-in_err-add-in-Less.result c.from_residual-in_err-add-in-Less.ensures.1 in
    rw p.1
    (ap (λ es. es ++ f.own ∷ f.after) h.0 ∙ sym is, λ sorted. sym (found_left _ f.before f.own f.after k k refl is sorted f.before refl (λ s. sym (h.1 s)) c.in-Less.ensures))

pub returns-then-not-branch : goal.returns-then-not-branch
returns-then-not-branch g t c =
    let f = c.deref_mut-fork.result.now in
    let k = named c.args.key in
    let is : c.args.self.now ≡ f.before ++ f.own ∷ f.after = sym c.self.view_is ∙ ap seen c.in-Some.is ∙ ap in_fork (sym c.deref_mut-fork.ensures.value) in
    let there : c.in_ok-add-in-Less.field-0 ≡ false = grind (arith, c.if-not-branch.true) in
    let h = rw there at c.in_ok-add-in-Less.ensures in
    (ap (λ es. es ++ f.own ∷ f.after) h.0 ∙ sym is, λ sorted. subst IsSome (found_left _ f.before f.own f.after k k refl is sorted f.before refl (λ _. refl) c.in-Less.ensures) (h.1 (left _ f.before f.own f.after k k refl is sorted)))

pub returns-in_err-add-in-Greater : goal.returns-in_err-add-in-Greater
returns-in_err-add-in-Greater g t c =
    let f = c.deref_mut-fork.result.now in
    let k = named c.args.key in
    let is : c.args.self.now ≡ f.before ++ f.own ∷ f.after = sym c.self.view_is ∙ ap seen c.in-Some.is ∙ ap in_fork (sym c.deref_mut-fork.ensures.value) in
    let h = c.in_err-add-in-Greater.ensures in
    let p = err_from_is_err_and c.from_residual-in_err-add-in-Greater.result c.from_residual-in_err-add-in-Greater.ensures.1 in
    rw p.1
    (ap (λ es. f.before ++ f.own ∷ es) h.0 ∙ sym is, λ sorted. sym (found_right _ f.before f.own f.after k k refl is sorted f.after refl (λ s. sym (h.1 s)) c.in-Greater.ensures))

pub returns-then-not-branch-2 : goal.returns-then-not-branch-2
returns-then-not-branch-2 g t c =
    let f = c.deref_mut-fork.result.now in
    let k = named c.args.key in
    let is : c.args.self.now ≡ f.before ++ f.own ∷ f.after = sym c.self.view_is ∙ ap seen c.in-Some.is ∙ ap in_fork (sym c.deref_mut-fork.ensures.value) in
    let there : c.in_ok-add-in-Greater.field-0 ≡ false = grind (arith, c.if-not-branch-2.true) in
    let h = rw there at c.in_ok-add-in-Greater.ensures in
    (ap (λ es. f.before ++ f.own ∷ es) h.0 ∙ sym is, λ sorted. subst IsSome (found_right _ f.before f.own f.after k k refl is sorted f.after refl (λ _. refl) c.in-Greater.ensures) (h.1 (right _ f.before f.own f.after k k refl is sorted)))

pub returns-after-compare : goal.returns-after-compare
returns-after-compare g t c =
    let d = c.args.self.now in
    let v = c.args.value in
    let f = c.deref_mut-fork.result.now in
    let k = named c.args.key in
    let is : c.args.self.now ≡ f.before ++ f.own ∷ f.after = sym c.self.view_is ∙ ap seen c.in-Some.is ∙ ap in_fork (sym c.deref_mut-fork.ensures.value) in
    elim c.match-compare.branch [
      | in-Less+in_ok-add-in-Less+else-not-branch w ↦
          let new : w.in_ok-add-in-Less.field-0 ≡ true = grind (arith, w.if-not-branch.false) in
          let h = rw new at w.in_ok-add-in-Less.ensures in
          let n = w.add.new.self in
          let longer : length (n ++ f.own ∷ f.after) ≡ length d + 1 = omega (arith, joined_length n f.own f.after, joined_length f.before f.own f.after, h.0, ap length is) in
          rw (w.self-inside-is, w.result-is)
          (ap length w.even_out.ensures.entries ∙ longer, λ sorted. (sym (found_left d f.before f.own f.after k k refl is sorted f.before refl (λ s. sym (h.1 s).0) w.in-Less.ensures), put_on_left d f.before f.own f.after k k refl is sorted f.before n _ v refl (λ s. (h.1 s).1) w.in-Less.ensures w.even_out.ensures.entries))
      | in-Equal w ↦ rw (w.self-inside-is, w.result-is) (sym is, λ sorted. subst IsSome (found_here d f.before f.own f.after k k refl is sorted w.in-Equal.ensures) refl)
      | in-Greater+in_ok-add-in-Greater+else-not-branch-2 w ↦
          let new : w.in_ok-add-in-Greater.field-0 ≡ true = grind (arith, w.if-not-branch-2.false) in
          let h = rw new at w.in_ok-add-in-Greater.ensures in
          let n = w.add-in-Greater.new.self in
          let longer : length (f.before ++ f.own ∷ n) ≡ length d + 1 = omega (arith, joined_length f.before f.own n, joined_length f.before f.own f.after, h.0, ap length is) in
          rw (w.self-inside-is, w.result-is)
          (ap length w.even_out-in-Greater.ensures.entries ∙ longer, λ sorted. (sym (found_right d f.before f.own f.after k k refl is sorted f.after refl (λ s. sym (h.1 s).0) w.in-Greater.ensures), put_on_right d f.before f.own f.after k k refl is sorted f.after n _ v refl (λ s. (h.1 s).1) w.in-Greater.ensures w.even_out-in-Greater.ensures.entries))
    ]
