use Rattle.std.proofs.Common.{◌≡◌, Some, None, Bool, true, false, not, refl, sym, ap, ◌∙◌}
use Rattle.tw_verify.proofs.VerifierNames.{same_Some, slice_get}
use Rattle.tw_verify.proofs.Reaching.{typing_decides}
use Rattle.tw_verify.proofs.pass.is_changed.Goals as goal

pub returns-in_default-clause-all : goal.returns-in_default-clause-all
returns-in_default-clause-all c = λ first begun no end there. absurd (c.in_default.not-Some first (c.first.ensures.all first end))

-- a test whose negation holds
opposite : (b : Bool) → not b ≡ true → b ≡ false
opposite true h = cc
opposite false h = refl

so : (b : Bool) → not b ≡ false → b ≡ true
so true h = refl
so false h = cc

pub returns-in-Some-typing_at-clause-found : goal.returns-in-Some-typing_at-clause-found
returns-in-Some-typing_at-clause-found c = λ answer. record {
  first = c.in-Some.first;
  end = c.first.ensures.found c.in-Some.first c.in-Some.is;
  begun = c.in-Some-typing_at.begun;
  there = sym c.typing_at.ensures ∙ c.in-Some-typing_at.is;
  differs = λ same.
      let both : true ≡ false = sym ((typing_decides c.args.typing.now c.in-Some-typing_at.begun).1 same) ∙ sym c.is_same.ensures ∙ opposite c.is_same.result answer in
      cc;
}

pub returns-in-Some-typing_at-clause-all : goal.returns-in-Some-typing_at-clause-all
returns-in-Some-typing_at-clause-all c = λ first begun answer end there.
    let here = same_Some c.in-Some.first first (sym c.in-Some.is ∙ c.first.ensures.all first end) in
    let at = sym c.typing_at.ensures ∙ c.in-Some-typing_at.is in
    let same = (typing_decides c.args.typing.now c.in-Some-typing_at.begun).0 (sym c.is_same.ensures ∙ so c.is_same.result answer) in
    same ∙ same_Some c.in-Some-typing_at.begun begun (sym at ∙ ap (slice_get c.args.typings.now) here ∙ there)

pub returns-in-None-clause-all : goal.returns-in-None-clause-all
returns-in-None-clause-all c = λ first begun answer end there.
    let here = same_Some c.in-Some.first first (sym c.in-Some.is ∙ c.first.ensures.all first end) in
    let none : None ≡ Some begun = sym (sym c.typing_at.ensures ∙ c.in-None.is) ∙ ap (slice_get c.args.typings.now) here ∙ there in
    cc
