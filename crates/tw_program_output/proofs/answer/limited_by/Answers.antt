use Rattle.tw_program_output.proofs.ReplyNames.{AreLimitedBounds, refl, subst, ℕ}
use Rattle.tw_program_output.proofs.answer.limited_by.Goals as goal

pub returns-in-Some : goal.returns-in-Some
returns-in-Some c = rw c.in-Some.is (subst (λ (n : ℕ). AreLimitedBounds c.args.verified.now.program n c.limited_bounds.result) c.events.ensures.value c.limited_bounds.ensures.are)

pub returns-in-None : goal.returns-in-None
returns-in-None c = rw c.in-None.is refl
