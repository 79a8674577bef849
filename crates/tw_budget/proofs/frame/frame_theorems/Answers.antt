use Rattle.tw_code.specs.accepting.Flow.{flows}
use Rattle.tw_budget.proofs.FrameTheorems.{starts_within, stays_within, below_budget, end_goes_on, ret_outside}
use Rattle.tw_budget.proofs.Shortened.{shortens_within}
use Rattle.tw_budget.proofs.Sound.{sound_flows}
use Rattle.tw_budget.proofs.frame.frame_theorems.Goals as goal

pub returns-clause-starts : goal.returns-clause-starts
returns-clause-starts c = λ p budget within structured b. starts_within (flows p.code) (sound_flows p within structured) budget b

pub returns-clause-kept : goal.returns-clause-kept
returns-clause-kept c = λ p budget spent place loops way to within structured e w. stays_within (flows p.code) (sound_flows p within structured) budget spent place loops way to e w

pub returns-clause-shortens : goal.returns-clause-shortens
returns-clause-shortens c = λ p budget spent place loops within structured w. shortens_within (flows p.code) (sound_flows p within structured) budget spent place loops w

pub returns-clause-below : goal.returns-clause-below
returns-clause-below c = λ p budget spent place loops within structured w. below_budget (flows p.code) (sound_flows p within structured) budget spent place loops w

pub returns-clause-ends : goal.returns-clause-ends
returns-clause-ends c = λ p budget spent place loops within structured w at. end_goes_on (flows p.code) place loops w.fits at

pub returns-clause-stops : goal.returns-clause-stops
returns-clause-stops c = λ p budget spent place loops within structured w at. ret_outside (flows p.code) (sound_flows p within structured) place loops w.fits at
