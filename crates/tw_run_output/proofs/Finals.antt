-- A run has ended by itself exactly if its state is quiet.
use Rattle.std.proofs.Common.{◌≡◌, ◌==◌, ℕ, Bool, true, false, cond, List, length, Some, None, refl, sym, ap, ◌∙◌}
use Rattle.tw_run_output.proofs.RunNames.{Procedure, State, circle}
use Rattle.std.specs.FinMap.{len}
use Rattle.std.specs.Option.{option_map, option_or}
use Rattle.tw_types.specs.declared.ending.Ending.TheVariants as ending
use Rattle.tw_types.specs.Circle.{circle_of}
use Rattle.tw_code.specs.machine.Ending.{is_quiet}
use Rattle.tw_code.specs.machine.Pending.{pending_rules}
use Rattle.tw_pool.specs.declared.answer.Closing.TheVariants as closing
use Rattle.tw_pool.specs.PoolView.{PoolView}
use Rattle.tw_pool.specs.Turns.{closing_at, closing_of}
use Rattle.tw_run_output.specs.Ends.{has_ended}

quiet_is : (q none : Bool) (n : ℕ) (stopped full : Bool) → has_ended (option_or (option_map closing_of (cond q (Some (cond none ending.Quiet (ending.Stuck n))) None)) (cond stopped (Some closing.Stopped) (cond full (Some closing.Limit) None))) ≡ q
quiet_is true true n stopped full = refl
quiet_is true false n stopped full = refl
quiet_is false none n true full = refl
quiet_is false none n false true = refl
quiet_is false none n false false = refl

-- a run has ended by itself exactly if its state is quiet
ended_is : (p : PoolView) (s : State) → has_ended (closing_at p s) ≡ is_quiet s
ended_is p s = quiet_is (is_quiet s) (len s.rules == 0) (len s.rules) p.stopped (length p.history == p.limit)

pub circle_ended : (program : List Procedure) (p : PoolView) (s : State) → true ≡ has_ended (closing_at p s) → circle program s ≡ circle_of (pending_rules program s)
circle_ended program p s ended = ap (λ (q : Bool). cond q (circle_of (pending_rules program s)) None) (sym (ended ∙ ended_is p s))
