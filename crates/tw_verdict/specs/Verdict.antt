-- Verdicts without a position in a text.
use Rattle.std.specs.Prelude.{ℕ, List}
use Rattle.tw_types.specs.declared.actor.Kind.TheVariants.{Control, Leaf}
use Rattle.tw_code.specs.accepting.Needs.{needed}
use Rattle.tw_code.specs.declared.procedure.Procedure.{Procedure}
use Rattle.tw_verdict.specs.declared.verdict.Verdict.{Verdict}

-- returns the verdict with the numbers of engines and of workers that the program requires
abbrev pub accepted : List Procedure → Verdict
accepted program = record { letter = 0; number = 0; engines = needed Control program; workers = needed Leaf program; procedure = 0; place = 0 }

-- returns the verdict with letter V, the error's code, and its position
abbrev pub rejection : ℕ → ℕ → ℕ → Verdict
rejection number procedure place = record { letter = 86; number = number; engines = 0; workers = 0; procedure = procedure; place = place }

-- has letter M
abbrev pub no_memory : Verdict
no_memory = record { letter = 77; number = 0; engines = 0; workers = 0; procedure = 0; place = 0 }
