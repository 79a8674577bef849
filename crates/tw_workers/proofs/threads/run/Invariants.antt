use Rattle.tw_workers.proofs.threads.run.Given as goal

abbrev pub ghosts-run_named-N-Ledger : goal.ghosts-run_named-N-Ledger
ghosts-run_named-N-Ledger g a = record { name = a.blank.name; parts = a.blank.parts }

abbrev pub ghosts-run_named-N-Named : goal.ghosts-run_named-N-Named
ghosts-run_named-N-Named g a = record { run = record { program = a.verified.now; inputs = a.inputs.now; layout = a.layout; limit = a.limit } }
