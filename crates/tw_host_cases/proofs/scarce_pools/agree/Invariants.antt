use Rattle.tw_host_cases.proofs.scarce_pools.agree.Given as goal

abbrev pub ghosts-run_with-N-Named : goal.ghosts-run_with-N-Named
ghosts-run_with-N-Named g a = record { run = record { program = a.verified.now; inputs = a.given.now.inputs.items; layout = a.given.now.layout; limit = a.given.now.limit } }
