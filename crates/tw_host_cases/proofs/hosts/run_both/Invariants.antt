use Rattle.tw_host_cases.proofs.hosts.run_both.Given as goal

abbrev pub ghosts-run_pool-N-Named : goal.ghosts-run_pool-N-Named
ghosts-run_pool-N-Named g a = record { run = record { program = a.verified.now; inputs = a.given.now.inputs.items; layout = a.given.now.layout; limit = a.given.now.limit } }
