use Rattle.tw_host_cases.proofs.hosts.host_text.Given as goal

abbrev pub ghosts-run_host-N-Ledger : goal.ghosts-run_host-N-Ledger
ghosts-run_host-N-Ledger g a = record { name = a.blank.name; parts = a.blank.parts }

abbrev pub ghosts-run_host-N-Named : goal.ghosts-run_host-N-Named
ghosts-run_host-N-Named g a = record { run = record { program = a.verified.now; inputs = a.given.now.inputs.items; layout = a.given.now.layout; limit = a.given.now.limit } }

abbrev pub ghosts-run_host-M-Ledger : goal.ghosts-run_host-M-Ledger
ghosts-run_host-M-Ledger g a = record { name = a.second.name; parts = a.second.parts }

abbrev pub ghosts-run_host-M-Named : goal.ghosts-run_host-M-Named
ghosts-run_host-M-Named g a = record { run = record { program = a.verified.now; inputs = a.given.now.others.items; layout = a.given.now.layout; limit = a.given.now.limit } }
