use Rattle.tw_host_cases.proofs.drives.drives_text.Given as goal

abbrev pub ghosts-driven_by-N-Ledger : goal.ghosts-driven_by-N-Ledger
ghosts-driven_by-N-Ledger g a = record { name = a.blank.name; parts = a.blank.parts }

abbrev pub ghosts-driven_by-N-Named : goal.ghosts-driven_by-N-Named
ghosts-driven_by-N-Named g a = record { run = record { program = a.verified.now; inputs = a.given.now.inputs.items; layout = a.given.now.layout; limit = a.given.now.limit } }
