use Rattle.hv_phases.proofs.run.run_lines.Given as goal

-- the ledger is the one of the new blank
abbrev pub ghosts-run_under : goal.ghosts-run_under
ghosts-run_under g a = record { name = a.blank.name; parts = a.blank.parts }
