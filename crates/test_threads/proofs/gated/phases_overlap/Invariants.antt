use Rattle.test_threads.proofs.gated.phases_overlap.Given as goal

-- the ledger is the one of the new blank
abbrev pub ghosts-ask_both : goal.ghosts-ask_both
ghosts-ask_both g a = record { name = a.blank.name; parts = a.blank.parts }
