use Rattle.test_threads.proofs.gated.an_access_leaves_the_lock_first.Given as goal

-- the ledger is the one of the new blank
abbrev pub ghosts-ask_both : goal.ghosts-ask_both
ghosts-ask_both g a = record { name = a.blank.name; parts = a.blank.parts }
