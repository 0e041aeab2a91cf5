use Rattle.test_refusals.proofs.trials.in_a_lock.Given as goal

-- the ledger is the one of the new blank
abbrev pub ghosts-in_lock_of : goal.ghosts-in_lock_of
ghosts-in_lock_of g a = record { name = a.blank.name; parts = a.blank.parts }
