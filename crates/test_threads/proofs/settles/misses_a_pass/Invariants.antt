use Rattle.test_threads.proofs.settles.misses_a_pass.Given as goal

-- the ledger is the one of the new blank
abbrev pub ghosts-misses_as : goal.ghosts-misses_as
ghosts-misses_as g a = record { name = a.blank.name; parts = a.blank.parts }
