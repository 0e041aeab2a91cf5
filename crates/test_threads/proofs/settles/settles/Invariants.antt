use Rattle.test_threads.proofs.settles.settles.Given as goal

-- the ledger is the one of the new blank
abbrev pub ghosts-settles_as : goal.ghosts-settles_as
ghosts-settles_as g a = record { name = a.blank.name; parts = a.blank.parts }
