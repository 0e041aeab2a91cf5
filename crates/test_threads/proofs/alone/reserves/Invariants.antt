use Rattle.test_threads.proofs.alone.reserves.Given as goal

-- the ledger is the one of the new blank
abbrev pub ghosts-reserves_as : goal.ghosts-reserves_as
ghosts-reserves_as g a = record { name = a.blank.name; parts = a.blank.parts }
