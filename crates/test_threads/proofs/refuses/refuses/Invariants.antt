use Rattle.test_threads.proofs.refuses.refuses.Given as goal

-- the ledger is the one of the new blank
abbrev pub ghosts-refuses_as : goal.ghosts-refuses_as
ghosts-refuses_as g a = record { name = a.blank.name; parts = a.blank.parts }
