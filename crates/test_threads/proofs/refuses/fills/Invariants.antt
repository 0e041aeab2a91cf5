use Rattle.test_threads.proofs.refuses.fills.Given as goal

-- the ledger is the one of the new blank
abbrev pub ghosts-fills_as : goal.ghosts-fills_as
ghosts-fills_as g a = record { name = a.blank.name; parts = a.blank.parts }
