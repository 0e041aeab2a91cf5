use Rattle.test_threads.proofs.holds.tells_callers.Given as goal

-- the ledger is the one of the new blank
abbrev pub ghosts-tells_callers_as : goal.ghosts-tells_callers_as
ghosts-tells_callers_as g a = record { name = a.blank.name; parts = a.blank.parts }
