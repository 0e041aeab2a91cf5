use Rattle.test_threads.proofs.holds.takes_turns.Given as goal

-- the ledger is the one of the new blank
abbrev pub ghosts-takes_turns_as : goal.ghosts-takes_turns_as
ghosts-takes_turns_as g a = record { name = a.blank.name; parts = a.blank.parts }
