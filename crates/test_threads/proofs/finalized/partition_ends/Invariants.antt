use Rattle.test_threads.proofs.finalized.partition_ends.Given as goal

-- the ledger is the one of the new blank
abbrev pub ghosts-ends_as : goal.ghosts-ends_as
ghosts-ends_as g a = record { name = a.blank.name; parts = a.blank.parts }
