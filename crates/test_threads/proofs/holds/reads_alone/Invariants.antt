use Rattle.test_threads.proofs.holds.reads_alone.Given as goal

-- the ledger is the one of the new blank
abbrev pub ghosts-reads_alone_as : goal.ghosts-reads_alone_as
ghosts-reads_alone_as g a = record { name = a.blank.name; parts = a.blank.parts }
