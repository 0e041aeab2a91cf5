use Rattle.test_threads.proofs.deleted.processor_deleted.Given as goal

-- the ledger is the one of the new blank
abbrev pub ghosts-deleted_as : goal.ghosts-deleted_as
ghosts-deleted_as g a = record { name = a.blank.name; parts = a.blank.parts }
