use Rattle.test_threads.proofs.gated.a_phase_has_a_thread_for_each.Given as goal

-- the ledger is the one of the new blank
abbrev pub ghosts-ask_all : goal.ghosts-ask_all
ghosts-ask_all g a = record { name = a.blank.name; parts = a.blank.parts }
