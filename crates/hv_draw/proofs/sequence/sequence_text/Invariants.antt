-- The choice is that of the call.
use Rattle.hv_draw.proofs.sequence.sequence_text.Given as goal

abbrev pub ghosts-find_lanes : goal.ghosts-find_lanes
ghosts-find_lanes g a = record { choice = a.choice }
