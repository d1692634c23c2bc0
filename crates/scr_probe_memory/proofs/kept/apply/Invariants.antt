use Rattle.scr_probe_memory.proofs.kept.apply.Given as goal

-- the counter that the call makes
abbrev pub ghosts-counted : goal.ghosts-counted
ghosts-counted a b = record { name = b.blank.name; parts = b.blank.parts }
