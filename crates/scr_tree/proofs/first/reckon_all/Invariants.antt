use Rattle.scr_tree.proofs.first.reckon_all.Given as goal

-- the counter that the call makes
abbrev pub ghosts-make_all : goal.ghosts-make_all
ghosts-make_all g a = record { name = a.blank.name; parts = a.blank.parts }
