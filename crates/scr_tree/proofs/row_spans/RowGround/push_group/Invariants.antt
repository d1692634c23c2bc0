use Rattle.scr_tree.proofs.row_spans.RowGround.push_group.Given as goal

-- the counter that the call makes
abbrev pub ghosts-square : goal.ghosts-square
ghosts-square g a = record { name = a.blank.name; parts = a.blank.parts }
