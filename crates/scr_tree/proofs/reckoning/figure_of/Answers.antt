use Rattle.scr_tree.proofs.reckoning.figure_of.Goals as goal

pub returns : goal.returns
returns c = c.figure.ensures
