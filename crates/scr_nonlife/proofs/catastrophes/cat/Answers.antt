use Rattle.scr_nonlife.proofs.catastrophes.cat.Goals as goal

pub returns-clause-all_within : goal.returns-clause-all_within
returns-clause-all_within c =
    c.cat_all.ensures.encloses _ _ _ _ c.natural-nat.ensures.encloses c.man_made-manmade.ensures.encloses c.cents.ensures.encloses c.cents-2.ensures.encloses
