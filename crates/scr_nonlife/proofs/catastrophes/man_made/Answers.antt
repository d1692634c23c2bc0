use Rattle.scr_nonlife.proofs.catastrophes.man_made.Goals as goal

pub returns-clause-encloses : goal.returns-clause-encloses
returns-clause-encloses c =
    c.manmade.ensures.encloses _
    (c.cents.ensures.not_negative, c.cents.ensures.encloses, (c.cents-2.ensures.not_negative, c.cents-2.ensures.encloses, (c.cents-3.ensures.not_negative, c.cents-3.ensures.encloses, (c.cents-4.ensures.not_negative, c.cents-4.ensures.encloses, (c.cents-5.ensures.not_negative, c.cents-5.ensures.encloses, (c.cents-6.ensures.not_negative, c.cents-6.ensures.encloses, tt))))))
