use Rattle.std.proofs.Common.{lit<}
use Rattle.scr_num.proofs.CentAmounts.{square-small}
use Rattle.scr_nonlife.proofs.catastrophes.manmade.Goals as goal

pub quad-requires-clause-small : goal.quad-requires-clause-small
quad-requires-clause-small c =
    square-small 1 _ 6000000000000000000 c.requires.highs (lit< tt)

pub returns-clause-encloses : goal.returns-clause-encloses
returns-clause-encloses c =
    λ figures h. c.quad.ensures.encloses 1000 (lit< tt) figures h
