use Rattle.std.proofs.Common.{refl, lit<}
use Rattle.scr_num.specs.Figure.{Root}
use Rattle.scr_agg.specs.Correlated.{table_of}
use Rattle.scr_nonlife.specs.Nonlife.{three}
use Rattle.scr_nonlife.proofs.module.premium_reserve.Goals as goal

pub returns-clause-encloses : goal.returns-clause-encloses
returns-clause-encloses c =
    λ figures h. c.scale.ensures.encloses 1000 1000 (Root figures (table_of c.args.m.now)) three (record { positive = lit< tt; equal = refl })
    (c.quad.ensures.encloses 1000 (lit< tt) figures h)
