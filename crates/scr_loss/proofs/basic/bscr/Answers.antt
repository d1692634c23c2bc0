use Rattle.scr_num.specs.Sums.{parts_of}
use Rattle.scr_num.proofs.SumLemmas.{parts-enclosed}
use Rattle.std.proofs.Common.{lit<}
use Rattle.scr_agg.specs.Correlated.{all_ends}
use Rattle.scr_loss.specs.Bscr.{modules_figure, intangible_figure}
use Rattle.scr_loss.proofs.BscrBounds.{lows_of}
use Rattle.scr_loss.proofs.basic.bscr.Goals as goal

pub returns-clause-encloses : goal.returns-clause-encloses
returns-clause-encloses c =
    λ figures h. c.add.ensures.encloses 1000 (modules_figure figures) (intangible_figure c.args.intangible)
    (c.quad.ensures.encloses 1000 (lit< tt) (parts_of figures)
    (parts-enclosed 1000 (all_ends c.args.parts.now) figures (lows_of c.args.parts.now c.requires.lows) h))
    c.intangible_assets.ensures.encloses
