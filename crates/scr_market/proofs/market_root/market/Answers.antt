use Rattle.std.proofs.Common.{◌≡◌, ◌∙◌, ap₂, arith}
use Rattle.scr_num.specs.Rounding.{hull_ends}
use Rattle.scr_agg.specs.Correlated.{all_ends}
use Rattle.scr_market.proofs.MarketLemmas.{market_ends-one, market_ends-two, market_ends-both, market-enclosed}
use Rattle.scr_market.proofs.market_root.market.Goals as goal

pub returns-in-1-clause-ends : goal.returns-in-1-clause-ends
returns-in-1-clause-ends c = c.root.ensures.ends ∙ market_ends-one (all_ends c.args.parts.now) c.args.mask c.in-1.is

pub returns-in-1-clause-encloses : goal.returns-in-1-clause-encloses
returns-in-1-clause-encloses c =
    market-enclosed c.root.result c.args.parts.now c.args.mask
    (returns-in-1-clause-ends c) c.told-parts c.requires.least c.requires.most

pub returns-in-2-clause-ends : goal.returns-in-2-clause-ends
returns-in-2-clause-ends c = c.root-in-2.ensures.ends
    ∙ market_ends-two (all_ends c.args.parts.now) c.args.mask c.in-2.is

pub returns-in-2-clause-encloses : goal.returns-in-2-clause-encloses
returns-in-2-clause-encloses c =
    market-enclosed c.root-in-2.result c.args.parts.now c.args.mask
    (returns-in-2-clause-ends c) c.told-parts c.requires.least c.requires.most

pub returns-in_default-clause-ends : goal.returns-in_default-clause-ends
returns-in_default-clause-ends c =
    let three : c.args.mask ≡ 3 = omega arith in
    c.hull.ensures.ends ∙ ap₂ hull_ends c.root-in_default.ensures.ends c.root-in_default-2.ensures.ends
    ∙ market_ends-both (all_ends c.args.parts.now) c.args.mask three

pub returns-in_default-clause-encloses : goal.returns-in_default-clause-encloses
returns-in_default-clause-encloses c =
    market-enclosed c.hull.result c.args.parts.now c.args.mask
    (returns-in_default-clause-ends c) c.told-parts c.requires.least c.requires.most
