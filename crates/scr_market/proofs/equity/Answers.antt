use Rattle.std.proofs.Common.{rules, ◌≡◌, ◌+◌, ◌≤◌, FitsSigned, to_z-of_z, w32, arith, ap₂, ◌∙◌}
use Rattle.std.specs.Prelude.{slice_index}
use Rattle.std.proofs.lemmas.Int.{ints}
use Rattle.scr_num.specs.Rounding.{ends, or_zero, add_ends}
use Rattle.scr_num.proofs.AmountBounds.{amount-wider}
use Rattle.scr_market.specs.declared.equity_parts.TheConstants.{MAX_EQUITY}
use Rattle.scr_market.specs.EquityEnds.{type1_ends, type2_ends, infra_ends, infracorp_ends, equity_root_ends}
use Rattle.scr_market.specs.EquityEnds.{equity_ends}
use Rattle.scr_market.proofs.EquityBounds.{or_zero-le, equity-encloses}
use Rattle.scr_market.proofs.equity.Goals as goal

pub equity_root-requires-clause-small : goal.equity_root-requires-clause-small
equity_root-requires-clause-small c = omega
    (arith, ints, or_zero-le c.type1-type1.result.high, or_zero-le c.add-others.result.high)

-- ---- the parts
fits : (c : goal.After-equity_root) → FitsSigned w32 c.args.sym
fits c = search rules

type1_is : (c : goal.After-equity_root) → ends c.type1-type1.result
    ≡ type1_ends (slice_index c.args.sums.now 0) (slice_index c.args.sums.now 1) c.args.sym
type1_is c = let f = fits c in simp to_z-of_z at c.type1-type1.ensures.ends

type2_is : (c : goal.After-equity_root) → ends c.type2-type2.result
    ≡ type2_ends (slice_index c.args.sums.now 2) (slice_index c.args.sums.now 3) c.args.sym
type2_is c = let f = fits c in simp to_z-of_z at c.type2-type2.ensures.ends

infra_is : (c : goal.After-equity_root) → ends c.infra-infra.result
    ≡ infra_ends (slice_index c.args.sums.now 4) c.args.sym
infra_is c = let f = fits c in simp to_z-of_z at c.infra-infra.ensures.ends

infracorp_is : (c : goal.After-equity_root)
    → ends c.infracorp-infracorp.result ≡ infracorp_ends (slice_index c.args.sums.now 5) c.args.sym
infracorp_is c = let f = fits c in simp to_z-of_z at c.infracorp-infracorp.ensures.ends

all_is : (c : goal.After-equity_root) → ends c.equity_root.result ≡ equity_ends c.args.sums.now c.args.sym
all_is c =
    c.equity_root.ensures.ends
    ∙ ap₂ equity_root_ends (type1_is c) (c.add-others.ensures.ends
    ∙ ap₂ add_ends (c.add.ensures.ends ∙ ap₂ add_ends (type2_is c) (infra_is c)) (infracorp_is c))

-- ---- the clauses
pub returns-clause-type1 : goal.returns-clause-type1
returns-clause-type1 = type1_is

pub returns-clause-type2 : goal.returns-clause-type2
returns-clause-type2 = type2_is

pub returns-clause-infra : goal.returns-clause-infra
returns-clause-infra = infra_is

pub returns-clause-infracorp : goal.returns-clause-infracorp
returns-clause-infracorp = infracorp_is

pub returns-clause-all : goal.returns-clause-all
returns-clause-all = all_is

pub returns-clause-encloses : goal.returns-clause-encloses
returns-clause-encloses c =
    rw (type1_is c, type2_is c, infra_is c, infracorp_is c, all_is c)
    (equity-encloses c.args.sums.now c.args.sym c.requires.least)

pub returns-clause-all_size : goal.returns-clause-all_size
returns-clause-all_size c =
    let small : or_zero c.type1-type1.result.high + (or_zero c.add-others.result.high + 0) ≤ MAX_EQUITY =
    omega (arith, ints, or_zero-le c.type1-type1.result.high, or_zero-le c.add-others.result.high) in
    amount-wider _ MAX_EQUITY (ends c.equity_root.result) small c.equity_root.ensures.size
