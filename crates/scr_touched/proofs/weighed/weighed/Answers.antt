use Rattle.std.proofs.Common.{subst, sym}
use Rattle.std.specs.Option.{option_copied}
use Rattle.scr_touched.specs.Weighed.{AreShares}
use Rattle.scr_touched.proofs.Weights.{if-both, no-shares, shares-of}
use Rattle.scr_touched.proofs.weighed.weighed.Goals as goal

pub returns-in-Some : goal.returns-in-Some
returns-in-Some c =
    if-both _ _ (λ weighed. AreShares weighed (option_copied c.args.stake))
    (λ weighed rows all. subst (λ stake. AreShares weighed (option_copied stake)) (sym c.in-Some.is)
    (shares-of weighed c.in-Some.stake.now rows all))
    c.of_fund.result c.of_fund.ensures.weighed c.of_fund.ensures.all

pub returns-in-None : goal.returns-in-None
returns-in-None c =
    subst (λ stake. AreShares (record { rows = c.new.result; all = 0 }) (option_copied stake)) (sym c.in-None.is)
    (no-shares (record { rows = c.new.result; all = 0 }) c.new.ensures)
