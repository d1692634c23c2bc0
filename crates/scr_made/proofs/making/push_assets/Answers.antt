-- One after another.
use Rattle.std.proofs.lemmas.Result.{on_ok_weaker}
use Rattle.scr_made.specs.Draws.{given, each}
use Rattle.scr_made.specs.Made.{market, group, security, fund, holding, stake}
use Rattle.scr_made.specs.Made.{assets}
use Rattle.scr_made.specs.declared.making.TheConstants.{SECURITIES, FUNDS}
use Rattle.scr_made.proofs.Steps.{appends_then, appends_given}
use Rattle.scr_made.proofs.making.push_assets.Goals as goal

pub returns : goal.returns
unfolding assets
returns c =
    let first = appends_given market c.args.draws.now.state c.args.out.now.items c.push_market.new.out.items
    c.in_ok-push_market.ensures in
    let groups = appends_then (given market) (each 400 group) _ _ _ _ _ _ first c.in_ok-push_rows.ensures in
    let securities = appends_then _ (each SECURITIES security) _ _ _ _ _ _ groups c.in_ok-push_rows-2.ensures in
    let funds = appends_then _ (each FUNDS fund) _ _ _ _ _ _ securities c.in_ok-push_rows-3.ensures in
    let holdings = appends_then _ (each SECURITIES holding) _ _ _ _ _ _ funds c.in_ok-push_rows-4.ensures in
    on_ok_weaker c.push_rows-5.result
    (λ last. appends_then _ (each FUNDS (λ k. given (stake k))) _ _ _ _ _ _ holdings last)
    c.push_rows-5.ensures
