use Rattle.std.proofs.Common.{sym, ap, subst, ◌∙◌}
use Rattle.std.proofs.lemmas.List.{length-set}
use Rattle.scr_funds.specs.Ranks.{HavePlaces, rank_now}
use Rattle.scr_funds.proofs.Ranked.{front_placed, last_placed, rank_now-written}
use Rattle.scr_funds.proofs.ranks.give.Goals as goal

pub loop-fund-preserved : goal.loop-fund-preserved
loop-fund-preserved c =
    let old = c.loop-fund.ranks.items in
    let left = c.pop.new.self.entries in
    let placed = subst (HavePlaces old) c.in-Some.ensures.entries c.loop-fund.invariant.placed in
    record {
      each = λ fund. rank_now-written old left c.in-Some.fund c.in-Some.rank fund
          (last_placed old left c.in-Some.fund c.in-Some.rank placed)
          ∙ ap (λ es. rank_now old es fund) (sym c.in-Some.ensures.entries) ∙ c.loop-fund.invariant.each fund;
      placed = front_placed old left c.in-Some.fund c.in-Some.rank placed;
      long = length-set old c.in-Some.fund c.in-Some.rank ∙ c.loop-fund.invariant.long;
    }
