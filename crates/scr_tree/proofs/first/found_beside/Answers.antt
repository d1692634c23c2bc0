use Rattle.std.proofs.Common.{◌≡◌, IfOk, subst}
use Rattle.scr_discounts.specs.KeptRates.{all_rates, known_of}
use Rattle.scr_rules.specs.GroupLosses.{AreLossesOf}
use Rattle.scr_tree.specs.First.{AreNumbered, HaveRoom, IsGathered}
use Rattle.scr_tree.proofs.first.found_beside.Goals as goal

pub returns : goal.returns
returns g c =
    let sheet = c.args.book.now.sheet in
    record {
      rates = subst (λ r. IfOk r (λ all. known_of all.0 ≡ all_rates sheet)) c.in_ok-rates.was c.join-priced.ensures.first.0;
      losses = subst (λ r. IfOk r (λ all. AreLossesOf sheet all.1)) c.in_ok-rates.was c.join-priced.ensures.first.1;
      numbering = subst (λ r. IfOk r (λ all. AreNumbered c.args.book.now all.0)) c.in_ok-numbering.was c.join-priced.ensures.second.0;
      gathered = subst (λ r. IfOk r (λ all. IsGathered sheet all.1)) c.in_ok-numbering.was c.join-priced.ensures.second.1.0;
      room = subst (λ r. IfOk r (λ all. HaveRoom all.0 all.2)) c.in_ok-numbering.was c.join-priced.ensures.second.1.1;
    }
