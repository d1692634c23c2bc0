-- How near alternatives are between which the ends leave the choice open (this project's own).
use Rattle.std.specs.Prelude.{◌≡◌, ℕ, ◌<◌, pos, List, length}
use Rattle.scr_num.specs.Fraction.{Fraction, ◌≼◌, over, plus}
use Rattle.scr_num.specs.Rounding.{Ends}
use Rattle.scr_agg.specs.Choice.{Outcome, outcome_at}
use Rattle.scr_agg.specs.Unbeaten.{Alternative, alternative_at}

-- neither fraction is more than w units, of which `unit` make one, above the other
pub record AreNear (unit w : ℕ) (p q : Fraction) : Type 0 where
  pub positive : 0 < unit
  pub first : p ≼ plus q (over (pos w) unit positive)
  pub second : q ≼ plus p (over (pos w) unit positive)

-- one number is known
pub record IsExact (e : Ends) : Type 0 where
  pub same : e.low ≡ e.high

-- The exact net requirements of two alternatives are near, and where the net ones are known and equal, so that the
-- gross ones decide, these are.
pub record AreOpen (unit w : ℕ) (a b : Alternative) (o p : Outcome) : Type 0 where
  pub nets : AreNear unit w o.net p.net
  pub grosses : IsExact a.net → IsExact b.net → a.net.low ≡ b.net.low → AreNear unit w o.gross p.gross

-- two alternatives of the list are as near as that
pub record HasOpen (unit w : ℕ) (list : List Alternative) (outcomes : List Outcome) : Type 0 where
  pub first : ℕ
  pub second : ℕ
  pub order : first < second
  pub listed : second < length list
  pub near : AreOpen unit w (alternative_at list first) (alternative_at list second) (outcome_at outcomes first)
      (outcome_at outcomes second)
