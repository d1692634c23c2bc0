use Rattle.std.proofs.Common.{ℕ, ◌<◌, List, Option, Some, None, IfSome, subst}
use Rattle.scr_counters.specs.Days.{IsLast}
use Rattle.scr_counters.specs.Blocks.{IsLastIn}
use Rattle.scr_counters.proofs.ByDay.{last-none, last-some}
use Rattle.scr_counters.proofs.days.DayTally.last.Goals as goal

pub day_at-requires-clause-block : goal.day_at-requires-clause-block
day_at-requires-clause-block c =
    (subst (λ (found : Option (ℕ × ℕ)). IfSome found (λ at. (at.0 < 251) × (at.1 < 438))) c.in-Some.is c.last.ensures.within).0

pub day_at-requires-clause-place : goal.day_at-requires-clause-place
day_at-requires-clause-place c =
    (subst (λ (found : Option (ℕ × ℕ)). IfSome found (λ at. (at.0 < 251) × (at.1 < 438))) c.in-Some.is c.last.ensures.within).1

pub returns-in-Some : goal.returns-in-Some
returns-in-Some c =
    let within = subst (λ (found : Option (ℕ × ℕ)). IfSome found (λ at. (at.0 < 251) × (at.1 < 438))) c.in-Some.is c.last.ensures.within in
    subst (λ (blocks : List (List ℕ)). IsLast blocks (Some c.day_at.result)) c.self.view_is
    (last-some _ c.in-Some.block c.in-Some.place (subst (IsLastIn _) c.in-Some.is c.last.ensures.last) c.day_at.result c.day_at.ensures.is_day c.day_at.ensures.days within.1)

pub returns-in-None : goal.returns-in-None
returns-in-None c =
    subst (λ (blocks : List (List ℕ)). IsLast blocks None) c.self.view_is
    (last-none _ (subst (IsLastIn _) c.in-None.is c.last.ensures.last))
