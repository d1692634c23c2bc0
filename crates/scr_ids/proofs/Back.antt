-- What came goes, and what went comes back.
use Rattle.std.proofs.Common.{◌≡◌, ℕ, ◌+◌, ◌-◌, ◌<◌, ◌≤◌, ⊎_elim, sym, ap, ◌∙◌, arith}
use Rattle.std.proofs.lemmas.Bool.{cases_eq, cases_lt}
use Rattle.scr_ids.specs.Ranges.{Numbered, count, first, made}
use Rattle.scr_ids.specs.Moves.{Came, IsAsBefore, IsWholeAsBefore, PutBack, Retired, Risen, Sunk, Went}
use Rattle.scr_ids.specs.Steps.{Revived, Rising}
use Rattle.scr_ids.specs.declared.table.Table.{Table}
use Rattle.scr_ids.proofs.Views.{of_all}

-- what sank rises again
pub sunk-risen : (low high : ℕ) (was between now : ℕ → ℕ) → low ≤ high → Sunk low high was between → Risen low high between now
    → (m : ℕ) → now m ≡ was m
sunk-risen low high was between now order sunk risen m = ⊎_elim
    (λ less. risen.below m less ∙ sunk.below m less)
    (λ least. ⊎_elim
    (λ e. ap now e ∙ risen.moved ∙ sunk.moved ∙ ap was (sym e))
    (λ other. ⊎_elim
    (λ beyond. risen.above m beyond ∙ sunk.above m beyond)
    (λ most.
    let n : ℕ = m - 1 in
    let next : n + 1 ≡ m = omega arith in
    ap now (sym next) ∙ risen.between n (omega arith) (omega arith) ∙ sunk.between n (omega arith) (omega arith) ∙ ap was next)
    (cases_lt high m))
    (cases_eq m low))
    (cases_lt m low)

pub came-back : (table : Table) (before between after : Numbered) → Came table before between → Retired table between after
    → IsAsBefore before after
came-back table before between after came retired = record {
  counts = of_all (λ any. count after any ≡ count before any) table
      (omega (arith, came.one_more, retired.one_less))
      (λ other f. retired.others.counts other f ∙ came.others.counts other f);
  firsts = of_all (λ any. (k : ℕ) → k < count before any → first after any k ≡ first before any k) table
      (λ k less. retired.firsts k ∙ came.firsts k (omega (arith, came.within)))
      (λ other f k less. retired.others.firsts other f k ∙ came.others.firsts other f k);
}

pub went-back : (table : Table) (k : ℕ) (before between after : Numbered) → k < count before table → Went table k before between
    → PutBack table k between after → IsWholeAsBefore before after
went-back table k before between after inside went back = record {
  counts = of_all (λ any. count after any ≡ count before any) table
      (omega (arith, went.one_less, back.one_more))
      (λ other f. back.others.counts other f ∙ went.others.counts other f);
  ranges = of_all (λ any. made after any ≡ made before any) table
      (back.ranges ∙ went.ranges)
      (λ other f. back.others.ranges other f ∙ went.others.ranges other f);
  firsts = of_all (λ any. (m : ℕ) → first after any m ≡ first before any m) table
      (sunk-risen k (count between table) (first before table) (first between table) (first after table)
      (omega (arith, went.one_less)) went.firsts back.firsts)
      (λ other f m. back.others.firsts other f m ∙ went.others.firsts other f m);
  size = back.size ∙ went.size;
}

-- a row that comes back last rises to its place
pub put-back : (table : Table) (k : ℕ) (before between now : Numbered) → Revived table before between → (low high : ℕ) → low ≡ k
    → high ≡ count before table → Rising table low high between now → PutBack table k before now
put-back table k before between now revived low high low_is high_is rising = record {
  others = record {
    counts = λ other f. rising.others.counts other f ∙ revived.others.counts other f;
    ranges = λ other f. rising.others.ranges other f ∙ revived.others.ranges other f;
    firsts = λ other f m. rising.others.firsts other f m ∙ revived.others.firsts other f m;
  };
  one_more = rising.counts ∙ revived.one_more;
  ranges = rising.ranges ∙ revived.ranges;
  firsts = record {
    below = λ m less. rising.firsts.below m (omega arith) ∙ revived.firsts m;
    between = λ m least most. rising.firsts.between m (omega arith) (omega arith) ∙ revived.firsts m;
    moved = ap (first now table) (sym low_is) ∙ rising.firsts.moved ∙ revived.firsts high ∙ ap (first before table) high_is;
    above = λ m more. rising.firsts.above m (omega arith) ∙ revived.firsts m;
  };
  size = rising.size ∙ revived.size;
}
