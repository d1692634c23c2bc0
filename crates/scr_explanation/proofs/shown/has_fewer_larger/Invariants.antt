use Rattle.std.proofs.Common.{◌≡◌, ◌+◌, ℕ, count_by, drop, nat_lt}
use Rattle.scr_explanation.proofs.shown.has_fewer_larger.Given as goal

-- what is left was lessened by each larger one so far, and is nil only where it was
abbrev pub invariant-loop-other : goal.invariant-loop-other
invariant-loop-other l = record {
  count : count_by (λ (other : ℕ). nat_lt l.own other) l.sizes + l.left ≡ l.top + count_by (λ (other : ℕ). nat_lt l.own other) (drop l.other-index l.sizes);
  some : l.left ≡ 0 → l.top ≡ 0;
}
