use Rattle.std.proofs.Common.{◌≡◌, ◌+ℤ◌, ◌*◌, ◌≤◌, drop, unsigned_abs}
use Rattle.scr_explanation.specs.Taken.{together}
use Rattle.scr_explanation.proofs.taken.together.Given as goal

-- those so far, and the rest of them; each is moderate
abbrev pub invariant-loop-part : goal.invariant-loop-part
invariant-loop-part l = record {
  low : l.all.low +ℤ (together (drop l.part-index l.parts)).low ≡ (together l.parts).low;
  high : l.all.high +ℤ (together (drop l.part-index l.parts)).high ≡ (together l.parts).high;
  small_low : unsigned_abs l.all.low ≤ l.part-index * 1_000_000_000_000_000_000_000_000_000_000;
  small_high : unsigned_abs l.all.high ≤ l.part-index * 1_000_000_000_000_000_000_000_000_000_000;
}
