-- Pairs of ends that are the same end by end, and their sums.
use Rattle.std.proofs.Common.{◌≡◌, ℤ, pos, ◌+ℤ◌, ap₂, arith}
use Rattle.std.proofs.lemmas.Int.{ints}
use Rattle.scr_num.specs.Rounding.{Ends, exact_ends, add_ends}

pub same_ends : (a b c d : ℤ) → a ≡ c → b ≡ d
    → ◌≡◌ {A = Ends} (record { low = a; high = b }) (record { low = c; high = d })
same_ends a b c d e f = ap₂ (λ (x : ℤ) (y : ℤ). let r : Ends = record { low = x; high = y } in r) e f

pub add_ends-assoc : (a b c : Ends) → add_ends (add_ends a b) c ≡ add_ends a (add_ends b c)
add_ends-assoc a b c = same_ends _ _ _ _ (three a.low b.low c.low) (three a.high b.high c.high)
  where
    three : (x y z : ℤ) → (x +ℤ y) +ℤ z ≡ x +ℤ (y +ℤ z)
    three x y z = omega (arith, ints)

pub zero-add_ends : (e : Ends) → add_ends (exact_ends (pos 0)) e ≡ e
zero-add_ends e = same_ends _ _ e.low e.high (omega (arith, ints)) (omega (arith, ints))

pub add_ends-zero : (e : Ends) → add_ends e (exact_ends (pos 0)) ≡ e
add_ends-zero e = same_ends _ _ e.low e.high (omega (arith, ints)) (omega (arith, ints))
