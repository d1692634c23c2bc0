-- Two spans of the same ends are one.
use Rattle.std.proofs.Common.{◌≡◌, Bool, true, false, refl, sym, ap, subst}
use Rattle.std.specs.Prelude.{ℤ, T, ◌≤ℤ◌}
use lib.Signed.{le_z}
use Rattle.scr_num.specs.declared.span.Span.{Span}

one_proof : (b : Bool) (p q : T b) → p ≡ q
one_proof true p q = refl
one_proof false p q = absurd p

pub one_order : (low high : ℤ) (p q : low ≤ℤ high) → p ≡ q
one_order low high p q = ap (λ (t : T (le_z low high)). record { le = t }) (one_proof (le_z low high) p.le q.le)

pub one_span : (low high : ℤ) (span : Span) → low ≡ span.low → high ≡ span.high → (ordered : low ≤ℤ high)
    → ◌≡◌ {A = Span} (record { low = low; high = high; ordered = ordered }) span
one_span low high span low_is high_is =
    subst (λ (x : ℤ). (ordered : x ≤ℤ high) → ◌≡◌ {A = Span} (record { low = x; high = high; ordered = ordered }) span) (sym low_is)
    (subst (λ (y : ℤ). (ordered : span.low ≤ℤ y) → ◌≡◌ {A = Span} (record { low = span.low; high = y; ordered = ordered }) span) (sym high_is)
    (λ ordered. ap (λ (o : span.low ≤ℤ span.high). record { low = span.low; high = span.high; ordered = o })
    (one_order span.low span.high ordered span.ordered)))
