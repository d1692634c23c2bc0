-- What a limit of bytes comes to.
use Rattle.std.proofs.Common.{◌≡◌, ◌⊎◌, ◌<◌, inl, inr, ℕ, Bool, true, false, cond, List, length, Result, Ok, Err, nat_le, refl, arith}
use Rattle.std.proofs.lemmas.Bool.Decides.{leb_tells}
use Rattle.scr_obligations.specs.Plan.{and_then, limited}

module _ {S V : Type 0} (most : ℕ) (too_long due : S) (next : List ℕ → Result V S) (bytes : List ℕ) where
  by_length : (b : Bool) → nat_le (length bytes) most ≡ b → and_then next (cond b (Ok bytes) (Err too_long)) ≡ Err due
      → ((due ≡ too_long) × (most < length bytes)) ⊎ (next bytes ≡ Err due)
  by_length true fits h = inr h
  by_length false long h = inl (cc, grind (arith, leb_tells (length bytes) most))

  -- a file that is refused is too long, or what its bytes stand for is refused
  pub refused : and_then next (limited most too_long bytes) ≡ Err due → ((due ≡ too_long) × (most < length bytes)) ⊎ (next bytes ≡ Err due)
  refused e = by_length (nat_le (length bytes) most) refl e
