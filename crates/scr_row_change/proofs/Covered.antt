-- What stands in a list that is read off a row before and after.
use Rattle.std.proofs.Common.{◌≡◌, ◌⊎◌, Bool, true, false, List, ◌++◌, Option, Some, None, inl, inr}
use Rattle.scr_funds.proofs.Members.{IsMember, IsMember-left, IsMember-right}
use Rattle.scr_row_change.specs.Comparisons.{passes, is_kept}
use Rattle.scr_row_change.proofs.Compared.{one_holds}

module _ {Row A : Type 0} (test : Row → Bool) (figures : Option Row → List A) (x : A)
    (each : (row : Row) → test row ≡ true → IsMember x (figures (Some row))) where
  in-one : (row : Option Row) → passes test row ≡ true → IsMember x (figures row)
  in-one None e = absurd (cc)
  in-one (Some row) e = each row e

  -- of a row that passes before and not after, or after and not before
  pub in-either : (old new : Option Row) → is_kept test old new ≡ false → IsMember x (figures old ++ figures new)
  in-either old new e = by (one_holds (passes test old) (passes test new) e)
    where
      by : (passes test old ≡ true) ⊎ (passes test new ≡ true) → IsMember x (figures old ++ figures new)
      by (inl f) = IsMember-left (figures old) (figures new) x (in-one old f)
      by (inr f) = IsMember-right (figures old) (figures new) x (in-one new f)
