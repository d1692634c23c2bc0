-- The place of the assets among the marks tells whether all squares are reached.
use Rattle.std.proofs.Common.{◌≡◌, ℕ, true, List, Option, Some, None, slice_get, refl, ap, ◌∙◌}
use Rattle.std.specs.Prelude.{IfSome, is_some}
use Rattle.scr_member_index.specs.declared.lists.Lists.{Lists}
use Rattle.scr_ids.specs.Ranges.{Numbered}
use Rattle.scr_book.specs.RolledSheets.{RolledSheet}
use Rattle.scr_reachability.proofs.Placed.{placed-get}
use Rattle.scr_tree.specs.Marking.{AreAssetsMarked}
use Rattle.scr_tree.specs.Points.{AreNumbersOf}
use Rattle.scr_tree.proofs.MarkedMore.{marked-here}
use Rattle.scr_tree.proofs.OfRows.{assets-only, assets-stand}

module _ (book : RolledSheet) (places : Numbered) (lists : Lists) (numbers : AreNumbersOf book places lists) (marks : List ℕ) where
  pub assets-found : (found : Option ℕ) → IfSome found (λ place. slice_get marks place ≡ Some 153) → is_some found ≡ true
      → AreAssetsMarked book places lists marks
  assets-found None there is = absurd (cc)
  assets-found (Some place) there is = (153, assets-stand book places lists numbers, marked-here marks 153 (Some place) there refl)

  pub found-assets : (found : Option ℕ) → ((place : ℕ) → slice_get marks place ≡ Some 153 → found ≡ Some place)
      → AreAssetsMarked book places lists marks → is_some found ≡ true
  found-assets found only (number, at, h) =
      ap is_some (only h.0 (placed-get marks number h ∙ ap Some (assets-only book places lists numbers number at)))
