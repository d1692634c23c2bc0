-- The opening sheet is kept with every sum at 0.
use Rattle.std.proofs.Common.{◌≡◌, ℕ, ℤ, List, [], ◌∷◌, refl, sym, subst}
use Rattle.scr_sheet.specs.BalanceSheet.{opening}
use Rattle.scr_sheet.specs.Validity.{Valid}
use Rattle.scr_sheet.proofs.Preserved.{Valid-opening}
use Rattle.scr_book.specs.Sums.{AreSumsOf}
use Rattle.scr_book.specs.Holders.{IsGraphOf}
use Rattle.scr_book.proofs.LastDays.{days-opening}
use Rattle.scr_book.specs.LastDays.{AreDaysOf}
use Rattle.scr_counters.specs.Days.{count_of}
use Rattle.scr_fund_graph.specs.Graph.{components_under}
use Rattle.scr_book.specs.Kept.{IsKept}
use Rattle.scr_book.specs.declared.sums.Sums.{Sums}
use Rattle.scr_book.specs.declared.ledger.Ledger.TheInside.{Inside}

abbrev pub no_sums : Sums
no_sums = record { held = 0; liability_flows = 0 ∷ 0 ∷ 0 ∷ 0 ∷ 0 ∷ 0 ∷ 0 ∷ 0 ∷ 0 ∷ 0 ∷ []; nl = 0; nslt = 0; defaults = 0; components = 0 }

sums-opening : AreSumsOf opening no_sums
sums-opening = record { held = refl; liability_flows = refl; nl = refl; nslt = refl; defaults = refl; components = refl }

pub kept-opening : (book : Inside) → book.sheet ≡ opening → book.sums ≡ no_sums → ((day : ℤ) → count_of day book.days ≡ 0) → ((x : List ℕ) → components_under book.graph x ≡ []) → IsKept book
kept-opening book is none uncounted empty =
    record {
      valid = subst Valid (sym is) Valid-opening;
      sums = subst (λ sheet. AreSumsOf sheet book.sums) (sym is) (subst (AreSumsOf opening) (sym none) sums-opening);
      days = subst (λ sheet. AreDaysOf sheet book.days) (sym is) (days-opening opening book.days refl refl uncounted);
      graph = λ fresh. subst (λ sheet. IsGraphOf sheet book.graph) (sym is) (record { components = λ i x. empty x i });
    }
