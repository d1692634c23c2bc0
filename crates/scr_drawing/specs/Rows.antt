-- The rows of the drawing (this project's own).
use Rattle.std.specs.Prelude.{ℕ, ◌<◌, Bool, true, false, List, [], ◌∷◌, codes}
use Rattle.scr_drawing.specs.declared.rows.Row.{Row}

-- what a row shows, how far in it stands, and the numbers of its cells; or of the one cell that takes something off
pub record Shown : Type 0 where
  pub label : List ℕ
  pub level : ℕ
  pub gross : ℕ
  pub net : ℕ
  pub takes : Bool

abbrev pub row : List ℕ → ℕ → ℕ → ℕ → Bool → Shown
row label level gross net takes = record { label = label; level = level; gross = gross; net = net; takes = takes }

abbrev pub seen : Row → Shown
seen r = row r.label.now r.level r.gross r.net r.takes

-- its cells are of the table, and it stands at one of three levels
abbrev pub IsWithin : Shown → Type 0
IsWithin r = (r.gross < 102) × ((r.net < 102) × (r.level < 3))

unfoldable pub rows : List Shown
rows =
    row (codes "Solvency Capital Requirement") 0 16 16 false
    ∷ row (codes "Basic SCR") 0 11 12 false
    ∷ row (codes "diversification of the modules") 1 10 10 true
    ∷ row (codes "market risk") 1 0 1 false
    ∷ row (codes "interest rate risk") 2 21 22 false
    ∷ row (codes "equity risk") 2 27 28 false
    ∷ row (codes "property risk") 2 29 30 false
    ∷ row (codes "spread risk") 2 31 32 false
    ∷ row (codes "market risk concentrations") 2 33 34 false
    ∷ row (codes "currency risk") 2 35 36 false
    ∷ row (codes "counterparty default risk") 1 2 3 false
    ∷ row (codes "type 1 exposures") 2 39 39 false
    ∷ row (codes "type 2 exposures") 2 40 40 false
    ∷ row (codes "life underwriting risk") 1 4 5 false
    ∷ row (codes "mortality risk") 2 43 44 false
    ∷ row (codes "longevity risk") 2 45 46 false
    ∷ row (codes "disability and morbidity risk") 2 47 48 false
    ∷ row (codes "expense risk") 2 49 50 false
    ∷ row (codes "revision risk") 2 51 52 false
    ∷ row (codes "lapse risk") 2 59 60 false
    ∷ row (codes "life catastrophe risk") 2 61 62 false
    ∷ row (codes "health underwriting risk") 1 6 7 false
    ∷ row (codes "similar to life") 2 83 84 false
    ∷ row (codes "not similar to life") 2 87 87 false
    ∷ row (codes "health catastrophe risk") 2 88 89 false
    ∷ row (codes "non-life underwriting risk") 1 8 8 false
    ∷ row (codes "premium and reserve risk") 2 92 92 false
    ∷ row (codes "lapse risk") 2 93 93 false
    ∷ row (codes "catastrophe risk") 2 96 96 false
    ∷ row (codes "intangible asset risk") 1 9 9 false
    ∷ row (codes "operational risk") 0 15 15 false
    ∷ row (codes "adjustment for technical provisions") 0 13 13 true
    ∷ row (codes "adjustment for deferred taxes") 0 14 14 true
    ∷ []
