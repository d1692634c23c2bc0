-- The choice among alternative scenarios, after Article 206(2) of Delegated Regulation (EU) 2015/35: the scenario with
-- the greatest net requirement decides. Among those with one net requirement the one with the greatest gross
-- requirement does, and then the first listed (this project's own).
use Rattle.std.specs.Prelude.{ℕ, zero, suc, ◌<◌, ◌≤◌, Bool, not, ◌&&◌, ◌||◌, List, length, slice_index_or}
use Rattle.std.specs.Prelude.{if◌then◌else◌}
use Rattle.scr_num.specs.Fraction.{Fraction, ◌≼◌, zero_fraction, is_less}

-- what a scenario costs before and after absorption
pub record Outcome : Type 0 where
  pub gross : Fraction
  pub net : Fraction

-- the outcome at a place of the list
abbrev pub outcome_at : List Outcome → ℕ → Outcome
outcome_at list k = slice_index_or list k (record { gross = zero_fraction; net = zero_fraction })

-- no net is greater; no gross is greater among those with this net; and those with both stand behind it
pub record IsChosen (list : List Outcome) (place : ℕ) : Type 0 where
  pub listed : place < length list
  pub greatest_net : (j : ℕ) → j < length list → (outcome_at list j).net ≼ (outcome_at list place).net
  pub greatest_gross : (j : ℕ) → j < length list → (outcome_at list place).net ≼ (outcome_at list j).net
      → (outcome_at list j).gross ≼ (outcome_at list place).gross
  pub first : (j : ℕ) → j < length list → (outcome_at list place).net ≼ (outcome_at list j).net
      → (outcome_at list place).gross ≼ (outcome_at list j).gross → place ≤ j

-- ---- the same, worked out place by place: the law `choice_of_outcomes` says that it is the one chosen
-- the first is to be taken in place of the second, which is listed before it
abbrev pub surpasses : Outcome → Outcome → Bool
surpasses a b = is_less b.net a.net || (not (is_less a.net b.net) && is_less b.gross a.gross)

-- the place chosen among the first n
unfoldable pub chosen_below : List Outcome → ℕ → ℕ
chosen_below list zero = 0
chosen_below list (suc n) =
    if surpasses (outcome_at list n) (outcome_at list (chosen_below list n)) then n else chosen_below list n

-- the place chosen among all
abbrev pub chosen : List Outcome → ℕ
chosen list = chosen_below list (length list)
