-- The thresholds over the same assets, and the risk factors, as they are kept of each kind of group and each credit quality step, or none
-- (this project's own).
use Rattle.std.specs.Prelude.{◌≡◌, ℕ, ◌*◌, ◌≤◌, List, [], ◌∷◌, map, Option, Some, None}
use Rattle.scr_profile.specs.declared.group_kind.GroupKind.{GroupKind}
use Rattle.scr_profile.specs.declared.group_kind.GroupKind.TheVariants.{Name, Covered, Property, State}
use Rattle.scr_profile.specs.declared.limits.TheConstants.{MAX_HELD}
use Rattle.scr_conc.specs.Thresholds.{step_of, threshold_units, factor_units}
use Rattle.scr_conc.specs.declared.scale.Scale.TheInside.{Inside}

abbrev pub kinds : List GroupKind
kinds = Name ∷ Covered ∷ Property ∷ State ∷ []

abbrev pub steps : List (Option ℕ)
steps = Some 0 ∷ Some 1 ∷ Some 2 ∷ Some 3 ∷ Some 4 ∷ Some 5 ∷ Some 6 ∷ None ∷ []

-- where those of a kind stand, and of a step among these
abbrev pub row_of : GroupKind → ℕ
row_of Name = 0
row_of Covered = 1
row_of Property = 2
row_of State = 3

abbrev pub column_of : Option ℕ → ℕ
column_of (Some step) = step
column_of None = 7

-- the thresholds in thousandths of a cent of the assets, and the factors in hundredths
abbrev pub shares_of : ℕ → GroupKind → List ℕ
shares_of assets kind = map (λ step. threshold_units kind step * assets) steps

abbrev pub charges_of : GroupKind → List ℕ
charges_of kind = map (factor_units kind) steps

-- so many cents are above no threshold over the assets
abbrev pub IsFree : (assets cents : ℕ) → Type 0
IsFree assets cents = (kind : GroupKind) (step : Option ℕ) → step_of step ≤ 6 → 1000 * cents ≤ threshold_units kind step * assets

-- and no more are above none
pub record IsMostFree (assets cents : ℕ) : Type 0 where
  pub free : IsFree assets cents
  pub most : (other : ℕ) → IsFree assets other → other ≤ cents

pub record IsScale (s : Inside) : Type 0 where
  pub held : s.assets ≤ MAX_HELD
  pub free : IsMostFree s.assets s.free
  pub shares : s.shares ≡ map (shares_of s.assets) kinds
  pub charges : s.charges ≡ map charges_of kinds
