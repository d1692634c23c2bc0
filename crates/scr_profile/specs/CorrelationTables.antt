-- The tables of correlations as the Regulation prints them: Directive 2009/138/EC, Annex IV, and Delegated Regulation
-- (EU) 2015/35. A table is printed by its coefficients above the diagonal, pair by pair, in hundredths: `25` is 0.25.
use Rattle.std.specs.Prelude.{◌≡◌, ℕ, ◌<◌, ◌==◌, Bool, ◌&&◌, ◌||◌, if◌then◌else◌, List, [], ◌∷◌, ℤ, pos, neg_ℤ, ◌*ℤ◌}
use Rattle.scr_profile.specs.declared.matrix.Matrix.{Matrix}
use Rattle.scr_profile.specs.Matrix.{entry}

-- one coefficient: of which two, and how many hundredths
pub record Coefficient : Type 0 where
  pub first : ℕ
  pub second : ℕ
  pub hundredths : ℤ

abbrev pub with : ℕ → ℕ → ℤ → Coefficient
with first second hundredths = record { first = first; second = second; hundredths = hundredths }

-- the coefficient is that of the two, in either order
abbrev pub is_of : Coefficient → ℕ → ℕ → Bool
is_of c i j = (c.first == i && c.second == j) || (c.first == j && c.second == i)

abbrev pub printed_for : List Coefficient → ℕ → ℕ → ℤ
printed_for [] i j = pos 0
printed_for (c ∷ cs) i j = if is_of c i j then c.hundredths else printed_for cs i j

-- each is fully correlated with itself
abbrev pub correlation : List Coefficient → ℕ → ℕ → ℤ
correlation printed i j = if i == j then pos 100 else printed_for printed i j

-- the matrix has so many rows and columns, and each coefficient is the one that is printed
pub record IsPrinted (size : ℕ) (printed : List Coefficient) (m : Matrix) : Type 0 where
  pub size_is : m.n ≡ size
  pub equal : (i j : ℕ) → i < size → j < size → pos 100 *ℤ entry m i j ≡ m.den *ℤ correlation printed i j

-- ---- Directive 2009/138/EC, Annex IV, point 1
abbrev pub bscr : List Coefficient
bscr =
    let market : ℕ = 0 in
    let default : ℕ = 1 in
    let life : ℕ = 2 in
    let health : ℕ = 3 in
    let nonlife : ℕ = 4 in
    with market default (pos 25) ∷ with market life (pos 25) ∷ with market health (pos 25) ∷ with market nonlife
    (pos 25)
    ∷ with default life (pos 25) ∷ with default health (pos 25) ∷ with default nonlife (pos 50)
    ∷ with life health (pos 25) ∷ with life nonlife (pos 0)
    ∷ with health nonlife (pos 0) ∷ []

-- ---- Article 164(3), where A is 0 or 0.5
abbrev pub market : ℤ → List Coefficient
market a =
    let interest : ℕ = 0 in
    let equity : ℕ = 1 in
    let property : ℕ = 2 in
    let spread : ℕ = 3 in
    let concentration : ℕ = 4 in
    let currency : ℕ = 5 in
    with interest equity a ∷ with interest property a ∷ with interest spread a
    ∷ with interest concentration (pos 0) ∷ with interest currency (pos 25)
    ∷ with equity property (pos 75) ∷ with equity spread (pos 75) ∷ with equity concentration
    (pos 0) ∷ with equity currency (pos 25)
    ∷ with property spread (pos 50) ∷ with property concentration (pos 0) ∷ with property currency (pos 25)
    ∷ with spread concentration (pos 0) ∷ with spread currency (pos 25)
    ∷ with concentration currency (pos 0) ∷ []

-- ---- Article 151, and Article 136 with life catastrophe risk besides
abbrev pub slt : List Coefficient
slt =
    let mortality : ℕ = 0 in
    let longevity : ℕ = 1 in
    let disability : ℕ = 2 in
    let expense : ℕ = 3 in
    let revision : ℕ = 4 in
    let lapse : ℕ = 5 in
    with mortality longevity (neg_ℤ (pos 25)) ∷ with mortality disability (pos 25) ∷ with mortality expense (pos 25)
    ∷ with mortality revision (pos 0) ∷ with mortality lapse (pos 0)
    ∷ with longevity disability (pos 0) ∷ with longevity expense (pos 25) ∷ with longevity revision
    (pos 25) ∷ with longevity lapse (pos 25)
    ∷ with disability expense (pos 50) ∷ with disability revision (pos 0) ∷ with disability lapse (pos 0)
    ∷ with expense revision (pos 50) ∷ with expense lapse (pos 50)
    ∷ with revision lapse (pos 0) ∷ []

abbrev pub life : List Coefficient
life =
    let mortality : ℕ = 0 in
    let longevity : ℕ = 1 in
    let disability : ℕ = 2 in
    let expense : ℕ = 3 in
    let revision : ℕ = 4 in
    let lapse : ℕ = 5 in
    let catastrophe : ℕ = 6 in
    with mortality longevity (neg_ℤ (pos 25)) ∷ with mortality disability (pos 25) ∷ with mortality expense (pos 25)
    ∷ with mortality revision (pos 0) ∷ with mortality lapse (pos 0) ∷ with mortality catastrophe (pos 25)
    ∷ with longevity disability (pos 0) ∷ with longevity expense (pos 25) ∷ with longevity revision (pos 25)
    ∷ with longevity lapse (pos 25) ∷ with longevity catastrophe (pos 0)
    ∷ with disability expense (pos 50) ∷ with disability revision (pos 0) ∷ with disability lapse (pos 0)
    ∷ with disability catastrophe (pos 25)
    ∷ with expense revision (pos 50) ∷ with expense lapse (pos 50) ∷ with expense catastrophe (pos 25)
    ∷ with revision lapse (pos 0) ∷ with revision catastrophe (pos 0)
    ∷ with lapse catastrophe (pos 25) ∷ []

-- ---- Article 144
abbrev pub health : List Coefficient
health =
    let slt : ℕ = 0 in
    let nslt : ℕ = 1 in
    let catastrophe : ℕ = 2 in
    with slt nslt (pos 50) ∷ with slt catastrophe (pos 25) ∷ with nslt catastrophe (pos 25) ∷ []

-- ---- Article 114
abbrev pub nonlife : List Coefficient
nonlife =
    let premium_reserve : ℕ = 0 in
    let catastrophe : ℕ = 1 in
    let lapse : ℕ = 2 in
    with premium_reserve catastrophe (pos 25) ∷ with premium_reserve lapse (pos 0) ∷ with catastrophe lapse (pos 0) ∷ []

-- ---- Annex XV: the four segments of NSLT health
abbrev pub nslt : List Coefficient
nslt =
    with 0 1 (pos 50) ∷ with 0 2 (pos 50) ∷ with 0 3 (pos 50) ∷ with 1 2 (pos 50) ∷ with 1 3 (pos 50) ∷ with 2 3
    (pos 50) ∷ []

-- ---- Article 168(4): type 1 equities, and all others
abbrev pub equity : List Coefficient
equity = let type1 : ℕ = 0 in let others : ℕ = 1 in with type1 others (pos 75) ∷ []

-- ---- Article 189(1)
abbrev pub default : List Coefficient
default = let type1 : ℕ = 0 in let type2 : ℕ = 1 in with type1 type2 (pos 75) ∷ []
