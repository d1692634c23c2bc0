-- A figure is told by its table, its family and its row's name: these lead back to it.
use Rattle.std.proofs.Common.{◌≡◌, ℕ, zero, suc, ◌+◌, ◌<◌, ◌&&◌, Bool, true, false, if◌then◌else◌, List, [], ◌∷◌, Some, length, get_or, eqb, refl, sym, ap, subst, ◌∙◌, arith}
use Rattle.std.specs.List.{slice_get}
use Rattle.std.proofs.lemmas.Bool.{and_parts, eqb-true}
use Rattle.scr_ids.specs.Ranges.{stride}
use Rattle.scr_ids.specs.declared.table.Table.{Table}
use Rattle.scr_ids.specs.declared.table.Table.TheVariants as tables
use Rattle.scr_sheet.specs.declared.keys.Projection.TheVariants as projections
use Rattle.scr_nodes.specs.Live.{whole_lives}
use Rattle.scr_nodes.specs.Numbers.{measure_place, number_of_whole, scenario_place, scenarios_from, whole_nodes}
use Rattle.scr_nodes.specs.Rows.{has_stress}
use Rattle.scr_nodes.specs.declared.{node.Node.Node, node.OfCurrency.OfCurrency, node.OfGroup.OfGroup, node.OfLiability.OfLiability, node.OfSecurity.OfSecurity, node.Whole.Whole}
use Rattle.scr_nodes.specs.declared.node.Direction.TheVariants.{Up, Down}
use Rattle.scr_nodes.specs.declared.node.Measure.TheVariants.{Gross, Net}
use Rattle.scr_nodes.specs.declared.node.Node.TheVariants as nodes
use Rattle.scr_nodes.specs.declared.node.OfCurrency.TheVariants as of_currencies
use Rattle.scr_nodes.specs.declared.node.OfFund.TheVariants as of_funds
use Rattle.scr_nodes.specs.declared.node.OfGroup.TheVariants as of_groups
use Rattle.scr_nodes.specs.declared.node.OfLiability.TheVariants as of_liabilities
use Rattle.scr_nodes.specs.declared.node.OfSecurity.TheVariants as of_securities
use Rattle.scr_nodes.specs.declared.node.Whole.TheVariants as wholes
use Rattle.scr_nodes.proofs.Numbers.{whole-at as listed-at}
use Rattle.scr_figure_ids.specs.Families.{currency_family, family_of, group_family, liability_family, name_of, security_family, table_of, whole_family}
use Rattle.scr_figure_ids.specs.declared.wholes.TheConstants.{WHOLES}

-- ---- the whole sheet

-- each of the family that follows that of the one before it
abbrev is_numbered : ℕ → List Whole → Bool
is_numbered family [] = true
is_numbered family (x ∷ xs) = eqb (whole_family x) family && is_numbered (suc family) xs

numbered-at : (family : ℕ) (list : List Whole) → is_numbered family list ≡ true → (k : ℕ) (d : Whole) → k < length list
    → whole_family (get_or list k d) ≡ family + k
numbered-at family [] h k d room = absurd (omega arith)
numbered-at family (x ∷ xs) h zero d room =
    let two = and_parts (eqb (whole_family x) family) (is_numbered (suc family) xs) h in
    let own = eqb-true (whole_family x) family two.0 in
    omega (arith, own)
numbered-at family (x ∷ xs) h (suc k) d room =
    let two = and_parts (eqb (whole_family x) family) (is_numbered (suc family) xs) h in
    let rest = numbered-at (suc family) xs two.1 k d (omega arith) in
    omega (arith, rest)

pub whole-at : (k : ℕ) (d : Whole) → k < 154 → whole_family (get_or WHOLES k d) ≡ k
whole-at k d room = let at = numbered-at 0 WHOLES refl k d room in omega (arith, at)

-- ---- a family is a place in the list of the figures of the whole sheet

-- what lives has the number that goes with the test
chosen : (b : Bool) (n m : ℕ) → b ≡ true → n ≡ m → (if b then n else 154) ≡ m
chosen b n m live same = subst (λ t. (if t then n else 154) ≡ m) (sym live) same

pub family-listed : (what : Whole) → whole_lives what ≡ true → whole_family what ≡ number_of_whole what
family-listed (wholes.BioScenario biometric projection measure) h =
    let number = scenarios_from biometric + scenario_place projection + measure_place measure in
    chosen (has_stress biometric projection) number number h refl
family-listed what h = refl

-- what has a family lives
given : (b : Bool) (n : ℕ) → (if b then n else 154) < 154 → b ≡ true
given true n low = refl
given false n low = absurd (omega arith)

whole-given : (what : Whole) → whole_family what < 154 → whole_lives what ≡ true
whole-given (wholes.BioScenario biometric projection measure) low =
    given (has_stress biometric projection) (scenarios_from biometric + scenario_place projection + measure_place measure) low
whole-given what low = refl

whole-told : (a b : Whole) → whole_family a ≡ whole_family b → whole_family b < 154 → a ≡ b
whole-told a b same low =
    let live-a = whole-given a (subst (λ f. f < 154) (sym same) low) in
    let live-b = whole-given b low in
    let number : number_of_whole a ≡ number_of_whole b = sym (family-listed a live-a) ∙ same ∙ family-listed b live-b in
    let one : Some (nodes.Whole a) ≡ Some (nodes.Whole b) =
    sym (listed-at a live-a) ∙ ap (slice_get whole_nodes) number ∙ listed-at b live-b in
    cc

abbrev back : ℕ → Whole
back family = get_or WHOLES family wholes.Scr

whole-back : (what : Whole) → whole_family what < 154 → back (whole_family what) ≡ what
whole-back what low = whole-told (back (whole_family what)) what (whole-at (whole_family what) wholes.Scr low) low

-- ---- the rows

abbrev securities_in : List OfSecurity
securities_in =
    of_securities.Total ∷ of_securities.UnitLoss Up ∷ of_securities.UnitLoss Down ∷ of_securities.Rate Up ∷ of_securities.Rate Down
    ∷ of_securities.Spread ∷ []

abbrev liabilities_in : List OfLiability
liabilities_in =
    of_liabilities.Rate Up ∷ of_liabilities.Rate Down ∷ of_liabilities.Present
    ∷ of_liabilities.Loss projections.Mortality ∷ of_liabilities.Loss projections.Longevity ∷ of_liabilities.Loss projections.Disability
    ∷ of_liabilities.Loss projections.Expense ∷ of_liabilities.Loss projections.Revision ∷ of_liabilities.Loss projections.LapseUp
    ∷ of_liabilities.Loss projections.LapseDown ∷ of_liabilities.Loss projections.LapseMass
    ∷ of_liabilities.Loss projections.Catastrophe ∷ []

abbrev groups_in : List OfGroup
groups_in = of_groups.Total ∷ of_groups.ConcentrationSquare ∷ of_groups.Loss ∷ []

abbrev currencies_in : List OfCurrency
currencies_in =
    of_currencies.Loss Up ∷ of_currencies.Loss Down ∷ of_currencies.Scenario Up Gross ∷ of_currencies.Scenario Up Net
    ∷ of_currencies.Scenario Down Gross ∷ of_currencies.Scenario Down Net ∷ of_currencies.Choice
    ∷ of_currencies.Picked Gross ∷ of_currencies.Picked Net ∷ []

security-back : (what : OfSecurity) → get_or securities_in (security_family what) of_securities.Total ≡ what
security-back of_securities.Total = refl
security-back (of_securities.UnitLoss Up) = refl
security-back (of_securities.UnitLoss Down) = refl
security-back (of_securities.Rate Up) = refl
security-back (of_securities.Rate Down) = refl
security-back of_securities.Spread = refl

liability-back : (what : OfLiability) → liability_family what < 12 → get_or liabilities_in (liability_family what) of_liabilities.Present ≡ what
liability-back (of_liabilities.Rate Up) h = refl
liability-back (of_liabilities.Rate Down) h = refl
liability-back of_liabilities.Present h = refl
liability-back (of_liabilities.Loss projections.Base) h = absurd (omega arith)
liability-back (of_liabilities.Loss projections.Mortality) h = refl
liability-back (of_liabilities.Loss projections.Longevity) h = refl
liability-back (of_liabilities.Loss projections.Disability) h = refl
liability-back (of_liabilities.Loss projections.Expense) h = refl
liability-back (of_liabilities.Loss projections.Revision) h = refl
liability-back (of_liabilities.Loss projections.LapseUp) h = refl
liability-back (of_liabilities.Loss projections.LapseDown) h = refl
liability-back (of_liabilities.Loss projections.LapseMass) h = refl
liability-back (of_liabilities.Loss projections.Catastrophe) h = refl

group-back : (what : OfGroup) → get_or groups_in (group_family what) of_groups.Total ≡ what
group-back of_groups.Total = refl
group-back of_groups.ConcentrationSquare = refl
group-back of_groups.Loss = refl

currency-back : (what : OfCurrency) → get_or currencies_in (currency_family what) of_currencies.Choice ≡ what
currency-back (of_currencies.Loss Up) = refl
currency-back (of_currencies.Loss Down) = refl
currency-back (of_currencies.Scenario Up Gross) = refl
currency-back (of_currencies.Scenario Up Net) = refl
currency-back (of_currencies.Scenario Down Gross) = refl
currency-back (of_currencies.Scenario Down Net) = refl
currency-back of_currencies.Choice = refl
currency-back (of_currencies.Picked Gross) = refl
currency-back (of_currencies.Picked Net) = refl

-- ---- all

abbrev node_of : Table → ℕ → List ℕ → Node
node_of tables.Fund family name = nodes.Fund name of_funds.Total
node_of tables.Security family name = nodes.Security name (get_or securities_in family of_securities.Total)
node_of tables.Liability family name = nodes.Liability name (get_or liabilities_in family of_liabilities.Present)
node_of tables.Group family name = nodes.Group name (get_or groups_in family of_groups.Total)
node_of tables.Currency family name = nodes.Currency name (get_or currencies_in family of_currencies.Choice)
node_of tables.Whole family name = nodes.Whole (back family)
node_of tables.Part family name = nodes.Whole (back family)

led-back : (node : Node) → family_of node < stride (table_of node) → node_of (table_of node) (family_of node) (name_of node) ≡ node
led-back (nodes.Fund name of_funds.Total) h = refl
led-back (nodes.Security name what) h = ap (nodes.Security name) (security-back what)
led-back (nodes.Liability name what) h = ap (nodes.Liability name) (liability-back what h)
led-back (nodes.Group name what) h = ap (nodes.Group name) (group-back what)
led-back (nodes.Currency name what) h = ap (nodes.Currency name) (currency-back what)
led-back (nodes.Whole what) h = ap nodes.Whole (whole-back what h)

pub told : (a b : Node) → table_of a ≡ table_of b → family_of a ≡ family_of b → name_of a ≡ name_of b
    → family_of a < stride (table_of a) → a ≡ b
told a b table family name within =
    sym (led-back a within)
    ∙ ap (λ t. node_of t (family_of a) (name_of a)) table
    ∙ ap (λ f. node_of (table_of b) f (name_of a)) family
    ∙ ap (node_of (table_of b) (family_of b)) name
    ∙ led-back b (subst (λ f. f < stride (table_of b)) family (subst (λ t. family_of a < stride t) table within))
