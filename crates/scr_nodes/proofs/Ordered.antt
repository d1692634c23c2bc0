-- The list of all figures of a valid balance sheet: each once, and after its sources.
use Rattle.std.proofs.Common.{◌≡◌, ◌⊎◌, ◌↔◌, inl, inr, ℕ, zero, suc, ◌+◌, ◌-◌, ◌<◌, ◌≤◌, Bool, true, false, cond, List, [], ◌∷◌, ◌++◌, map, take, filter, length, Contains, Option, Some, None, is_some, slice_get, refl, sym, ap, subst, ◌∙◌, arith, append_assoc}
use Rattle.std.specs.List.{AllByRecursion, IsDistinct}
use Rattle.std.specs.Option.{option_map_or}
use Rattle.scr_funds.proofs.Members.{IsMember, IsMember-left, IsMember-right, IsMember-cases, IsMember-mapped, IsMember-from_Contains, Contains-from_IsMember, at_member}
use Rattle.scr_tables.specs.Names.{same_name}
use Rattle.scr_tables.specs.Tables.{row_of, has_row}
use Rattle.scr_tables.proofs.TableRows.{All-append, same_or_other, same_name-is, row_of-later}
use Rattle.scr_sheet.specs.BalanceSheet.{group_name, position_name, liability_name, stake_name, curve_name, position_of, stake_of}
use Rattle.scr_sheet.specs.declared.{keys.Projection.Projection, sheet.BalanceSheet.BalanceSheet, rows.Curve.Curve, rows.Group.Group, rows.Liability.Liability, rows.Position.Position}
use Rattle.scr_sheet.specs.declared.keys.Projection.TheVariants as projections
use Rattle.scr_sheet.specs.declared.rows.Class.TheVariants as classes
use Rattle.scr_sheet.specs.Validity.{Valid}
use Rattle.scr_sheet.proofs.Holds.{distinct-securities}
use Rattle.scr_nodes.specs.declared.{node.Direction.Direction, node.Node.Node}
use Rattle.scr_nodes.specs.declared.node.Direction.TheVariants.{Up, Down}
use Rattle.scr_nodes.specs.declared.node.Measure.TheVariants.{Gross, Net}
use Rattle.scr_nodes.specs.declared.node.Node.TheVariants as nodes
use Rattle.scr_nodes.specs.declared.node.OfFund.TheVariants as of_funds
use Rattle.scr_nodes.specs.declared.node.OfSecurity.TheVariants as of_securities
use Rattle.scr_nodes.specs.declared.node.OfLiability.TheVariants as of_liabilities
use Rattle.scr_nodes.specs.declared.node.OfCurrency.TheVariants as of_currencies
use Rattle.scr_nodes.specs.declared.node.OfGroup.TheVariants as of_groups
use Rattle.scr_nodes.specs.declared.node.Whole.TheVariants as wholes
use Rattle.scr_nodes.specs.Live.{is_live}
use Rattle.scr_nodes.specs.Numbers.{number_of_whole, whole_nodes}
use Rattle.scr_nodes.specs.LiveNodes.{live_nodes, nodes_above_funds, rest_nodes, total_nodes, constant_nodes, families, payment_families, stress_families, currency_families, group_families, flat, payings, foreigns, losses_of, HasNoRepeats}
use Rattle.scr_nodes.specs.Rows.{is_paying, is_foreign, has_class, has_flows, is_stress, liability_of, group_of}
use Rattle.scr_nodes.specs.Sources.{sources_of, fund_total, security_total, unit_loss, security_rate, liability_rate, liability_present, liability_loss, currency_loss, currency_scenario, currency_choice, currency_picked, security_spread, group_total, concentration_square, group_loss}
use Rattle.scr_nodes.proofs.Chosen.{each-chosen, each-mapped, each-row, each-tested}
use Rattle.scr_nodes.proofs.OwnRows.{distinct-groups, distinct-liabilities, own-funds, own-groups, own-securities, own-liabilities, own-curves}
use Rattle.scr_nodes.proofs.LiveSources.{IsLive, sources-live, loss-live, passes-own}
use Rattle.scr_nodes.proofs.Apart.{AreApart, apart-chosen, apart-mapped, one-place, place-of, member-at, member-take, member-chosen}
use Rattle.scr_nodes.proofs.Earlier.{sources-earlier}
use Rattle.scr_nodes.proofs.Told.{told-choice, told-currency, told-group, told-group_loss, told-liability, told-loss, told-picked, told-present, told-rate, told-scenario, told-spread, told-square, told-unit}
use Rattle.scr_nodes.proofs.Parts.{part_of, AllAt, IsArranged, arranged-part, arranged-numbered, sorted-before}
use Rattle.scr_nodes.proofs.Numbers.{whole-at}

infixr 5 ◌&◌
-- one fact and then the others
◌&◌ : {A B : Type 0} → A → B → A × B
a & b = (a, b)

-- ---- lists of lists

abbrev pub family_at : List (List Node) → ℕ → List Node
family_at [] place = []
family_at (family ∷ families) zero = family
family_at (family ∷ families) (suc place) = family_at families place

member-flat : (families : List (List Node)) (place : ℕ) (x : Node) → IsMember x (family_at families place)
    → IsMember x (flat families)
member-flat [] place x m = absurd m
member-flat (family ∷ families) zero x m = IsMember-left family (flat families) x m
member-flat (family ∷ families) (suc place) x m =
    IsMember-right family (flat families) x (member-flat families place x m)

each-flat : (P : Node → Type 0) (families : List (List Node)) → AllByRecursion (AllByRecursion P) families
    → AllByRecursion P (flat families)
each-flat P [] all = tt
each-flat P (family ∷ families) all = All-append P family (flat families) all.0 (each-flat P families all.1)

-- each family of the part that follows that of the one before it
abbrev IsFamily : ℕ → List Node → Type 0
IsFamily part family = AllAt part family × AreApart family

abbrev AreFamilies : ℕ → List (List Node) → Type 0
AreFamilies part [] = Unit {0}
AreFamilies part (family ∷ families) = IsFamily part family × AreFamilies (suc part) families

families-append : (part last : ℕ) (front back : List (List Node)) → last ≡ part + length front → AreFamilies part front
    → AreFamilies last back → AreFamilies part (front ++ back)
families-append part last [] back e front-are back-are =
    let same : last ≡ part = omega (arith, e) in subst (λ p. AreFamilies p back) same back-are
families-append part last (family ∷ front) back e front-are back-are =
    let more : last ≡ suc part + length front = omega (arith, e) in
    (front-are.0, families-append (suc part) last front back more front-are.1 back-are)

arranged-families : (part last : ℕ) (list : List (List Node)) (rest : List Node) → last ≡ part + length list
    → AreFamilies part list → IsArranged last rest → IsArranged part (flat list ++ rest)
arranged-families part last [] rest e are more =
    let same : last ≡ part = omega (arith, e) in subst (λ p. IsArranged p rest) same more
arranged-families part last (family ∷ list) rest e are more =
    let on : last ≡ suc part + length list = omega (arith, e) in
    subst (IsArranged part) (sym (append_assoc family (flat list) rest))
    (arranged-part part family (flat list ++ rest) are.0.0 are.0.1
    (arranged-families (suc part) last list rest on are.1 more))

-- ---- the row of a name

row-there : {Row : Type 0} (name_of : Row → List ℕ) (P : Row → Type 0) (name : List ℕ) (rows : List Row) (row : Row)
    → row_of name_of name rows ≡ Some row → P row → (r : Row) × IsMember r rows × (name ≡ name_of r) × P r
row-there name_of P name [] row is p = absurd (cc)
row-there name_of P name (first ∷ rows) row is p =
    same_or_other name (name_of first)
    (λ e. let found : Some first ≡ Some row = sym (ap (λ t. cond t (Some first) (row_of name_of name rows)) e) ∙ is in
    let same : first ≡ row = cc in
    (first, inl refl, same_name-is name (name_of first) e, subst P (sym same) p))
    (λ e. let rest = row-there name_of P name rows row (sym (row_of-later name_of name first rows e) ∙ is) p in
    (rest.0, inr rest.1, rest.2, rest.3))

-- what a table gives of a name that it has
pub in-table : {Row : Type 0} (name_of : Row → List ℕ) (node : Row → Node) (named : List ℕ → Node)
    → ((row : Row) → node row ≡ named (name_of row))
    → (name : List ℕ) (rows : List Row) → has_row name_of name rows ≡ true → IsMember (named name) (map node rows)
in-table {Row} name_of node named own name rows has = by (row_of name_of name rows) refl has
  where
    by : (found : Option Row) → row_of name_of name rows ≡ found → is_some found ≡ true
        → IsMember (named name) (map node rows)
    by None e h = absurd (cc)
    by (Some row) e h =
        let r = row-there name_of (λ r. Unit {0}) name rows row e tt in
        subst (λ n. IsMember n (map node rows)) (own r.0 ∙ ap named (sym r.2)) (IsMember-mapped node rows r.0 r.1)

-- the same of a name of which a row passes
in-chosen : {Row : Type 0} (name_of : Row → List ℕ) (test : Row → Bool) (node : Row → Node) (named : List ℕ → Node)
    → ((row : Row) → node row ≡ named (name_of row)) → (name : List ℕ) (rows : List Row)
    → option_map_or test (row_of name_of name rows) false ≡ true → IsMember (named name) (map node (filter test rows))
in-chosen {Row} name_of test node named own name rows passes = by (row_of name_of name rows) refl passes
  where
    by : (found : Option Row) → row_of name_of name rows ≡ found → option_map_or test found false ≡ true
        → IsMember (named name) (map node (filter test rows))
    by None e h = absurd (cc)
    by (Some row) e h =
        let r = row-there name_of (λ q. test q ≡ true) name rows row e h in
        subst (λ n. IsMember n (map node (filter test rows))) (own r.0 ∙ ap named (sym r.2))
        (member-chosen node test rows r.0 r.1 r.3)

module _ (sheet : BalanceSheet) where
  abbrev pub securities : List Node
  securities = map security_total sheet.securities

  -- ---- every figure is in the list

  past-securities : (x : Node) → IsMember x (rest_nodes sheet) → IsMember x (nodes_above_funds sheet)
  past-securities x m = IsMember-right securities (rest_nodes sheet) x m

  -- a total of a fund, or another figure of the list
  abbrev IsListed : Node → Type 0
  IsListed node = IsMember node (map fund_total sheet.funds) ⊎ IsMember node (nodes_above_funds sheet)

  -- in the family at a place
  in-family : (place : ℕ) (node : Node) → IsMember node (family_at (families sheet) place) → IsListed node
  in-family place node m =
      inr (past-securities node
      (IsMember-left (flat (families sheet)) constant_nodes node (member-flat (families sheet) place node m)))

  of-loss : (place : ℕ) (projection : Projection) (name : List ℕ)
      → family_at (families sheet) place ≡ losses_of projection sheet
      → option_map_or (has_flows projection) (liability_of name sheet.liabilities) false ≡ true
      → IsListed (nodes.Liability name (of_liabilities.Loss projection))
  of-loss place projection name is h =
      in-family place (nodes.Liability name (of_liabilities.Loss projection))
      (subst (IsMember (nodes.Liability name (of_liabilities.Loss projection))) (sym is)
      (in-chosen liability_name (has_flows projection) (liability_loss projection)
      (λ n. nodes.Liability n (of_liabilities.Loss projection)) (λ l. refl) name sheet.liabilities h))

  of-foreign : (place : ℕ) (node : Curve → Node) (named : List ℕ → Node) → ((c : Curve) → node c ≡ named (curve_name c))
      → (currency : List ℕ) → family_at (families sheet) place ≡ map node (foreigns sheet)
      → option_map_or (is_foreign sheet) (row_of curve_name currency sheet.curves) false ≡ true
      → IsListed (named currency)
  of-foreign place node named own currency is h =
      in-family place (named currency)
      (subst (IsMember (named currency)) (sym is)
      (in-chosen curve_name (is_foreign sheet) node named own currency sheet.curves h))

  pub live-listed : (node : Node) → is_live sheet node ≡ true → IsListed node
  live-listed (nodes.Fund name of_funds.Total) h =
      inl (in-table stake_name fund_total (λ name. nodes.Fund name of_funds.Total) (λ s. refl) name sheet.funds h)
  live-listed (nodes.Security name of_securities.Total) h =
      inr (IsMember-left securities (rest_nodes sheet) (nodes.Security name of_securities.Total)
      (in-table position_name security_total (λ name. nodes.Security name of_securities.Total) (λ p. refl) name sheet.securities h))
  live-listed (nodes.Security name (of_securities.UnitLoss Up)) h =
      in-family 0 (nodes.Security name (of_securities.UnitLoss Up))
      (in-chosen position_name is_paying (unit_loss Up) (λ n. nodes.Security n (of_securities.UnitLoss Up)) (λ r. refl) name sheet.securities h)
  live-listed (nodes.Security name (of_securities.UnitLoss Down)) h =
      in-family 1 (nodes.Security name (of_securities.UnitLoss Down))
      (in-chosen position_name is_paying (unit_loss Down) (λ n. nodes.Security n (of_securities.UnitLoss Down)) (λ r. refl) name
      sheet.securities h)
  live-listed (nodes.Security name (of_securities.Rate Up)) h =
      in-family 2 (nodes.Security name (of_securities.Rate Up))
      (in-chosen position_name is_paying (security_rate Up) (λ n. nodes.Security n (of_securities.Rate Up)) (λ r. refl) name
      sheet.securities h)
  live-listed (nodes.Security name (of_securities.Rate Down)) h =
      in-family 3 (nodes.Security name (of_securities.Rate Down))
      (in-chosen position_name is_paying (security_rate Down) (λ n. nodes.Security n (of_securities.Rate Down)) (λ r. refl) name
      sheet.securities h)
  live-listed (nodes.Liability name (of_liabilities.Rate Up)) h =
      in-family 4 (nodes.Liability name (of_liabilities.Rate Up))
      (in-table liability_name (liability_rate Up) (λ n. nodes.Liability n (of_liabilities.Rate Up)) (λ r. refl) name sheet.liabilities h)
  live-listed (nodes.Liability name (of_liabilities.Rate Down)) h =
      in-family 5 (nodes.Liability name (of_liabilities.Rate Down))
      (in-table liability_name (liability_rate Down) (λ n. nodes.Liability n (of_liabilities.Rate Down)) (λ r. refl) name
      sheet.liabilities h)
  live-listed (nodes.Liability name of_liabilities.Present) h =
      in-family 6 (nodes.Liability name of_liabilities.Present)
      (in-table liability_name liability_present (λ name. nodes.Liability name of_liabilities.Present) (λ r. refl) name sheet.liabilities h)
  live-listed (nodes.Liability name (of_liabilities.Loss projections.Base)) h = absurd (cc)
  live-listed (nodes.Liability name (of_liabilities.Loss projections.Mortality)) h = of-loss 7 projections.Mortality name refl h
  live-listed (nodes.Liability name (of_liabilities.Loss projections.Longevity)) h = of-loss 8 projections.Longevity name refl h
  live-listed (nodes.Liability name (of_liabilities.Loss projections.Disability)) h = of-loss 9 projections.Disability name refl h
  live-listed (nodes.Liability name (of_liabilities.Loss projections.Expense)) h = of-loss 10 projections.Expense name refl h
  live-listed (nodes.Liability name (of_liabilities.Loss projections.Revision)) h = of-loss 11 projections.Revision name refl h
  live-listed (nodes.Liability name (of_liabilities.Loss projections.LapseUp)) h = of-loss 12 projections.LapseUp name refl h
  live-listed (nodes.Liability name (of_liabilities.Loss projections.LapseDown)) h = of-loss 13 projections.LapseDown name refl h
  live-listed (nodes.Liability name (of_liabilities.Loss projections.LapseMass)) h = of-loss 14 projections.LapseMass name refl h
  live-listed (nodes.Liability name (of_liabilities.Loss projections.Catastrophe)) h = of-loss 15 projections.Catastrophe name refl h
  live-listed (nodes.Currency currency (of_currencies.Loss Up)) h =
      in-family 16 (nodes.Currency currency (of_currencies.Loss Up))
      (in-table curve_name (currency_loss Up) (λ n. nodes.Currency n (of_currencies.Loss Up)) (λ r. refl) currency sheet.curves h)
  live-listed (nodes.Currency currency (of_currencies.Loss Down)) h =
      in-family 17 (nodes.Currency currency (of_currencies.Loss Down))
      (in-table curve_name (currency_loss Down) (λ n. nodes.Currency n (of_currencies.Loss Down)) (λ r. refl) currency sheet.curves h)
  live-listed (nodes.Currency currency (of_currencies.Scenario Up Gross)) h =
      of-foreign 18 (currency_scenario Up Gross) (λ n. nodes.Currency n (of_currencies.Scenario Up Gross)) (λ c. refl) currency refl h
  live-listed (nodes.Currency currency (of_currencies.Scenario Up Net)) h =
      of-foreign 19 (currency_scenario Up Net) (λ n. nodes.Currency n (of_currencies.Scenario Up Net)) (λ c. refl) currency refl h
  live-listed (nodes.Currency currency (of_currencies.Scenario Down Gross)) h =
      of-foreign 20 (currency_scenario Down Gross) (λ n. nodes.Currency n (of_currencies.Scenario Down Gross)) (λ
      c. refl) currency refl h
  live-listed (nodes.Currency currency (of_currencies.Scenario Down Net)) h =
      of-foreign 21 (currency_scenario Down Net) (λ n. nodes.Currency n (of_currencies.Scenario Down Net)) (λ c. refl) currency refl h
  live-listed (nodes.Currency currency of_currencies.Choice) h =
      of-foreign 22 currency_choice (λ name. nodes.Currency name of_currencies.Choice) (λ c. refl) currency refl h
  live-listed (nodes.Currency currency (of_currencies.Picked Gross)) h =
      of-foreign 23 (currency_picked Gross) (λ n. nodes.Currency n (of_currencies.Picked Gross)) (λ c. refl) currency refl h
  live-listed (nodes.Currency currency (of_currencies.Picked Net)) h =
      of-foreign 24 (currency_picked Net) (λ n. nodes.Currency n (of_currencies.Picked Net)) (λ c. refl) currency refl h
  live-listed (nodes.Security name of_securities.Spread) h =
      in-family 25 (nodes.Security name of_securities.Spread)
      (in-chosen position_name (has_class classes.Bond) security_spread (λ name. nodes.Security name of_securities.Spread) (λ r. refl) name
      sheet.securities h)
  live-listed (nodes.Group name of_groups.Total) h =
      in-family 26 (nodes.Group name of_groups.Total)
      (in-table group_name group_total (λ name. nodes.Group name of_groups.Total) (λ r. refl) name sheet.groups h)
  live-listed (nodes.Group name of_groups.ConcentrationSquare) h =
      in-family 28 (nodes.Group name of_groups.ConcentrationSquare)
      (in-table group_name concentration_square (λ name. nodes.Group name of_groups.ConcentrationSquare) (λ r. refl) name sheet.groups h)
  live-listed (nodes.Group name of_groups.Loss) h =
      in-family 29 (nodes.Group name of_groups.Loss)
      (in-table group_name group_loss (λ name. nodes.Group name of_groups.Loss) (λ r. refl) name sheet.groups h)
  live-listed (nodes.Whole what) h =
      by (IsMember-cases constant_nodes (nodes.Whole wholes.Assets ∷ []) (nodes.Whole what)
      (member-at whole_nodes (number_of_whole what) (nodes.Whole what) (whole-at what h)))
    where
      by : IsMember (nodes.Whole what) constant_nodes ⊎ IsMember (nodes.Whole what) (nodes.Whole wholes.Assets ∷ [])
          → IsListed (nodes.Whole what)
      by (inl m) =
          inr (past-securities (nodes.Whole what)
          (IsMember-right (flat (families sheet)) constant_nodes (nodes.Whole what) m))
      by (inr m) = in-family 27 (nodes.Whole what) m

-- ---- the whole list

module _ (sheet : BalanceSheet) (valid : Valid sheet) where
  abbrev At : ℕ → Node → Type 0
  At part node = part_of node ≡ part

  arranged-constant : IsArranged 32 constant_nodes
  arranged-constant = arranged-numbered 32 constant_nodes refl

  chosen-family : {Row : Type 0} (name_of : Row → List ℕ) (part : ℕ) (test : Row → Bool) (node : Row → Node)
      (rows : List Row) → ((r : Row) → part_of (node r) ≡ part)
      → ((a b : Row) → node a ≡ node b → name_of a ≡ name_of b) → IsDistinct same_name (map name_of rows)
      → IsFamily part (map node (filter test rows))
  chosen-family name_of part test node rows own told distinct = (
    each-chosen (λ r. Unit {0}) (At part) test node rows (each-row rows) (λ r fact e. own r),
    apart-chosen node test name_of told rows distinct,
  )

  table-family : {Row : Type 0} (name_of : Row → List ℕ) (part : ℕ) (node : Row → Node) (rows : List Row)
      → ((r : Row) → part_of (node r) ≡ part) → ((a b : Row) → node a ≡ node b → name_of a ≡ name_of b)
      → IsDistinct same_name (map name_of rows) → IsFamily part (map node rows)
  table-family name_of part node rows own told distinct = (
    each-mapped (λ r. Unit {0}) (At part) (λ r. true) node rows (each-row rows) (λ r fact. own r),
    apart-mapped node (λ r. true) name_of told rows distinct,
  )

  of-paying : (part : ℕ) (node : Position → Node) → ((p : Position) → part_of (node p) ≡ part)
      → ((a b : Position) → node a ≡ node b → position_name a ≡ position_name b)
      → IsFamily part (map node (payings sheet))
  of-paying part node own told =
      chosen-family position_name part is_paying node sheet.securities own told
      (distinct-securities sheet valid.named_once)

  of-liabilities : (part : ℕ) (node : Liability → Node) → ((l : Liability) → part_of (node l) ≡ part)
      → ((a b : Liability) → node a ≡ node b → liability_name a ≡ liability_name b)
      → IsFamily part (map node sheet.liabilities)
  of-liabilities part node own told =
      table-family liability_name part node sheet.liabilities own told (distinct-liabilities sheet valid)

  of-losses : (part : ℕ) (projection : Projection)
      → ((l : Liability) → part_of (liability_loss projection l) ≡ part) → IsFamily part (losses_of projection sheet)
  of-losses part projection own =
      chosen-family liability_name part (has_flows projection) (liability_loss projection) sheet.liabilities own
      (told-loss projection) (distinct-liabilities sheet valid)

  of-foreigns : (part : ℕ) (node : Curve → Node) → ((c : Curve) → part_of (node c) ≡ part)
      → ((a b : Curve) → node a ≡ node b → curve_name a ≡ curve_name b) → IsFamily part (map node (foreigns sheet))
  of-foreigns part node own told =
      chosen-family curve_name part (is_foreign sheet) node sheet.curves own told valid.currencies_once

  of-groups : (part : ℕ) (node : Group → Node) → ((g : Group) → part_of (node g) ≡ part)
      → ((a b : Group) → node a ≡ node b → group_name a ≡ group_name b) → IsFamily part (map node sheet.groups)
  of-groups part node own told =
      table-family group_name part node sheet.groups own told (distinct-groups sheet valid)

  payments-are : AreFamilies 2 (payment_families sheet)
  payments-are =
      of-paying 2 (unit_loss Up) (λ p. refl) (told-unit Up)
      & of-paying 3 (unit_loss Down) (λ p. refl) (told-unit Down)
      & of-paying 4 (security_rate Up) (λ p. refl) (told-rate Up)
      & of-paying 5 (security_rate Down) (λ p. refl) (told-rate Down)
      & of-liabilities 6 (liability_rate Up) (λ l. refl) (told-liability Up)
      & of-liabilities 7 (liability_rate Down) (λ l. refl) (told-liability Down)
      & of-liabilities 8 liability_present (λ l. refl) told-present
      & tt

  stresses-are : AreFamilies 9 (stress_families sheet)
  stresses-are =
      of-losses 9 projections.Mortality (λ l. refl)
      & of-losses 10 projections.Longevity (λ l. refl)
      & of-losses 11 projections.Disability (λ l. refl)
      & of-losses 12 projections.Expense (λ l. refl)
      & of-losses 13 projections.Revision (λ l. refl)
      & of-losses 14 projections.LapseUp (λ l. refl)
      & of-losses 15 projections.LapseDown (λ l. refl)
      & of-losses 16 projections.LapseMass (λ l. refl)
      & of-losses 17 projections.Catastrophe (λ l. refl)
      & tt

  currencies-are : AreFamilies 18 (currency_families sheet)
  currencies-are =
      table-family curve_name 18 (currency_loss Up) sheet.curves (λ c. refl) (told-currency Up) valid.currencies_once
      & table-family curve_name 19 (currency_loss Down) sheet.curves (λ c. refl) (told-currency Down) valid.currencies_once
      & of-foreigns 20 (currency_scenario Up Gross) (λ c. refl) (told-scenario Up Gross)
      & of-foreigns 21 (currency_scenario Up Net) (λ c. refl) (told-scenario Up Net)
      & of-foreigns 22 (currency_scenario Down Gross) (λ c. refl) (told-scenario Down Gross)
      & of-foreigns 23 (currency_scenario Down Net) (λ c. refl) (told-scenario Down Net)
      & of-foreigns 24 currency_choice (λ c. refl) told-choice
      & of-foreigns 25 (currency_picked Gross) (λ c. refl) (told-picked Gross)
      & of-foreigns 26 (currency_picked Net) (λ c. refl) (told-picked Net)
      & tt

  groups-are : AreFamilies 27 (group_families sheet)
  groups-are =
      chosen-family position_name 27 (has_class classes.Bond) security_spread sheet.securities (λ p. refl) told-spread (distinct-securities sheet valid.named_once)
      & of-groups 28 group_total (λ g. refl) told-group
      & ((refl, tt), ((λ m. m), tt))
      & of-groups 30 concentration_square (λ g. refl) told-square
      & of-groups 31 group_loss (λ g. refl) told-group_loss
      & tt

  families-are : AreFamilies 2 (families sheet)
  families-are =
      families-append 2 9 (payment_families sheet)
      (stress_families sheet ++ (currency_families sheet ++ group_families sheet)) refl payments-are
      (families-append 9 18 (stress_families sheet) (currency_families sheet ++ group_families sheet) refl stresses-are
      (families-append 18 27 (currency_families sheet) (group_families sheet) refl currencies-are groups-are))

  arranged-rest : IsArranged 2 (rest_nodes sheet)
  arranged-rest = arranged-families 2 32 (families sheet) constant_nodes refl families-are arranged-constant

  -- ---- what is in the list is a figure

  live-paying : (node : Position → Node) → ((p : Position) → position_of (position_name p) sheet.securities ≡ Some p
      → is_paying p ≡ true → is_live sheet (node p) ≡ true) → AllByRecursion (IsLive sheet) (map node (payings sheet))
  live-paying node step =
      each-chosen (λ p. position_of (position_name p) sheet.securities ≡ Some p) (IsLive sheet) is_paying node
      sheet.securities (own-securities sheet valid) step

  paid : (p : Position) → position_of (position_name p) sheet.securities ≡ Some p → is_paying p ≡ true
      → option_map_or is_paying (position_of (position_name p) sheet.securities) false ≡ true
  paid p own e = passes-own is_paying (position_of (position_name p) sheet.securities) p own e

  live-liabilities : (node : Liability → Node)
      → ((l : Liability) → is_live sheet (node l) ≡ has_row liability_name (liability_name l) sheet.liabilities)
      → AllByRecursion (IsLive sheet) (map node sheet.liabilities)
  live-liabilities node is =
      each-mapped (λ l. liability_of (liability_name l) sheet.liabilities ≡ Some l) (IsLive sheet) (λ l. true) node
      sheet.liabilities (own-liabilities sheet valid) (λ l own. is l ∙ ap is_some own)

  live-losses : (projection : Projection) → is_stress projection ≡ true
      → AllByRecursion (IsLive sheet) (losses_of projection sheet)
  live-losses projection stress =
      each-chosen (λ l. liability_of (liability_name l) sheet.liabilities ≡ Some l) (IsLive sheet)
      (has_flows projection)
      (liability_loss projection) sheet.liabilities (own-liabilities sheet valid)
      (λ l own e. loss-live sheet valid projection l stress own e)

  live-currencies : (direction : Direction) → AllByRecursion (IsLive sheet) (map (currency_loss direction) sheet.curves)
  live-currencies direction =
      each-mapped (λ c. row_of curve_name (curve_name c) sheet.curves ≡ Some c) (IsLive sheet) (λ c. true)
      (currency_loss direction) sheet.curves (own-curves sheet valid) (λ c own. ap is_some own)

  live-foreigns : (node : Curve → Node) → ((c : Curve) → is_live sheet (node c)
      ≡ option_map_or (is_foreign sheet) (row_of curve_name (curve_name c) sheet.curves) false)
      → AllByRecursion (IsLive sheet) (map node (foreigns sheet))
  live-foreigns node is =
      each-chosen (λ c. row_of curve_name (curve_name c) sheet.curves ≡ Some c) (IsLive sheet) (is_foreign sheet) node
      sheet.curves (own-curves sheet valid)
      (λ c own e. is c ∙ passes-own (is_foreign sheet) (row_of curve_name (curve_name c) sheet.curves) c own e)

  live-groups : (node : Group → Node)
      → ((g : Group) → is_live sheet (node g) ≡ has_row group_name (group_name g) sheet.groups)
      → AllByRecursion (IsLive sheet) (map node sheet.groups)
  live-groups node is =
      each-mapped (λ g. group_of (group_name g) sheet.groups ≡ Some g) (IsLive sheet) (λ g. true) node sheet.groups
      (own-groups sheet valid) (λ g own. is g ∙ ap is_some own)

  live-bonds : AllByRecursion (IsLive sheet) (map security_spread (filter (has_class classes.Bond) sheet.securities))
  live-bonds =
      each-chosen (λ p. position_of (position_name p) sheet.securities ≡ Some p) (IsLive sheet) (has_class classes.Bond)
      security_spread sheet.securities (own-securities sheet valid)
      (λ p own e. passes-own (has_class classes.Bond) (position_of (position_name p) sheet.securities) p own e)

  abbrev AllLive : List (List Node) → Type 0
  AllLive list = AllByRecursion (AllByRecursion (IsLive sheet)) list

  live-payments : AllLive (payment_families sheet)
  live-payments =
      live-paying (unit_loss Up) paid
      & live-paying (unit_loss Down) paid
      & live-paying (security_rate Up) paid
      & live-paying (security_rate Down) paid
      & live-liabilities (liability_rate Up) (λ l. refl)
      & live-liabilities (liability_rate Down) (λ l. refl)
      & live-liabilities liability_present (λ l. refl)
      & tt

  live-stresses : AllLive (stress_families sheet)
  live-stresses =
      live-losses projections.Mortality refl
      & live-losses projections.Longevity refl
      & live-losses projections.Disability refl
      & live-losses projections.Expense refl
      & live-losses projections.Revision refl
      & live-losses projections.LapseUp refl
      & live-losses projections.LapseDown refl
      & live-losses projections.LapseMass refl
      & live-losses projections.Catastrophe refl
      & tt

  live-currency_families : AllLive (currency_families sheet)
  live-currency_families =
      live-currencies Up
      & live-currencies Down
      & live-foreigns (currency_scenario Up Gross) (λ c. refl)
      & live-foreigns (currency_scenario Up Net) (λ c. refl)
      & live-foreigns (currency_scenario Down Gross) (λ c. refl)
      & live-foreigns (currency_scenario Down Net) (λ c. refl)
      & live-foreigns currency_choice (λ c. refl)
      & live-foreigns (currency_picked Gross) (λ c. refl)
      & live-foreigns (currency_picked Net) (λ c. refl)
      & tt

  live-group_families : AllLive (group_families sheet)
  live-group_families =
      live-bonds
      & live-groups group_total (λ g. refl)
      & (refl, tt)
      & live-groups concentration_square (λ g. refl)
      & live-groups group_loss (λ g. refl)
      & tt

  live-families : AllLive (families sheet)
  live-families =
      All-append (AllByRecursion (IsLive sheet)) (payment_families sheet)
      (stress_families sheet ++ (currency_families sheet ++ group_families sheet)) live-payments
      (All-append (AllByRecursion (IsLive sheet)) (stress_families sheet)
      (currency_families sheet ++ group_families sheet) live-stresses
      (All-append (AllByRecursion (IsLive sheet)) (currency_families sheet) (group_families sheet)
      live-currency_families live-group_families))

  live-constant : AllByRecursion (IsLive sheet) constant_nodes
  live-constant = each-tested (is_live sheet) constant_nodes refl

  live-above : AllByRecursion (IsLive sheet) (nodes_above_funds sheet)
  live-above =
      All-append (IsLive sheet) (securities sheet) (rest_nodes sheet)
      (each-mapped (λ p. position_of (position_name p) sheet.securities ≡ Some p) (IsLive sheet) (λ p. true)
      security_total sheet.securities (own-securities sheet valid) (λ p own. ap is_some own))
      (All-append (IsLive sheet) (flat (families sheet)) constant_nodes
      (each-flat (IsLive sheet) (families sheet) live-families) live-constant)

  live-funds : AllByRecursion (IsLive sheet) (map fund_total sheet.funds)
  live-funds = each-mapped (λ s. stake_of (stake_name s) sheet.funds ≡ Some s) (IsLive sheet)
      (λ s. true) fund_total sheet.funds (own-funds sheet valid) (λ s own. ap is_some own)

  pub listed-live : (node : Node) → IsListed sheet node → is_live sheet node ≡ true
  listed-live node (inl m) = at_member (IsLive sheet) (map fund_total sheet.funds) node live-funds m
  listed-live node (inr m) = at_member (IsLive sheet) (nodes_above_funds sheet) node live-above m

  -- the definition's list has every figure and no others
  pub live_nodes-live : (node : Node) → Contains (live_nodes sheet) node ↔ (is_live sheet node ≡ true)
  live_nodes-live node = (
    (λ has. listed-live node (IsMember-cases (map fund_total sheet.funds) (nodes_above_funds sheet) node
        (IsMember-from_Contains (live_nodes sheet) node has))),
    (λ h. Contains-from_IsMember (live_nodes sheet) node (by (live-listed sheet node h))),
  )
    where
      by : IsListed sheet node → IsMember node (live_nodes sheet)
      by (inl m) = IsMember-left (map fund_total sheet.funds) (nodes_above_funds sheet) node m
      by (inr m) = IsMember-right (map fund_total sheet.funds) (nodes_above_funds sheet) node m

  -- ---- the figures above the totals

  by_total : (node : Node) → IsListed sheet node → IsMember node (total_nodes sheet) ⊎ IsMember node (rest_nodes sheet)
  by_total node (inl m) = inl (IsMember-left (map fund_total sheet.funds) (securities sheet) node m)
  by_total node (inr m) = on (IsMember-cases (securities sheet) (rest_nodes sheet) node m)
    where
      on : IsMember node (securities sheet) ⊎ IsMember node (rest_nodes sheet)
          → IsMember node (total_nodes sheet) ⊎ IsMember node (rest_nodes sheet)
      on (inl n) = inl (IsMember-right (map fund_total sheet.funds) (securities sheet) node n)
      on (inr n) = inr n

  pub total-or-rest : (node : Node) → is_live sheet node ≡ true
      → Contains (total_nodes sheet) node ⊎ Contains (rest_nodes sheet) node
  total-or-rest node h = by (by_total node (live-listed sheet node h))
    where
      by : IsMember node (total_nodes sheet) ⊎ IsMember node (rest_nodes sheet)
          → Contains (total_nodes sheet) node ⊎ Contains (rest_nodes sheet) node
      by (inl m) = inl (Contains-from_IsMember (total_nodes sheet) node m)
      by (inr m) = inr (Contains-from_IsMember (rest_nodes sheet) node m)

  live-rest : (node : Node) → IsMember node (rest_nodes sheet) → is_live sheet node ≡ true
  live-rest node m = listed-live node (inr (past-securities sheet node m))

  pub rest-live : (node : Node) → Contains (rest_nodes sheet) node → is_live sheet node ≡ true
  rest-live node has = live-rest node (IsMember-from_Contains (rest_nodes sheet) node has)

  pub rest-once : HasNoRepeats (rest_nodes sheet)
  rest-once = λ j k node first second. one-place (rest_nodes sheet) arranged-rest.apart j k node first second

  pub rest-after : (k : ℕ) (node source : Node) → slice_get (rest_nodes sheet) k ≡ Some node
      → Contains (sources_of sheet node) source
      → Contains (total_nodes sheet) source ⊎ Contains (take k (rest_nodes sheet)) source
  rest-after k node source at has =
      let m : IsMember source (sources_of sheet node) = IsMember-from_Contains (sources_of sheet node) source has in
      let here : IsMember node (rest_nodes sheet) = member-at (rest_nodes sheet) k node at in
      let least : 2 ≤ part_of node = at_member (λ n. 2 ≤ part_of n) (rest_nodes sheet) node arranged-rest.from here in
      let live : is_live sheet source ≡ true = at_member (IsLive sheet) (sources_of sheet node) source
      (sources-live sheet valid node (live-rest node here)) m in
      let less : part_of source < part_of node = at_member (λ n. part_of n < part_of node)
      (sources_of sheet node) source (sources-earlier sheet node (omega arith)) m in
      by less (by_total source (live-listed sheet source live))
    where
      by : part_of source < part_of node → IsMember source (total_nodes sheet) ⊎ IsMember source (rest_nodes sheet)
          → Contains (total_nodes sheet) source ⊎ Contains (take k (rest_nodes sheet)) source
      by less (inl t) = inl (Contains-from_IsMember (total_nodes sheet) source t)
      by less (inr r) =
          let place = place-of (rest_nodes sheet) source r in
          inr (Contains-from_IsMember (take k (rest_nodes sheet)) source
          (member-take (rest_nodes sheet) place.0 k source place.1
          (sorted-before (rest_nodes sheet) arranged-rest.sorted k place.0 node source at place.1 less)))
