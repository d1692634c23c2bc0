-- Every chain of sources of a valid balance sheet ends after no more levels than there are funds and families.
use Rattle.std.proofs.Common.{◌≡◌, ◌⊎◌, inl, inr, ℕ, ℤ, zero, suc, ◌+◌, ◌<◌, ◌≤◌, true, List, [], ◌∷◌, map, length, Contains, Option, Some, refl, sym, subst, arith}
use Rattle.std.specs.List.{AllByRecursion, list_any}
use Rattle.std.specs.Option.{option_map_or}
use Rattle.std.proofs.lemmas.Bool.{or_cases}
use Rattle.std.proofs.lemmas.List.{length-map}
use Rattle.scr_funds.proofs.Climbs.{IsClimb, climb_on, climb-short}
use Rattle.scr_funds.proofs.Members.{IsMember, IsMember-mapped, Contains-from_IsMember, each_weaker}
use Rattle.scr_tables.specs.Names.{same_name}
use Rattle.scr_tables.proofs.TableRows.{same_name-is, same_name-itself}
use Rattle.scr_sheet.specs.BalanceSheet.{stake_name, stake_of, components_of}
use Rattle.scr_sheet.specs.declared.{sheet.BalanceSheet.BalanceSheet, rows.Stake.Stake}
use Rattle.scr_sheet.specs.Validity.{Valid}
use Rattle.scr_nodes.specs.declared.node.Node.{Node}
use Rattle.scr_nodes.specs.declared.node.Node.TheVariants as nodes
use Rattle.scr_nodes.specs.declared.node.OfFund.TheVariants as of_funds
use Rattle.scr_nodes.specs.Rows.{holds, is_component}
use Rattle.scr_nodes.specs.Sources.{sources_of, fund_total}
use Rattle.scr_nodes.proofs.Chosen.{each-chosen}
use Rattle.scr_nodes.proofs.Earlier.{sources-earlier}
use Rattle.scr_nodes.proofs.OwnRows.{own-funds}
use Rattle.scr_nodes.proofs.Parts.{part_of, fund-or-above, last-part}

-- no chain of sources from the node has so many levels
abbrev pub EndsIn : BalanceSheet → ℕ → Node → Type 0
EndsIn sheet zero node = ⊥
EndsIn sheet (suc levels) node = AllByRecursion (EndsIn sheet levels) (sources_of sheet node)

-- more levels do as well
pub ends-le : (sheet : BalanceSheet) (few many : ℕ) → few ≤ many → (node : Node) → EndsIn sheet few node
    → EndsIn sheet many node
ends-le sheet zero many h node ends = absurd ends
ends-le sheet (suc few) zero h node ends = absurd (omega arith)
ends-le sheet (suc few) (suc many) h node ends =
    let less : few ≤ many = omega arith in
    each_weaker (EndsIn sheet few) (EndsIn sheet many) (ends-le sheet few many less) (sources_of sheet node) ends

-- ---- funds

-- a component that a fund holds is among the names of its components
held-member : (name : List ℕ) (components : List (List ℕ × ℤ)) → list_any (is_component name) components ≡ true
    → IsMember name (map (λ c. c.0) components)
held-member name [] h = absurd (cc)
held-member name (c ∷ cs) h = by (or_cases (same_name name c.0) (list_any (is_component name) cs) h)
    (held-member name cs)
  where
    by : (same_name name c.0 ≡ true) ⊎ (list_any (is_component name) cs ≡ true)
        → (list_any (is_component name) cs ≡ true → IsMember name (map (λ c. c.0) cs))
        → IsMember name (map (λ c. c.0) (c ∷ cs))
    by (inl e) later = inl (same_name-is name c.0 e)
    by (inr e) later = inr (later e)

module _ (sheet : BalanceSheet) (valid : Valid sheet) where
  abbrev names : List (List ℕ)
  names = map stake_name sheet.funds

  abbrev components : List ℕ → List (List ℕ)
  components = components_of sheet.funds

  holder-contains : (stake : Stake) (name : List ℕ) → stake_of (stake_name stake) sheet.funds ≡ Some stake
      → holds name stake ≡ true → Contains (components (stake_name stake)) name
  holder-contains stake name own h =
      Contains-from_IsMember (components (stake_name stake)) name
      (subst (λ (found : Option Stake). IsMember name (option_map_or (λ s. map (λ c. c.0) s.fund.components) found []))
      (sym own) (held-member name stake.fund.components h))

  -- a climb from a name by holders ends
  climb-ends : (levels : ℕ) (first top : List ℕ) (below : List (List ℕ))
      → IsClimb same_name same_name-is same_name-itself components (top ∷ below)
      → ((x : List ℕ) → IsMember x (top ∷ below) → IsMember x (first ∷ names))
      → length (first ∷ names) < levels + length (top ∷ below) → EndsIn sheet levels (nodes.Fund top of_funds.Total)
  climb-ends zero first top below climb within short =
      let least : length (top ∷ below) ≤ length
      (first ∷ names) = climb-short same_name same_name-is same_name-itself components valid.acyclic (first ∷ names)
      (top ∷ below) climb within in
      absurd (omega arith)
  climb-ends (suc levels) first top below climb within short =
      each-chosen (λ s. (stake_of (stake_name s) sheet.funds ≡ Some s) × IsMember s sheet.funds) (EndsIn sheet levels)
      (holds top) fund_total sheet.funds (both_facts sheet.funds (own-funds sheet valid) (λ s m. m))
      (λ s fact e. climb-ends levels first (stake_name s) (top ∷ below)
      (climb_on same_name same_name-is same_name-itself components (stake_name s) top below
      (holder-contains s top fact.0 e) climb)
      (within_more s fact.1)
      (omega (arith)))
    where
      both_facts : (stakes : List Stake) → AllByRecursion (λ s. stake_of (stake_name s) sheet.funds ≡ Some s) stakes
          → ((s : Stake) → IsMember s stakes → IsMember s sheet.funds)
          → AllByRecursion (λ s. (stake_of (stake_name s) sheet.funds ≡ Some s) × IsMember s sheet.funds) stakes
      both_facts [] own listed = tt
      both_facts (s ∷ stakes) own listed = (
        (own.0, listed s (inl refl)),
        both_facts stakes own.1
            (λ t m. listed t (inr m)),
      )

      within_more : (s : Stake) → IsMember s sheet.funds → (x : List ℕ) → IsMember x (stake_name s ∷ (top ∷ below))
          → IsMember x (first ∷ names)
      within_more s m x (inl e) = inr (subst (λ y. IsMember y names) (sym e)
          (IsMember-mapped stake_name sheet.funds s m))
      within_more s m x (inr k) = within x k

  -- ---- levels above the totals

  abbrev pub above : ℕ → ℕ
  above zero = suc (length sheet.funds)
  above (suc j) = suc (above j)

  pub ends-total : (name : List ℕ) → EndsIn sheet (above 0) (nodes.Fund name of_funds.Total)
  ends-total name = climb-ends (above 0) name name [] (tt, tt) (λ x m. first x m)
      (omega (arith, length-map sheet.funds stake_name))
    where
      first : (x : List ℕ) → IsMember x (name ∷ []) → IsMember x (name ∷ names)
      first x (inl e) = inl e
      first x (inr k) = absurd k

  above-is : (j : ℕ) → above j ≡ j + suc (length sheet.funds)
  above-is zero = omega arith
  above-is (suc j) = let rest = above-is j in omega (arith, rest)

  above-le : (j k : ℕ) → j ≤ k → above j ≤ above k
  above-le j k h = let first = above-is j in let second = above-is k in omega (arith, first, second)

  -- a fund's total, at any level
  ends-fund : (part : ℕ) (name : List ℕ) → EndsIn sheet (above part) (nodes.Fund name of_funds.Total)
  ends-fund part name =
      ends-le sheet (above 0) (above part) (above-le 0 part (omega arith)) (nodes.Fund name of_funds.Total) (ends-total name)

  -- each chain goes from a family to earlier ones, and then along funds
  ends-part : (part : ℕ) (node : Node) → part_of node ≤ part → EndsIn sheet (above part) node
  ends-part zero node least = by (fund-or-above node)
    where
      by : ((name : List ℕ) × (node ≡ nodes.Fund name of_funds.Total)) ⊎ (0 < part_of node) → EndsIn sheet (above 0) node
      by (inl fund) = subst (EndsIn sheet (above 0)) (sym fund.1) (ends-fund 0 fund.0)
      by (inr some) = absurd (omega arith)
  ends-part (suc part) node least = by (fund-or-above node) (ends-part part)
    where
      by : ((name : List ℕ) × (node ≡ nodes.Fund name of_funds.Total)) ⊎ (0 < part_of node)
          → ((n : Node) → part_of n ≤ part → EndsIn sheet (above part) n) → EndsIn sheet (above (suc part)) node
      by (inl fund) rest = subst (EndsIn sheet (above (suc part))) (sym fund.1) (ends-fund (suc part) fund.0)
      by (inr some) rest =
          each_weaker (λ n. part_of n < part_of node) (EndsIn sheet (above part)) (λ n less. rest n (omega arith))
          (sources_of sheet node) (sources-earlier sheet node some)

  -- as many levels as the recursion has
  pub sources-end : (node : Node) → EndsIn sheet (length sheet.funds + 200) node
  sources-end node =
      let is = above-is 185 in
      ends-le sheet (above 185) (length sheet.funds + 200) (omega (arith, is)) node (ends-part 185 node
      (last-part node))
