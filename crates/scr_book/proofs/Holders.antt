-- How the graph of the funds is carried along by a record without a fault.
use Rattle.std.proofs.Common.{◌≡◌, ℕ, ℤ, ◌≤◌, Bool, true, false, cond, List, [], length, map, Contains, Option, Some, None, refl, sym, ap, subst, ◌∙◌, arith}
use Rattle.std.specs.List.{IsDistinct}
use Rattle.std.specs.Option.{option_map, option_map_or}
use Rattle.std.proofs.lemmas.List.{length-map}
use Rattle.scr_funds.specs.Chains.{LeadsTo}
use Rattle.scr_fund_graph.specs.Graph.{Graph, components_under, components_after}
use Rattle.scr_tables.specs.Names.{same_name}
use Rattle.scr_tables.specs.Tables.{has_row, without}
use Rattle.scr_sheet.specs.BalanceSheet.{stake_name, components_of}
use Rattle.scr_sheet.specs.declared.sheet.BalanceSheet.{BalanceSheet}
use Rattle.scr_sheet.specs.Records.{applied, natural, with_fund}
use Rattle.scr_sheet.specs.Faults.{fault_of}
use Rattle.scr_sheet.specs.Validity.{Valid}
use Rattle.scr_sheet.specs.declared.edit.Edit.{Edit}
use Rattle.scr_sheet.specs.declared.edit.Edit.TheVariants as edits
use Rattle.scr_sheet.specs.declared.fault.Fault.TheVariants as faults
use Rattle.scr_sheet.specs.declared.keys.Table.TheVariants as tables
use Rattle.scr_sheet.specs.declared.rows.Stake.{Stake}
use Rattle.scr_sheet.proofs.FundChains.{holder-named, leads_not}
use Rattle.scr_sheet.proofs.Holds.{distinct-funds}
use Rattle.scr_sheet.proofs.Preserved.{passes}
use Rattle.scr_tables.proofs.TableRows.{same_or_other, same_name-is, same_name-itself, row_of-with_row_own, row_of-with_row_other, row_of-without_own, row_of-without_other, found-changed}
use Rattle.scr_book.proofs.Moved.{none_there}
use Rattle.scr_book.specs.Holders.{IsGraphOf}

-- the names of a fund's components
abbrev names_in : Stake → List (List ℕ)
names_in stake = map (λ c. c.0) stake.fund.components

-- functions that agree everywhere are one
each_same : (f g : List ℕ → List (List ℕ)) → ((x : List ℕ) → f x ≡ g x) → f ≡ g
each_same f g same = λ i x. same x i

-- ---- records that leave the graph

-- the records that make, change or drop a fund
abbrev pub is_of_graph : Edit → Bool
is_of_graph (edits.Fund name components) = true
is_of_graph (edits.Remove tables.Fund name) = true
is_of_graph (edits.Remove table name) = false
is_of_graph edit = false

pub graph-same : (edit : Edit) (sheet : BalanceSheet) (graph : Graph) → IsGraphOf sheet graph → is_of_graph edit ≡ false → IsGraphOf (applied edit sheet) graph
graph-same (edits.Fund name components) sheet graph is apart = absurd (cc)
-- a hold changes rows of both tables in their places
graph-same (edits.Hold name cents) sheet graph is apart = record {
  components = is.components ∙ each_same _ _ (λ x. sym (found-changed stake_name names_in [] (λ s. record s { held = natural cents }) name sheet.funds (λ s. refl) (λ s. refl) x));
}
graph-same (edits.Remove tables.Fund name) sheet graph is apart = absurd (cc)
graph-same (edits.Remove tables.Security name) sheet graph is apart = record { components = is.components }
graph-same (edits.Remove tables.Group name) sheet graph is apart = record { components = is.components }
graph-same (edits.Remove tables.Liability name) sheet graph is apart = record { components = is.components }
graph-same (edits.Remove tables.Bank name) sheet graph is apart = record { components = is.components }
graph-same (edits.Remove tables.Rein name) sheet graph is apart = record { components = is.components }
graph-same (edits.Remove tables.Curve name) sheet graph is apart = record { components = is.components }
graph-same edit sheet graph is apart = record { components = is.components }

-- ---- a fund made, replaced or dropped

module _ (funds : List Stake) (under : List ℕ → List (List ℕ)) (is : under ≡ components_of funds) (name : List ℕ) where
  -- the components with those of the record in the place of the fund's own
  pub after_is : (components : List (List ℕ × ℤ)) → (λ (x : List ℕ). cond (same_name x name) (map (λ c. c.0) components) (under x)) ≡ components_of (with_fund name components funds)
  after_is components = each_same _ _ at
    where
      found : (x : List ℕ) → Option Stake → List (List ℕ)
      found x o = option_map_or names_in o []

      at : (x : List ℕ) → cond (same_name x name) (map (λ c. c.0) components) (under x) ≡ components_of (with_fund name components funds) x
      at x =
          same_or_other x name
          (λ e. ap (λ b. cond b (map (λ c. c.0) components) (under x)) e
          ∙ sym (ap (components_of (with_fund name components funds)) (same_name-is x name e) ∙ ap (found x) (row_of-with_row_own stake_name _ funds)))
          (λ e. ap (λ b. cond b (map (λ c. c.0) components) (under x)) e ∙ (λ i. is i x) ∙ sym (ap (found x) (row_of-with_row_other stake_name x _ funds e)))

  pub cleared_is : IsDistinct same_name (map stake_name funds) → (λ (x : List ℕ). cond (same_name x name) [] (under x)) ≡ components_of (without stake_name name funds)
  cleared_is apart = each_same _ _ at
    where
      found : (x : List ℕ) → Option Stake → List (List ℕ)
      found x o = option_map_or names_in o []

      at : (x : List ℕ) → cond (same_name x name) [] (under x) ≡ components_of (without stake_name name funds) x
      at x =
          same_or_other x name
          (λ e. ap (λ (b : Bool). cond b [] (under x)) e
          ∙ sym (ap (components_of (without stake_name name funds)) (same_name-is x name e) ∙ ap (found x) (row_of-without_own stake_name name funds apart)))
          (λ e. ap (λ (b : Bool). cond b [] (under x)) e ∙ (λ i. is i x) ∙ sym (ap (found x) (row_of-without_other stake_name x name funds (turned e))))
        where
          turned : same_name x name ≡ false → same_name name x ≡ false
          turned e = same_or_other name x (λ t. let both : true ≡ false = sym (ap (same_name x) (same_name-is name x t) ∙ same_name-itself x) ∙ e in absurd (cc)) (λ t. t)

module _ (sheet : BalanceSheet) (graph after : Graph) (is : IsGraphOf sheet graph) (name : List ℕ) where
  pub graph-fund : (components : List (List ℕ × ℤ)) → components_under after ≡ components_after name components graph → IsGraphOf (applied (edits.Fund name components) sheet) after
  graph-fund components new = record { components = new ∙ after_is sheet.funds (components_under graph) is.components name components }

  pub graph-drop_fund : Valid sheet → components_under after ≡ components_after name [] graph → IsGraphOf (applied (edits.Remove tables.Fund name) sheet) after
  graph-drop_fund valid new = record {
    components = new ∙ cleared_is sheet.funds (components_under graph) is.components name (distinct-funds sheet valid.named_once);
  }

  -- a new fund put into the graph alone, and taken out again
  pub graph-undone : has_row stake_name name sheet.funds ≡ false → ((x : List ℕ) → same_name x name ≡ true → components_under after x ≡ [])
      → ((x : List ℕ) → same_name x name ≡ false → components_under after x ≡ components_under graph x) → IsGraphOf sheet after
  graph-undone fresh own others = record { components = each_same _ _ at }
    where
      at : (x : List ℕ) → components_under after x ≡ components_of sheet.funds x
      at x =
          same_or_other x name
          (λ e. own x e ∙ sym (ap (components_of sheet.funds) (same_name-is x name e) ∙ ap (λ o. option_map_or names_in o []) (none_there stake_name name sheet.funds fresh)))
          (λ e. others x e ∙ (λ i. is.components i x))

-- ---- the components of a record

no_path : (o : Option (List (List ℕ))) → option_map (λ path. faults.Cycle path) o ≡ None → o ≡ None
no_path None e = refl
no_path (Some path) e = absurd (cc)

module _ (sheet : BalanceSheet) (graph : Graph) (is : IsGraphOf sheet graph) (name : List ℕ) (components : List (List ℕ × ℤ)) where
  -- whoever has components after the record is one of as many funds as there are then
  pub holders_after : (x : List ℕ) → ¬ (components_after name components graph x ≡ []) → Contains (map stake_name (with_fund name components sheet.funds)) x
  holders_after x has = holder-named (with_fund name components sheet.funds) x (λ none. has ((λ i. after_is sheet.funds (components_under graph) is.components name components i x) ∙ none))

  pub holders_count : length (map stake_name (with_fund name components sheet.funds)) ≤ length (with_fund name components sheet.funds)
  holders_count = let same = length-map (with_fund name components sheet.funds) stake_name in omega (arith, same)

  -- a record without a fault closes no cycle
  pub no_cycle_after : fault_of (edits.Fund name components) sheet ≡ None → ¬ LeadsTo (components_after name components graph) name name
  no_cycle_after none =
      let after = after_is sheet.funds (components_under graph) is.components name components in
      subst (λ f. ¬ LeadsTo f name name) (sym after) (leads_not (with_fund name components sheet.funds) name (no_path _ (passes (edits.Fund name components) sheet none).ending))
