-- A fund that is a component of no fund leads to itself through none.
use Rattle.std.proofs.Common.{◌≡◌, ℕ, ℤ, true, false, List, [], ◌∷◌, map, length, Contains, Option, None, Some, refl, sym, ap, ◌∙◌, subst}
use Rattle.std.specs.List.{AllByRecursion}
use Rattle.std.specs.Option.{option_map, option_map_or}
use Rattle.scr_funds.specs.Chains.{IsChain}
use Rattle.scr_funds.specs.Paths.{path_within}
use Rattle.scr_funds.proofs.EarliestPaths.{path_within-told}
use Rattle.scr_funds.proofs.Members.{IsMember, IsMember-from_Contains, at_member}
use Rattle.scr_tables.specs.Names.{same_name}
use Rattle.scr_tables.specs.Tables.{row_of}
use Rattle.scr_tables.proofs.TableRows.{All-row_of, All-with_row, same_name-is, same_name-itself}
use Rattle.scr_sheet.specs.BalanceSheet.{components_of, stake_name}
use Rattle.scr_sheet.specs.Faults.{cycle}
use Rattle.scr_sheet.specs.Records.{with_fund}
use Rattle.scr_sheet.specs.declared.{rows.Stake.Stake, sheet.BalanceSheet.BalanceSheet}
use Rattle.scr_sheet.specs.declared.edit.Edit.TheVariants as edits
use Rattle.scr_sheet.specs.declared.fault.Fault.TheVariants as faults

-- a chain ends with a component of some holder
last_step : {A : Type 0} (components : A → List A) (a b : A) (between : List A) → IsChain components a between b
    → (x : A) × Contains (components x) b
last_step components a b [] chain = (a, chain)
last_step components a b (c ∷ cs) chain = last_step components c b cs chain.1

-- the name is none of these components
abbrev pub Lacks : List ℕ → List (List ℕ × ℤ) → Type 0
Lacks own components = AllByRecursion (λ c. same_name c.0 own ≡ false) components

lacks-names : (own : List ℕ) (components : List (List ℕ × ℤ)) → Lacks own components
    → AllByRecursion (λ other. same_name other own ≡ false) (map (λ c. c.0) components)
lacks-names own [] all = tt
lacks-names own (c ∷ cs) all = (all.0, lacks-names own cs all.1)

lacks-member : (own : List ℕ) (components : List (List ℕ × ℤ)) → Lacks own components
    → IsMember own (map (λ c. c.0) components) → ⊥
lacks-member own components all member =
    let apart : same_name own own ≡ false =
    at_member (λ other. same_name other own ≡ false) (map (λ c. c.0) components) own (lacks-names own components all) member in
    let both : true ≡ false = sym (same_name-itself own) ∙ apart in
    absurd (cc)

module _ (own : List ℕ) (components : List (List ℕ × ℤ)) (sheet : BalanceSheet) (lacks : Lacks own components)
    (others : AllByRecursion (λ s. Lacks own s.fund.components) sheet.funds) where
  abbrev after : List Stake
  after = with_fund own components sheet.funds

  nobody : (x : List ℕ) → Contains (components_of after x) own → ⊥
  nobody x holds = by (row_of stake_name x after) refl
    where
      by : (found : Option Stake) → row_of stake_name x after ≡ found → ⊥
      by None e =
          IsMember-from_Contains [] own
          (subst (λ names. Contains names own) (ap (λ o. option_map_or (λ s. map (λ c. c.0) s.fund.components) o []) e) holds)
      by (Some s) e =
          let row : Lacks own s.fund.components = All-row_of stake_name (λ s. Lacks own s.fund.components) x after s e
          (All-with_row stake_name (λ s. Lacks own s.fund.components) _ sheet.funds lacks others) in
          lacks-member own s.fund.components row
          (IsMember-from_Contains (map (λ c. c.0) s.fund.components) own
          (subst (λ names. Contains names own) (ap (λ o. option_map_or (λ s. map (λ c. c.0) s.fund.components) o []) e) holds))

  no_path : path_within same_name (components_of after) (length after) own own ≡ None
  no_path = by (path_within same_name (components_of after) (length after) own own) refl
    where
      by : (found : Option (List (List ℕ))) → path_within same_name (components_of after) (length after) own own ≡ found
          → path_within same_name (components_of after) (length after) own own ≡ None
      by None e = e
      by (Some path) e =
          let told = path_within-told same_name same_name-is same_name-itself (components_of after) (length after) own own path e in
          let end = last_step (components_of after) own own told.between told.chain in
          absurd (nobody end.0 end.1)

  pub no_cycle : cycle (edits.Fund own components) sheet ≡ None
  no_cycle = ap (option_map (λ path. faults.Cycle path)) no_path
