-- No fund leads to itself through a chain of components, whatever a record without a fault changes.
use Rattle.std.proofs.Common.{◌≡◌, ◌≢◌, ◌⊎◌, ℕ, ℤ, ◌≤◌, true, false, List, [], ◌∷◌, length, map, Contains, Option, Some, None, is_some, refl, sym, ap, subst, ◌∙◌, inl, inr, arith}
use Rattle.std.specs.List.{IsDistinct}
use Rattle.std.specs.Option.{option_map_or}
use Rattle.std.proofs.lemmas.List.{length-map}
use Rattle.scr_funds.specs.Chains.{IsChain, LeadsTo, IsAcyclic}
use Rattle.scr_funds.specs.Paths.{path_within}
use Rattle.scr_funds.proofs.Members.{IsMember-from_Contains, Contains-from_IsMember}
use Rattle.scr_funds.proofs.Cycles.{acyclic_weaker, acyclic_still}
use Rattle.scr_funds.proofs.EarliestPaths.{path_within-none}
use Rattle.scr_tables.specs.Names.{same_name}
use Rattle.scr_tables.specs.Tables.{row_of, without, changed}
use Rattle.scr_sheet.specs.BalanceSheet.{stake_name, components_of}
use Rattle.scr_sheet.specs.Records.{with_fund}
use Rattle.scr_sheet.specs.declared.rows.Stake.{Stake}
use Rattle.scr_sheet.proofs.HeldNames.{member-row}
use Rattle.scr_tables.proofs.TableRows.{same_or_other, same_name-itself, same_name-is, row_of-with_row_other, row_of-without_own, row_of-without_other, found-changed}

-- the names of a fund's components
abbrev names_in : Stake → List (List ℕ)
names_in stake = map (λ c. c.0) stake.fund.components

-- whoever has components is a fund
pub holder-named : (funds : List Stake) (x : List ℕ) → ¬ (components_of funds x ≡ []) → Contains (map stake_name funds) x
holder-named funds x has = by (row_of stake_name x funds) refl
  where
    by : (found : Option Stake) → row_of stake_name x funds ≡ found → Contains (map stake_name funds) x
    by None e = absurd (has (ap (λ o. option_map_or names_in o []) e))
    by (Some s) e = Contains-from_IsMember (map stake_name funds) x (member-row stake_name x funds (ap is_some e))

-- where no path is computed from a fund to itself, it does not lead to itself
pub leads_not : (funds : List Stake) (name : List ℕ) → path_within same_name (components_of funds) (length funds) name name ≡ None → ¬ LeadsTo (components_of funds) name name
leads_not funds name none =
    let named : length (map stake_name funds) ≡ length funds = length-map funds stake_name in
    let enough : length (map stake_name funds) ≤ length funds = omega (arith, named) in
    path_within-none same_name same_name-is same_name-itself (components_of funds) (length funds) (map stake_name funds) (holder-named funds) enough name name none

is_or_not : (name x : List ℕ) → (x ≡ name) ⊎ (x ≢ name)
is_or_not name x = same_or_other x name (λ e. inl (same_name-is x name e)) (λ e. inr (λ is. let itself : true ≡ false = sym (same_name-itself x) ∙ ap (same_name x) is ∙ e in absurd (cc)))

pub acyclic-none : IsAcyclic (components_of [])
acyclic-none a chain = absurd (nowhere chain.0 chain.1)
  where
    nowhere : (between : List (List ℕ)) → IsChain (components_of []) a between a → ⊥
    nowhere [] h = IsMember-from_Contains [] a h
    nowhere (c ∷ cs) h = IsMember-from_Contains [] c h.0

module _ (funds : List Stake) (acyclic : IsAcyclic (components_of funds)) where
  pub acyclic-with_fund : (name : List ℕ) (components : List (List ℕ × ℤ)) → let after : List Stake = with_fund name components funds in path_within same_name (components_of after) (length after) name name ≡ None → IsAcyclic (components_of after)
  acyclic-with_fund name components none =
      acyclic_still (components_of funds) (components_of (with_fund name components funds)) name (is_or_not name) others acyclic (leads_not (with_fund name components funds) name none)
    where
      others : (x : List ℕ) → x ≢ name → components_of (with_fund name components funds) x ≡ components_of funds x
      others x n = same_or_other x name (λ e. absurd (n (same_name-is x name e))) (λ e. ap (λ o. option_map_or names_in o []) (row_of-with_row_other stake_name x _ funds e))

  pub acyclic-without : (name : List ℕ) → IsDistinct same_name (map stake_name funds) → IsAcyclic (components_of (without stake_name name funds))
  acyclic-without name apart = acyclic_weaker (components_of funds) (components_of (without stake_name name funds)) fewer acyclic
    where
      fewer : (a c : List ℕ) → Contains (components_of (without stake_name name funds) a) c → Contains (components_of funds a) c
      fewer a c h =
          same_or_other name a
          (λ e. let gone : components_of (without stake_name name funds) a ≡ [] =
          ap (components_of (without stake_name name funds)) (sym (same_name-is name a e)) ∙ ap (λ o. option_map_or names_in o []) (row_of-without_own stake_name name funds apart) in
          absurd (IsMember-from_Contains [] c (subst (λ cs. Contains cs c) gone h)))
          (λ e. subst (λ cs. Contains cs c) (ap (λ o. option_map_or names_in o []) (row_of-without_other stake_name a name funds e)) h)

  -- a fund changed, but for its name and its components
  pub acyclic-changed : (change : Stake → Stake) (name : List ℕ) → ((s : Stake) → stake_name (change s) ≡ stake_name s) → ((s : Stake) → names_in (change s) ≡ names_in s) → IsAcyclic (components_of (changed stake_name change name funds))
  acyclic-changed change name named same =
      acyclic_weaker (components_of funds) (components_of (changed stake_name change name funds))
      (λ a c h. subst (λ cs. Contains cs c) (found-changed stake_name names_in [] change name funds named same a) h) acyclic
