-- The graph of the funds made anew from the rows of a sheet.
use Rattle.std.proofs.Common.{◌≡◌, ◌⊎◌, ℕ, false, cond, List, [], ◌∷◌, map, Contains, Option, Some, None, is_some, refl, sym, ap, subst, ◌∙◌, inl, inr}
use Rattle.std.specs.List.{AllByRecursion, IsDistinct}
use Rattle.std.specs.Option.{option_map_or}
use Rattle.scr_funds.proofs.Members.{IsMember-from_Contains}
use Rattle.scr_funds.specs.Chains.{IsAcyclic, IsChain, LeadsTo}
use Rattle.scr_fund_graph.specs.Graph.{Graph, components_under, components_after}
use Rattle.scr_tables.specs.Names.{same_name}
use Rattle.scr_tables.specs.Tables.{row_of, has_row}
use Rattle.scr_tables.proofs.TableRows.{IsFresh, All-both, same_or_other, same_name-is, same_name-itself, same_name-flip, row_of-here, row_of-later}
use Rattle.scr_sheet.proofs.Holds.{distinct-funds}
use Rattle.scr_sheet.specs.BalanceSheet.{stake_name, components_of}
use Rattle.scr_sheet.specs.Validity.{Valid}
use Rattle.scr_sheet.specs.declared.sheet.BalanceSheet.{BalanceSheet}
use Rattle.scr_sheet.specs.declared.rows.Stake.{Stake}

-- ---- components given to one fund after another

-- a chain of components is one where there are more of them
wider : (f g : List ℕ → List (List ℕ)) → ((x : List ℕ) → (f x ≡ []) ⊎ (f x ≡ g x)) → (a : List ℕ) (between : List (List ℕ)) (b : List ℕ) → IsChain f a between b → IsChain g a between b
wider f g within a [] b chain = member (within a)
  where
    member : (f a ≡ []) ⊎ (f a ≡ g a) → Contains (g a) b
    member (inl e) = absurd (IsMember-from_Contains [] b (subst (λ row. Contains row b) e chain))
    member (inr e) = subst (λ row. Contains row b) e chain
wider f g within a (c ∷ cs) b chain = (member (within a), wider f g within c cs b chain.1)
  where
    member : (f a ≡ []) ⊎ (f a ≡ g a) → Contains (g a) c
    member (inl e) = absurd (IsMember-from_Contains [] c (subst (λ row. Contains row c) e chain.0))
    member (inr e) = subst (λ row. Contains row c) e chain.0

-- The graph has the components of the funds that are done, and none for the rest; each of the rest is the fund of its name.
pub record HavePut (now : Graph) (rest funds : List Stake) : Type 0 where
  pub within : (x : List ℕ) → (components_under now x ≡ []) ⊎ (components_under now x ≡ components_of funds x)
  pub done : (x : List ℕ) → has_row stake_name x rest ≡ false → components_under now x ≡ components_of funds x
  pub left : AllByRecursion (λ s. row_of stake_name s.fund.name funds ≡ Some s) rest

-- each of distinct rows is the row of its name
each_found : (rows : List Stake) → IsDistinct same_name (map stake_name rows) → AllByRecursion (λ s. row_of stake_name s.fund.name rows ≡ Some s) rows
unfolding IsDistinct
each_found [] apart = tt
each_found (row ∷ rows) apart = (
  row_of-here stake_name row.fund.name row rows (same_name-itself row.fund.name),
  All-both (λ s. same_name row.fund.name s.fund.name ≡ false) (λ s. row_of stake_name s.fund.name rows ≡ Some s) (λ s. row_of stake_name s.fund.name (row ∷ rows) ≡ Some s) rows
      (λ s other found. row_of-later stake_name s.fund.name row rows (same_name-flip s.fund.name row.fund.name ∙ other) ∙ found) (of_names rows apart.0) (each_found rows apart.1),
)
  where
    of_names : (rs : List Stake) → IsFresh row.fund.name (map stake_name rs) → AllByRecursion (λ s. same_name row.fund.name s.fund.name ≡ false) rs
    of_names [] fresh = tt
    of_names (r ∷ rs) fresh = (fresh.0, of_names rs fresh.1)

pub put-none : (graph : Graph) (funds : List Stake) → ((x : List ℕ) → components_under graph x ≡ []) → IsDistinct same_name (map stake_name funds) → HavePut graph funds funds
put-none graph funds none apart = record {
  within = λ x. inl (none x);
  done = λ x fresh. none x ∙ sym (ap (λ o. option_map_or (λ (s : Stake). map (λ c. c.0) s.fund.components) o []) (missing (row_of stake_name x funds) fresh));
  left = each_found funds apart;
}
  where
    missing : (o : Option Stake) → is_some o ≡ false → o ≡ None
    missing None e = refl
    missing (Some s) e = absurd (cc)

module _ (now : Graph) (stake : Stake) (rest funds : List Stake) (so_far : HavePut now (stake ∷ rest) funds) where
  own : map (λ c. c.0) stake.fund.components ≡ components_of funds stake.fund.name
  own = sym (ap (λ o. option_map_or (λ (s : Stake). map (λ c. c.0) s.fund.components) o []) so_far.left.0)

  after_within : (x : List ℕ) → (components_after stake.fund.name stake.fund.components now x ≡ []) ⊎ (components_after stake.fund.name stake.fund.components now x ≡ components_of funds x)
  after_within x =
      same_or_other x stake.fund.name
      (λ e. inr (ap (λ b. cond b (map (λ c. c.0) stake.fund.components) (components_under now x)) e ∙ own ∙ ap (components_of funds) (sym (same_name-is x stake.fund.name e))))
      (λ e. moved (ap (λ b. cond b (map (λ c. c.0) stake.fund.components) (components_under now x)) e) (so_far.within x))
    where
      moved : {a b : List (List ℕ)} → a ≡ b → (b ≡ []) ⊎ (b ≡ components_of funds x) → (a ≡ []) ⊎ (a ≡ components_of funds x)
      moved e (inl n) = inl (e ∙ n)
      moved e (inr n) = inr (e ∙ n)

  -- no fund comes to hold itself
  pub put-apart : IsAcyclic (components_of funds) → ¬ LeadsTo (components_after stake.fund.name stake.fund.components now) stake.fund.name stake.fund.name
  put-apart acyclic chain = acyclic stake.fund.name (chain.0, wider (components_after stake.fund.name stake.fund.components now) (components_of funds) after_within stake.fund.name chain.0 stake.fund.name chain.1)

  pub put-next : (after : Graph) → components_under after ≡ components_after stake.fund.name stake.fund.components now → HavePut after rest funds
  put-next after new = record {
    within = λ x. subst (λ (c : List (List ℕ)). (c ≡ []) ⊎ (c ≡ components_of funds x)) (sym (λ i. new i x)) (after_within x);
    done = λ x fresh. (λ i. new i x) ∙ finished x fresh;
    left = so_far.left.1;
  }
    where
      finished : (x : List ℕ) → has_row stake_name x rest ≡ false → components_after stake.fund.name stake.fund.components now x ≡ components_of funds x
      finished x fresh =
          same_or_other x stake.fund.name
          (λ e. ap (λ b. cond b (map (λ c. c.0) stake.fund.components) (components_under now x)) e ∙ own ∙ ap (components_of funds) (sym (same_name-is x stake.fund.name e)))
          (λ e. ap (λ b. cond b (map (λ c. c.0) stake.fund.components) (components_under now x)) e
          ∙ so_far.done x (ap is_some (row_of-later stake_name x stake rest e) ∙ fresh))

-- ---- the graph of a sheet

pub sheet_funds_apart : (sheet : BalanceSheet) → Valid sheet → IsDistinct same_name (map stake_name sheet.funds)
sheet_funds_apart sheet valid = distinct-funds sheet valid.named_once
