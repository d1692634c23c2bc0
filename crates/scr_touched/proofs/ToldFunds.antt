-- An exchanged fund touches just the figures that its test tells, and they are among its candidates.
use Rattle.std.proofs.Common.{◌≡◌, ℕ, ℤ, ◌==◌, ◌&&◌, ◌||◌, Bool, true, false, cond, not, List, [], ◌∷◌, map, Option, Some, None, is_some, refl, sym, ap, subst, ◌∙◌, inl, inr, ◌++◌}
use Rattle.std.specs.Bool.{Decides, beq}
use Rattle.std.specs.List.{flat_map, list_any}
use Rattle.std.specs.Option.{option_eq}
use Rattle.std.proofs.lemmas.Bool.Decides.{Decides-and, Decides-at, Decides-eqb, Decides-like}
use Rattle.scr_factors.specs.Values.{FactorValues}
use Rattle.scr_funds.proofs.Members.{IsMember}
use Rattle.scr_tables.specs.Names.{same_name}
use Rattle.scr_tables.specs.Tables.{has_row, row_of}
use Rattle.scr_tables.proofs.TableRows.{same_name-is, same_or_other}
use Rattle.scr_sheet.specs.BalanceSheet.{position_name, stake_name}
use Rattle.scr_sheet.specs.Validity.{Valid}
use Rattle.scr_sheet.specs.declared.rows.Class.TheVariants as classes
use Rattle.scr_sheet.specs.declared.rows.Stake.{Stake}
use Rattle.scr_sheet.specs.declared.sheet.BalanceSheet.{BalanceSheet}
use Rattle.scr_sheet.proofs.Holds.{distinct-funds}
use Rattle.scr_nodes.specs.Own.{Share}
use Rattle.scr_nodes.specs.Own.Own.{Held}
use Rattle.scr_nodes.specs.Rows.{holders, holds, is_closed, is_component, security_held, share_in}
use Rattle.scr_nodes.specs.Sources.{fund_total, holder_totals}
use Rattle.scr_nodes.specs.declared.node.Node.{Node}
use Rattle.scr_nodes.specs.declared.node.Node.TheVariants as nodes
use Rattle.scr_nodes.specs.declared.node.OfFund.TheVariants as of_funds
use Rattle.scr_nodes.specs.declared.node.OfSecurity.TheVariants as of_securities
use Rattle.scr_nodes.specs.declared.node.Whole.TheVariants as wholes
use Rattle.scr_row_change.specs.Readings.{held_kept, stake_held, is_fund_after}
use Rattle.scr_touched.specs.Funds.{component_nodes, fund_nodes, fund_touches, share_kept, is_same_share, holder_kept, share_of, totals_of}
use Rattle.scr_row_change.specs.Parts.{gives_same}
use Rattle.scr_row_change.specs.Changes.{after}
use Rattle.scr_row_change.specs.Comparisons.{is_kept, passes}
use Rattle.scr_touched.specs.Comparisons.{is_touched}
use Rattle.scr_row_change.specs.Exchanges.{HasName}
use Rattle.scr_row_change.specs.declared.change.Change.TheVariants as changes
use Rattle.scr_row_change.proofs.Covered.{in-either}
use Rattle.scr_row_change.proofs.Compared.{always}
use Rattle.scr_touched.proofs.Decided.{Tells, told-by, unread, moved}
use Rattle.scr_row_change.proofs.Exchanged.{listed, preceded, row-other, row-own}
use Rattle.scr_row_change.proofs.Given.{given, in-given}

-- ---- what totals read

Decides-shares : (a b : Share) → Decides (is_same_share a b) (a ≡ b)
Decides-shares a b =
    Decides-like (is_same_share a b) (λ h i. record { before = h.0 i; through = h.1.0 i; all = h.1.1 i })
    (λ e. (ap (λ (s : Share). s.before) e, (ap (λ (s : Share). s.through) e, ap (λ (s : Share). s.all) e)))
    (Decides-and (a.before == b.before) ((a.through == b.through) && (a.all == b.all)) (Decides-eqb a.before b.before)
    (Decides-and (a.through == b.through) (a.all == b.all) (Decides-eqb a.through b.through) (Decides-eqb a.all b.all)))

held-same : (held kept : Bool) (a b : ℕ) (xs ys : List Share) → Decides held (a ≡ b) → Decides kept (xs ≡ ys)
    → Decides (held && kept) (Held a xs ≡ Held b ys)
held-same held kept a b xs ys p q =
    Decides-like (held && kept) (λ h i. Held (h.0 i) (h.1 i)) (λ e. (cc, cc)) (Decides-and held kept p q)

-- ---- components

same_share : List ℕ → Stake → Stake → Bool
same_share x a b = is_same_share (share_in x a) (share_in x b)

-- the share is kept where the fund gives the same to the list of shares
share-given : (x : List ℕ) (old new : Option Stake) → share_kept x old new ≡ gives_same (holds x) (same_share x) old new
unfolding same_share
share-given x None None = refl
share-given x None (Some b) = by (holds x b)
  where
    by : (t : Bool) → option_eq is_same_share None (cond t (Some (share_in x b)) None) ≡ not t
    by true = refl
    by false = refl
share-given x (Some a) None = by (holds x a)
  where
    by : (t : Bool) → option_eq is_same_share (cond t (Some (share_in x a)) None) None ≡ not t
    by true = refl
    by false = refl
share-given x (Some a) (Some b) = by (holds x a) (holds x b)
  where
    by : (t u : Bool)
        → option_eq is_same_share (cond t (Some (share_in x a)) None) (cond u (Some (share_in x b)) None)
        ≡ cond t (u && is_same_share (share_in x a) (share_in x b)) (not u)
    by true true = refl
    by true false = refl
    by false true = refl
    by false false = refl

pub has-share : (x : List ℕ) (stake : Option Stake) → is_some (share_of x stake) ≡ passes (holds x) stake
has-share x None = refl
has-share x (Some stake) = by (holds x stake)
  where
    by : (t : Bool) → is_some (cond t (Some (share_in x stake)) None) ≡ t
    by true = refl
    by false = refl

holder-is : (x : List ℕ) (old new : Option Stake) → holder_kept x old new ≡ is_kept (holds x) old new
holder-is x old new = λ i. beq (has-share x old i) (has-share x new i)

pub in-components : (x : List ℕ) (components : List (List ℕ × ℤ)) → list_any (is_component x) components ≡ true
    → IsMember (nodes.Fund x of_funds.Total) (flat_map (λ c. totals_of c.0) components)
    × IsMember (nodes.Security x of_securities.Total) (flat_map (λ c. totals_of c.0) components)
in-components x [] e = absurd (cc)
in-components x (c ∷ cs) e =
    same_or_other x c.0
    (λ h. (inl (ap (λ name. nodes.Fund name of_funds.Total) (same_name-is x c.0 h)), inr (inl (ap (λ name. nodes.Security name of_securities.Total) (same_name-is x c.0 h)))))
    (λ h. let later = in-components x cs (ap (λ b. b || list_any (is_component x) cs) (sym h) ∙ e) in
    (inr (inr later.0), inr (inr later.1)))

-- two tests of which one fails
either-fails : {P : Type 0} (a b : Bool) → (a && b) ≡ false → (a ≡ false → P) → (b ≡ false → P) → P
either-fails true b e f g = g e
either-fails false b e f g = f refl

module _ (factors : FactorValues) (sheet : BalanceSheet) (name : List ℕ) (new : Option Stake)
    (valid : Valid sheet) (named : HasName stake_name name new) where
  abbrev pub old : Option Stake
  old = row_of stake_name name sheet.funds

  abbrev later : BalanceSheet
  later = after (changes.Fund name new) sheet

  -- the fund of a name before and after
  abbrev found : List ℕ → Option Stake
  found x = row_of stake_name x sheet.funds

  abbrev found_after : List ℕ → Option Stake
  found_after x = row_of stake_name x later.funds

  after-own : found_after name ≡ new
  after-own = row-own stake_name name new sheet.funds (distinct-funds sheet valid.named_once) named

  after-other : (x : List ℕ) → same_name x name ≡ false → found_after x ≡ found x
  after-other x e = row-other stake_name name new sheet.funds named x e

  live-after : (x : List ℕ) → is_some (found_after x) ≡ is_fund_after sheet name new x
  live-after x =
      same_or_other x name
      (λ e. ap (λ n. is_some (found_after n)) (same_name-is x name e) ∙ ap is_some after-own
      ∙ ap (λ b. cond b (is_some new) (is_some (found x))) (sym e))
      (λ e. ap is_some (after-other x e) ∙ ap (λ b. cond b (is_some new) (is_some (found x))) (sym e))

  held-told : (x : List ℕ) → Decides (held_kept name old new x) (stake_held (found x) ≡ stake_held (found_after x))
  held-told x =
      same_or_other x name
      (λ e. subst (λ b. Decides (not b || (stake_held old == stake_held new)) (stake_held (found x) ≡ stake_held (found_after x)))
      (sym e)
      (subst (λ n. Decides (stake_held old == stake_held new) (stake_held (found n) ≡ stake_held (found_after n)))
      (sym (same_name-is x name e))
      (subst (λ s. Decides (stake_held old == stake_held new) (stake_held old ≡ stake_held s)) (sym after-own)
      (Decides-eqb (stake_held old) (stake_held new)))))
      (λ e. subst (λ b. Decides (not b || (stake_held old == stake_held new)) (stake_held (found x) ≡ stake_held (found_after x)))
      (sym e) (always (ap stake_held (sym (after-other x e)))))

  -- ---- the shares and the totals of the holders

  shares-told : (x : List ℕ) → Decides (share_kept x old new)
      (map (share_in x) (holders x sheet) ≡ map (share_in x) (holders x later))
  unfolding same_share
  shares-told x =
      Decides-at (share_kept x old new) (gives_same (holds x) (same_share x) old new) (share-given x old new)
      (given (holds x) (same_share x) (share_in x) (each x) stake_name name new sheet.funds named)
    where
      each : (y : List ℕ) (a b : Stake) → Decides (same_share y a b) (share_in y a ≡ share_in y b)
      each y a b = Decides-shares (share_in y a) (share_in y b)

  holders-told : (x : List ℕ) → Decides (holder_kept x old new) (holder_totals x sheet ≡ holder_totals x later)
  holders-told x =
      Decides-at (holder_kept x old new) (is_kept (holds x) old new) (holder-is x old new)
      (listed stake_name name new sheet.funds named (holds x) fund_total (λ a b e. ap (λ name. nodes.Fund name of_funds.Total) e))

  pub told : (node : Node) → Tells factors sheet later node (fund_touches sheet name old new node)
  told (nodes.Fund x of_funds.Total) =
      told-by factors sheet later (nodes.Fund x of_funds.Total) (is_some (found x)) (is_fund_after sheet name new x)
      (held_kept name old new x && share_kept x old new) (holder_kept x old new) refl (live-after x)
      (held-same (held_kept name old new x) (share_kept x old new) (stake_held (found x)) (stake_held (found_after x))
      (map (share_in x) (holders x sheet)) (map (share_in x) (holders x later)) (held-told x) (shares-told x))
      (holders-told x)
  told (nodes.Security x of_securities.Total) =
      told-by factors sheet later (nodes.Security x of_securities.Total) (has_row position_name x sheet.securities)
      (has_row position_name x sheet.securities) (share_kept x old new) (holder_kept x old new) refl refl
      (held-same true (share_kept x old new) (security_held x sheet) (security_held x sheet)
      (map (share_in x) (holders x sheet)) (map (share_in x) (holders x later)) (always refl) (shares-told x))
      (holders-told x)
  told (nodes.Whole (wholes.ClassSum classes.Type2Equity)) =
      told-by factors sheet later (nodes.Whole (wholes.ClassSum classes.Type2Equity)) true true true (is_kept is_closed old new)
      refl refl (always refl)
      (preceded (is_kept is_closed old new) _ _ _
      (listed stake_name name new sheet.funds named is_closed fund_total (λ a b e. ap (λ name. nodes.Fund name of_funds.Total) e)))
  told node = unread factors sheet later node (record { live = refl; own = refl; sources = refl })

  -- ---- candidates

  in-held : (node : Node) (x : List ℕ)
      → ((stake : Stake) → holds x stake ≡ true → IsMember node (component_nodes (Some stake)))
      → (share_kept x old new && holder_kept x old new) ≡ false → IsMember node (fund_nodes name old ++ component_nodes new)
  in-held node x each e =
      inr (inr (either-fails (share_kept x old new) (holder_kept x old new) e
      (λ f. in-given (holds x) (same_share x) component_nodes node each old new (sym (share-given x old new) ∙ f))
      (λ f. in-either (holds x) component_nodes node each old new (sym (holder-is x old new) ∙ f))))

  pub covers : (node : Node) → fund_touches sheet name old new node ≡ true
      → IsMember node (fund_nodes name old ++ component_nodes new)
  covers (nodes.Fund x of_funds.Total) touched =
      same_or_other x name
      (λ h. inl (ap (λ name. nodes.Fund name of_funds.Total) (same_name-is x name h)))
      (λ h. in-held (nodes.Fund x of_funds.Total) x (λ stake f. (in-components x stake.fund.components f).0)
      (moved (is_some (found x)) (share_kept x old new) (holder_kept x old new)
      (ap (λ b. is_touched (is_some (found x)) (cond b (is_some new) (is_some (found x)))
      ((not b || (stake_held old == stake_held new)) && share_kept x old new) (holder_kept x old new)) (sym h) ∙ touched)))
  covers (nodes.Security x of_securities.Total) touched =
      in-held (nodes.Security x of_securities.Total) x (λ stake f. (in-components x stake.fund.components f).1)
      (moved (has_row position_name x sheet.securities) (share_kept x old new) (holder_kept x old new) touched)
  covers (nodes.Whole (wholes.ClassSum classes.Type2Equity)) touched = inr (inl refl)
  covers node touched = absurd (cc)
