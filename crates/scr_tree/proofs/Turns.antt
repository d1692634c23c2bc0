-- The order of the first reckoning: what comes before a turn, and which turns come to the same.
use Rattle.std.proofs.Common.{◌≡◌, ◌⊎◌, inl, inr, ℕ, zero, suc, ◌+◌, ◌<◌, ◌≤◌, true, false, nat_eq, Some, length, slice_get, refl, sym, ap, subst, ◌∙◌, arith}
use Rattle.std.proofs.lemmas.Bool.{eqb-true, eq-eqb}
use Rattle.std.proofs.lemmas.Option.{slice_get_within}
use Rattle.scr_tables.proofs.TableRows.{passes_or_fails}
use Rattle.scr_figure_ids.specs.Families.{family_of, name_of, table_of, whole_family}
use Rattle.scr_figure_ids.specs.Numbers.{IsNumbered, names_in}
use Rattle.scr_figure_ids.proofs.Live.{live-stands, named-once}
use Rattle.scr_figure_ids.proofs.RowNames.{placed-at}
use Rattle.scr_figure_ids.proofs.Told.{told}
use Rattle.scr_ids.specs.Ranges.{Numbered, stride}
use Rattle.scr_ids.specs.declared.table.Table.{Table}
use Rattle.scr_ids.specs.declared.table.Table.TheVariants as tables
use Rattle.scr_sheet.specs.declared.sheet.BalanceSheet.{BalanceSheet}
use Rattle.scr_sheet.specs.Validity.{Valid}
use Rattle.scr_nodes.specs.Live.{is_live}
use Rattle.scr_nodes.specs.declared.{node.Node.Node, node.Whole.Whole}
use Rattle.scr_nodes.specs.declared.node.Node.TheVariants as nodes
use Rattle.scr_nodes.specs.declared.node.OfSecurity.TheVariants as of_securities
use Rattle.scr_nodes.specs.declared.node.Whole.TheVariants as wholes
use Rattle.scr_tree.specs.Turns.{IsBefore, IsEarlier, Turn, next, stage_of, turn}

-- ---- the table of a stage

abbrev pub table_at : ℕ → Table
table_at zero = tables.Fund
table_at (suc zero) = tables.Security
table_at (suc (suc zero)) = tables.Whole
table_at (suc (suc (suc zero))) = tables.Security
table_at (suc (suc (suc (suc zero)))) = tables.Liability
table_at (suc (suc (suc (suc (suc zero))))) = tables.Group
table_at (suc (suc (suc (suc (suc (suc zero)))))) = tables.Currency
table_at n = tables.Whole

table-at : (node : Node) → table_at (stage_of node) ≡ table_of node
table-at (nodes.Fund name what) = refl
table-at (nodes.Security name of_securities.Total) = refl
table-at (nodes.Security name what) = refl
table-at (nodes.Liability name what) = refl
table-at (nodes.Group name what) = refl
table-at (nodes.Whole wholes.Assets) = refl
table-at (nodes.Currency name what) = refl
table-at (nodes.Whole what) = refl

pub one-table : (a b : Node) → stage_of a ≡ stage_of b → table_of a ≡ table_of b
one-table a b same = sym (table-at a) ∙ (ap table_at same ∙ table-at b)

-- ---- whose turn it is

pub record TakesTurn (sheet : BalanceSheet) (t : Turn) (node : Node) : Type 0 where
  pub at : stage_of node ≡ t.stage
  pub row : slice_get (names_in sheet (table_of node)) t.row ≡ Some (name_of node)
  pub family : family_of node ≡ t.family

-- two of one turn are one
pub one-turn : (sheet : BalanceSheet) (t : Turn) (a b : Node) → TakesTurn sheet t a → TakesTurn sheet t b
    → family_of a < stride (table_of a) → a ≡ b
one-turn sheet t a b x y within =
    let table : table_of a ≡ table_of b = one-table a b (x.at ∙ sym y.at) in
    let names : Some (name_of a) ≡ Some (name_of b) =
    sym x.row ∙ (ap (λ n. slice_get (names_in sheet n) t.row) table ∙ y.row) in
    told a b table (x.family ∙ sym y.family) (cc) within

-- what is before the next turn is before this one, or it is its own
pub step-back : (sheet : BalanceSheet) (t : Turn) (n : Node) → IsBefore sheet (next t) n → IsBefore sheet t n ⊎ TakesTurn sheet t n
step-back sheet t n (inl less) = inl (inl less)
step-back sheet t n (inr h) = by h.1.before
  where
    last : h.1.k ≡ t.row → family_of n < t.family + 1 → IsBefore sheet t n ⊎ TakesTurn sheet t n
    last row less = passes_or_fails (nat_eq (family_of n) t.family)
        (λ e. inr (record {
          at = h.0;
          row = subst (λ k. slice_get (names_in sheet (table_of n)) k ≡ Some (name_of n)) row h.1.named;
          family = eqb-true (family_of n) t.family e;
        }))
        (λ e.
        let other : family_of n ≡ t.family → ⊥ =
        λ same. (let clash : true ≡ false = sym (eq-eqb (family_of n) t.family same) ∙ e in absurd (cc)) in
        inl (inr (h.0, record { k = h.1.k; named = h.1.named; before = inr (row, lower (family_of n) t.family less other) })))
      where
        lower : (a b : ℕ) → a < b + 1 → (a ≡ b → ⊥) → a < b
        lower a b l other = omega (arith, l, other)

    by : (h.1.k < t.row) ⊎ ((h.1.k ≡ t.row) × (family_of n < t.family + 1)) → IsBefore sheet t n ⊎ TakesTurn sheet t n
    by (inl less) = inl (inr (h.0, record { k = h.1.k; named = h.1.named; before = inl less }))
    by (inr same) = last same.0 same.1

pub its-turn : (sheet : BalanceSheet) (t : Turn) (n : Node) → TakesTurn sheet t n → IsBefore sheet (next t) n
its-turn sheet t n is =
    inr (is.at, record { k = t.row; named = is.row; before = inr (refl, let f = is.family in omega (arith, f)) })

pub later : (sheet : BalanceSheet) (t : Turn) (n : Node) → IsBefore sheet t n → IsBefore sheet (next t) n
later sheet t n (inl less) = inl less
later sheet t n (inr h) = inr (h.0, record { k = h.1.k; named = h.1.named; before = by h.1.before })
  where
    by : (h.1.k < t.row) ⊎ ((h.1.k ≡ t.row) × (family_of n < t.family))
        → (h.1.k < t.row) ⊎ ((h.1.k ≡ t.row) × (family_of n < t.family + 1))
    by (inl less) = inl less
    by (inr same) = inr (same.0, let l = same.1 in omega (arith, l))

-- a figure is not before its own turn
pub not-before : (sheet : BalanceSheet) → Valid sheet → (t : Turn) (n : Node) → TakesTurn sheet t n → IsBefore sheet t n → ⊥
not-before sheet valid t n is (inl less) = let e = is.at in absurd (omega (arith, e, less))
not-before sheet valid t n is (inr h) =
    let names = names_in sheet (table_of n) in
    let both : Some h.1.k ≡ Some t.row =
    sym (placed-at (name_of n) names h.1.k (named-once sheet valid (table_of n)) h.1.named)
    ∙ placed-at (name_of n) names t.row (named-once sheet valid (table_of n)) is.row in
    by (cc) h.1.before
  where
    by : h.1.k ≡ t.row → (h.1.k < t.row) ⊎ ((h.1.k ≡ t.row) × (family_of n < t.family)) → ⊥
    by row (inl less) = absurd (omega (arith, row, less))
    by row (inr same) = let f = is.family in let l = same.1 in absurd (omega (arith, f, l))

-- ---- turns that come to the same

-- the figures of the balance sheet that are before them are the same
pub record IsAsGood (sheet : BalanceSheet) (t u : Turn) : Type 0 where
  pub to : (n : Node) → is_live sheet n ≡ true → IsBefore sheet t n → IsBefore sheet u n
  pub back : (n : Node) → is_live sheet n ≡ true → IsBefore sheet u n → IsBefore sheet t n

-- no figure has the turn
pub skipped : (sheet : BalanceSheet) (t : Turn) → ((n : Node) → is_live sheet n ≡ true → TakesTurn sheet t n → ⊥)
    → IsAsGood sheet t (next t)
skipped sheet t none = record {
  to = λ n live before. later sheet t n before;
  back = λ n live before. by n live (step-back sheet t n before);
}
  where
    by : (n : Node) → is_live sheet n ≡ true → IsBefore sheet t n ⊎ TakesTurn sheet t n → IsBefore sheet t n
    by n live (inl before) = before
    by n live (inr is) = absurd (none n live is)

-- the balance sheet does not have the figure that has the turn
pub dead-skipped : (sheet : BalanceSheet) (places : Numbered) → IsNumbered sheet places → (t : Turn) (node : Node)
    → TakesTurn sheet t node → (is_live sheet node ≡ true → ⊥) → IsAsGood sheet t (next t)
dead-skipped sheet places numbered t node is dead = skipped sheet t
    (λ n live own. dead (subst (λ m. is_live sheet m ≡ true)
    (one-turn sheet t n node own is (live-stands sheet places numbered n live).1.at.family) live))

-- a row has no figure of this family or a later one
pub row-ended : (sheet : BalanceSheet) (s k f : ℕ) → ((n : Node) → is_live sheet n ≡ true → stage_of n ≡ s → family_of n < f)
    → IsAsGood sheet (turn s k f) (turn s (k + 1) 0)
row-ended sheet s k f most = record {
  to = to;
  back = back;
}
  where
    to : (n : Node) → is_live sheet n ≡ true → IsBefore sheet (turn s k f) n → IsBefore sheet (turn s (k + 1) 0) n
    to n live (inl less) = inl less
    to n live (inr h) = inr (h.0, record { k = h.1.k; named = h.1.named; before = inl (by h.1.before) })
      where
        by : (h.1.k < k) ⊎ ((h.1.k ≡ k) × (family_of n < f)) → h.1.k < k + 1
        by (inl less) = omega (arith, less)
        by (inr same) = let e = same.0 in omega (arith, e)

    back : (n : Node) → is_live sheet n ≡ true → IsBefore sheet (turn s (k + 1) 0) n → IsBefore sheet (turn s k f) n
    back n live (inl less) = inl less
    back n live (inr h) = inr (h.0, record { k = h.1.k; named = h.1.named; before = by h.1.before })
      where
        lower : h.1.k < k + 1 → (h.1.k < k) ⊎ ((h.1.k ≡ k) × (family_of n < f))
        lower less = passes_or_fails (nat_eq h.1.k k)
            (λ e. inr (eqb-true h.1.k k e, most n live h.0))
            (λ e.
            let other : h.1.k ≡ k → ⊥ = λ same. (let clash : true ≡ false = sym (eq-eqb h.1.k k same) ∙ e in absurd (cc)) in
            inl (omega (arith, less, other)))

        by : (h.1.k < k + 1) ⊎ ((h.1.k ≡ k + 1) × (family_of n < 0)) → (h.1.k < k) ⊎ ((h.1.k ≡ k) × (family_of n < f))
        by (inl less) = lower less
        by (inr same) = let l = same.1 in absurd (omega (arith, l))

-- nor of an earlier one
pub row-begun : (sheet : BalanceSheet) (s k f : ℕ) → ((n : Node) → is_live sheet n ≡ true → stage_of n ≡ s → f ≤ family_of n)
    → IsAsGood sheet (turn s k 0) (turn s k f)
row-begun sheet s k f least = record {
  to = to;
  back = back;
}
  where
    to : (n : Node) → is_live sheet n ≡ true → IsBefore sheet (turn s k 0) n → IsBefore sheet (turn s k f) n
    to n live (inl less) = inl less
    to n live (inr h) = inr (h.0, record { k = h.1.k; named = h.1.named; before = by h.1.before })
      where
        by : (h.1.k < k) ⊎ ((h.1.k ≡ k) × (family_of n < 0)) → (h.1.k < k) ⊎ ((h.1.k ≡ k) × (family_of n < f))
        by (inl less) = inl less
        by (inr same) = let l = same.1 in absurd (omega (arith, l))

    back : (n : Node) → is_live sheet n ≡ true → IsBefore sheet (turn s k f) n → IsBefore sheet (turn s k 0) n
    back n live (inl less) = inl less
    back n live (inr h) = inr (h.0, record { k = h.1.k; named = h.1.named; before = by h.1.before })
      where
        by : (h.1.k < k) ⊎ ((h.1.k ≡ k) × (family_of n < f)) → (h.1.k < k) ⊎ ((h.1.k ≡ k) × (family_of n < 0))
        by (inl less) = inl less
        by (inr same) = let l = same.1 in let m = least n live h.0 in absurd (omega (arith, l, m))

-- the table has no more rows
pub table-ended : (sheet : BalanceSheet) (places : Numbered) → IsNumbered sheet places → (s count : ℕ)
    → count ≡ length (names_in sheet (table_at s))
    → IsAsGood sheet (turn s count 0) (turn (s + 1) 0 0)
table-ended sheet places numbered s count long = record {
  to = to;
  back = back;
}
  where
    to : (n : Node) → is_live sheet n ≡ true → IsBefore sheet (turn s count 0) n → IsBefore sheet (turn (s + 1) 0 0) n
    to n live (inl less) = inl (omega (arith, less))
    to n live (inr h) = let e = h.0 in inl (omega (arith, e))

    back : (n : Node) → is_live sheet n ≡ true → IsBefore sheet (turn (s + 1) 0 0) n → IsBefore sheet (turn s count 0) n
    back n live (inl less) = passes_or_fails (nat_eq (stage_of n) s)
        (λ e. let same = eqb-true (stage_of n) s e in inr (same, inside same))
        (λ e.
        let other : stage_of n ≡ s → ⊥ = λ same. (let clash : true ≡ false = sym (eq-eqb (stage_of n) s same) ∙ e in absurd (cc)) in
        inl (omega (arith, less, other)))
      where
        inside : stage_of n ≡ s → IsEarlier sheet (turn s count 0) n
        inside same =
            let stands = (live-stands sheet places numbered n live).1 in
            let room = slice_get_within (names_in sheet (table_of n)) stands.k (name_of n) stands.row in
            let e : count ≡ length (names_in sheet (table_of n)) =
            long ∙ ap (λ t. length (names_in sheet t)) (ap table_at (sym same) ∙ table-at n) in
            record { k = stands.k; named = stands.row; before = inl (omega (arith, room, e)) }
    back n live (inr h) = absurd (by h.1.before)
      where
        by : (h.1.k < 0) ⊎ ((h.1.k ≡ 0) × (family_of n < 0)) → ⊥
        by (inl less) = omega (arith, less)
        by (inr same) = let l = same.1 in omega (arith, l)

-- ---- which families each stage has

-- of the table
pub family-within : (sheet : BalanceSheet) (places : Numbered) → IsNumbered sheet places → (n : Node) → is_live sheet n ≡ true
    → family_of n < stride (table_of n)
family-within sheet places numbered n live = (live-stands sheet places numbered n live).1.at.family

pub of-table : (sheet : BalanceSheet) (places : Numbered) → IsNumbered sheet places → (s : ℕ) (n : Node) → is_live sheet n ≡ true
    → stage_of n ≡ s → family_of n < stride (table_at s)
of-table sheet places numbered s n live same =
    subst (λ t. family_of n < stride t) (sym (table-at n) ∙ ap table_at same) (family-within sheet places numbered n live)

-- ---- which families each stage has

pub total-last : (n : Node) → stage_of n ≡ 1 → family_of n < 1
total-last (nodes.Fund name what) e = absurd (omega (arith, e))
total-last (nodes.Security name of_securities.Total) e = omega arith
total-last (nodes.Security name what) e = absurd (omega (arith, e))
total-last (nodes.Liability name what) e = absurd (omega (arith, e))
total-last (nodes.Currency name what) e = absurd (omega (arith, e))
total-last (nodes.Group name what) e = absurd (omega (arith, e))
total-last (nodes.Whole wholes.Assets) e = absurd (omega (arith, e))
total-last (nodes.Whole what) e = absurd (omega (arith, e))

pub assets-first : (n : Node) → stage_of n ≡ 2 → 153 ≤ family_of n
assets-first (nodes.Fund name what) e = absurd (omega (arith, e))
assets-first (nodes.Security name of_securities.Total) e = absurd (omega (arith, e))
assets-first (nodes.Security name what) e = absurd (omega (arith, e))
assets-first (nodes.Liability name what) e = absurd (omega (arith, e))
assets-first (nodes.Currency name what) e = absurd (omega (arith, e))
assets-first (nodes.Group name what) e = absurd (omega (arith, e))
assets-first (nodes.Whole wholes.Assets) e = omega arith
assets-first (nodes.Whole what) e = absurd (omega (arith, e))

-- ---- when all is done

pub stage-of-whole : (what : Whole) → whole_family what < 153 → stage_of (nodes.Whole what) ≡ 7
stage-of-whole wholes.Assets l = absurd (omega (arith, l))
stage-of-whole what l = refl

module _ (sheet : BalanceSheet) (places : Numbered) (numbered : IsNumbered sheet places) where
  pub whole-last : (what : Whole) → is_live sheet (nodes.Whole what) ≡ true → stage_of (nodes.Whole what) ≡ 7
      → whole_family what < 153
  whole-last what live e =
      let few : whole_family what < 154 = family-within sheet places numbered (nodes.Whole what) live in
      let other : whole_family what ≡ 153 → ⊥ =
      λ same. (let one : stage_of (nodes.Whole what) ≡ 2 =
      ap stage_of (told (nodes.Whole what) (nodes.Whole wholes.Assets) refl same refl few) in omega (arith, e, one)) in
      lower (whole_family what) few other
    where
      lower : (n : ℕ) → n < 154 → (n ≡ 153 → ⊥) → n < 153
      lower n l other = omega (arith, l, other)

  whole-done : (what : Whole) → is_live sheet (nodes.Whole what) ≡ true → stage_of (nodes.Whole what) ≡ 7
      → IsBefore sheet (turn 7 0 153) (nodes.Whole what)
  whole-done what live e = inr (e, record { k = 0; named = refl; before = inr (refl, whole-last what live e) })

  pub all-done : (n : Node) → is_live sheet n ≡ true → IsBefore sheet (turn 7 0 153) n
  all-done (nodes.Fund name what) live = inl (omega arith)
  all-done (nodes.Security name of_securities.Total) live = inl (omega arith)
  all-done (nodes.Security name what) live = inl (omega arith)
  all-done (nodes.Liability name what) live = inl (omega arith)
  all-done (nodes.Currency name what) live = inl (omega arith)
  all-done (nodes.Group name what) live = inl (omega arith)
  all-done (nodes.Whole wholes.Assets) live = inl (omega arith)
  all-done (nodes.Whole what) live = whole-done what live refl

-- at first nothing is
pub none-done : (sheet : BalanceSheet) (n : Node) → IsBefore sheet (turn 0 0 0) n → ⊥
none-done sheet n (inl less) = omega (arith, less)
none-done sheet n (inr h) = by h.1.before
  where
    by : (h.1.k < 0) ⊎ ((h.1.k ≡ 0) × (family_of n < 0)) → ⊥
    by (inl less) = omega (arith, less)
    by (inr same) = let l = same.1 in omega (arith, l)
