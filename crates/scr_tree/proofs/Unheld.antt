-- Securities that no fund holds: nothing is linked to their totals.
use Rattle.std.proofs.Common.{◌≡◌, ℕ, suc, ◌+◌, ◌==◌, ◌||◌, Bool, true, false, cond, not, List, [], ◌∷◌, filter, length, map, Some, slice_get, refl, sym, ap, subst, append-nil, arith}
use Rattle.std.specs.List.{list_any}
use Rattle.scr_figure_ids.specs.Numbers.{StandsAt}
use Rattle.scr_figure_ids.specs.Places.{places_where}
use Rattle.scr_links.specs.Edges.{Linked}
use Rattle.scr_ids.specs.Ranges.{first}
use Rattle.scr_ids.specs.declared.table.Table.TheVariants as tables
use Rattle.scr_sheet.specs.declared.rows.Position.{Position}
use Rattle.scr_nodes.specs.Rows.{holds}
use Rattle.scr_nodes.specs.Sources.{fund_total, security_total}
use Rattle.scr_reachability.specs.Linked.{AreAt, sources_in}
use Rattle.scr_tree.specs.First.{AreLinkedTo, IsLinkGround}
use Rattle.scr_tree.specs.Turns.{turn}
use Rattle.scr_tree.specs.declared.making.LinkGround.{LinkGround}
use Rattle.scr_tree.proofs.Grounds.{security-alive, security-called}
use Rattle.scr_tree.proofs.Linking.{linked-gathered}

-- ---- rows that pass a test

module _ {Row : Type 0} (test : Row → Bool) where
  pub some-where : (j : ℕ) (rows : List Row) → not (length (places_where test j rows) == 0) ≡ list_any test rows
  some-where j [] = refl
  some-where j (row ∷ rows) = by (test row) (some-where (suc j) rows)
    where
      by : (b : Bool) → not (length (places_where test (suc j) rows) == 0) ≡ list_any test rows
          → not (length (cond b (j ∷ places_where test (suc j) rows) (places_where test (suc j) rows)) == 0) ≡ (b || list_any test rows)
      by true rest =
          let some : (suc (length (places_where test (suc j) rows)) == 0) ≡ false = grind arith in
          ap not some
      by false rest = rest

  none-passes : (rows : List Row) → list_any test rows ≡ false → filter test rows ≡ []
  none-passes [] none = refl
  none-passes (row ∷ rows) none = by (test row) none (none-passes rows)
    where
      by : (b : Bool) → (b || list_any test rows) ≡ false → (list_any test rows ≡ false → filter test rows ≡ [])
          → cond b (row ∷ filter test rows) (filter test rows) ≡ []
      by true none rest = absurd (cc)
      by false none rest = rest none

-- ---- links

module _ (ground : LinkGround) (g : IsLinkGround ground) where
  -- of a security that no fund holds there are none
  pub linked-unheld : (links : Linked) (k : ℕ) (p : Position) → slice_get ground.book.now.sheet.securities k ≡ Some p
      → list_any (holds p.security.name) ground.book.now.sheet.funds ≡ false → AreLinkedTo ground links (turn 1 k 0)
      → AreLinkedTo ground links (turn 1 k 1)
  linked-unheld links k p at unheld is =
      linked-gathered ground g links links (security_total p) k (first ground.places.now tables.Security k + 0) []
      (security-called ground g k p at) refl (security-alive ground g k p at) refl
      (subst (AreAt (StandsAt ground.book.now.sheet ground.places.now) []) (sym (ap (map fund_total) (none-passes (holds p.security.name) ground.book.now.sheet.funds unheld))) tt) is
      (record { size = λ n above all small. small; made = sym (append-nil (sources_in links.edges (first ground.places.now tables.Security k + 0))); kept = λ other apart. refl })
