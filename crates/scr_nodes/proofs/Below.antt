-- Figures of which a measure is below a limit.
use Rattle.std.proofs.Common.{◌≡◌, ℕ, ◌<◌, ◌≤◌, nat_lt, Bool, true, List, map, filter, arith}
use Rattle.std.specs.List.{AllByRecursion, list_all}
use Rattle.std.proofs.lemmas.Bool.{ltb-true}
use Rattle.scr_funds.proofs.Members.{each_weaker}
use Rattle.scr_nodes.specs.declared.node.Node.{Node}
use Rattle.scr_nodes.proofs.Chosen.{each-chosen, each-mapped, each-row, each-tested}

module _ (measure : Node → ℕ) where
  abbrev pub AllBelow : ℕ → List Node → Type 0
  AllBelow limit list = AllByRecursion (λ n. measure n < limit) list

  pub below-tested : (limit : ℕ) (list : List Node) → list_all (λ n. nat_lt (measure n) limit) list ≡ true
      → AllBelow limit list
  below-tested limit list h =
      each_weaker (λ n. nat_lt (measure n) limit ≡ true) (λ n. measure n < limit)
      (λ n e. ltb-true (measure n) limit e) list (each-tested (λ n. nat_lt (measure n) limit) list h)

  pub below-weaker : (least most : ℕ) → least ≤ most → (list : List Node) → AllBelow least list → AllBelow most list
  below-weaker least most h list below =
      each_weaker (λ n. measure n < least) (λ n. measure n < most) (λ n l. omega arith) list below

  -- the nodes of rows that a test chooses
  pub below-chosen : {Row : Type 0} (limit : ℕ) (test : Row → Bool) (node : Row → Node) (rows : List Row)
      → ((r : Row) → measure (node r) < limit) → AllBelow limit (map node (filter test rows))
  below-chosen limit test node rows less =
      each-chosen (λ r. Unit {0}) (λ n. measure n < limit) test node rows (each-row rows) (λ r fact e. less r)

  pub below-mapped : {Row : Type 0} (limit : ℕ) (node : Row → Node) (rows : List Row)
      → ((r : Row) → measure (node r) < limit) → AllBelow limit (map node rows)
  below-mapped limit node rows less =
      each-mapped (λ r. Unit {0}) (λ n. measure n < limit) (λ r. true) node rows (each-row rows) (λ r fact. less r)
