-- No point is a source of another twice.
use Rattle.std.proofs.Common.{◌≡◌, ◌⊎◌, inl, inr, ℕ, ◌+◌, ◌-◌, ◌<◌, ◌≤◌, Bool, true, false, cond, Contains, List, ◌++◌, Option, Some, None, length, get_or, slice_get, map, refl, sym, ap, ◌∙◌, arith}
use Rattle.std.specs.Prelude.{is_some}
use Rattle.std.specs.Option.{option_map_or}
use Rattle.std.proofs.lemmas.Bool.{cases_lt}
use Rattle.std.proofs.lemmas.List.{get_or-append-add, get_or_append_left, length-append}
use Rattle.std.proofs.lemmas.Option.{get_or_from_slice_get, slice_get-get_or, slice_get_cases}
use Rattle.scr_sum_tree.specs.Blocks.{HasEachOnce}
use Rattle.scr_sum_tree.specs.declared.readers.Reader.TheVariants as readers
use Rattle.scr_sum_tree.proofs.Once.{added-once, once-map}
use Rattle.scr_sum_tree.proofs.Read.{IsOwn, added-only}
use Rattle.scr_sum_tree.proofs.SameMembers.{names-once}
use Rattle.scr_nodes.specs.LiveNodes.{HasNoRepeats}
use Rattle.scr_nodes.specs.declared.node.Node.{Node}
use Rattle.scr_nodes.specs.declared.node.Node.TheVariants as nodes
use Rattle.scr_nodes.specs.declared.node.Measure.TheVariants as measures
use Rattle.scr_nodes.specs.declared.node.OfCurrency.TheVariants as of_currencies
use Rattle.scr_nodes.specs.declared.node.OfGroup.TheVariants as of_groups
use Rattle.scr_nodes.specs.declared.node.Whole.TheVariants as wholes
use Rattle.scr_nodes.specs.Sources.{sources_of}
use Rattle.scr_sheet.specs.declared.rows.Class.TheVariants as classes
use Rattle.scr_block_graph.specs.Graph.{AreRolls, Rolled, block_point, member_point, roll_in, sources_in, tops_of}
use Rattle.scr_block_graph.specs.Sums.{first_sum, roll_of, second_sum}
use Rattle.scr_block_graph.specs.declared.point.Point.{Point}
use Rattle.scr_block_graph.specs.declared.point.Point.TheVariants as points
use Rattle.scr_block_graph.specs.declared.sum.Sum.{Sum}
use Rattle.scr_block_graph.specs.declared.sum.Sum.TheVariants as sums
use Rattle.scr_block_graph.proofs.Apart.{points-apart}

-- ---- lists one behind another

module _ {X : Type 0} where
  -- what stands at a place of a list
  pub at-place : (xs : List X) (k : ℕ) → k < length xs → (x : X) × (slice_get xs k ≡ Some x) × (get_or xs k x ≡ x)
  at-place xs k inside = by (slice_get_cases xs k).1
    where
      by : ((x : X) × (k < length xs) × (slice_get xs k ≡ Some x) × (get_or xs k x ≡ x)) ⊎ ((length xs ≤ k) × (slice_get xs k ≡ None))
          → (x : X) × (slice_get xs k ≡ Some x) × (get_or xs k x ≡ x)
      by (inl h) = (h.0, h.2, h.3)
      by (inr past) = absurd (omega (arith, past.0, inside))

  module _ (xs ys : List X) where
    pub in-front : (k : ℕ) → k < length xs → slice_get (xs ++ ys) k ≡ slice_get xs k
    in-front k h =
        let x = at-place xs k h in
        slice_get-get_or (xs ++ ys) k x.0 (omega (arith, h, length-append xs ys))
        ∙ ap Some (get_or_append_left xs ys x.0 k h ∙ x.2) ∙ sym x.1

    pub behind : (k : ℕ) → k < length ys → slice_get (xs ++ ys) (length xs + k) ≡ slice_get ys k
    behind k h =
        let y = at-place ys k h in
        slice_get-get_or (xs ++ ys) (length xs + k) y.0 (omega (arith, h, length-append xs ys))
        ∙ ap Some (get_or-append-add xs ys k y.0 ∙ y.2) ∙ sym y.1

    -- no element of one is one of the other
    pub once-append : HasEachOnce xs → HasEachOnce ys → ((z : X) → Contains xs z → Contains ys z → ⊥) → HasEachOnce (xs ++ ys)
    once-append one two apart j k before inside same = by (cases_lt k (length xs))
      where
        by : (k < length xs) ⊎ (length xs ≤ k) → ⊥
        by (inl front) = one j k before front (sym (in-front j (omega (arith, before, front))) ∙ same ∙ in-front k front)
        by (inr back) = both (cases_lt j (length xs))
          where
            n : ℕ
            n = k - length xs

            here : length xs + n ≡ k
            here = omega (arith, back)

            within : n < length ys
            within = omega (arith, inside, back, length-append xs ys)

            own : slice_get (xs ++ ys) k ≡ slice_get ys n
            own = ap (slice_get (xs ++ ys)) (sym here) ∙ behind n within

            both : (j < length xs) ⊎ (length xs ≤ j) → ⊥
            both (inl front) =
                let x = at-place xs j front in
                let z : slice_get ys n ≡ Some x.0 = sym own ∙ sym same ∙ in-front j front ∙ x.1 in
                apart x.0 (j, front, x.2) (n, within, get_or_from_slice_get ys n x.0 x.0 z)
            both (inr later) =
                let m : ℕ = j - length xs in
                let there : length xs + m ≡ j = omega (arith, later) in
                let fewer : m < length ys = omega (arith, within, before, here, there) in
                two m n (omega (arith, before, here, there)) within
                (sym (ap (slice_get (xs ++ ys)) (sym there) ∙ behind m fewer) ∙ same ∙ own)

-- ---- two sums of one figure

-- of whose rows a sum is, and which sum it is
abbrev pub table_number : Node → ℕ
table_number (nodes.Fund name what) = 1
table_number (nodes.Liability name what) = 2
table_number node = 0

abbrev pub sum_number : Sum → ℕ
sum_number sums.Closed = 1
sum_number (sums.Costs currency direction) = 2
sum_number (sums.Presents currency) = 2
sum_number (sums.Losses biometric projection) = 2
sum_number sum = 0

abbrev pub point_number : Point → ℕ
point_number (points.Figure node) = table_number node
point_number (points.Block block) = sum_number block.sum

-- all that a sum has, members and Blocks, bears its number
module _ (book : Rolled) (sum : Sum) where
  numbered : ((name : List ℕ) → point_number (member_point sum name) ≡ sum_number sum) → (z : Point) → Contains (tops_of book (Some sum)) z
      → point_number z ≡ sum_number sum
  numbered members z h = by (added-only (member_point sum) (block_point sum) (roll_in book sum) readers.Whole tt z h)
    where
      by : IsOwn (member_point sum) (block_point sum) (roll_in book sum) z → point_number z ≡ sum_number sum
      by (inl m) = ap point_number (sym m.2) ∙ members m.0
      by (inr b) = ap point_number (sym b.3)

pub member-number : (sum : Sum) (name : List ℕ) → point_number (member_point sum name) ≡ sum_number sum
member-number (sums.Class class) name = refl
member-number sums.Closed name = refl
member-number sums.Spreads name = refl
member-number sums.Grouped name = refl
member-number (sums.Group group) name = refl
member-number (sums.Assets currency) name = refl
member-number (sums.Rates currency direction) name = refl
member-number (sums.Costs currency direction) name = refl
member-number (sums.Presents currency) name = refl
member-number (sums.Losses biometric projection) name = refl
member-number sums.Squares name = refl

-- the second sum of a figure has a greater number than the first
pub numbers-differ : (node : Node) → option_map_or sum_number (first_sum node) 0 < option_map_or sum_number (second_sum node) 3
numbers-differ (nodes.Group name of_groups.Total) = omega arith
numbers-differ (nodes.Currency currency (of_currencies.Loss direction)) = omega arith
numbers-differ (nodes.Currency currency (of_currencies.Scenario direction measures.Gross)) = omega arith
numbers-differ (nodes.Whole (wholes.ClassSum classes.Type2Equity)) = omega arith
numbers-differ (nodes.Whole (wholes.ClassSum class)) = omega arith
numbers-differ (nodes.Whole wholes.Spread) = omega arith
numbers-differ (nodes.Whole wholes.Assets) = omega arith
numbers-differ (nodes.Whole wholes.Concentration) = omega arith
numbers-differ (nodes.Whole (wholes.BioScenario biometric projection measures.Gross)) = omega arith
numbers-differ node = omega arith

abbrev pub node_in : Node → Point → Node
node_in other (points.Figure node) = node
node_in other (points.Block block) = other

module _ (book : Rolled) where
  pub tops-number : (sum : Option Sum) (none : ℕ) (z : Point) → Contains (tops_of book sum) z → point_number z ≡ option_map_or sum_number sum none
  tops-number None none z h = absurd (omega (arith, h.1))
  tops-number (Some sum) none z h = numbered book sum (member-number sum) z h

module _ (book : Rolled) (rolls : AreRolls book) where
  tops-once : (sum : Option Sum) → HasEachOnce (tops_of book sum)
  tops-once None = λ j k before inside same. omega (arith, inside)
  tops-once (Some sum) =
      added-once (member_point sum) (block_point sum) (points-apart sum) (roll_in book sum)
      (names-once (roll_in book sum) (rolls.once (roll_of sum))) readers.Whole

  pub sources-once : ((node : Node) → HasNoRepeats (sources_of book.sheet node)) → (point : Point) → HasEachOnce (sources_in book point)
  sources-once plain (points.Figure node) = by (is_some (first_sum node))
    where
      apart : (z : Point) → Contains (tops_of book (first_sum node)) z → Contains (tops_of book (second_sum node)) z → ⊥
      apart z one two =
          omega (arith, numbers-differ node, tops-number book (first_sum node) 0 z one, tops-number book (second_sum node) 3 z two)

      listed-once : HasEachOnce (sources_of book.sheet node)
      listed-once j k before inside same =
          let x = at-place (sources_of book.sheet node) k inside in
          omega (arith, before, plain node j k x.0 (same ∙ x.1) x.1)

      by : (t : Bool) → HasEachOnce (cond t (tops_of book (first_sum node) ++ tops_of book (second_sum node)) (map points.Figure (sources_of book.sheet node)))
      by true = once-append (tops_of book (first_sum node)) (tops_of book (second_sum node)) (tops-once (first_sum node)) (tops-once (second_sum node)) apart
      by false = once-map points.Figure (λ a b e. ap (node_in a) e) (sources_of book.sheet node) listed-once
  sources-once plain (points.Block block) =
      added-once (member_point block.sum) (block_point block.sum) (points-apart block.sum) (roll_in book block.sum)
      (names-once (roll_in book block.sum) (rolls.once (roll_of block.sum))) (readers.Block block.level block.index)
