-- Where no figure that is told is reckoned from a large sum, the figures are all that changes in the graph of a book.
use Rattle.std.proofs.Common.{◌≡◌, ◌⊎◌, inl, inr, Bool, true, false, cond, ◌||◌, List, [], ◌∷◌, ◌++◌, Option, Some, None, refl, sym, ap, ap₂, ◌∙◌}
use Rattle.std.specs.Prelude.{flat_map, is_some}
use Rattle.std.specs.List.{list_any}
use Rattle.scr_funds.proofs.Members.{IsMember, IsMember-from_Contains}
use Rattle.scr_sheet.specs.declared.edit.Edit.{Edit}
use Rattle.scr_sheet.specs.declared.rows.Class.TheVariants as classes
use Rattle.scr_nodes.specs.declared.node.Measure.TheVariants as measures
use Rattle.scr_nodes.specs.declared.node.Node.{Node}
use Rattle.scr_nodes.specs.declared.node.Node.TheVariants as nodes
use Rattle.scr_nodes.specs.declared.node.OfCurrency.TheVariants as of_currencies
use Rattle.scr_nodes.specs.declared.node.Whole.TheVariants as wholes
use Rattle.scr_block_graph.specs.Graph.{IsRoll, Rolled}
use Rattle.scr_block_graph.specs.Sums.{first_sum, roll_of, second_sum}
use Rattle.scr_block_graph.specs.Told.{HaveRolls, is_reader, points_by, points_of, touched_points, turn_at}
use Rattle.scr_block_graph.specs.declared.point.Point.{Point}
use Rattle.scr_block_graph.specs.declared.point.Point.TheVariants as points
use Rattle.scr_block_graph.specs.declared.sum.Sum.{Sum}

none-of : {A : Type 0} (o : Option A) → is_some o ≡ false → o ≡ None
none-of None e = refl
none-of (Some x) e = absurd (cc)

neither : (a b : Bool) → (a || b) ≡ false → (a ≡ false) × (b ≡ false)
neither false b e = (refl, e)
neither true b e = absurd (cc)

-- what is reckoned from no first sum is reckoned from no second
second-none : (node : Node) → is_some (first_sum node) ≡ false → second_sum node ≡ None
second-none (nodes.Currency currency (of_currencies.Loss direction)) e = absurd (cc)
second-none (nodes.Currency currency (of_currencies.Scenario direction measures.Gross)) e = absurd (cc)
second-none (nodes.Whole (wholes.ClassSum classes.Type2Equity)) e = absurd (cc)
second-none node e = refl

abbrev pub alone : Node → List Point
alone node = points.Figure node ∷ []

module _ (edit : Edit) (book : Rolled) where
  plain-point : (node : Node) → is_some (first_sum node) ≡ false → alone node ≡ points_of edit book node
  plain-point node none =
      by (is_reader node)
      ∙ ap₂ (λ (a b : Option Sum). points_by node (turn_at edit book a) (turn_at edit book b)) (sym (none-of (first_sum node) none)) (sym (second-none node none))
    where
      by : (t : Bool) → alone node ≡ alone node ++ cond t [] []
      by true = refl
      by false = refl

  pub plain-points : (told : List Node) → list_any (λ node. is_some (first_sum node)) told ≡ false → flat_map alone told ≡ touched_points edit book told
  plain-points [] none = refl
  plain-points (node ∷ told) none =
      let parts = neither (is_some (first_sum node)) (list_any (λ n. is_some (first_sum n)) told) none in
      ap₂ (λ (xs ys : List Point). xs ++ ys) (plain-point node parts.0) (plain-points told parts.1)

none-has : (told : List Node) → list_any (λ node. is_some (first_sum node)) told ≡ false → (node : Node) → IsMember node told → is_some (first_sum node) ≡ false
none-has [] none node h = absurd h
none-has (other ∷ told) none node (inl e) = ap (λ n. is_some (first_sum n)) e ∙ (neither (is_some (first_sum other)) (list_any (λ n. is_some (first_sum n)) told) none).0
none-has (other ∷ told) none node (inr h) = none-has told (neither (is_some (first_sum other)) (list_any (λ n. is_some (first_sum n)) told) none).1 node h

pub plain-rolls : (book : Rolled) (told : List Node) → list_any (λ node. is_some (first_sum node)) told ≡ false → HaveRolls book told
plain-rolls book told none node h sum is = by is
  where
    plain : is_some (first_sum node) ≡ false
    plain = none-has told none node (IsMember-from_Contains told node h)

    by : (first_sum node ≡ Some sum) ⊎ (second_sum node ≡ Some sum) → IsRoll book (roll_of sum)
    by (inl e) = let never : None ≡ Some sum = sym (none-of (first_sum node) plain) ∙ e in absurd (cc)
    by (inr e) = let never : None ≡ Some sum = sym (second-none node plain) ∙ e in absurd (cc)
