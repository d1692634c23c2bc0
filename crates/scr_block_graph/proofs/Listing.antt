-- The figures and Blocks that are listed are just those that a record touches, each once.
use Rattle.std.proofs.Common.{◌≡◌, ◌↔◌, ◌⊎◌, inl, inr, ℕ, zero, suc, Bool, true, false, cond, ◌&&◌, ◌||◌, Contains, List, [], ◌∷◌, ◌++◌, Option, Some, None, length, map, refl, sym, ap, ap₂, subst, ◌∙◌, arith}
use Rattle.std.specs.Prelude.{IsTrue, flat_map}
use Rattle.std.proofs.lemmas.Option.{get_or_from_slice_get, same_Some, slice_get_within}
use Rattle.scr_factors.specs.Values.{FactorValues}
use Rattle.scr_funds.proofs.Members.{Contains-from_IsMember, IsMember, IsMember-cases, IsMember-from_Contains, IsMember-left, IsMember-map, IsMember-mapped, IsMember-right}
use Rattle.scr_sum_tree.specs.Blocks.{HasEachOnce, is_block}
use Rattle.scr_sum_tree.specs.declared.blocks.Level.{Level}
use Rattle.scr_sum_tree.specs.declared.blocks.Level.TheVariants as levels
use Rattle.scr_sum_tree.proofs.Once.{once-map}
use Rattle.scr_sheet.specs.Records.{applied}
use Rattle.scr_sheet.specs.Validity.{Valid}
use Rattle.scr_sheet.specs.declared.edit.Edit.{Edit}
use Rattle.scr_sheet.specs.declared.rows.Class.TheVariants as classes
use Rattle.scr_nodes.specs.Changed.{IsChanged, IsSame}
use Rattle.scr_nodes.specs.LiveNodes.{HasNoRepeats}
use Rattle.scr_nodes.specs.declared.node.Direction.TheVariants as directions
use Rattle.scr_nodes.specs.declared.node.Measure.TheVariants as measures
use Rattle.scr_nodes.specs.declared.node.Node.{Node}
use Rattle.scr_nodes.specs.declared.node.Node.TheVariants as nodes
use Rattle.scr_nodes.specs.declared.node.OfCurrency.TheVariants as of_currencies
use Rattle.scr_nodes.specs.declared.node.OfGroup.TheVariants as of_groups
use Rattle.scr_nodes.specs.declared.node.Whole.TheVariants as wholes
use Rattle.scr_block_graph.specs.Changed.{IsSameIn}
use Rattle.scr_block_graph.specs.Graph.{Rolled, block_point, reads, roll_in, sources_in}
use Rattle.scr_block_graph.specs.Sums.{first_sum, reader_of, second_sum}
use Rattle.scr_block_graph.specs.Told.{HaveRolls, blocks_under, is_kept, is_reader, points_of, touched_points}
use Rattle.scr_block_graph.specs.Touched.{IsTouchedIn, applied_in}
use Rattle.scr_block_graph.specs.Turns.{changed_blocks, turn_of}
use Rattle.scr_block_graph.specs.declared.point.Block.{Block}
use Rattle.scr_block_graph.specs.declared.point.Point.{Point}
use Rattle.scr_block_graph.specs.declared.point.Point.TheVariants as points
use Rattle.scr_block_graph.specs.declared.sum.Sum.{Sum}
use Rattle.scr_block_graph.specs.declared.sum.Sum.TheVariants as sums
use Rattle.scr_block_graph.proofs.Apart.{points-apart}
use Rattle.scr_block_graph.proofs.Fewer.{once-head, once-tail}
use Rattle.scr_block_graph.proofs.Kept.{kept-told, rolls-stay}
use Rattle.scr_block_graph.proofs.Lives.{own-sum, summed-reader}
use Rattle.scr_block_graph.proofs.Once.{at-place, node_in, once-append, sum_number}
use Rattle.scr_block_graph.proofs.Pairs.{order-sums}
use Rattle.scr_block_graph.proofs.Turned.{turned-once, turned-told}

-- ---- lists

module _ {X : Type 0} where
  -- nothing stands in one more twice if it is none of those
  pub once-more : (x : X) (xs : List X) → (IsMember x xs → ⊥) → HasEachOnce xs → HasEachOnce (x ∷ xs)
  once-more x xs apart once j zero before inside same = absurd (omega (arith, before))
  once-more x xs apart once zero (suc k) before inside same =
      apart (IsMember-from_Contains xs x (k, slice_get_within xs k x (sym same), get_or_from_slice_get xs k x x (sym same)))
  once-more x xs apart once (suc j) (suc k) before inside same = once j k (omega (arith, before)) (omega (arith, inside)) same

  module _ {Y : Type 0} (f : X → List Y) where
    pub in-flat : (x : X) (y : Y) (xs : List X) → IsMember x xs → IsMember y (f x) → IsMember y (flat_map f xs)
    in-flat x y [] h m = absurd h
    in-flat x y (z ∷ zs) (inl is) m = IsMember-left (f z) (flat_map f zs) y (subst (λ t. IsMember y (f t)) is m)
    in-flat x y (z ∷ zs) (inr h) m = IsMember-right (f z) (flat_map f zs) y (in-flat x y zs h m)

    pub of-flat : (y : Y) (xs : List X) → IsMember y (flat_map f xs) → (x : X) × IsMember x xs × IsMember y (f x)
    of-flat y [] h = absurd h
    of-flat y (z ∷ zs) h = by (of-flat y zs) (IsMember-cases (f z) (flat_map f zs) y h)
      where
        by : (IsMember y (flat_map f zs) → (x : X) × IsMember x zs × IsMember y (f x)) → IsMember y (f z) ⊎ IsMember y (flat_map f zs)
            → (x : X) × IsMember x (z ∷ zs) × IsMember y (f x)
        by later (inl m) = (z, inl refl, m)
        by later (inr m) = let rest = later m in (rest.0, inr rest.1, rest.2)

    -- where each has each once, and no two have one in common
    pub once-flat : ((x : X) → HasEachOnce (f x)) → ((a b : X) (y : Y) → IsMember y (f a) → IsMember y (f b) → a ≡ b) → (xs : List X)
        → HasEachOnce xs → HasEachOnce (flat_map f xs)
    once-flat each apart [] once = λ j k before inside same. omega (arith, inside)
    once-flat each apart (x ∷ xs) once =
        once-append (f x) (flat_map f xs) (each x) (once-flat each apart xs (once-tail x xs once))
        (λ y one rest.
        let other = of-flat y xs (IsMember-from_Contains (flat_map f xs) y rest) in
        once-head x xs once (subst (λ t. IsMember t xs) (sym (apart x other.0 y (IsMember-from_Contains (f x) y one) other.2)) other.1))

-- ---- the figure that is told of those that are reckoned from a sum

pub reader-own : (node : Node) (sum : Sum) → is_reader node ≡ true → (first_sum node ≡ Some sum) ⊎ (second_sum node ≡ Some sum) → node ≡ reader_of sum
reader-own node sum reader (inl e) = first node reader e
  where
    first : (node : Node) → is_reader node ≡ true → first_sum node ≡ Some sum → node ≡ reader_of sum
    first (nodes.Group name of_groups.Total) r e = ap reader_of (same_Some (sums.Group name) sum e)
    first (nodes.Currency currency (of_currencies.Loss direction)) r e = ap reader_of (same_Some (sums.Rates currency direction) sum e)
    first (nodes.Currency currency (of_currencies.Scenario directions.Up measures.Gross)) r e = ap reader_of (same_Some (sums.Assets currency) sum e)
    first (nodes.Currency currency (of_currencies.Scenario directions.Down measures.Gross)) r e = absurd (cc)
    first (nodes.Whole (wholes.ClassSum class)) r e = ap reader_of (same_Some (sums.Class class) sum e)
    first (nodes.Whole wholes.Spread) r e = ap reader_of (same_Some sums.Spreads sum e)
    first (nodes.Whole wholes.Assets) r e = ap reader_of (same_Some sums.Grouped sum e)
    first (nodes.Whole wholes.Concentration) r e = ap reader_of (same_Some sums.Squares sum e)
    first (nodes.Whole (wholes.BioScenario biometric projection measures.Gross)) r e = ap reader_of (same_Some (sums.Losses biometric projection) sum e)
    first node r e = absurd (cc)
reader-own node sum reader (inr e) = second node reader e
  where
    second : (node : Node) → is_reader node ≡ true → second_sum node ≡ Some sum → node ≡ reader_of sum
    second (nodes.Currency currency (of_currencies.Loss direction)) r e = ap reader_of (same_Some (sums.Costs currency direction) sum e)
    second (nodes.Currency currency (of_currencies.Scenario directions.Up measures.Gross)) r e = ap reader_of (same_Some (sums.Presents currency) sum e)
    second (nodes.Currency currency (of_currencies.Scenario directions.Down measures.Gross)) r e = absurd (cc)
    second (nodes.Whole (wholes.ClassSum classes.Type2Equity)) r e = ap reader_of (same_Some sums.Closed sum e)
    second node r e = absurd (cc)

own-reader : (sum : Sum) → is_reader (reader_of sum) ≡ true
own-reader (sums.Class class) = refl
own-reader sums.Closed = refl
own-reader sums.Spreads = refl
own-reader sums.Grouped = refl
own-reader (sums.Group name) = refl
own-reader (sums.Assets currency) = refl
own-reader (sums.Rates currency direction) = refl
own-reader (sums.Costs currency direction) = refl
own-reader (sums.Presents currency) = refl
own-reader (sums.Losses biometric projection) = refl
own-reader sums.Squares = refl

-- the sum that a Block lies under
abbrev sum_in : Sum → Point → Sum
sum_in other (points.Block block) = block.sum
sum_in other (points.Figure node) = other

abbrev block_in : Block → Point → Block
block_in other (points.Block block) = block
block_in other (points.Figure node) = other

abbrev is_figure : Point → ℕ
is_figure (points.Figure node) = 1
is_figure (points.Block block) = 0

pub one-reads : (a b x y : Bool) → IsTrue ((a && x) || (b && y)) → IsTrue (a || b)
one-reads true b x y h = refl
one-reads false true x y h = refl
one-reads false false x y h = absurd (cc)

module _ (edit : Edit) (book : Rolled) where
  abbrev after : Rolled
  after = applied_in edit book

  -- ---- Blocks under a sum

  at-level : Sum → Level → List Point
  at-level sum level = map (block_point sum level) (changed_blocks (turn_of edit book sum) level)

  pub of-sum : (sum : Sum) (block : Block) → IsMember (points.Block block) (blocks_under edit book (Some sum))
      → (block.sum ≡ sum) × Contains (changed_blocks (turn_of edit book sum) block.level) block.index
  unfolding at-level
  of-sum sum block h = by (IsMember-cases (at-level sum levels.First) (at-level sum levels.Second) (points.Block block) h)
    where
      at : (level : Level) → IsMember (points.Block block) (at-level sum level)
          → (block.sum ≡ sum) × Contains (changed_blocks (turn_of edit book sum) block.level) block.index
      at level m =
          let i = IsMember-map (block_point sum level) (changed_blocks (turn_of edit book sum) level) (points.Block block) m in
          let same : record { sum = sum; level = level; index = i.0 } ≡ block = ap (block_in block) i.2 in (
            sym (ap (λ (b : Block). b.sum) same),
            subst (λ (b : Block). Contains (changed_blocks (turn_of edit book sum) b.level) b.index) same
                (Contains-from_IsMember (changed_blocks (turn_of edit book sum) level) i.0 i.1),
          )

      by : IsMember (points.Block block) (at-level sum levels.First) ⊎ IsMember (points.Block block) (at-level sum levels.Second)
          → (block.sum ≡ sum) × Contains (changed_blocks (turn_of edit book sum) block.level) block.index
      by (inl m) = at levels.First m
      by (inr m) = at levels.Second m

  in-sum : (sum : Sum) (level : Level) (i : ℕ) → Contains (changed_blocks (turn_of edit book sum) level) i
      → IsMember (block_point sum level i) (blocks_under edit book (Some sum))
  unfolding at-level
  in-sum sum levels.First i h =
      IsMember-left (at-level sum levels.First) (at-level sum levels.Second) (block_point sum levels.First i)
      (IsMember-mapped (block_point sum levels.First) (changed_blocks (turn_of edit book sum) levels.First) i
      (IsMember-from_Contains (changed_blocks (turn_of edit book sum) levels.First) i h))
  in-sum sum levels.Second i h =
      IsMember-right (at-level sum levels.First) (at-level sum levels.Second) (block_point sum levels.Second i)
      (IsMember-mapped (block_point sum levels.Second) (changed_blocks (turn_of edit book sum) levels.Second) i
      (IsMember-from_Contains (changed_blocks (turn_of edit book sum) levels.Second) i h))

  sum-once : (sum : Option Sum) → HasEachOnce (blocks_under edit book sum)
  unfolding at-level
  sum-once None = λ j k before inside same. omega (arith, inside)
  sum-once (Some sum) =
      once-append (at-level sum levels.First) (at-level sum levels.Second)
      (once-map (block_point sum levels.First) (points-apart sum).firsts (changed_blocks (turn_of edit book sum) levels.First) (turned-once edit book sum levels.First))
      (once-map (block_point sum levels.Second) (points-apart sum).seconds (changed_blocks (turn_of edit book sum) levels.Second) (turned-once edit book sum levels.Second))
      (λ z one two.
      let i = IsMember-map (block_point sum levels.First) (changed_blocks (turn_of edit book sum) levels.First) z (IsMember-from_Contains (at-level sum levels.First) z one) in
      let j = IsMember-map (block_point sum levels.Second) (changed_blocks (turn_of edit book sum) levels.Second) z (IsMember-from_Contains (at-level sum levels.Second) z two) in
      (points-apart sum).apart i.0 j.0 (i.2 ∙ sym j.2))

  -- a Block, and no figure, under this sum
  pub block-of : (sum : Option Sum) (z : Point) → IsMember z (blocks_under edit book sum) → (block : Block) × (points.Block block ≡ z) × (sum ≡ Some block.sum)
  unfolding at-level
  block-of None z h = absurd h
  block-of (Some sum) z h = by (IsMember-cases (at-level sum levels.First) (at-level sum levels.Second) z h)
    where
      by : IsMember z (at-level sum levels.First) ⊎ IsMember z (at-level sum levels.Second) → (block : Block) × (points.Block block ≡ z) × (Some sum ≡ Some block.sum)
      by (inl m) =
          let i = IsMember-map (block_point sum levels.First) (changed_blocks (turn_of edit book sum) levels.First) z m in
          (record { sum = sum; level = levels.First; index = i.0 }, i.2, refl)
      by (inr m) =
          let i = IsMember-map (block_point sum levels.Second) (changed_blocks (turn_of edit book sum) levels.Second) z m in
          (record { sum = sum; level = levels.Second; index = i.0 }, i.2, refl)

  -- ---- Blocks below a figure

  abbrev figure_of : Edit → Rolled → Node → List Point
  figure_of e b node = cond (is_kept e b node) (points.Figure node ∷ []) []

  abbrev blocks_below : Edit → Rolled → Node → List Point
  blocks_below e b node = cond (is_reader node) (blocks_under e b (first_sum node) ++ blocks_under e b (second_sum node)) []

  abbrev under-both : Node → List Point
  under-both node = blocks_under edit book (first_sum node) ++ blocks_under edit book (second_sum node)

  record Below (node : Node) (z : Point) : Type 0 where
    block : Block
    is : points.Block block ≡ z
    reader : is_reader node ≡ true
    own : (first_sum node ≡ Some block.sum) ⊎ (second_sum node ≡ Some block.sum)
    under : IsMember (points.Block block) (blocks_under edit book (Some block.sum))

  of-both : (node : Node) (z : Point) → is_reader node ≡ true → IsMember z (under-both node) → Below node z
  of-both node z reader h = by (IsMember-cases (blocks_under edit book (first_sum node)) (blocks_under edit book (second_sum node)) z h)
    where
      by : IsMember z (blocks_under edit book (first_sum node)) ⊎ IsMember z (blocks_under edit book (second_sum node)) → Below node z
      by (inl m) =
          let b = block-of (first_sum node) z m in
          record {
            block = b.0;
            is = b.1;
            reader = reader;
            own = inl b.2;
            under = subst (λ s. IsMember (points.Block b.0) (blocks_under edit book s)) b.2 (subst (λ y. IsMember y (blocks_under edit book (first_sum node))) (sym b.1) m);
          }
      by (inr m) =
          let b = block-of (second_sum node) z m in
          record {
            block = b.0;
            is = b.1;
            reader = reader;
            own = inr b.2;
            under = subst (λ s. IsMember (points.Block b.0) (blocks_under edit book s)) b.2 (subst (λ y. IsMember y (blocks_under edit book (second_sum node))) (sym b.1) m);
          }

  of-below : (node : Node) (z : Point) → IsMember z (blocks_below edit book node) → Below node z
  of-below node z h = by (is_reader node) refl h
    where
      by : (t : Bool) → is_reader node ≡ t → IsMember z (cond t (under-both node) []) → Below node z
      by true e m = of-both node z e m
      by false e m = absurd m

  in-below : (node : Node) (z : Point) → is_reader node ≡ true → IsMember z (under-both node) → IsMember z (blocks_below edit book node)
  in-below node z reader h = subst (λ t. IsMember z (cond t (under-both node) [])) (sym reader) h

  below-once : (node : Node) → HasEachOnce (blocks_below edit book node)
  below-once node = by (is_reader node)
    where
      apart : (z : Point) → Contains (blocks_under edit book (first_sum node)) z → Contains (blocks_under edit book (second_sum node)) z → ⊥
      apart z one two =
          let a = block-of (first_sum node) z (IsMember-from_Contains (blocks_under edit book (first_sum node)) z one) in
          let b = block-of (second_sum node) z (IsMember-from_Contains (blocks_under edit book (second_sum node)) z two) in
          let same : a.0.sum ≡ b.0.sum = ap (sum_in a.0.sum) (a.1 ∙ sym b.1) in
          omega (arith, order-sums node a.0.sum b.0.sum a.2 b.2, ap sum_number same)

      by : (t : Bool) → HasEachOnce (cond t (under-both node) [])
      by true = once-append (blocks_under edit book (first_sum node)) (blocks_under edit book (second_sum node)) (sum-once (first_sum node)) (sum-once (second_sum node)) apart
      by false = λ j k before inside same. omega (arith, inside)

  below-apart : (a b : Node) (z : Point) → IsMember z (blocks_below edit book a) → IsMember z (blocks_below edit book b) → a ≡ b
  below-apart a b z one two =
      let x = of-below a z one in
      let y = of-below b z two in
      let same : x.block.sum ≡ y.block.sum = ap (sum_in x.block.sum) (x.is ∙ sym y.is) in
      reader-own a x.block.sum x.reader x.own ∙ ap reader_of same ∙ sym (reader-own b y.block.sum y.reader y.own)

  no-repeats : (told : List Node) → HasNoRepeats told → HasEachOnce told
  no-repeats told apart j k before inside same =
      let x = at-place told k inside in
      omega (arith, before, apart j k x.0 (same ∙ x.1) x.1)

  -- ---- what a figure tells

  figure-in : (node : Node) (z : Point) → IsMember z (figure_of edit book node) → (points.Figure node ≡ z) × (is_kept edit book node ≡ true)
  figure-in node z h = by (is_kept edit book node) refl h
    where
      by : (t : Bool) → is_kept edit book node ≡ t → IsMember z (cond t (points.Figure node ∷ []) []) → (points.Figure node ≡ z) × (is_kept edit book node ≡ true)
      by true e (inl is) = (sym is, e)
      by true e (inr m) = absurd m
      by false e m = absurd m

  figure-once : (node : Node) → HasEachOnce (figure_of edit book node)
  figure-once node = by (is_kept edit book node)
    where
      by : (t : Bool) → HasEachOnce (cond t (points.Figure node ∷ []) [])
      by true = λ j k before inside same. omega (arith, before, inside)
      by false = λ j k before inside same. omega (arith, inside)

  no-both : (one two : Node) (z : Point) → IsMember z (figure_of edit book one) → IsMember z (blocks_below edit book two) → ⊥
  no-both one two z h m =
      let never = ap is_figure ((figure-in one z h).0 ∙ sym (of-below two z m).is) in
      omega (arith, never)

  each-once : (node : Node) → HasEachOnce (points_of edit book node)
  each-once node =
      once-append (figure_of edit book node) (blocks_below edit book node) (figure-once node) (below-once node)
      (λ z one two. no-both node node z (IsMember-from_Contains (figure_of edit book node) z one) (IsMember-from_Contains (blocks_below edit book node) z two))

  all-apart : (one two : Node) (z : Point) → IsMember z (points_of edit book one) → IsMember z (points_of edit book two) → one ≡ two
  all-apart one two z h m =
      by (IsMember-cases (figure_of edit book one) (blocks_below edit book one) z h) (IsMember-cases (figure_of edit book two) (blocks_below edit book two) z m)
    where
      by : IsMember z (figure_of edit book one) ⊎ IsMember z (blocks_below edit book one) → IsMember z (figure_of edit book two) ⊎ IsMember z (blocks_below edit book two)
          → one ≡ two
      by (inl a) (inl b) = ap (node_in one) ((figure-in one z a).0 ∙ sym (figure-in two z b).0)
      by (inr a) (inr b) = below-apart one two z a b
      by (inl a) (inr b) = absurd (no-both one two z a b)
      by (inr a) (inl b) = absurd (no-both two one z b a)

  pub points-once : (told : List Node) → HasNoRepeats told → HasEachOnce (touched_points edit book told)
  points-once told apart = once-flat (points_of edit book) each-once all-apart told (no-repeats told apart)

  -- ---- just those that the record touches

  module _ (factors : FactorValues) (valid : Valid book.sheet) (now : Valid (applied edit book.sheet)) (told : List Node) (have : HaveRolls book told)
      (listed : (node : Node) → Contains told node ↔ IsChanged factors book.sheet after.sheet node) where
    figure-told : (node : Node) → IsMember (points.Figure node) (touched_points edit book told) ↔ IsTouchedIn factors book edit (points.Figure node)
    figure-told node = (to, from)
      where
        kept : (Contains told node × (is_kept edit book node ≡ true)) ↔ IsTouchedIn factors book edit (points.Figure node)
        kept = kept-told factors edit book valid now told have node (listed node)

        to : IsMember (points.Figure node) (touched_points edit book told) → IsTouchedIn factors book edit (points.Figure node)
        to h =
            let n = of-flat (points_of edit book) (points.Figure node) told h in
            by n.0 n.1 (IsMember-cases (figure_of edit book n.0) (blocks_below edit book n.0) (points.Figure node) n.2)
          where
            by : (n : Node) → IsMember n told → IsMember (points.Figure node) (figure_of edit book n) ⊎ IsMember (points.Figure node) (blocks_below edit book n)
                → IsTouchedIn factors book edit (points.Figure node)
            by n there (inl m) =
                let own = figure-in n (points.Figure node) m in
                let same : n ≡ node = ap (node_in node) own.0 in
                kept.0 (Contains-from_IsMember told node (subst (λ x. IsMember x told) same there), subst (λ x. is_kept edit book x ≡ true) same own.1)
            by n there (inr m) =
                let never = ap is_figure (of-below n (points.Figure node) m).is in
                absurd (omega (arith, never))

        from : IsTouchedIn factors book edit (points.Figure node) → IsMember (points.Figure node) (touched_points edit book told)
        from touched =
            let h = kept.1 touched in
            in-flat (points_of edit book) node (points.Figure node) told (IsMember-from_Contains told node h.0)
            (IsMember-left (figure_of edit book node) (blocks_below edit book node) (points.Figure node)
            (subst (λ t. IsMember (points.Figure node) (cond t (points.Figure node ∷ []) [])) (sym h.1) (inl refl)))

    -- where a Block changes, so does the reader of its sum in the graph of the balance sheet
    reader-changes : (block : Block) → IsTouchedIn factors book edit (points.Block block) → IsChanged factors book.sheet after.sheet (reader_of block.sum)
    reader-changes block touched = record {
      live = one-reads (reads book.sheet block.sum) (reads after.sheet block.sum) (is_block (length (roll_in book block.sum)) block.level block.index)
          (is_block (length (roll_in after block.sum)) block.level block.index) touched.live;
      changed = λ same. touched.changed (block-same same);
    }
      where
        block-same : IsSame factors book.sheet after.sheet (reader_of block.sum) → IsSameIn factors book after (points.Block block)
        block-same same =
            let roll = rolls-stay edit book valid now (reader_of block.sum) (summed-reader block.sum) same.sources block.sum (own-sum block.sum) in
            record {
              live = ap₂ (λ (a : Bool) (names : List (List ℕ)). a && is_block (length names) block.level block.index) same.live roll;
              own = refl;
              sources = ap (λ (names : List (List ℕ)). sources_in (record { sheet = book.sheet; rolls = λ r. names }) (points.Block block)) roll;
            }

    block-told : (block : Block) → IsMember (points.Block block) (touched_points edit book told) ↔ IsTouchedIn factors book edit (points.Block block)
    block-told block = (to, from)
      where
        to : IsMember (points.Block block) (touched_points edit book told) → IsTouchedIn factors book edit (points.Block block)
        to h =
            let n = of-flat (points_of edit book) (points.Block block) told h in
            by n.0 n.1 (IsMember-cases (figure_of edit book n.0) (blocks_below edit book n.0) (points.Block block) n.2)
          where
            by : (n : Node) → IsMember n told → IsMember (points.Block block) (figure_of edit book n) ⊎ IsMember (points.Block block) (blocks_below edit book n)
                → IsTouchedIn factors book edit (points.Block block)
            by n there (inl m) =
                let never = ap is_figure (figure-in n (points.Block block) m).0 in
                absurd (omega (arith, never))
            by n there (inr m) =
                let b = of-below n (points.Block block) m in
                let listed-there = of-sum b.block.sum b.block b.under in
                subst (λ p. IsTouchedIn factors book edit p) b.is
                ((turned-told edit book b.block.sum (have n (Contains-from_IsMember told n there) b.block.sum b.own) factors b.block.level b.block.index).0 listed-there.1)

        from : IsTouchedIn factors book edit (points.Block block) → IsMember (points.Block block) (touched_points edit book told)
        from touched =
            let sum = block.sum in
            let there = (listed (reader_of sum)).1 (reader-changes block touched) in
            let own = have (reader_of sum) there sum (own-sum sum) in
            let under = in-sum sum block.level block.index ((turned-told edit book sum own factors block.level block.index).1 touched) in
            in-flat (points_of edit book) (reader_of sum) (points.Block block) told (IsMember-from_Contains told (reader_of sum) there)
            (IsMember-right (figure_of edit book (reader_of sum)) (blocks_below edit book (reader_of sum)) (points.Block block)
            (in-below (reader_of sum) (points.Block block) (own-reader sum) (either sum under (own-sum sum))))
          where
            either : (sum : Sum) → IsMember (points.Block block) (blocks_under edit book (Some sum))
                → (first_sum (reader_of sum) ≡ Some sum) ⊎ (second_sum (reader_of sum) ≡ Some sum) → IsMember (points.Block block) (under-both (reader_of sum))
            either sum m (inl e) =
                IsMember-left (blocks_under edit book (first_sum (reader_of sum))) (blocks_under edit book (second_sum (reader_of sum))) (points.Block block)
                (subst (λ s. IsMember (points.Block block) (blocks_under edit book s)) (sym e) m)
            either sum m (inr e) =
                IsMember-right (blocks_under edit book (first_sum (reader_of sum))) (blocks_under edit book (second_sum (reader_of sum))) (points.Block block)
                (subst (λ s. IsMember (points.Block block) (blocks_under edit book s)) (sym e) m)

    pub points-told : (point : Point) → Contains (touched_points edit book told) point ↔ IsTouchedIn factors book edit point
    points-told (points.Figure node) =
        let h = figure-told node in
        ((λ c. h.0 (IsMember-from_Contains (touched_points edit book told) (points.Figure node) c)), (λ t. Contains-from_IsMember (touched_points edit book told) (points.Figure node) (h.1 t)))
    points-told (points.Block block) =
        let h = block-told block in
        ((λ c. h.0 (IsMember-from_Contains (touched_points edit book told) (points.Block block) c)), (λ t. Contains-from_IsMember (touched_points edit book told) (points.Block block) (h.1 t)))
