-- All that is marked as reckoned from a point: what is linked to it, and then what rows and lists give.
use Rattle.std.proofs.Common.{◌≡◌, ◌⊎◌, inl, inr, ℕ, Bool, true, false, nat_eq, Contains, List, refl, sym, ap, subst, ◌∙◌}
use Rattle.std.specs.List.{list_any}
use Rattle.scr_reachability.proofs.Members as numbers_in
use Rattle.scr_figure_ids.specs.Numbers.{StandsAt}
use Rattle.scr_member_index.specs.declared.lists.Lists.{Lists}
use Rattle.scr_ids.specs.Ranges.{Numbered}
use Rattle.scr_book.specs.RolledSheets.{RolledSheet}
use Rattle.scr_nodes.specs.declared.node.Node.TheVariants as nodes
use Rattle.scr_nodes.specs.declared.node.OfGroup.{OfGroup}
use Rattle.scr_nodes.specs.declared.node.OfGroup.TheVariants as of_groups
use Rattle.scr_nodes.specs.declared.node.Whole.TheVariants as wholes
use Rattle.scr_reachability.specs.Leading.Leads.{above, touched}
use Rattle.scr_block_graph.specs.declared.point.Point.{Point}
use Rattle.scr_block_graph.specs.declared.point.Point.TheVariants as points
use Rattle.scr_tree.specs.Marking.{AreMarkedFrom, AreMarkedMore, IsAboveAt, IsAboveSquares, IsDependantAt, IsLeftToAssets, IsLinkedDependantAt, IsPlainDependantAt, IsSquare, IsSquareOfAssets, assets}
use Rattle.scr_tree.specs.Points.{AreNumbersOf, IsLinkedPoint, StandsIn}
use Rattle.scr_tree.proofs.Dependants.{ByMember, ByRow, plain-cases}
use Rattle.scr_tree.proofs.OfRows.{assets-only, assets-stand}
use Rattle.scr_tree.proofs.SquareReaders.{as-above, linked-or}
use Rattle.scr_tree.proofs.Squares.{squares-above}

-- a number is marked or not
marked-or : (number : ℕ) (list : List ℕ) → Contains list number ⊎ (Contains list number → ⊥)
marked-or number list = by (list_any (nat_eq number) list) refl
  where
    by : (t : Bool) → list_any (nat_eq number) list ≡ t → Contains list number ⊎ (Contains list number → ⊥)
    by true e = inl (numbers_in.Contains-from_IsMember list number (numbers_in.member-from_any number list e))
    by false e = inr (λ h.
        let clash : true ≡ false = sym (numbers_in.any-from_member number list (numbers_in.IsMember-from_Contains list number h)) ∙ e in absurd (cc))

module _ (book : RolledSheet) (places : Numbered) (lists : Lists) (numbers : AreNumbersOf book places lists) (number : ℕ) where
  abbrev Linked : ℕ → Type 0
  Linked other = IsLinkedDependantAt book places lists number other

  abbrev Plain : ℕ → Type 0
  Plain other = IsPlainDependantAt book places lists number other

  dependant-above : (other : ℕ) → IsDependantAt book places lists number other → IsAboveAt book places lists number other
  dependant-above other d = record {
    point = d.point;
    at = d.at;
    live = d.live;
    leads = above d.point d.below d.reads (touched d.below d.from);
  }

  kind-of : (other : ℕ) → IsDependantAt book places lists number other → Linked other ⊎ Plain other
  kind-of other d = by (linked-or d.point)
    where
      by : IsLinkedPoint d.point ⊎ (IsLinkedPoint d.point → ⊥) → Linked other ⊎ Plain other
      by (inl linked) = inl (d, linked)
      by (inr plain) = inr (d, plain)

  module _ (m0 m1 m2 : List ℕ) (linked : AreMarkedMore Linked m0 m1) where
    linked-first : (P : ℕ → Type 0) → AreMarkedMore P m1 m2 → (other : ℕ) → Linked other → Contains m2 other
    linked-first P more other l = (more.marked other).1 (inl ((linked.marked other).1 (inr l)))

    come : (P : ℕ → Type 0) → AreMarkedMore P m1 m2 → ((other : ℕ) → P other → IsAboveAt book places lists number other) → (other : ℕ) → Contains m2 other
        → Contains m0 other ⊎ IsAboveAt book places lists number other
    come P more leads other h = by ((more.marked other).0 h)
      where
        before : Contains m0 other ⊎ Linked other → Contains m0 other ⊎ IsAboveAt book places lists number other
        before (inl h) = inl h
        before (inr l) = inr (dependant-above other l.0)

        by : Contains m1 other ⊎ P other → Contains m0 other ⊎ IsAboveAt book places lists number other
        by (inl h) = before ((linked.marked other).0 h)
        by (inr p) = inr (leads other p)

    -- ---- all that is reckoned from it is marked

    pub from-all : AreMarkedMore (IsDependantAt book places lists number) m1 m2 → (StandsIn book places lists assets number → ⊥)
        → AreMarkedFrom book places lists number m0 m2
    from-all more apart = record {
      once = λ h. more.once (linked.once h);
      kept = λ place other e. more.kept place other (linked.kept place other e);
      each = come (IsDependantAt book places lists number) more dependant-above;
      all = λ other d. inl ((more.marked other).1 (inr d));
      squares = λ at. absurd (apart at);
    }

    pub from-plain : AreMarkedMore Plain m1 m2 → (StandsIn book places lists assets number → ⊥) → AreMarkedFrom book places lists number m0 m2
    from-plain more apart = record {
      once = λ h. more.once (linked.once h);
      kept = λ place other e. more.kept place other (linked.kept place other e);
      each = come Plain more (λ other p. dependant-above other p.0);
      all = λ other d. inl (by other (kind-of other d));
      squares = λ at. absurd (apart at);
    }
      where
        by : (other : ℕ) → Linked other ⊎ Plain other → Contains m2 other
        by other (inl l) = linked-first Plain more other l
        by other (inr p) = (more.marked other).1 (inr p)

    -- ---- what is reckoned from a square is left where the assets are marked

    abbrev Left : List ℕ → Type 0
    Left list = IsLeftToAssets book places lists list number

    -- the sources of the assets are not linked
    left-before : Left m1 → Left m0
    left-before left = record {
      square = left.square;
      is = left.is;
      at = left.at;
      assets_at = left.assets_at;
      there = left.there;
      marked = by ((linked.marked left.assets_at).0 left.marked);
    }
      where
        by : Contains m0 left.assets_at ⊎ Linked left.assets_at → Contains m0 left.assets_at
        by (inl h) = h
        by (inr l) =
            let clash : false ≡ true = subst IsLinkedPoint (numbers.numbers.exact left.assets_at l.0.point assets l.0.at left.there) l.1 in absurd (cc)

    module _ (name : List ℕ) (what : OfGroup) (at : StandsAt book.sheet places (nodes.Group name what) number) where
      left-or : (what : OfGroup) → StandsAt book.sheet places (nodes.Group name what) number → Left m1 ⊎ (Left m1 → ⊥)
      left-or of_groups.Total at = inr (λ left.
          let same : points.Figure (nodes.Group left.is.0 of_groups.ConcentrationSquare) ≡ points.Figure (nodes.Group name of_groups.Total) =
          sym left.is.1 ∙ numbers.numbers.exact number left.square (points.Figure (nodes.Group name of_groups.Total)) left.at at in
          absurd (cc))
      left-or of_groups.Loss at = inr (λ left.
          let same : points.Figure (nodes.Group left.is.0 of_groups.ConcentrationSquare) ≡ points.Figure (nodes.Group name of_groups.Loss) =
          sym left.is.1 ∙ numbers.numbers.exact number left.square (points.Figure (nodes.Group name of_groups.Loss)) left.at at in
          absurd (cc))
      left-or of_groups.ConcentrationSquare at = by (marked-or 153 m1)
        where
          by : Contains m1 153 ⊎ (Contains m1 153 → ⊥) → Left m1 ⊎ (Left m1 → ⊥)
          by (inl h) = inl (record {
            square = points.Figure (nodes.Group name of_groups.ConcentrationSquare);
            is = (name, refl);
            at = at;
            assets_at = 153;
            there = assets-stand book places lists numbers;
            marked = h;
          })
          by (inr none) = inr (λ left. none (subst (Contains m1) (assets-only book places lists numbers left.assets_at left.there) left.marked))

      pub from-group : AreMarkedMore (λ other. Plain other × (Left m1 → ⊥)) m1 m2 → AreMarkedFrom book places lists number m0 m2
      from-group more = record {
        once = λ h. more.once (linked.once h);
        kept = λ place other e. more.kept place other (linked.kept place other e);
        each = come (λ other. Plain other × (Left m1 → ⊥)) more (λ other p. dependant-above other p.0.0);
        all = λ other d. by other (kind-of other d) (left-or what at);
        squares = λ there.
            let same : points.Figure (nodes.Group name what) ≡ points.Figure (nodes.Whole wholes.Assets) =
            numbers.numbers.exact number (points.Figure (nodes.Group name what)) assets at there in
            absurd (cc);
      }
        where
          by : (other : ℕ) → Linked other ⊎ Plain other → Left m1 ⊎ (Left m1 → ⊥)
              → Contains m2 other ⊎ (Left m0 ⊎ IsSquareOfAssets book places lists number other)
          by other (inl l) left = inl (linked-first (λ other. Plain other × (Left m1 → ⊥)) more other l)
          by other (inr p) (inl left) = inr (inl (left-before left))
          by other (inr p) (inr not) = inl ((more.marked other).1 (inr (p, not)))

    -- ---- what all squares lead to is marked with the assets

    module _ (at : StandsIn book places lists assets number) where
      -- what is reckoned from the assets, but for what is linked, are squares
      square-of : (other : ℕ) → Plain other → (square : Point) × IsSquare square × StandsIn book places lists square other
      square-of other p = by (plain-cases book places lists numbers (nodes.Whole wholes.Assets) number at other p)
        where
          by : ByMember book places lists numbers (nodes.Whole wholes.Assets) other ⊎ ByRow book places lists numbers (nodes.Whole wholes.Assets) other
              → (square : Point) × IsSquare square × StandsIn book places lists square other
          by (inl m) = absurd m.adds
          by (inr r) = (points.Figure r.node, (r.reads.0, ap points.Figure r.reads.1), r.at)

      pub from-squares : AreMarkedMore (IsAboveSquares book places lists) m1 m2 → AreMarkedFrom book places lists number m0 m2
      from-squares more = record {
        once = λ h. more.once (linked.once h);
        kept = λ place other e. more.kept place other (linked.kept place other e);
        each = come (IsAboveSquares book places lists) more (λ other a. squares-above book places lists numbers number at other (as-above book places lists numbers other a));
        all = λ other d. by other (kind-of other d);
        squares = λ _ other a. (more.marked other).1 (inr a);
      }
        where
          by : (other : ℕ) → Linked other ⊎ Plain other
              → Contains m2 other ⊎ (IsLeftToAssets book places lists m0 number ⊎ IsSquareOfAssets book places lists number other)
          by other (inl l) = inl (linked-first (IsAboveSquares book places lists) more other l)
          by other (inr p) = inr (inr (at, square-of other p))
