-- What is marked as reached so far, and that in the end just the points in reach are marked.
use Rattle.std.proofs.Common.{◌≡◌, ◌⊎◌, inl, inr, ℕ, ◌+◌, ◌<◌, ◌≤◌, Bool, true, nat_eq, List, [], length, Option, Some, None, slice_get, Contains, refl, sym, subst, ◌∙◌, arith}
use Rattle.std.specs.List.{IsDistinct}
use Rattle.std.proofs.lemmas.Bool.{cases_lt}
use Rattle.std.proofs.lemmas.Option.{slice_get_within}
use Rattle.scr_funds.proofs.Members.{IsMember, IsMember-from_Contains, Contains-from_IsMember}
use Rattle.scr_book.specs.RolledSheets.{RolledSheet}
use Rattle.scr_ids.specs.Ranges.{Numbered}
use Rattle.scr_member_index.specs.declared.lists.Lists.{Lists}
use Rattle.scr_reachability.specs.Graph.{Graph}
use Rattle.scr_reachability.specs.Leading.{IsCountOf, IsInReach, Leads}
use Rattle.scr_reachability.specs.Leading.Leads.{touched, above}
use Rattle.scr_reachability.proofs.Counting.{counted}
use Rattle.scr_reachability.proofs.Placed.{get-contains, placed-get}
use Rattle.scr_partial_sums.specs.declared.figure.Figure.{Figure}
use Rattle.scr_block_graph.specs.Books.{rolled_of}
use Rattle.scr_block_graph.specs.declared.point.Point.{Point}
use Rattle.scr_tree.specs.Changed.{AreReachedMarks}
use Rattle.scr_tree.specs.Figures.{AreKnownOf, Reckoning}
use Rattle.scr_tree.specs.Marking.{AreAssetsMarked, AreMarkedFrom, AreReached, IsAboveAt, IsAboveSquares, IsDependantAt, IsLeftToAssets, IsSquareOfAssets, IsSquaresAt, assets, is_of_squares}
use Rattle.scr_tree.specs.Order.{IsOrder}
use Rattle.scr_tree.specs.Points.{AreNumbersOf, StandsIn, book_graph}
use Rattle.scr_tree.specs.Ready.{IsNoneOf}
use Rattle.scr_tree.specs.Starts.{AreMarked}
use Rattle.scr_tree.proofs.TakenUp.{past}
use Rattle.scr_tree.proofs.SquareReaders.{above-squares, as-any, of-square}
use Rattle.scr_tree.proofs.Squares.{squares-above}

-- ---- what leads to what leads to a touched one

through : {Node : Type 0} (graph : Graph Node) (Below IsTouched : Node → Type 0)
    → ((node : Node) → Below node → Leads graph IsTouched node) → (node : Node) → Leads graph Below node → Leads graph IsTouched node
through graph Below IsTouched leads _ (touched node h) = leads node h
through graph Below IsTouched leads _ (above node source has rest) = above node source has (through graph Below IsTouched leads source rest)

-- ---- lists

module _ (old new : List ℕ) (kept : (place other : ℕ) → slice_get old place ≡ Some other → slice_get new place ≡ Some other) where
  more : (number : ℕ) → Contains old number → Contains new number
  more number h = get-contains new h.0 number (kept h.0 number (placed-get old number h))

  -- what stands in front stood there
  stood : (k number : ℕ) → k < length old → slice_get new k ≡ Some number → slice_get old k ≡ Some number
  stood k number l is = by (slice_get old k) refl
    where
      by : (found : Option ℕ) → slice_get old k ≡ found → slice_get old k ≡ Some number
      by None e = absurd (past old k l e)
      by (Some other) e =
          let both : Some other ≡ Some number = sym (kept k other e) ∙ is in
          e ∙ both

-- ---- marks

module _ (book : RolledSheet) (places : Numbered) (lists : Lists) (listed : List Point) where
  abbrev graph : Graph Point
  graph = book_graph (rolled_of book)

  abbrev At : Point → ℕ → Type 0
  At = StandsIn book places lists

  abbrev Reached : Point → Type 0
  Reached = IsInReach graph (Contains listed)

  -- Marked are the touched points and others in reach, and of what stands before the place all dependants but squares and what is left to the
  -- assets, with which all is marked that is reckoned from all squares.
  pub record IsClimbed (marks : List ℕ) (place : ℕ) : Type 0 where
    pub each : (number : ℕ) → Contains marks number → (point : Point) × At point number × Reached point
    pub starts : (point : Point) (number : ℕ) → Contains listed point → graph.live point ≡ true → At point number → Contains marks number
    pub done : (k number other : ℕ) → k < place → slice_get marks k ≡ Some number → IsDependantAt book places lists number other
        → Contains marks other ⊎ (IsLeftToAssets book places lists marks number ⊎ IsSquareOfAssets book places lists number other)
    pub squares : (k number : ℕ) → k < place → slice_get marks k ≡ Some number → At assets number → (other : ℕ)
        → IsAboveSquares book places lists other → Contains marks other

  pub climbed-none : (marks : List ℕ) → AreMarked graph At listed [] marks → IsClimbed marks 0
  climbed-none marks are = record {
    each = λ number h. by number ((are number).0 h);
    starts = λ point number h live at. (are number).1 (inr (point, h, live, at));
    done = λ k number other l. absurd (omega (arith, l));
    squares = λ k number l. absurd (omega (arith, l));
  }
    where
      by : (number : ℕ) → Contains [] number ⊎ ((node : Point) × Contains listed node × (graph.live node ≡ true) × At node number)
          → (point : Point) × At point number × Reached point
      by number (inl h) = absurd (IsMember-from_Contains [] number h)
      by number (inr n) = (n.0, n.3, record { live = n.2; leads = touched n.0 n.1 })

  -- once the dependants of one more are marked
  module _ (exact : (number : ℕ) (a b : Point) → At a number → At b number → a ≡ b) (marks new : List ℕ) (place number : ℕ)
      (is : IsClimbed marks place) (low : place < length marks) (here : slice_get marks place ≡ Some number)
      (marked : AreMarkedFrom book places lists number marks new) where
    stays : (other : ℕ) → Contains marks other → Contains new other
    stays = more marks new marked.kept

    left-yet : (other : ℕ) → IsLeftToAssets book places lists marks other → IsLeftToAssets book places lists new other
    left-yet other left = record {
      square = left.square;
      is = left.is;
      at = left.at;
      assets_at = left.assets_at;
      there = left.there;
      marked = stays left.assets_at left.marked;
    }

    each-next : (other : ℕ) → Contains marks other ⊎ IsAboveAt book places lists number other → (point : Point) × At point other × Reached point
    each-next other (inl h) = is.each other h
    each-next other (inr up) =
        let below = is.each number (get-contains marks place number here) in (
          up.point,
          up.at,
          record {
            live = up.live;
            leads = through graph (λ point. At point number) (Contains listed)
                (λ point at. subst (Leads graph (Contains listed)) (exact number below.0 point below.1 at) (below.2).leads) up.point up.leads;
          },
        )

    front : (k other : ℕ) → k < place → slice_get new k ≡ Some other → slice_get marks k ≡ Some other
    front k other l at = stood marks new marked.kept k other (omega (arith, l, low)) at

    -- the one at the place
    this : (k other : ℕ) → place ≤ k → k < place + 1 → slice_get new k ≡ Some other → number ≡ other
    this k other from to at =
        let same : k ≡ place = omega (arith, from, to) in
        let both : Some number ≡ Some other = sym (marked.kept place number here) ∙ subst (λ n. slice_get new n ≡ Some other) same at in cc

    abbrev Done : ℕ → ℕ → Type 0
    Done other dependant =
        Contains new dependant ⊎ (IsLeftToAssets book places lists new other ⊎ IsSquareOfAssets book places lists other dependant)

    done-next : (k other dependant : ℕ) → (k < place) ⊎ (place ≤ k) → k < place + 1 → slice_get new k ≡ Some other
        → IsDependantAt book places lists other dependant → Done other dependant
    done-next k other dependant (inl l) to at d = by (is.done k other dependant l (front k other l at) d)
      where
        by : Contains marks dependant ⊎ (IsLeftToAssets book places lists marks other ⊎ IsSquareOfAssets book places lists other dependant) → Done other dependant
        by (inl h) = inl (stays dependant h)
        by (inr (inl left)) = inr (inl (left-yet other left))
        by (inr (inr square)) = inr (inr square)
    done-next k other dependant (inr from) to at d =
        let one = this k other from to at in
        subst (λ n. Done n dependant) one (by (marked.all dependant (subst (λ n. IsDependantAt book places lists n dependant) (sym one) d)))
      where
        by : Contains new dependant ⊎ (IsLeftToAssets book places lists marks number ⊎ IsSquareOfAssets book places lists number dependant) → Done number dependant
        by (inl h) = inl h
        by (inr (inl left)) = inr (inl (left-yet number left))
        by (inr (inr square)) = inr (inr square)

    squares-next : (k other : ℕ) → (k < place) ⊎ (place ≤ k) → k < place + 1 → slice_get new k ≡ Some other → At assets other
        → (reader : ℕ) → IsAboveSquares book places lists reader → Contains new reader
    squares-next k other (inl l) to found there reader a = stays reader (is.squares k other l (front k other l found) there reader a)
    squares-next k other (inr from) to found there reader a =
        marked.squares (subst (At assets) (sym (this k other from to found)) there) reader a

    pub climbed-next : IsClimbed new (place + 1)
    climbed-next = record {
      each = λ other h. each-next other (marked.each other h);
      starts = λ point other h live at. stays other (is.starts point other h live at);
      done = λ k other dependant l at d. done-next k other dependant (cases_lt k place) l at d;
      squares = λ k other l found there. squares-next k other (cases_lt k place) l found there;
    }

  -- in the end
  module _ (of : AreNumbersOf book places lists)
      (closed : (point source : Point) → graph.live point ≡ true → Contains (graph.sources point) source → graph.live source ≡ true)
      (marks : List ℕ) (place : ℕ) (is : IsClimbed marks place) (past_all : length marks ≤ place) (once : IsDistinct nat_eq marks) where
    low : (number : ℕ) (h : Contains marks number) → h.0 < place
    low number h =
        let l = slice_get_within marks h.0 number (placed-get marks number h) in omega (arith, l, past_all)

    -- marked, or left with the squares
    abbrev Held : Point → ℕ → Type 0
    Held point number = Contains marks number ⊎ ((is_of_squares point ≡ true) × AreAssetsMarked book places lists marks)

    above-left : (source : Point) (own number : ℕ) → is_of_squares source ≡ true → At source own → graph.live source ≡ true
        → AreAssetsMarked book places lists marks → (d : IsDependantAt book places lists own number) → Held d.point number
    above-left source own number squares at live left d = by (above-squares book places lists of source own number squares at live d)
      where
        by : (is_of_squares d.point ≡ true) ⊎ IsAboveSquares book places lists number → Held d.point number
        by (inl s) = inr (s, left)
        by (inr a) = inl (is.squares (left.2).0 left.0 (low left.0 left.2) (placed-get marks left.0 left.2) left.1 number a)

    dependant-held : (source : Point) (own number : ℕ) → At source own → graph.live source ≡ true → Held source own
        → (d : IsDependantAt book places lists own number) → Held d.point number
    dependant-held source own number at live (inr (squares, left)) d = above-left source own number squares at live left d
    dependant-held source own number at live (inl h) d = by (is.done h.0 own number (low own h) (placed-get marks own h) d)
      where
        by : Contains marks number ⊎ (IsLeftToAssets book places lists marks own ⊎ IsSquareOfAssets book places lists own number) → Held d.point number
        by (inl m) = inl m
        by (inr (inl left)) =
            above-left left.square own number (of-square left.square left.is) left.at
            (subst (λ p. graph.live p ≡ true) (of.numbers.exact own source left.square at left.at) live) (left.assets_at, left.there, left.marked) d
        by (inr (inr (there, (square, is_square, stands)))) =
            inr (subst (λ p. is_of_squares p ≡ true) (of.numbers.exact number square d.point stands d.at) (of-square square is_square), (own, there, h))

    reached-held : (point : Point) → Leads graph (Contains listed) point → graph.live point ≡ true → (number : ℕ) → At point number → Held point number
    reached-held _ (touched point h) live number at = inl (is.starts point number h live at)
    reached-held _ (above point source has rest) live number at =
        let alive = closed point source live has in
        let own = of.numbers.live source alive in
        dependant-held source own.0 number own.1 alive (reached-held source rest alive own.0 own.1)
        (record { point = point; below = source; at = at; live = live; from = own.1; reads = has })

    pub climbed-all : AreReachedMarks book places lists listed marks
    climbed-all = record {
      once = once;
      each = is.each;
      all = λ point number at reach. reached-held point reach.leads reach.live number at;
    }

  -- ---- what is reached, in an order

  module _ (of : AreNumbersOf book places lists) (marks : List ℕ) (marked : AreReachedMarks book places lists listed marks) (squares : Bool)
      (yes : squares ≡ true → AreAssetsMarked book places lists marks) (only : AreAssetsMarked book places lists marks → squares ≡ true)
      (all numbers ends : List ℕ) (are : AreReached book places lists squares marks all) (order : IsOrder graph At all numbers ends) where
    each-reached : (number : ℕ) → Contains all number → (point : Point) × At point number × Reached point
    each-reached number h = by (are.each number h)
      where
        by : Contains marks number ⊎ ((squares ≡ true) × IsSquaresAt book places lists number) → (point : Point) × At point number × Reached point
        by (inl m) = marked.each number m
        by (inr (e, s)) =
            let left = yes e in
            let below = marked.each left.0 left.2 in
            let up = squares-above book places lists of left.0 left.1 number (as-any book places lists of number s) in (
              up.point,
              up.at,
              record {
                live = up.live;
                leads = through graph (λ point. At point left.0) (Contains listed)
                    (λ point at. subst (Leads graph (Contains listed)) (of.numbers.exact left.0 below.0 point below.1 at) (below.2).leads) up.point up.leads;
              },
            )

    all-reached : (point : Point) (number : ℕ) → At point number → Reached point → Contains all number
    all-reached point number at reach = by (marked.all point number at reach)
      where
        by : Contains marks number ⊎ ((is_of_squares point ≡ true) × AreAssetsMarked book places lists marks) → Contains all number
        by (inl m) = are.marked number m
        by (inr (s, left)) = are.all (only left) number (record { point = point; at = at; live = reach.live; is = s })

    pub reach-counted : IsCountOf Reached (length numbers)
    reach-counted = counted At places.size graph of.numbers Reached numbers order.once each there
      where
        each : (number : ℕ) → IsMember number numbers → (point : Point) × At point number × Reached point
        each number h = each-reached number (order.each number (Contains-from_IsMember numbers number h)).0

        there : (point : Point) → Reached point → (number : ℕ) × At point number × IsMember number numbers
        there point reach =
            let own = of.numbers.live point reach.live in (
              own.0,
              own.1,
              IsMember-from_Contains numbers own.0 (order.all own.0 (all-reached point own.0 own.1 reach) (point, own.1, reach.live)),
            )

    -- the figures of all others are known
    pub others-known : (reckoning : Reckoning Point) → (figures : List Figure)
        → AreKnownOf reckoning At figures (λ point. Reached point → ⊥) → AreKnownOf reckoning At figures (IsNoneOf At numbers)
    unfolding AreKnownOf
    others-known reckoning figures known = λ point number at live none.
        known point number at live (λ reach. none number at (order.all number (all-reached point number at reach) (point, at, reach.live)))
