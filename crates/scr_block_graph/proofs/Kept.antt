-- Which figures that a record changes in the graph of the balance sheet it changes in that of the book, and that no other does.
use Rattle.std.proofs.Common.{◌≡◌, ◌↔◌, ◌⊎◌, inl, inr, ℕ, Bool, true, false, cond, eqb, not, ◌||◌, Contains, List, [], ◌∷◌, ◌++◌, Option, Some, None, filter, map, refl, sym, ap, subst, ◌∙◌, arith}
use Rattle.std.specs.Prelude.{is_some}
use Rattle.std.specs.Bool.{beq}
use Rattle.std.specs.Option.{option_map_or}
use Rattle.std.proofs.lemmas.Bool.Decides.{nat_tests}
use Rattle.scr_factors.specs.Values.{FactorValues}
use Rattle.scr_funds.proofs.Members.{IsMember, IsMember-map, IsMember-mapped}
use Rattle.scr_member_lists.specs.Members.{moved}
use Rattle.scr_member_lists.proofs.Settled.{moved-same}
use Rattle.scr_sum_tree.specs.Blocks.{tops}
use Rattle.scr_sheet.specs.Members.{edit_name, is_member}
use Rattle.scr_sheet.specs.Records.{applied}
use Rattle.scr_sheet.specs.Validity.{Valid}
use Rattle.scr_sheet.specs.declared.edit.Edit.{Edit}
use Rattle.scr_sheet.specs.declared.rows.Class.TheVariants as classes
use Rattle.scr_sheet.specs.declared.sheet.BalanceSheet.{BalanceSheet}
use Rattle.scr_nodes.specs.Changed.{IsChanged, IsSame}
use Rattle.scr_nodes.specs.Live.{is_live}
use Rattle.scr_nodes.specs.OwnOf.{own_of}
use Rattle.scr_nodes.specs.Sources.{sources_of}
use Rattle.scr_nodes.specs.declared.node.Measure.TheVariants as measures
use Rattle.scr_nodes.specs.declared.node.Node.{Node}
use Rattle.scr_nodes.specs.declared.node.Node.TheVariants as nodes
use Rattle.scr_nodes.specs.declared.node.OfCurrency.TheVariants as of_currencies
use Rattle.scr_nodes.specs.declared.node.OfGroup.TheVariants as of_groups
use Rattle.scr_nodes.specs.declared.node.Whole.TheVariants as wholes
use Rattle.scr_block_graph.specs.Changed.{IsSameIn, own_in}
use Rattle.scr_block_graph.specs.Graph.{IsRoll, Rolled, block_point, listed, member_point, reads, roll_in, sources_in, tops_of}
use Rattle.scr_block_graph.specs.Sums.{first_sum, member_of, names_listed, roll_of, second_sum}
use Rattle.scr_block_graph.specs.Told.{HaveRolls, is_kept, kept_by, moves, turn_at}
use Rattle.scr_block_graph.specs.Touched.{IsTouchedIn, applied_in}
use Rattle.scr_block_graph.specs.Turns.{keeps_tops, turn_of}
use Rattle.scr_block_graph.specs.declared.point.Point.TheVariants as points
use Rattle.scr_block_graph.specs.declared.sum.Sum.{Sum}
use Rattle.scr_block_graph.proofs.Apart.{members-apart}
use Rattle.scr_block_graph.proofs.Listed.{sources-listed}
use Rattle.scr_block_graph.proofs.Lives.{is-named, named}
use Rattle.scr_block_graph.proofs.Members.{listed-members}
use Rattle.scr_block_graph.proofs.Once.{node_in, numbers-differ, sum_number, table_number}
use Rattle.scr_block_graph.proofs.Pairs.{listed-number}
use Rattle.scr_block_graph.proofs.Regroup.{filter-back, filter-front, summed-same}
use Rattle.scr_block_graph.proofs.Turned.{tops-stay}

-- ---- a figure that is reckoned from sums lives where they are read

pub first-live : (sheet : BalanceSheet) (node : Node) (sum : Sum) → first_sum node ≡ Some sum → is_live sheet node ≡ reads sheet sum
first-live sheet node sum e = by node e ∙ ap (λ s. option_map_or (reads sheet) s (is_live sheet node)) e
  where
    by : (node : Node) → first_sum node ≡ Some sum → is_live sheet node ≡ option_map_or (reads sheet) (first_sum node) (is_live sheet node)
    by (nodes.Group name of_groups.Total) e = refl
    by (nodes.Currency currency (of_currencies.Loss direction)) e = refl
    by (nodes.Currency currency (of_currencies.Scenario direction measures.Gross)) e = refl
    by (nodes.Whole (wholes.ClassSum class)) e = refl
    by (nodes.Whole wholes.Spread) e = refl
    by (nodes.Whole wholes.Assets) e = refl
    by (nodes.Whole wholes.Concentration) e = refl
    by (nodes.Whole (wholes.BioScenario biometric projection measures.Gross)) e = refl
    by node e = absurd (cc)

pub second-live : (sheet : BalanceSheet) (node : Node) (sum : Sum) → second_sum node ≡ Some sum → is_live sheet node ≡ reads sheet sum
second-live sheet node sum e = by node e ∙ ap (λ s. option_map_or (reads sheet) s (is_live sheet node)) e
  where
    by : (node : Node) → second_sum node ≡ Some sum → is_live sheet node ≡ option_map_or (reads sheet) (second_sum node) (is_live sheet node)
    by (nodes.Currency currency (of_currencies.Loss direction)) e = refl
    by (nodes.Currency currency (of_currencies.Scenario direction measures.Gross)) e = refl
    by (nodes.Whole (wholes.ClassSum classes.Type2Equity)) e = refl
    by node e = absurd (cc)

-- ---- the members of a sum are told by the figures that it lists

module _ (sheet : BalanceSheet) (valid : Valid sheet) (sum : Sum) (name : List ℕ) where
  pub to-listed : is_member (roll_of sum) name sheet ≡ true → IsMember (member_of sum name) (listed sheet (Some sum))
  to-listed member =
      IsMember-mapped (member_of sum) (names_listed sheet sum) name
      (named name (names_listed sheet sum) (listed-members sheet valid sum name ∙ member))

  from-listed : IsMember (member_of sum name) (listed sheet (Some sum)) → is_member (roll_of sum) name sheet ≡ true
  from-listed h =
      let m = IsMember-map (member_of sum) (names_listed sheet sum) (member_of sum name) h in
      let own : m.0 ≡ name = members-apart sum m.0 name (ap points.Figure m.2) in
      sym (listed-members sheet valid sum name) ∙ is-named name (names_listed sheet sum) (subst (λ n. IsMember n (names_listed sheet sum)) own m.1)

both-ways : (a b : Bool) → (a ≡ true → b ≡ true) → (b ≡ true → a ≡ true) → a ≡ b
both-ways true b to from = sym (to refl)
both-ways false true to from = from refl
both-ways false false to from = refl

module _ (edit : Edit) (book : Rolled) (valid : Valid book.sheet) (now : Valid (applied edit book.sheet)) where
  abbrev after : Rolled
  after = applied_in edit book

  roll-stays : (sum : Sum) → listed book.sheet (Some sum) ≡ listed after.sheet (Some sum) → roll_in book sum ≡ roll_in after sum
  roll-stays sum same =
      sym (moved-same (edit_name edit) (is_member (roll_of sum) (edit_name edit) book.sheet) (roll_in book sum))
      ∙ ap (λ b. moved (edit_name edit) (is_member (roll_of sum) (edit_name edit) book.sheet) b (roll_in book sum)) stays
    where
      stays : is_member (roll_of sum) (edit_name edit) book.sheet ≡ is_member (roll_of sum) (edit_name edit) after.sheet
      stays = both-ways (is_member (roll_of sum) (edit_name edit) book.sheet) (is_member (roll_of sum) (edit_name edit) after.sheet)
          (λ t. from-listed after.sheet now sum (edit_name edit) (subst (IsMember (member_of sum (edit_name edit))) same (to-listed book.sheet valid sum (edit_name edit) t)))
          (λ t. from-listed book.sheet valid sum (edit_name edit) (subst (IsMember (member_of sum (edit_name edit))) (sym same) (to-listed after.sheet now sum (edit_name edit) t)))

  -- the figures of two sums are told apart by the tables of their rows
  module _ (node : Node) (summed : is_some (first_sum node) ≡ true) (same : sources_of book.sheet node ≡ sources_of after.sheet node) where
    first-number : ℕ
    first-number = option_map_or sum_number (first_sum node) 0

    is-first : Node → Bool
    is-first n = eqb (table_number n) first-number

    of-first : (sheet : BalanceSheet) (n : Node) → IsMember n (listed sheet (first_sum node)) → is-first n ≡ true
    unfolding is-first first-number
    of-first sheet n h = let is = listed-number sheet (first_sum node) 0 n h in grind (arith, nat_tests, is)

    of-second : (sheet : BalanceSheet) (n : Node) → IsMember n (listed sheet (second_sum node)) → is-first n ≡ false
    unfolding is-first first-number
    of-second sheet n h = let is = listed-number sheet (second_sum node) 3 n h in
        let differ = numbers-differ node in grind (arith, nat_tests, is, differ)

    one : listed book.sheet (first_sum node) ++ listed book.sheet (second_sum node) ≡ listed after.sheet (first_sum node) ++ listed after.sheet (second_sum node)
    one = sym (sources-listed book.sheet node summed) ∙ same ∙ sources-listed after.sheet node summed

    firsts-same : listed book.sheet (first_sum node) ≡ listed after.sheet (first_sum node)
    firsts-same =
        sym (filter-front is-first (listed book.sheet (first_sum node)) (listed book.sheet (second_sum node)) (of-first book.sheet) (of-second book.sheet))
        ∙ ap (filter is-first) one
        ∙ filter-front is-first (listed after.sheet (first_sum node)) (listed after.sheet (second_sum node)) (of-first after.sheet) (of-second after.sheet)

    seconds-same : listed book.sheet (second_sum node) ≡ listed after.sheet (second_sum node)
    seconds-same =
        sym (filter-back (λ n. not (is-first n)) (listed book.sheet (first_sum node)) (listed book.sheet (second_sum node))
        (λ n h. ap not (of-first book.sheet n h)) (λ n h. ap not (of-second book.sheet n h)))
        ∙ ap (filter (λ n. not (is-first n))) one
        ∙ filter-back (λ n. not (is-first n)) (listed after.sheet (first_sum node)) (listed after.sheet (second_sum node))
        (λ n h. ap not (of-first after.sheet n h)) (λ n h. ap not (of-second after.sheet n h))

    -- so the lists of its sums stay
    pub rolls-stay : (sum : Sum) → (first_sum node ≡ Some sum) ⊎ (second_sum node ≡ Some sum) → roll_in book sum ≡ roll_in after sum
    rolls-stay sum (inl e) = roll-stays sum (subst (λ s. listed book.sheet s ≡ listed after.sheet s) e firsts-same)
    rolls-stay sum (inr e) = roll-stays sum (subst (λ s. listed book.sheet s ≡ listed after.sheet s) e seconds-same)

    tops-same : (sum : Option Sum) → ((s : Sum) → sum ≡ Some s → roll_in book s ≡ roll_in after s) → tops_of book sum ≡ tops_of after sum
    tops-same None stay = refl
    tops-same (Some sum) stay = ap (λ (roll : List (List ℕ)). tops (member_point sum) (block_point sum) roll) (stay sum refl)

    pub both-tops : (tops_of book (first_sum node) ≡ tops_of after (first_sum node)) × (tops_of book (second_sum node) ≡ tops_of after (second_sum node))
    both-tops = (tops-same (first_sum node) (λ s e. rolls-stay s (inl e)), tops-same (second_sum node) (λ s e. rolls-stay s (inr e)))

-- ---- figures that are reckoned from no sum

own-plain : (factors : FactorValues) (book : Rolled) (node : Node) → first_sum node ≡ None
    → own_in factors book (points.Figure node) ≡ own_of factors book.sheet node
own-plain factors book (nodes.Currency currency (of_currencies.Scenario direction measures.Gross)) none = absurd (cc)
own-plain factors book node none = refl

pub sources-summed : (book : Rolled) (node : Node) (sum : Sum) → first_sum node ≡ Some sum
    → sources_in book (points.Figure node) ≡ tops_of book (Some sum) ++ tops_of book (second_sum node)
sources-summed book node sum first =
    ap (λ o. cond (is_some o) (tops_of book o ++ tops_of book (second_sum node)) (map points.Figure (sources_of book.sheet node))) first

pub sources-plain : (book : Rolled) (node : Node) → first_sum node ≡ None → sources_in book (points.Figure node) ≡ map points.Figure (sources_of book.sheet node)
sources-plain book node none =
    ap (λ s. cond (is_some s) (tops_of book (first_sum node) ++ tops_of book (second_sum node)) (map points.Figure (sources_of book.sheet node))) none

unmapped : (node : Node) (xs : List Node) → map (node_in node) (map points.Figure xs) ≡ xs
unmapped node [] = refl
unmapped node (x ∷ xs) = ap (λ ys. x ∷ ys) (unmapped node xs)

module _ (factors : FactorValues) (edit : Edit) (book : Rolled) (node : Node) (none : first_sum node ≡ None) where
  abbrev plain : Rolled
  plain = applied_in edit book

  pub plain-in : IsSame factors book.sheet plain.sheet node → IsSameIn factors book plain (points.Figure node)
  plain-in same = record {
    live = same.live;
    own = own-plain factors book node none ∙ same.own ∙ sym (own-plain factors plain node none);
    sources = sources-plain book node none ∙ ap (map points.Figure) same.sources ∙ sym (sources-plain plain node none);
  }

  pub plain-out : IsSameIn factors book plain (points.Figure node) → IsSame factors book.sheet plain.sheet node
  plain-out same = record {
    live = same.live;
    own = sym (own-plain factors book node none) ∙ same.own ∙ own-plain factors plain node none;
    sources = sym (unmapped node (sources_of book.sheet node))
        ∙ ap (map (node_in node)) (sym (sources-plain book node none) ∙ same.sources ∙ sources-plain plain node none)
        ∙ unmapped node (sources_of plain.sheet node);
  }

-- ---- those that are reckoned from sums

beq-same : (a b : Bool) → a ≡ b → not (beq a b) ≡ false
beq-same true true e = refl
beq-same false false e = refl
beq-same true false e = absurd (cc)
beq-same false true e = absurd (cc)

beq-is : (a b : Bool) → not (beq a b) ≡ false → a ≡ b
beq-is true true e = refl
beq-is false false e = refl
beq-is true false e = absurd (cc)
beq-is false true e = absurd (cc)

neither-holds : (a b : Bool) → (a || b) ≡ false → (a ≡ false) × (b ≡ false)
neither-holds false b e = (refl, e)
neither-holds true b e = absurd (cc)

none-holds : (a b : Bool) → a ≡ false → b ≡ false → (a || b) ≡ false
none-holds false b e d = d
none-holds true b e d = absurd (cc)

not-false : (a : Bool) → not a ≡ false → a ≡ true
not-false true e = refl
not-false false e = absurd (cc)

module _ (factors : FactorValues) (edit : Edit) (book : Rolled) (valid : Valid book.sheet) (now : Valid (applied edit book.sheet)) where
  abbrev later : Rolled
  later = applied_in edit book

  -- a sum does not move where its readers stay and what is left at its top
  stays-out : (sum : Sum) → IsRoll book (roll_of sum) → moves (turn_of edit book sum) ≡ false
      → (reads book.sheet sum ≡ reads later.sheet sum) × (tops_of book (Some sum) ≡ tops_of later (Some sum))
  stays-out sum own still =
      let parts = neither-holds (not (beq (reads book.sheet sum) (reads later.sheet sum))) (not (keeps_tops (turn_of edit book sum))) still in
      (beq-is (reads book.sheet sum) (reads later.sheet sum) parts.0, (tops-stay edit book sum own).0 (not-false (keeps_tops (turn_of edit book sum)) parts.1))

  stays-in : (sum : Sum) → IsRoll book (roll_of sum) → reads book.sheet sum ≡ reads later.sheet sum → tops_of book (Some sum) ≡ tops_of later (Some sum)
      → moves (turn_of edit book sum) ≡ false
  stays-in sum own live tops =
      none-holds (not (beq (reads book.sheet sum) (reads later.sheet sum))) (not (keeps_tops (turn_of edit book sum)))
      (beq-same (reads book.sheet sum) (reads later.sheet sum) live) (ap not ((tops-stay edit book sum own).1 tops))

  module _ (node : Node) (sum : Sum) (first : first_sum node ≡ Some sum)
      (have : (s : Sum) → (first_sum node ≡ Some s) ⊎ (second_sum node ≡ Some s) → IsRoll book (roll_of s)) where
    summed : is_some (first_sum node) ≡ true
    summed = ap is_some first

    kept-by : is_kept edit book node ≡ (moves (turn_of edit book sum) || option_map_or moves (turn_at edit book (second_sum node)) false)
    kept-by = ap (λ o. kept_by (turn_at edit book o) (turn_at edit book (second_sum node))) first

    second-out : (second : Option Sum) → second_sum node ≡ second → option_map_or moves (turn_at edit book second) false ≡ false
        → tops_of book second ≡ tops_of later second
    second-out None e still = refl
    second-out (Some s) e still = (stays-out s (have s (inr e)) still).1

    second-in : (second : Option Sum) → second_sum node ≡ second → is_live book.sheet node ≡ is_live later.sheet node
        → tops_of book second ≡ tops_of later second → option_map_or moves (turn_at edit book second) false ≡ false
    second-in None e live tops = refl
    second-in (Some s) e live tops = stays-in s (have s (inr e)) (sym (second-live book.sheet node s e) ∙ live ∙ second-live later.sheet node s e) tops

    -- it is the same exactly where none moves
    pub still-same : is_kept edit book node ≡ false → IsSameIn factors book later (points.Figure node)
    still-same still =
        let parts = neither-holds (moves (turn_of edit book sum)) (option_map_or moves (turn_at edit book (second_sum node)) false) (sym kept-by ∙ still) in
        let own = stays-out sum (have sum (inl first)) parts.0 in
        (summed-same factors book later node summed
        (first-live book.sheet node sum first ∙ own.0 ∙ sym (first-live later.sheet node sum first))).1
        (subst (λ o. tops_of book o ≡ tops_of later o) (sym first) own.1, second-out (second_sum node) refl parts.1)

    pub same-still : IsSameIn factors book later (points.Figure node) → is_kept edit book node ≡ false
    same-still same =
        let tops = (summed-same factors book later node summed same.live).0 same in
        kept-by ∙ none-holds (moves (turn_of edit book sum)) (option_map_or moves (turn_at edit book (second_sum node)) false)
        (stays-in sum (have sum (inl first)) (sym (first-live book.sheet node sum first) ∙ same.live ∙ first-live later.sheet node sum first)
        (subst (λ o. tops_of book o ≡ tops_of later o) first tops.0))
        (second-in (second_sum node) refl same.live tops.1)

  -- and it changes in the graph of the balance sheet where it changes in that of the book
  pub plain-same : (node : Node) → is_some (first_sum node) ≡ true → IsSame factors book.sheet later.sheet node → IsSameIn factors book later (points.Figure node)
  plain-same node summed same = (summed-same factors book later node summed same.live).1 (both-tops edit book valid now node summed same.sources)

  pub kept-told : (told : List Node) → HaveRolls book told → (node : Node) → Contains told node ↔ IsChanged factors book.sheet later.sheet node
      → (Contains told node × (is_kept edit book node ≡ true)) ↔ IsTouchedIn factors book edit (points.Figure node)
  kept-told told have node listed = by (first_sum node) refl
    where
      by : (o : Option Sum) → first_sum node ≡ o → (Contains told node × (is_kept edit book node ≡ true)) ↔ IsTouchedIn factors book edit (points.Figure node)
      by None none = (
        (λ h. let changed = listed.0 h.0 in record { live = changed.live; changed = λ same. changed.changed (plain-out factors edit book node none same) }),
        (λ h. (
          listed.1 (record { live = h.live; changed = λ same. h.changed (plain-in factors edit book node none same) }),
          ap (λ o. kept_by (turn_at edit book o) (turn_at edit book (second_sum node))) none,
        )),
      )
      by (Some sum) first = (
        (λ h. record {
          live = (listed.0 h.0).live;
          changed = λ same. (let never : true ≡ false = sym h.1 ∙ same-still node sum first (have node h.0) same in absurd (cc));
        }),
        (λ h. let there = listed.1 (record { live = h.live; changed = λ same. h.changed (plain-same node (ap is_some first) same) }) in
            (there, kept (have node there) (is_kept edit book node) refl h.changed)),
      )
        where
          kept : ((s : Sum) → (first_sum node ≡ Some s) ⊎ (second_sum node ≡ Some s) → IsRoll book (roll_of s))
              → (t : Bool) → is_kept edit book node ≡ t → (¬ IsSameIn factors book later (points.Figure node)) → is_kept edit book node ≡ true
          kept own true e changed = e
          kept own false e changed = absurd (changed (still-same node sum first own e))
