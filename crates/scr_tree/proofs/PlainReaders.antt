-- What is reckoned from a figure, of the points whose sources are not linked: what adds it up for a large sum, and figures of its own row.
-- It is the converse of the sources of these points, by the figure that is read.
use Rattle.std.proofs.Common.{◌≡◌, ◌⊎◌, inl, inr, ℕ, Bool, true, false, cond, not, Contains, List, [], ◌∷◌, ◌++◌, length, map, Some, refl, sym, ap, subst}
use Rattle.std.specs.Prelude.{is_some}
use Rattle.std.proofs.lemmas.Bool.{false_from_ne_true}
use Rattle.scr_sum_tree.specs.Readers.{reader_of_block, reader_of_member}
use Rattle.scr_sum_tree.specs.declared.readers.Reader.{Reader}
use Rattle.scr_sum_tree.specs.declared.readers.Reader.TheVariants as readers
use Rattle.scr_funds.proofs.Members.{IsMember, IsMember-from_Contains, IsMember-map}
use Rattle.scr_sheet.specs.declared.rows.Class.{Class}
use Rattle.scr_sheet.specs.declared.sheet.BalanceSheet.{BalanceSheet}
use Rattle.scr_nodes.specs.Sources.{sources_of}
use Rattle.scr_nodes.specs.declared.node.Biometric.{Biometric}
use Rattle.scr_nodes.specs.declared.node.Direction.{Direction}
use Rattle.scr_nodes.specs.declared.node.Node.{Node}
use Rattle.scr_nodes.specs.declared.node.Node.TheVariants as nodes
use Rattle.scr_nodes.specs.declared.node.Measure.TheVariants as measures
use Rattle.scr_nodes.specs.declared.node.OfCurrency.TheVariants as of_currencies
use Rattle.scr_nodes.specs.declared.node.OfFund.TheVariants as of_funds
use Rattle.scr_nodes.specs.declared.node.OfGroup.TheVariants as of_groups
use Rattle.scr_nodes.specs.declared.node.OfLiability.TheVariants as of_liabilities
use Rattle.scr_nodes.specs.declared.node.OfSecurity.TheVariants as of_securities
use Rattle.scr_nodes.specs.declared.node.Whole.TheVariants as wholes
use Rattle.scr_block_graph.specs.Graph.{AreRolls, Rolled, is_live_in, roll_in, sources_in, tops_of}
use Rattle.scr_block_graph.specs.Reading.{IsReading, IsSummed, ReadsBlock, ReadsMember}
use Rattle.scr_block_graph.specs.Sums.{first_sum, member_of, second_sum}
use Rattle.scr_block_graph.specs.declared.point.Point.{Point}
use Rattle.scr_block_graph.specs.declared.point.Point.TheVariants as points
use Rattle.scr_block_graph.specs.declared.sum.Sum.{Sum}
use Rattle.scr_block_graph.specs.declared.sum.Sum.TheVariants as sums
use Rattle.scr_block_graph.proofs.ReadSums.{summed-read}
use Rattle.scr_tree.specs.Points.{IsLinkedPoint, is_linked}

-- ---- the two ways

-- the sum adds up the figure of the row of this name, by the figure
abbrev pub Adds : Node → Sum → List ℕ → Type 0
Adds (nodes.Fund row of_funds.Total) sum name = (name ≡ row) × (sum ≡ sums.Closed)
Adds (nodes.Security row of_securities.Total) sum name =
    (name ≡ row) × (((class : Class) × (sum ≡ sums.Class class)) ⊎ ((sum ≡ sums.Grouped) ⊎ (((group : List ℕ) × (sum ≡ sums.Group group))
    ⊎ ((currency : List ℕ) × (sum ≡ sums.Assets currency)))))
Adds (nodes.Security row (of_securities.Rate direction)) sum name = (name ≡ row) × ((currency : List ℕ) × (sum ≡ sums.Rates currency direction))
Adds (nodes.Security row of_securities.Spread) sum name = (name ≡ row) × (sum ≡ sums.Spreads)
Adds (nodes.Liability row (of_liabilities.Rate direction)) sum name = (name ≡ row) × ((currency : List ℕ) × (sum ≡ sums.Costs currency direction))
Adds (nodes.Liability row of_liabilities.Present) sum name = (name ≡ row) × ((currency : List ℕ) × (sum ≡ sums.Presents currency))
Adds (nodes.Liability row (of_liabilities.Loss projection)) sum name = (name ≡ row) × ((biometric : Biometric) × (sum ≡ sums.Losses biometric projection))
Adds (nodes.Group row of_groups.ConcentrationSquare) sum name = (name ≡ row) × (sum ≡ sums.Squares)
Adds node sum name = ⊥

adds : (sum : Sum) (name : List ℕ) → Adds (member_of sum name) sum name
adds (sums.Class class) name = (refl, inl (class, refl))
adds sums.Closed name = (refl, refl)
adds sums.Spreads name = (refl, refl)
adds sums.Grouped name = (refl, inr (inl refl))
adds (sums.Group group) name = (refl, inr (inr (inl (group, refl))))
adds (sums.Assets currency) name = (refl, inr (inr (inr (currency, refl))))
adds (sums.Rates currency direction) name = (refl, (currency, refl))
adds (sums.Costs currency direction) name = (refl, (currency, refl))
adds (sums.Presents currency) name = (refl, (currency, refl))
adds (sums.Losses biometric projection) name = (refl, (biometric, refl))
adds sums.Squares name = (refl, refl)

pub added-by : (sum : Sum) (name : List ℕ) (node : Node) → member_of sum name ≡ node → Adds node sum name
added-by sum name node is = subst (λ n. Adds n sum name) is (adds sum name)

-- the figure is reckoned from another of its row, by that other one; the square of a group from the assets, too
abbrev pub RowReads : Node → Node → Type 0
RowReads (nodes.Security row of_securities.Total) node =
    ((direction : Direction) × (node ≡ nodes.Security row (of_securities.Rate direction))) ⊎ (node ≡ nodes.Security row of_securities.Spread)
RowReads (nodes.Security row (of_securities.UnitLoss direction)) node = node ≡ nodes.Security row (of_securities.Rate direction)
RowReads (nodes.Group row of_groups.Total) node = node ≡ nodes.Group row of_groups.ConcentrationSquare
RowReads (nodes.Whole wholes.Assets) node = (row : List ℕ) × (node ≡ nodes.Group row of_groups.ConcentrationSquare)
RowReads source node = ⊥

of-two : (node one other source : Node) → RowReads one node → RowReads other node → IsMember source (one ∷ other ∷ []) → RowReads source node
of-two node one other source a b (inl e) = subst (λ s. RowReads s node) (sym e) a
of-two node one other source a b (inr (inl e)) = subst (λ s. RowReads s node) (sym e) b
of-two node one other source a b (inr (inr h)) = absurd h

of-one : (node one source : Node) → RowReads one node → IsMember source (one ∷ []) → RowReads source node
of-one node one source a (inl e) = subst (λ s. RowReads s node) (sym e) a
of-one node one source a (inr h) = absurd h

-- a figure that is neither linked nor reckoned from a sum
row-reads : (sheet : BalanceSheet) (node source : Node) → (is_linked node ≡ true → ⊥) → is_some (first_sum node) ≡ false
    → IsMember source (sources_of sheet node) → RowReads source node
row-reads sheet (nodes.Fund name what) source plain none h = absurd (plain refl)
row-reads sheet (nodes.Security name of_securities.Total) source plain none h = absurd (plain refl)
row-reads sheet (nodes.Security name (of_securities.UnitLoss direction)) source plain none h = absurd h
row-reads sheet (nodes.Security name (of_securities.Rate direction)) source plain none h =
    of-two (nodes.Security name (of_securities.Rate direction)) (nodes.Security name of_securities.Total)
    (nodes.Security name (of_securities.UnitLoss direction)) source (inl (direction, refl)) refl h
row-reads sheet (nodes.Security name of_securities.Spread) source plain none h =
    of-one (nodes.Security name of_securities.Spread) (nodes.Security name of_securities.Total) source (inr refl) h
row-reads sheet (nodes.Liability name what) source plain none h = absurd h
row-reads sheet (nodes.Group name of_groups.Total) source plain none h = absurd (cc)
row-reads sheet (nodes.Group name of_groups.ConcentrationSquare) source plain none h =
    of-two (nodes.Group name of_groups.ConcentrationSquare) (nodes.Whole wholes.Assets) (nodes.Group name of_groups.Total) source (name, refl) refl h
row-reads sheet (nodes.Group name of_groups.Loss) source plain none h = absurd h
row-reads sheet (nodes.Currency currency what) source plain none h = absurd (plain (ap not none))
row-reads sheet (nodes.Whole what) source plain none h = absurd (plain (ap not none))

-- ---- what is reckoned from sums is not linked

pub summed-plain : (point : Point) → IsSummed point → IsLinkedPoint point → ⊥
summed-plain (points.Block block) some linked = linked
summed-plain (points.Figure node) some linked = by node some linked
  where
    clash : (t : Bool) → t ≡ true → not t ≡ true → ⊥
    clash true e n = absurd (cc)
    clash false e n = absurd (cc)

    by : (node : Node) → is_some (first_sum node) ≡ true → is_linked node ≡ true → ⊥
    by (nodes.Fund name what) some linked = absurd (cc)
    by (nodes.Security name what) some linked = absurd (cc)
    by (nodes.Liability name what) some linked = absurd (cc)
    by (nodes.Group name what) some linked = absurd (cc)
    by (nodes.Currency currency what) some linked = clash (is_some (first_sum (nodes.Currency currency what))) some linked
    by (nodes.Whole what) some linked = clash (is_some (first_sum (nodes.Whole what))) some linked

pub not-summed : (node : Node) → is_linked node ≡ true → is_some (first_sum node) ≡ false
not-summed node linked = false_from_ne_true (is_some (first_sum node)) (λ some. summed-plain (points.Figure node) some linked)

-- a reader of a sum is reckoned from one
pub reading-summed : (sum : Sum) (reader : Reader) (point : Point) → IsReading sum reader point → IsSummed point
reading-summed sum reader (points.Block block) is = tt
reading-summed sum readers.Whole (points.Figure node) (inl e) = ap is_some e
reading-summed sum readers.Whole (points.Figure node) (inr e) = second-summed node sum e
  where
    second-summed : (node : Node) (sum : Sum) → second_sum node ≡ Some sum → is_some (first_sum node) ≡ true
    second-summed (nodes.Currency currency (of_currencies.Loss direction)) sum e = refl
    second-summed (nodes.Currency currency (of_currencies.Scenario direction measures.Gross)) sum e = refl
    second-summed (nodes.Whole (wholes.ClassSum class)) sum e = refl
    second-summed node sum e = absurd (cc)
reading-summed sum (readers.Block level i) (points.Figure node) is = absurd is

-- ---- the lemma

module _ (book : Rolled) (rolls : AreRolls book) where
  -- how a point that is not linked is reckoned from another
  abbrev pub PlainlyReads : Point → Point → Type 0
  PlainlyReads point below =
      ((sum : Sum) × ReadsMember book sum point below)
      ⊎ (((sum : Sum) × ReadsBlock book sum point below)
      ⊎ ((node : Node) × (source : Node) × (point ≡ points.Figure node) × (below ≡ points.Figure source) × RowReads source node))

  by-sum : (point below : Point) → (sum : Sum) × (ReadsMember book sum point below ⊎ ReadsBlock book sum point below) → PlainlyReads point below
  by-sum point below (sum, inl m) = inl (sum, m)
  by-sum point below (sum, inr b) = inr (inl (sum, b))

  pub plainly-reads : (point below : Point) → is_live_in book point ≡ true → (IsLinkedPoint point → ⊥) → Contains (sources_in book point) below
      → PlainlyReads point below
  plainly-reads (points.Block block) below live plain h = by-sum (points.Block block) below ((summed-read book rolls (points.Block block) below tt live).0 h)
  plainly-reads (points.Figure node) below live plain h = by (is_some (first_sum node)) refl
    where
      shown : Bool → List Point
      shown t = cond t (tops_of book (first_sum node) ++ tops_of book (second_sum node)) (map points.Figure (sources_of book.sheet node))

      by : (t : Bool) → is_some (first_sum node) ≡ t → PlainlyReads (points.Figure node) below
      by true e = by-sum (points.Figure node) below ((summed-read book rolls (points.Figure node) below e live).0 h)
      by false e =
          let m = IsMember-map points.Figure (sources_of book.sheet node) below
          (IsMember-from_Contains (map points.Figure (sources_of book.sheet node)) below (subst (λ t. Contains (shown t) below) e h)) in
          inr (inr (node, m.0, refl, sym m.2, row-reads book.sheet node m.0 plain e m.1))

  -- and what a member and a Block are added up by is reckoned from them
  pub member-read : (sum : Sum) (point below : Point) → is_live_in book point ≡ true → ReadsMember book sum point below
      → Contains (sources_in book point) below
  member-read sum point below live m =
      (summed-read book rolls point below (reading-summed sum (reader_of_member (length (roll_in book sum)) m.place) point m.reads) live).1 (sum, inl m)

  pub block-read : (sum : Sum) (point below : Point) → is_live_in book point ≡ true → ReadsBlock book sum point below
      → Contains (sources_in book point) below
  block-read sum point below live b =
      (summed-read book rolls point below (reading-summed sum (reader_of_block (length (roll_in book sum)) b.level b.index) point b.reads) live).1 (sum, inr b)
