-- What leads to what is touched in the graph of a book leads there in that of the balance sheet: a figure itself, and from a Block each
-- reader of its sum.
use Rattle.std.proofs.Common.{◌≡◌, ◌⊎◌, inl, inr, ℕ, Bool, true, false, cond, Contains, List, [], ◌++◌, Option, Some, None, is_some, map, refl, sym, subst, ◌∙◌}
use Rattle.std.proofs.lemmas.List.Elements.{Contains-append_cases}
use Rattle.scr_funds.proofs.Members.{Contains-from_IsMember, IsMember, IsMember-from_Contains, IsMember-left, IsMember-map, IsMember-right}
use Rattle.scr_sum_tree.specs.Readers.{added_by}
use Rattle.scr_sum_tree.specs.declared.blocks.Level.{Level}
use Rattle.scr_sum_tree.specs.declared.blocks.Level.TheVariants as levels
use Rattle.scr_sum_tree.specs.declared.readers.Reader.TheVariants as readers
use Rattle.scr_sum_tree.proofs.Read.{IsOwn, added-only, firsts-only, members-only}
use Rattle.scr_factors.specs.Values.{FactorValues}
use Rattle.scr_sheet.specs.declared.edit.Edit.{Edit}
use Rattle.scr_nodes.specs.Changed.{IsChanged}
use Rattle.scr_nodes.specs.Sources.{sources_of}
use Rattle.scr_nodes.specs.declared.node.Node.{Node}
use Rattle.scr_reachability.specs.Leading.{Leads}
use Rattle.scr_reachability.specs.Leading.Leads.{touched, above}
use Rattle.scr_block_graph.specs.Graph.{Rolled, block_point, listed, member_point, roll_in, sources_in, tops_of}
use Rattle.scr_block_graph.specs.Sums.{first_sum, member_of, roll_of, second_sum}
use Rattle.scr_block_graph.specs.Touched.{IsTouchedIn, applied_in}
use Rattle.scr_block_graph.specs.declared.point.Point.{Point}
use Rattle.scr_block_graph.specs.declared.point.Point.TheVariants as points
use Rattle.scr_block_graph.specs.declared.sum.Sum.{Sum}
use Rattle.scr_block_graph.proofs.Kept.{to-listed}
use Rattle.scr_block_graph.proofs.Listed.{sources-listed}
use Rattle.scr_block_graph.proofs.Lives.{is-named}
use Rattle.scr_plan.specs.Ways.{AreKept, book_graph, sheet_graph}
use Rattle.scr_plan.proofs.Alike.{touched-block, touched-figure}
use Rattle.scr_plan.proofs.Lists.{after-rolls}
use Rattle.scr_plan.proofs.Up.{Reads, reads-summed}

module _ (factors : FactorValues) (edit : Edit) (book : Rolled) (kept : AreKept edit book) where
  abbrev later : Rolled
  later = applied_in edit book

  abbrev pub IsLedSheet : Node → Type 0
  IsLedSheet node = Leads (sheet_graph later.sheet) (IsChanged factors book.sheet later.sheet) node

  abbrev IsWay : Point → Type 0
  IsWay (points.Figure node) = IsLedSheet node
  IsWay (points.Block block) = (node : Node) → Reads node block.sum → IsLedSheet node

  -- the balance sheet reckons a reader of a sum from the figure of each member
  member-source : (sum : Sum) (name : List ℕ) → Contains (roll_in later sum) name → (node : Node) → Reads node sum
      → Contains (sources_of later.sheet node) (member_of sum name)
  member-source sum name h node reads =
      Contains-from_IsMember (sources_of later.sheet node) (member_of sum name)
      (subst (IsMember (member_of sum name)) (sym (sources-listed later.sheet node (reads-summed node sum reads))) (by reads))
    where
      own : IsMember (member_of sum name) (listed later.sheet (Some sum))
      own = to-listed later.sheet kept.valid_after sum name
          (sym ((after-rolls edit book kept.rolls).members (roll_of sum) name) ∙ is-named name (roll_in later sum) (IsMember-from_Contains (roll_in later sum) name h))

      by : Reads node sum → IsMember (member_of sum name) (listed later.sheet (first_sum node) ++ listed later.sheet (second_sum node))
      by (inl e) = IsMember-left (listed later.sheet (first_sum node)) (listed later.sheet (second_sum node)) (member_of sum name)
          (subst (λ o. IsMember (member_of sum name) (listed later.sheet o)) (sym e) own)
      by (inr e) = IsMember-right (listed later.sheet (first_sum node)) (listed later.sheet (second_sum node)) (member_of sum name)
          (subst (λ o. IsMember (member_of sum name) (listed later.sheet o)) (sym e) own)

  member-way : (sum : Sum) (name : List ℕ) → Contains (roll_in later sum) name → IsLedSheet (member_of sum name) → (node : Node) → Reads node sum
      → IsLedSheet node
  member-way sum name h led node reads = above node (member_of sum name) (member-source sum name h node reads) led

  start : (point : Point) → IsTouchedIn factors book edit point → IsWay point
  start (points.Figure node) t = touched node (touched-figure factors edit book kept node t)
  start (points.Block block) t = λ node reads. touched node (touched-block factors edit book kept block t node reads)

  tops-way : (node : Node) (sum : Option Sum) → ((s : Sum) → sum ≡ Some s → Reads node s) → (source : Point) → Contains (tops_of later sum) source
      → IsWay source → IsLedSheet node
  tops-way node None reads source h way = absurd (IsMember-from_Contains [] source h)
  tops-way node (Some sum) reads source h way =
      by (added-only (member_point sum) (block_point sum) (roll_in later sum) readers.Whole tt source h)
    where
      by : IsOwn (member_point sum) (block_point sum) (roll_in later sum) source → IsLedSheet node
      by (inl m) = member-way sum m.0 m.1 (subst IsWay (sym m.2) way) node (reads sum refl)
      by (inr b) = (subst IsWay (sym b.3) way) node (reads sum refl)

  step : (point source : Point) → Contains (sources_in later point) source → IsWay source → IsWay point
  step (points.Figure node) source h way = by (is_some (first_sum node)) h
    where
      by : (t : Bool) → Contains (cond t (tops_of later (first_sum node) ++ tops_of later (second_sum node)) (map points.Figure (sources_of later.sheet node))) source
          → IsLedSheet node
      by true h = either (Contains-append_cases (tops_of later (first_sum node)) (tops_of later (second_sum node)) source h)
        where
          either : Contains (tops_of later (first_sum node)) source ⊎ Contains (tops_of later (second_sum node)) source → IsLedSheet node
          either (inl one) = tops-way node (first_sum node) (λ s e. inl e) source one way
          either (inr two) = tops-way node (second_sum node) (λ s e. inr e) source two way
      by false h =
          let s = IsMember-map points.Figure (sources_of later.sheet node) source
          (IsMember-from_Contains (map points.Figure (sources_of later.sheet node)) source h) in
          above node s.0 (Contains-from_IsMember (sources_of later.sheet node) s.0 s.1) (subst IsWay (sym s.2) way)
  step (points.Block block) source h way = λ node reads. by node reads block.level h
    where
      by : (node : Node) → Reads node block.sum → (level : Level)
          → Contains (added_by (member_point block.sum) (block_point block.sum) (roll_in later block.sum) (readers.Block level block.index)) source → IsLedSheet node
      by node reads levels.First h =
          let m = members-only (member_point block.sum) (block_point block.sum) (roll_in later block.sum) block.index source h in
          member-way block.sum m.0 m.1 (subst IsWay (sym m.2) way) node reads
      by node reads levels.Second h =
          let k = firsts-only (member_point block.sum) (block_point block.sum) (roll_in later block.sum) block.index source h in
          (subst IsWay (sym k.2) way) node reads

  ways : (point : Point) → Leads (book_graph later) (IsTouchedIn factors book edit) point → IsWay point
  ways _ (touched point t) = start point t
  ways _ (above point source h rest) = step point source h (ways source rest)

  pub figure-way : (node : Node) → Leads (book_graph later) (IsTouchedIn factors book edit) (points.Figure node) → IsLedSheet node
  figure-way node led = ways (points.Figure node) led

  pub block-way : (sum : Sum) (level : Level) (i : ℕ) → Leads (book_graph later) (IsTouchedIn factors book edit) (block_point sum level i)
      → (node : Node) → Reads node sum → IsLedSheet node
  block-way sum level i led = ways (block_point sum level i) led
