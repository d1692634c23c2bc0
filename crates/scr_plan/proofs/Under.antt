-- What lies under a Block that is in reach.
use Rattle.std.proofs.Common.{◌≡◌, ◌↔◌, ◌⊎◌, inl, inr, ℕ, ◌/◌, true, Contains, List, Some, length, slice_get, refl, sym, ap, subst, ◌∙◌, arith}
use Rattle.std.proofs.lemmas.Bool.{and_parts}
use Rattle.std.proofs.lemmas.Bool.Decides.{Decides-eqb}
use Rattle.std.proofs.lemmas.Option.{slice_get-get_or, slice_get_within}
use Rattle.scr_sum_tree.specs.Blocks.{block_of, is_block}
use Rattle.scr_sum_tree.specs.declared.blocks.Level.{Level}
use Rattle.scr_sum_tree.specs.declared.blocks.Level.TheVariants as levels
use Rattle.scr_sum_tree.proofs.Partition.{spans-place}
use Rattle.scr_sum_tree.proofs.Read.{firsts-only, members-only}
use Rattle.scr_factors.specs.Values.{FactorValues}
use Rattle.scr_sheet.specs.declared.edit.Edit.{Edit}
use Rattle.scr_reachability.specs.Graph.{Graph}
use Rattle.scr_reachability.specs.Leading.{Leads}
use Rattle.scr_reachability.specs.Leading.Leads.{touched, above}
use Rattle.scr_block_graph.specs.Graph.{Rolled, block_point, is_live_in, member_point, reads, roll_in, sources_in}
use Rattle.scr_block_graph.specs.Sums.{member_of}
use Rattle.scr_block_graph.specs.Touched.{IsTouchedIn, applied_in}
use Rattle.scr_block_graph.specs.declared.point.Block.{Block}
use Rattle.scr_block_graph.specs.declared.point.Point.{Point}
use Rattle.scr_block_graph.specs.declared.point.Point.TheVariants as points
use Rattle.scr_block_graph.specs.declared.sum.Sum.{Sum}
use Rattle.scr_block_graph.proofs.Lives.{sources-live-in}
use Rattle.scr_plan.specs.Ways.{AreKept, IsBlockReached, IsFigureReached, IsPartOf, IsPointReached, IsUnder, book_graph}
use Rattle.scr_plan.proofs.FromSheet.{ways-back}
use Rattle.scr_plan.proofs.Lists.{after-rolls}
use Rattle.scr_plan.proofs.ToSheet.{figure-way}
use Rattle.scr_plan.proofs.Up.{member-first, member-second, number-of-first, number-of-member}

-- what leads to something touched is touched, or has a source that leads there
parted : {Node : Type 0} (graph : Graph Node) (IsTouched : Node → Type 0) (node : Node) → Leads graph IsTouched node
    → IsTouched node ⊎ ((source : Node) × Contains (graph.sources node) source × Leads graph IsTouched source)
parted graph IsTouched _ (touched node t) = inl t
parted graph IsTouched _ (above node source h rest) = inr (source, h, rest)

module _ (factors : FactorValues) (edit : Edit) (book : Rolled) (kept : AreKept edit book) where
  abbrev later : Rolled
  later = applied_in edit book

  abbrev IsLedIn : Point → Type 0
  IsLedIn point = Leads (book_graph later) (IsTouchedIn factors book edit) point

  split : (point : Point) → IsLedIn point
      → IsTouchedIn factors book edit point ⊎ ((source : Point) × Contains (sources_in later point) source × IsLedIn source)
  split point led = parted (book_graph later) (IsTouchedIn factors book edit) point led

  -- a point is in reach exactly where it is touched or reckoned from one that is
  pub by-sources : (point : Point) → IsPointReached factors book edit point
      ↔ ((is_live_in later point ≡ true) × (IsTouchedIn factors book edit point
      ⊎ ((source : Point) × Contains (sources_in later point) source × IsPointReached factors book edit source)))
  by-sources point = (
    λ reached. (reached.live, to reached.live (split point reached.leads)),
    λ h. record { live = h.0; leads = from h.1 },
  )
    where
      to : is_live_in later point ≡ true
          → IsTouchedIn factors book edit point ⊎ ((source : Point) × Contains (sources_in later point) source × IsLedIn source)
          → IsTouchedIn factors book edit point ⊎ ((source : Point) × Contains (sources_in later point) source × IsPointReached factors book edit source)
      to live (inl t) = inl t
      to live (inr s) = inr (
        s.0,
        s.1,
        record { live = sources-live-in later kept.valid_after (after-rolls edit book kept.rolls) point s.0 live s.1; leads = s.2 },
      )

      from : IsTouchedIn factors book edit point ⊎ ((source : Point) × Contains (sources_in later point) source × IsPointReached factors book edit source)
          → IsLedIn point
      from (inl t) = touched point t
      from (inr s) = above point s.0 s.1 s.2.leads

  -- ---- from a Block down

  module _ (sum : Sum) where
    abbrev roll : List (List ℕ)
    roll = roll_in later sum

    -- a member that is in reach, under a Block of the first level
    record Reached (i : ℕ) : Type 0 where
      name : List ℕ
      place : ℕ
      at : slice_get roll place ≡ Some name
      number : i ≡ place / 32
      reached : IsFigureReached factors book.sheet edit (member_of sum name)

    first-down : (i : ℕ) → is_live_in later (block_point sum levels.First i) ≡ true → IsLedIn (block_point sum levels.First i)
        → IsTouchedIn factors book edit (block_point sum levels.First i) ⊎ Reached i
    first-down i live led = by (split (block_point sum levels.First i) led)
      where
        by : IsTouchedIn factors book edit (block_point sum levels.First i)
            ⊎ ((source : Point) × Contains (sources_in later (block_point sum levels.First i)) source × IsLedIn source)
            → IsTouchedIn factors book edit (block_point sum levels.First i) ⊎ Reached i
        by (inl t) = inl t
        by (inr s) =
            let m = members-only (member_point sum) (block_point sum) roll i s.0 s.1 in
            let there = and_parts (reads later.sheet sum) (is_block (length roll) levels.First i) live in
            let at : slice_get roll m.1.0 ≡ Some m.0 = slice_get-get_or roll m.1.0 m.0 m.1.1 ∙ ap Some m.1.2 in
            inr (record {
              name = m.0;
              place = m.1.0;
              at = at;
              number = number-of-member later (after-rolls edit book kept.rolls) sum m.1.0 m.0 at i there.1
                  (subst (λ z. Contains (sources_in later (block_point sum levels.First i)) z) (sym m.2) s.1);
              reached = record {
                live = subst (λ z. is_live_in later z ≡ true) (sym m.2)
                    (sources-live-in later kept.valid_after (after-rolls edit book kept.rolls) (block_point sum levels.First i) s.0 live s.1);
                leads = figure-way factors edit book kept (member_of sum m.0) (subst IsLedIn (sym m.2) s.2);
              };
            })

    abbrev Below : Block → Type 0
    Below block =
        ((part : Block) × IsPartOf later block part × IsTouchedIn factors book edit (points.Block part))
        ⊎ ((name : List ℕ) × IsUnder later block name × IsFigureReached factors book.sheet edit (member_of block.sum name))

    abbrev at-level : Level → ℕ → Block
    at-level level i = record { sum = sum; level = level; index = i }

    -- a member at a place of the Block
    under-at : (level : Level) (i place : ℕ) (name : List ℕ) → is_block (length roll) level i ≡ true → slice_get roll place ≡ Some name
        → i ≡ block_of level place → IsUnder later (at-level level i) name
    under-at level i place name there at number =
        let spans = (spans-place (length roll) level place i there (slice_get_within roll place name at)).0
        ((Decides-eqb i (block_of level place)).1 number) in
        record { place = place; at = at; behind = spans.0; before = spans.1 }

    down : (level : Level) (i : ℕ) → is_live_in later (block_point sum level i) ≡ true → IsLedIn (block_point sum level i) → Below (at-level level i)
    down levels.First i live led = by (first-down i live led)
      where
        by : IsTouchedIn factors book edit (block_point sum levels.First i) ⊎ Reached i → Below (at-level levels.First i)
        by (inl t) = inl (at-level levels.First i, inl refl, t)
        by (inr r) =
            let there = and_parts (reads later.sheet sum) (is_block (length roll) levels.First i) live in
            inr (r.name, under-at levels.First i r.place r.name there.1 r.at r.number, r.reached)
    down levels.Second i live led = by (split (block_point sum levels.Second i) led)
      where
        there : is_block (length roll) levels.Second i ≡ true
        there = (and_parts (reads later.sheet sum) (is_block (length roll) levels.Second i) live).1

        part-of : (k : ℕ) → Contains (sources_in later (block_point sum levels.Second i)) (block_point sum levels.First k)
            → i ≡ k / 32 → IsTouchedIn factors book edit (block_point sum levels.First k) ⊎ Reached k → Below (at-level levels.Second i)
        part-of k h own (inl t) = inl (at-level levels.First k, inr h, t)
        part-of k h own (inr r) =
            let number : i ≡ r.place / 1024 = let first = r.number in omega (arith, own, first) in
            inr (r.name, under-at levels.Second i r.place r.name there r.at number, r.reached)

        by : IsTouchedIn factors book edit (block_point sum levels.Second i)
            ⊎ ((source : Point) × Contains (sources_in later (block_point sum levels.Second i)) source × IsLedIn source) → Below (at-level levels.Second i)
        by (inl t) = inl (at-level levels.Second i, inl refl, t)
        by (inr s) =
            let k = firsts-only (member_point sum) (block_point sum) roll i s.0 s.1 in
            let h = subst (λ z. Contains (sources_in later (block_point sum levels.Second i)) z) (sym k.2) s.1 in
            let own = sources-live-in later kept.valid_after (after-rolls edit book kept.rolls) (block_point sum levels.Second i) (block_point sum levels.First k.0) live h in
            let first = and_parts (reads later.sheet sum) (is_block (length roll) levels.First k.0) own in
            part-of k.0 h (number-of-first later (after-rolls edit book kept.rolls) sum k.0 first.1 i there h) (first-down k.0 own (subst IsLedIn (sym k.2) s.2))

    -- ---- from a member up

    up : (level : Level) (i place : ℕ) (name : List ℕ) → is_block (length roll) level i ≡ true → i ≡ block_of level place
        → slice_get roll place ≡ Some name → IsLedIn (member_point sum name) → IsLedIn (block_point sum level i)
    up levels.First i place name there number at led =
        member-first later (after-rolls edit book kept.rolls) (IsTouchedIn factors book edit) sum place name at led i there number
    up levels.Second i place name there number at led =
        member-second later (after-rolls edit book kept.rolls) (IsTouchedIn factors book edit) sum place name at led i there number

  pub under-reached : (block : Block) → IsPointReached factors book edit (points.Block block) ↔ IsBlockReached factors book edit block
  under-reached block = (
    λ reached. (reached.live, down block.sum block.level block.index reached.live reached.leads),
    λ h. record { live = h.0; leads = by h.0 h.1 },
  )
    where
      by : is_live_in later (points.Block block) ≡ true → Below block.sum block → IsLedIn (points.Block block)
      by live (inl p) = part p.1 p.2
        where
          part : IsPartOf later block p.0 → IsTouchedIn factors book edit (points.Block p.0) → IsLedIn (points.Block block)
          part (inl e) t = subst (λ (b : Block). IsLedIn (points.Block b)) e (touched (points.Block p.0) t)
          part (inr h) t = above (points.Block block) (points.Block p.0) h (touched (points.Block p.0) t)
      by live (inr m) =
          let u = m.1 in
          let there = (and_parts (reads later.sheet block.sum) (is_block (length (roll_in later block.sum)) block.level block.index) live).1 in
          let number = (Decides-eqb block.index (block_of block.level u.place)).0
          ((spans-place (length (roll_in later block.sum)) block.level u.place block.index there
          (slice_get_within (roll_in later block.sum) u.place m.0 u.at)).1 (u.behind, u.before)) in
          up block.sum block.level block.index u.place m.0 there number u.at
          (ways-back factors edit book kept (member_of block.sum m.0) m.2.leads)
