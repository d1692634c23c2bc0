-- What is reckoned from the point at a number, of the points whose sources are not linked, by their numbers.
use Rattle.std.proofs.Common.{◌≡◌, ◌⊎◌, inl, inr, ℕ, true, Contains, List, length, refl, sym, ap, subst}
use Rattle.std.proofs.lemmas.Option.{get_or_from_slice_get, slice_get_within}
use Rattle.scr_sum_tree.specs.Readers.{reader_of_member}
use Rattle.scr_figure_ids.specs.Numbers.{StandsAt}
use Rattle.scr_member_index.specs.declared.lists.Lists.{Lists}
use Rattle.scr_ids.specs.Ranges.{Numbered}
use Rattle.scr_book.specs.RolledSheets.{RolledSheet}
use Rattle.scr_nodes.specs.Live.{is_live}
use Rattle.scr_nodes.specs.declared.node.Node.{Node}
use Rattle.scr_nodes.specs.declared.node.Node.TheVariants as nodes
use Rattle.scr_nodes.specs.declared.node.Whole.TheVariants as wholes
use Rattle.scr_reachability.specs.LinkedDues.{IsLiveAt}
use Rattle.scr_block_graph.specs.Books.{rolled_of}
use Rattle.scr_block_graph.specs.Graph.{AreRolls, block_point, is_live_in, member_point, roll_in, sources_in}
use Rattle.scr_block_graph.specs.Sums.{member_of}
use Rattle.scr_block_graph.specs.declared.point.Point.{Point}
use Rattle.scr_block_graph.specs.declared.point.Point.TheVariants as points
use Rattle.scr_block_graph.specs.declared.sum.Sum.{Sum}
use Rattle.scr_tree.specs.Marking.{IsMemberReaderAt, IsPlainDependantAt}
use Rattle.scr_tree.specs.Points.{AreNumbersOf, StandsIn, book_graph, is_linked}
use Rattle.scr_tree.proofs.PlainReaders.{Adds, PlainlyReads, RowReads, added-by, member-read, plainly-reads, reading-summed, summed-plain}
use Rattle.scr_tree.proofs.Upright.{rolls-are}

-- the figure that a point is; of a Block another one
abbrev figure_in : Point → Node
figure_in (points.Figure node) = node
figure_in (points.Block block) = nodes.Whole wholes.Scr

abbrev IsBlock : Point → Type 0
IsBlock (points.Figure node) = ⊥
IsBlock (points.Block block) = Unit {0}

-- no figure is a Block
pub no-block : (node : Node) (point : Point) → points.Figure node ≡ point → IsBlock point → ⊥
no-block node point e is = subst IsBlock (sym e) is

module _ (book : RolledSheet) (places : Numbered) (lists : Lists) (numbers : AreNumbersOf book places lists) where
  pub rolls-of : AreRolls (rolled_of book)
  rolls-of = rolls-are book numbers.rolls

  -- the sum adds up the figure, which is that of a member, and a live point at the number adds it up
  pub record ByMember (source : Node) (other : ℕ) : Type 0 where
    pub sum : Sum
    pub name : List ℕ
    pub adds : Adds source sum name
    pub member : Contains (roll_in (rolled_of book) sum) name
    pub reader : IsMemberReaderAt book places lists sum name other

  -- a live figure at the number reads another one of its row
  pub record ByRow (source : Node) (other : ℕ) : Type 0 where
    pub node : Node
    pub at : StandsAt book.sheet places node other
    pub live : is_live book.sheet node ≡ true
    pub reads : RowReads source node

  pub reader-as : (sum of : Sum) (name called : List ℕ) (other : ℕ) → sum ≡ of → name ≡ called → IsMemberReaderAt book places lists sum name other
      → IsMemberReaderAt book places lists of called other
  reader-as sum of name called other s n is =
      subst (λ t. IsMemberReaderAt book places lists t called other) s (subst (λ x. IsMemberReaderAt book places lists sum x other) n is)

  pub member-as : (sum of : Sum) (name called : List ℕ) → sum ≡ of → name ≡ called → Contains (roll_in (rolled_of book) sum) name
      → Contains (roll_in (rolled_of book) of) called
  member-as sum of name called s n h =
      subst (λ t. Contains (roll_in (rolled_of book) t) called) s (subst (λ (x : List ℕ). Contains (roll_in (rolled_of book) sum) x) n h)

  -- a figure that stands where a live point does lives
  pub live-here : (node : Node) (number : ℕ) → StandsAt book.sheet places node number
      → IsLiveAt (book_graph (rolled_of book)) (StandsIn book places lists) number → is_live book.sheet node ≡ true
  live-here node number at (point, here, live) =
      subst (λ p. is_live_in (rolled_of book) p ≡ true) (numbers.numbers.exact number point (points.Figure node) here at) live

  -- ---- of a figure

  module _ (source : Node) (number : ℕ) (from : StandsAt book.sheet places source number) where
    pub plain-cases : (other : ℕ) → IsPlainDependantAt book places lists number other → ByMember source other ⊎ ByRow source other
    plain-cases other (is, plain) =
        by (plainly-reads (rolled_of book) rolls-of is.point (points.Figure source) is.live plain
        (subst (Contains (sources_in (rolled_of book) is.point)) (numbers.numbers.exact number is.below (points.Figure source) is.from from) is.reads))
      where
        by : PlainlyReads (rolled_of book) rolls-of is.point (points.Figure source) → ByMember source other ⊎ ByRow source other
        by (inl (sum, m)) = inl (record {
          sum = sum;
          name = m.name;
          adds = added-by sum m.name source (ap figure_in m.is);
          member = (
            m.place,
            slice_get_within (roll_in (rolled_of book) sum) m.place m.name m.at,
            get_or_from_slice_get (roll_in (rolled_of book) sum) m.place m.name m.name m.at,
          );
          reader = record {
            point = is.point;
            at = is.at;
            live = is.live;
            reads = record { place = m.place; name = m.name; at = m.at; is = refl; reads = m.reads };
          };
        })
        by (inr (inl (sum, b))) = absurd (no-block source (block_point sum b.level b.index) (sym b.is) tt)
        by (inr (inr (node, told, p, s, r))) = inr (record {
          node = node;
          at = subst (λ q. StandsIn book places lists q other) p is.at;
          live = subst (λ q. is_live_in (rolled_of book) q ≡ true) p is.live;
          reads = subst (λ x. RowReads x node) (sym (ap figure_in s)) r;
        })

    pub plain-member : (sum : Sum) (name : List ℕ) → member_of sum name ≡ source → (other : ℕ) → IsMemberReaderAt book places lists sum name other
        → IsPlainDependantAt book places lists number other
    plain-member sum name is other r = (
      record {
        point = r.point;
        below = points.Figure source;
        at = r.at;
        live = r.live;
        from = from;
        reads = subst (λ x. Contains (sources_in (rolled_of book) r.point) (points.Figure x)) is
            (member-read (rolled_of book) rolls-of sum r.point (member_point sum name) r.live r.reads);
      },
      summed-plain r.point
          (reading-summed sum (reader_of_member (length (roll_in (rolled_of book) sum)) r.reads.place) r.point r.reads.reads),
    )

    pub plain-row : (node : Node) (other : ℕ) → StandsAt book.sheet places node other → is_live book.sheet node ≡ true → (is_linked node ≡ true → ⊥)
        → Contains (sources_in (rolled_of book) (points.Figure node)) (points.Figure source) → IsPlainDependantAt book places lists number other
    plain-row node other at live plain reads = (
      record { point = points.Figure node; below = points.Figure source; at = at; live = live; from = from; reads = reads },
      plain,
    )
