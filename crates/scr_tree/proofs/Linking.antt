-- The links of all figures, table by table: what is linked after each.
use Rattle.std.proofs.Common.{◌≡◌, inl, inr, ℕ, ◌+◌, ◌<◌, ◌≤◌, true, false, List, [], length, Some, slice_get, refl, sym, subst, ◌∙◌, arith}
use Rattle.std.proofs.lemmas.List.Elements.{All-from_recursion}
use Rattle.scr_tables.proofs.TableRows.{passes_or_fails}
use Rattle.scr_figure_ids.specs.Families.{family_of, name_of, table_of}
use Rattle.scr_figure_ids.specs.Numbers.{StandsAt, names_in}
use Rattle.scr_links.specs.Edges.{Linked}
use Rattle.scr_ids.specs.Ranges.{first}
use Rattle.scr_nodes.specs.Live.{is_live}
use Rattle.scr_nodes.specs.Sources.{sources_of}
use Rattle.scr_nodes.specs.declared.node.Node.{Node}
use Rattle.scr_nodes.specs.declared.node.Node.TheVariants as nodes
use Rattle.scr_nodes.specs.declared.node.OfSecurity.TheVariants as of_securities
use Rattle.scr_nodes.specs.declared.node.Whole.TheVariants as wholes
use Rattle.scr_reachability.specs.Linked.{AreAt}
use Rattle.scr_tree.specs.First.{AreLinkedTo, IsLinkGround, IsLinkedNext}
use Rattle.scr_tree.specs.Points.{is_linked}
use Rattle.scr_tree.specs.Turns.{IsBefore, Turn, next, turn, turn_of}
use Rattle.scr_tree.specs.declared.making.LinkGround.{LinkGround}
use Rattle.scr_tree.proofs.Grounds.{at-within, its-number, late}
use Rattle.scr_tree.proofs.Made.{linked-next, linked-still, links-none}
use Rattle.scr_tree.proofs.Turns.{IsAsGood, TakesTurn, dead-skipped, of-table, row-ended, table-ended, table_at, total-last}

module _ (ground : LinkGround) (g : IsLinkGround ground) where
  abbrev At : Node → ℕ → Type 0
  At = StandsAt ground.book.now.sheet ground.places.now

  pub linked-good : (links : Linked) (t u : Turn) → IsAsGood ground.book.now.sheet t u → AreLinkedTo ground links t
      → AreLinkedTo ground links u
  linked-good links t u good is = record {
    size = is.size;
    linked = record {
      done = λ n m stands live before. is.linked.done n m stands live (good.back n live before.0, before.1);
      only = λ e has. let l = is.linked.only e has in (l.0, l.1, l.2, (good.to l.0 l.2 l.3.0, l.3.1));
    };
  }

  -- there is no link
  pub unlinked : (links : Linked) → links.size ≤ ground.places.now.size → links.edges ≡ [] → AreLinkedTo ground links (turn 0 0 0)
  unlinked links size none = record {
    size = size;
    linked = links-none ground.book.now.sheet g.valid ground.places.now g.numbered g.numbers links.edges none;
  }

  -- one figure more
  pub linked-one : (old now : Linked) (t : Turn) (node : Node) (number : ℕ) (sources : List ℕ) → AreLinkedTo ground old t
      → TakesTurn ground.book.now.sheet t node → is_live ground.book.now.sheet node ≡ true → is_linked node ≡ true → At node number
      → AreAt At sources (sources_of ground.book.now.sheet node) → IsLinkedNext number sources old now
      → AreLinkedTo ground now (next t)
  linked-one old now t node number sources is turn_is live own at are joined = record {
    size = joined.size ground.places.now.size (g.numbers.within node number at)
        (All-from_recursion (λ n. n < ground.places.now.size) sources
        (at-within ground g sources (sources_of ground.book.now.sheet node) are)) is.size;
    linked = linked-next ground.book.now.sheet g.valid ground.places.now g.numbered g.numbers
        old.edges now.edges t node number sources is.linked turn_is live own at are joined.made joined.kept;
  }

  -- of a row, from all its sources
  pub linked-gathered : (old now : Linked) (node : Node) (row number : ℕ) (sources : List ℕ)
      → slice_get (names_in ground.book.now.sheet (table_of node)) row ≡ Some (name_of node)
      → number ≡ first ground.places.now (table_of node) row + family_of node → is_live ground.book.now.sheet node ≡ true
      → is_linked node ≡ true → AreAt At sources (sources_of ground.book.now.sheet node) → AreLinkedTo ground old (turn_of node row)
      → IsLinkedNext number sources old now → AreLinkedTo ground now (next (turn_of node row))
  linked-gathered old now node row number sources named own live links are is joined =
      linked-one old now (turn_of node row) node number sources is (record { at = refl; row = named; family = refl }) live links
      (its-number ground g node row number named own live) are joined

  -- where the balance sheet does not have the figure
  pub linked-dead : (links : Linked) (node : Node) (row : ℕ)
      → slice_get (names_in ground.book.now.sheet (table_of node)) row ≡ Some (name_of node)
      → (is_live ground.book.now.sheet node ≡ true → ⊥) → AreLinkedTo ground links (turn_of node row)
      → AreLinkedTo ground links (next (turn_of node row))
  linked-dead links node row named dead is =
      linked-good links (turn_of node row) (next (turn_of node row))
      (dead-skipped ground.book.now.sheet ground.places.now g.numbered (turn_of node row) node
      (record { at = refl; row = named; family = refl }) dead) is

  -- where rows or lists give its sources
  pub linked-plain : (links : Linked) (node : Node) (row : ℕ)
      → slice_get (names_in ground.book.now.sheet (table_of node)) row ≡ Some (name_of node) → is_linked node ≡ false
      → AreLinkedTo ground links (turn_of node row) → AreLinkedTo ground links (next (turn_of node row))
  linked-plain links node row named plain is = passes_or_fails (is_live ground.book.now.sheet node)
      (λ live. record {
        size = is.size;
        linked = linked-still ground.book.now.sheet g.valid ground.places.now g.numbered g.numbers links.edges (turn_of node row) node
            is.linked (record { at = refl; row = named; family = refl }) live plain;
      })
      (λ dead. linked-dead links node row named (λ live. let clash : true ≡ false = sym live ∙ dead in absurd (cc)) is)

  -- a table has no more rows
  pub linked-over : (s count : ℕ) → count ≡ length (names_in ground.book.now.sheet (table_at s)) → (links : Linked)
      → AreLinkedTo ground links (turn s count 0) → AreLinkedTo ground links (turn (s + 1) 0 0)
  linked-over s count long links is =
      linked-good links (turn s count 0) (turn (s + 1) 0 0)
      (table-ended ground.book.now.sheet ground.places.now g.numbered s count long) is

  -- ---- totals

  pub funds-linked : (k : ℕ) (links : Linked) → AreLinkedTo ground links (turn 0 k 1) → AreLinkedTo ground links (turn 0 (k + 1) 0)
  funds-linked k links is =
      linked-good links (turn 0 k 1) (turn 0 (k + 1) 0)
      (row-ended ground.book.now.sheet 0 k 1 (λ n alive s. of-table ground.book.now.sheet ground.places.now g.numbered 0 n alive s)) is

  pub securities-linked : (k : ℕ) (links : Linked) → AreLinkedTo ground links (turn 1 k 1) → AreLinkedTo ground links (turn 1 (k + 1) 0)
  securities-linked k links is =
      linked-good links (turn 1 k 1) (turn 1 (k + 1) 0) (row-ended ground.book.now.sheet 1 k 1 (λ n alive s. total-last n s)) is

  -- ---- currencies and the whole sheet

  -- what is linked before the currencies is a total of a fund or of a security
  early-total : (node : Node) → is_linked node ≡ true → IsBefore ground.book.now.sheet (turn 6 0 0) node
      → IsBefore ground.book.now.sheet (turn 2 0 0) node
  early-total (nodes.Fund name what) its before = inl (omega arith)
  early-total (nodes.Security name of_securities.Total) its before = inl (omega arith)
  early-total (nodes.Security name what) its before = absurd (let clash : false ≡ true = its in cc)
  early-total (nodes.Liability name what) its before = absurd (let clash : false ≡ true = its in cc)
  early-total (nodes.Group name what) its before = absurd (let clash : false ≡ true = its in cc)
  early-total (nodes.Currency name what) its before =
      absurd (late ground.book.now.sheet 6 (nodes.Currency name what) (omega arith) before)
  early-total (nodes.Whole wholes.Assets) its before = absurd (let clash : false ≡ true = its in cc)
  early-total (nodes.Whole what) its before = absurd (late ground.book.now.sheet 6 (nodes.Whole what) (omega arith) before)

  pub rows-linked : (links : Linked) → AreLinkedTo ground links (turn 2 0 0) → AreLinkedTo ground links (turn 6 0 0)
  rows-linked links is = record {
    size = is.size;
    linked = record {
      done = λ node number stood live before. is.linked.done node number stood live (early-total node before.1 before.0, before.1);
      only = λ e has. let l = is.linked.only e has in (l.0, l.1, l.2, (later l.0 l.3.0, l.3.1));
    };
  }
    where
      later : (node : Node) → IsBefore ground.book.now.sheet (turn 2 0 0) node → IsBefore ground.book.now.sheet (turn 6 0 0) node
      later node (inl less) = inl (omega (arith, less))
      later node (inr h) = let e = h.0 in inl (omega (arith, e))

  pub currency-linked : (k : ℕ) (links : Linked) → AreLinkedTo ground links (turn 6 k 9) → AreLinkedTo ground links (turn 6 (k + 1) 0)
  currency-linked k links is =
      linked-good links (turn 6 k 9) (turn 6 (k + 1) 0)
      (row-ended ground.book.now.sheet 6 k 9 (λ n alive s. of-table ground.book.now.sheet ground.places.now g.numbered 6 n alive s)) is

  pub linked-turned : (links : Linked) (t u : Turn) → t ≡ u → AreLinkedTo ground links t → AreLinkedTo ground links u
  linked-turned links t u same is = subst (AreLinkedTo ground links) same is
