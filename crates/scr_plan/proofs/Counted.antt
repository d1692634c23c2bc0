-- Points are counted as figures and Blocks are.
use Rattle.std.proofs.Common.{◌≡◌, ◌↔◌, ◌⊎◌, inl, inr, ℕ, ◌+◌, ◌<◌, ◌≤◌, List, ◌++◌, Some, slice_get, map, refl, sym, ap, subst, ◌∙◌, arith}
use Rattle.std.proofs.lemmas.Bool.{cases_lt}
use Rattle.std.proofs.lemmas.List.{length-append, length-map}
use Rattle.std.proofs.lemmas.Option.{slice_get_within}
use Rattle.scr_funds.proofs.Members.{Contains-from_IsMember, IsMember, IsMember-cases, IsMember-from_Contains, IsMember-left, IsMember-map, IsMember-mapped, IsMember-right}
use Rattle.scr_sum_tree.specs.Blocks.{HasEachOnce}
use Rattle.scr_sum_tree.proofs.Once.{once-map}
use Rattle.scr_nodes.specs.declared.node.Node.{Node}
use Rattle.scr_reachability.specs.Leading.{IsCountOf}
use Rattle.scr_block_graph.specs.declared.point.Block.{Block}
use Rattle.scr_block_graph.specs.declared.point.Point.{Point}
use Rattle.scr_block_graph.specs.declared.point.Point.TheVariants as points
use Rattle.scr_block_graph.proofs.Fewer.{no-more}
use Rattle.scr_block_graph.proofs.Once.{at-place, node_in, once-append}

-- ---- each stands once

module _ {N : Type 0} (list : List N) where
  abbrev AtOnePlace : Type 0
  AtOnePlace = (j k : ℕ) (node : N) → slice_get list j ≡ Some node → slice_get list k ≡ Some node → j ≡ k

  each-once : AtOnePlace → HasEachOnce list
  each-once once j k before inside same =
      let x = at-place list k inside in
      omega (arith, before, once j k x.0 (same ∙ x.1) x.1)

  one-place : HasEachOnce list → AtOnePlace
  one-place once j k node one two = by (cases_lt j k) (cases_lt k j)
    where
      by : (j < k) ⊎ (k ≤ j) → (k < j) ⊎ (j ≤ k) → j ≡ k
      by (inl before) other = absurd (once j k before (slice_get_within list k node two) (one ∙ sym two))
      by (inr least) (inl before) = absurd (once k j before (slice_get_within list j node one) (two ∙ sym one))
      by (inr least) (inr most) = omega (arith, least, most)

-- ---- so many and no other number

module _ {N : Type 0} (P : N → Type 0) where
  no-fewer : (count other : ℕ) → IsCountOf P count → IsCountOf P other → count ≤ other
  no-fewer count other one two =
      let few = no-more (λ (x z : N). x ≡ z) (λ x y z a b. a ∙ sym b) one.list (each-once one.list one.once) two.list
      (λ x h. (x, IsMember-from_Contains two.list x ((two.each x).1 ((one.each x).0 (Contains-from_IsMember one.list x h))), refl)) in
      omega (arith, few, one.long, two.long)

  pub same-count : (count other : ℕ) → IsCountOf P count → IsCountOf P other → count ≡ other
  same-count count other one two = omega (arith, no-fewer count other one two, no-fewer other count two one)

-- ---- figures and Blocks together

abbrev block_in : Block → Point → Block
block_in other (points.Block block) = block
block_in other (points.Figure node) = other

abbrev kind_in : Point → ℕ
kind_in (points.Figure node) = 0
kind_in (points.Block block) = 1

module _ (P : Node → Type 0) (Q : Block → Type 0) (R : Point → Type 0) (figures-are : (node : Node) → R (points.Figure node) ↔ P node)
    (blocks-are : (block : Block) → R (points.Block block) ↔ Q block) (figures blocks : ℕ) (one : IsCountOf P figures) (two : IsCountOf Q blocks) where
  abbrev firsts : List Point
  firsts = map points.Figure one.list

  abbrev seconds : List Point
  seconds = map points.Block two.list

  all-once : HasEachOnce (firsts ++ seconds)
  all-once = once-append firsts seconds
      (once-map points.Figure (λ a b e. ap (node_in a) e) one.list (each-once one.list one.once))
      (once-map points.Block (λ a b e. ap (block_in a) e) two.list (each-once two.list two.once))
      (λ z h k.
      let a = IsMember-map points.Figure one.list z (IsMember-from_Contains firsts z h) in
      let b = IsMember-map points.Block two.list z (IsMember-from_Contains seconds z k) in
      let never = ap kind_in (a.2 ∙ sym b.2) in
      omega (arith, never))

  to : (point : Point) → IsMember point firsts ⊎ IsMember point seconds → R point
  to point (inl h) =
      let a = IsMember-map points.Figure one.list point h in
      subst R a.2 ((figures-are a.0).1 ((one.each a.0).0 (Contains-from_IsMember one.list a.0 a.1)))
  to point (inr h) =
      let b = IsMember-map points.Block two.list point h in
      subst R b.2 ((blocks-are b.0).1 ((two.each b.0).0 (Contains-from_IsMember two.list b.0 b.1)))

  from : (point : Point) → R point → IsMember point (firsts ++ seconds)
  from (points.Figure node) r =
      IsMember-left firsts seconds (points.Figure node)
      (IsMember-mapped points.Figure one.list node (IsMember-from_Contains one.list node ((one.each node).1 ((figures-are node).0 r))))
  from (points.Block block) r =
      IsMember-right firsts seconds (points.Block block)
      (IsMember-mapped points.Block two.list block (IsMember-from_Contains two.list block ((two.each block).1 ((blocks-are block).0 r))))

  pub counted-both : IsCountOf R (figures + blocks)
  counted-both = record {
    list = firsts ++ seconds;
    once = one-place (firsts ++ seconds) all-once;
    each = λ point. (
      (λ h. to point (IsMember-cases firsts seconds point (IsMember-from_Contains (firsts ++ seconds) point h))),
      (λ r. Contains-from_IsMember (firsts ++ seconds) point (from point r)),
    );
    long = omega (arith, length-append firsts seconds, length-map one.list points.Figure, length-map two.list points.Block, one.long, two.long);
  }
