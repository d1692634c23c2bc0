-- What is known of the lists of the sums of the first of some figures.
use Rattle.std.proofs.Common.{◌≡◌, ◌⊎◌, inl, inr, ℕ, ◌+◌, ◌<◌, ◌≤◌, List, Some, length, get_or, slice_get, sym, ap, subst, ◌∙◌, arith}
use Rattle.std.proofs.lemmas.Bool.{cases_lt}
use Rattle.std.proofs.lemmas.Option.{get_or_from_slice_get, slice_get-get_or}
use Rattle.scr_nodes.specs.declared.node.Node.{Node}
use Rattle.scr_block_graph.specs.Graph.{IsRoll, Rolled}
use Rattle.scr_block_graph.specs.Sums.{first_sum, roll_of, second_sum}
use Rattle.scr_block_graph.specs.Told.{HaveRolls}
use Rattle.scr_block_graph.specs.declared.sum.Sum.{Sum}

module _ (book : Rolled) where
  abbrev pub HaveOf : Node → Type 0
  HaveOf node = (sum : Sum) → (first_sum node ≡ Some sum) ⊎ (second_sum node ≡ Some sum) → IsRoll book (roll_of sum)

  module _ (told : List Node) where
    abbrev pub HaveFirst : ℕ → Type 0
    HaveFirst n = (k : ℕ) → k < n → (node : Node) → slice_get told k ≡ Some node → HaveOf node

    pub have-more : (n : ℕ) → HaveFirst n → (node : Node) → n < length told → node ≡ get_or told n node → HaveOf node → HaveFirst (n + 1)
    have-more n have node inside is own k before other at = by (cases_lt k n)
      where
        by : (k < n) ⊎ (n ≤ k) → HaveOf other
        by (inl earlier) = have k earlier other at
        by (inr last) =
            let here : k ≡ n = omega (arith, before, last) in
            let same : other ≡ node =
            sym (get_or_from_slice_get told k other node at) ∙ ap (λ m. get_or told m node) here ∙ sym is in
            subst HaveOf (sym same) own

    pub have-all : (n : ℕ) → HaveFirst n → length told ≤ n → HaveRolls book told
    have-all n have end node h =
        have h.0 (omega (arith, h.1, end)) node (slice_get-get_or told h.0 node h.1 ∙ ap Some h.2)

  pub have-either : (node : Node) → ((sum : Sum) → first_sum node ≡ Some sum → IsRoll book (roll_of sum))
      → ((sum : Sum) → second_sum node ≡ Some sum → IsRoll book (roll_of sum)) → HaveOf node
  have-either node one two sum (inl e) = one sum e
  have-either node one two sum (inr e) = two sum e
