-- Whether a Block is among points.
use Rattle.std.proofs.Common.{◌≡◌, inl, inr, ℕ, ◌+◌, ◌<◌, ◌≤◌, Contains, List, Some, length, get_or, slice_get, sym, ap, subst, ◌∙◌, arith}
use Rattle.std.proofs.lemmas.Bool.{cases_lt}
use Rattle.std.proofs.lemmas.Option.{slice_get-get_or}
use Rattle.scr_block_graph.specs.declared.point.Block.{Block}
use Rattle.scr_block_graph.specs.declared.point.Point.{Point}
use Rattle.scr_block_graph.specs.declared.point.Point.TheVariants as points
use Rattle.scr_nodes.specs.declared.node.Node.{Node}

module _ (touched : List Point) (k : ℕ) (low : k < length touched) where
  pub no-block-more : (node : Node) (x : Point) → x ≡ get_or touched k x → x ≡ points.Figure node
      → ((j : ℕ) (block : Block) → j < k → slice_get touched j ≡ Some (points.Block block) → ⊥)
      → (j : ℕ) (block : Block) → j < k + 1 → slice_get touched j ≡ Some (points.Block block) → ⊥
  no-block-more node x at is none j block less has = elim (cases_lt j k) [
    | inl before ↦ none j block before has
    | inr not ↦
        (let same : k ≡ j = omega (arith, less, not) in
        let here : slice_get touched k ≡ Some x = slice_get-get_or touched k x low ∙ ap Some (sym at) in
        let clash : Some (points.Figure node) ≡ Some (points.Block block) =
        sym (ap Some is) ∙ sym here ∙ ap (slice_get touched) same ∙ has in
        absurd (cc))
  ]

  pub block-found : (block : Block) (x : Point) → x ≡ get_or touched k x → x ≡ points.Block block
      → ((block : Block) → Contains touched (points.Block block) → ⊥) → ⊥
  block-found block x at is none =
      none block (k, low, subst (λ d. get_or touched k d ≡ d) is (sym at))

pub no-block-at-all : (touched : List Point) (k : ℕ) → length touched ≤ k
    → ((j : ℕ) (block : Block) → j < k → slice_get touched j ≡ Some (points.Block block) → ⊥)
    → (block : Block) → Contains touched (points.Block block) → ⊥
no-block-at-all touched k past none block has =
    let low : has.0 < length touched = has.1 in
    none has.0 block (omega (arith, low, past)) (slice_get-get_or touched has.0 (points.Block block) low ∙ ap Some has.2)
