-- The account of a figure with and without its sources.
use Rattle.std.proofs.Common.{◌≡◌, ◌∙◌, ℕ, zero, suc, ◌+◌, ◌-◌, ◌<◌, ◌≤◌, ◌++◌, List, drop, length, ap, ap₂, sym, append_assoc, arith}
use Rattle.std.proofs.lemmas.List.{append-nil, drop_all}
use Rattle.std.specs.Prelude.{flat_map}
use Rattle.scr_factors.specs.Values.{FactorValues}
use Rattle.scr_sheet.specs.declared.sheet.BalanceSheet.{BalanceSheet}
use Rattle.scr_nodes.specs.Sources.{sources_of}
use Rattle.scr_nodes.specs.declared.node.Node.{Node}
use Rattle.scr_explanation.specs.Account.{account, figure_text, rest_text}
use Rattle.scr_explanation.specs.Told.{shown}

module _ (factors : FactorValues) (sheet : BalanceSheet) (top level : ℕ) (node : Node) where
  -- at the last level the figure stands alone
  pub alone : (depth : ℕ) → depth ≡ 0 → account factors sheet top depth level node ≡ figure_text factors sheet level node
  unfolding account
  alone depth e = ap (λ d. account factors sheet top d level node) e

  -- above it its sources follow
  pub with_sources : (depth : ℕ) → 0 < depth → account factors sheet top depth level node
      ≡ (figure_text factors sheet level node
      ++ flat_map (account factors sheet top (depth - 1) (level + 1)) (shown factors sheet top (sources_of sheet node)))
      ++ rest_text (level + 1) (length (sources_of sheet node) - length (shown factors sheet top (sources_of sheet node)))
  unfolding account
  with_sources zero l = absurd (omega arith)
  with_sources (suc depth) l =
      let e : depth ≡ suc depth - 1 = omega arith in
      ap (λ d. (figure_text factors sheet level node
      ++ flat_map (account factors sheet top d (level + 1)) (shown factors sheet top (sources_of sheet node)))
      ++ rest_text (level + 1) (length (sources_of sheet node) - length (shown factors sheet top (sources_of sheet node)))) e

  -- the figure, the accounts of those of its sources that are told, and how many are not, make its account
  pub whole : (sources : List Node) → sources ≡ sources_of sheet node → (depth : ℕ) → 0 < depth
      → (told : List Node) → told ≡ shown factors sheet top sources
      → (start out : List ℕ) (i left : ℕ) → left ≡ length sources - length told → length told ≤ i
      → out ++ flat_map (account factors sheet top (depth - 1) (level + 1)) (drop i told)
      ≡ (start ++ figure_text factors sheet level node) ++ flat_map (account factors sheet top (depth - 1) (level + 1)) told
      → out ++ rest_text (level + 1) left ≡ start ++ account factors sheet top depth level node
  whole sources are depth positive told told_are start out i left left_is past so_far =
      let each = account factors sheet top (depth - 1) (level + 1) in
      let figure = figure_text factors sheet level node in
      let all = sources_of sheet node in
      let largest = shown factors sheet top all in
      let told_is : told ≡ largest = told_are ∙ ap (shown factors sheet top) are in
      let out_is : out ≡ (start ++ figure) ++ flat_map each largest =
      sym (ap (λ (nodes : List Node). out ++ flat_map each nodes) (drop_all i told past) ∙ append-nil out)
      ∙ so_far ∙ ap (λ (nodes : List Node). (start ++ figure) ++ flat_map each nodes) told_is in
      let count_is : left ≡ length all - length largest =
      left_is ∙ ap₂ (λ (a : List Node) (b : List Node). length a - length b) are told_is in
      let rest = rest_text (level + 1) (length all - length largest) in
      ap₂ (λ (lines : List ℕ) (n : ℕ). lines ++ rest_text (level + 1) n) out_is count_is
      ∙ append_assoc (start ++ figure) (flat_map each largest) rest
      ∙ append_assoc start figure (flat_map each largest ++ rest)
      ∙ ap (λ (lines : List ℕ). start ++ lines) (sym (append_assoc figure (flat_map each largest) rest) ∙ sym (with_sources depth positive))
