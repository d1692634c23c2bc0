-- The plain recursion over the sources obeys its equation for every valid balance sheet, and nothing else does.
use Rattle.std.proofs.Common.{◌≡◌, ℕ, zero, suc, ◌+◌, List, [], ◌∷◌, map, length, refl, sym, ap, ◌∙◌}
use Rattle.std.specs.List.{AllByRecursion}
use Rattle.scr_funds.proofs.Members.{each_weaker}
use Rattle.scr_sheet.specs.declared.sheet.BalanceSheet.{BalanceSheet}
use Rattle.scr_sheet.specs.Validity.{Valid}
use Rattle.scr_nodes.specs.declared.node.Node.{Node}
use Rattle.scr_nodes.specs.Reckoned.{reckoned_within, reckoned}
use Rattle.scr_nodes.specs.Sources.{sources_of}
use Rattle.scr_nodes.proofs.Depth.{EndsIn, sources-end}

pub map-same : {A B : Type 0} (f g : A → B) (xs : List A) → AllByRecursion (λ x. f x ≡ g x) xs → map f xs ≡ map g xs
map-same f g [] same = refl
map-same f g (x ∷ xs) same = ap (λ y. y ∷ map f xs) same.0 ∙ ap (λ ys. g x ∷ ys) (map-same f g xs same.1)

-- two facts of each, of which a third follows
each-two : {A : Type 0} (P Q R : A → Type 0) → ((x : A) → P x → Q x → R x) → (xs : List A) → AllByRecursion P xs
    → AllByRecursion Q xs → AllByRecursion R xs
each-two P Q R step [] left right = tt
each-two P Q R step (x ∷ xs) left right = (step x left.0 right.0, each-two P Q R step xs left.1 right.1)

module _ {A : Type 0} (none : A) (rule : Node → List A → A) (sheet : BalanceSheet) where
  -- one level more changes nothing
  one_more : (levels : ℕ) (node : Node) → EndsIn sheet levels node
      → reckoned_within none rule sheet (suc levels) node ≡ reckoned_within none rule sheet levels node
  unfolding reckoned_within
  one_more zero node ends = absurd ends
  one_more (suc levels) node ends =
      ap (rule node) (map-same (reckoned_within none rule sheet (suc levels)) (reckoned_within none rule sheet levels)
      (sources_of sheet node)
      (each_weaker (EndsIn sheet levels) (λ n. reckoned_within none rule sheet (suc levels) n
      ≡ reckoned_within none rule sheet levels n) (one_more levels) (sources_of sheet node) ends))

  step-within : (levels : ℕ) (node : Node) → reckoned_within none rule sheet (suc levels) node ≡ rule node
      (map (reckoned_within none rule sheet levels) (sources_of sheet node))
  unfolding reckoned_within
  step-within levels node = refl

  pub reckoned-equation : Valid sheet → (node : Node)
      → reckoned none rule sheet node ≡ rule node (map (reckoned none rule sheet) (sources_of sheet node))
  unfolding reckoned
  reckoned-equation valid node =
      sym (one_more (length sheet.funds + 200) node (sources-end sheet valid node))
      ∙ step-within (length sheet.funds + 200) node

  -- what satisfies the equation on nodes among which the sources of each are
  only-within : (In : Node → Type 0) → ((node : Node) → In node → AllByRecursion In (sources_of sheet node))
      → (found : Node → A) → ((node : Node) → In node → found node ≡ rule node (map found (sources_of sheet node)))
      → (levels : ℕ) (node : Node) → In node → EndsIn sheet levels node
      → found node ≡ reckoned_within none rule sheet levels node
  unfolding reckoned_within
  only-within In closed found equation zero node within ends = absurd ends
  only-within In closed found equation (suc levels) node within ends =
      equation node within
      ∙ ap (rule node) (map-same found (reckoned_within none rule sheet levels) (sources_of sheet node)
      (each-two In (EndsIn sheet levels) (λ n. found n ≡ reckoned_within none rule sheet levels n)
      (λ n i e. only-within In closed found equation levels n i e) (sources_of sheet node) (closed node within) ends))

  pub reckoned-only : Valid sheet → (In : Node → Type 0)
      → ((node : Node) → In node → AllByRecursion In (sources_of sheet node))
      → (found : Node → A) → ((node : Node) → In node → found node ≡ rule node (map found (sources_of sheet node)))
      → (node : Node) → In node → found node ≡ reckoned none rule sheet node
  unfolding reckoned
  reckoned-only valid In closed found equation node within =
      only-within In closed found equation (length sheet.funds + 200) node within (sources-end sheet valid node)
