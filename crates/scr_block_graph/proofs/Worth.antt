-- What Blocks, and what is left at their top, are worth.
use Rattle.std.proofs.Common.{◌≡◌, ℕ, Bool, false, ◌||◌, pos, List, [], Option, Some, None, length, map, refl, sym, ap, ◌∙◌, ◌++◌, cond, ap₂, true}
use Rattle.std.specs.Prelude.{is_some}
use Rattle.std.specs.List.{list_any, range_with_len}
use Rattle.std.proofs.lemmas.List.{map-append}
use Rattle.scr_num.specs.Rounding.{Ends, add_ends, exact_ends}
use Rattle.scr_num.specs.Sums.{sum_ends}
use Rattle.scr_sum_tree.specs.Blocks.{part, parts, tops}
use Rattle.scr_sum_tree.specs.Sums.{AddsUp, total}
use Rattle.scr_sum_tree.specs.declared.blocks.Level.{Level}
use Rattle.scr_sum_tree.specs.declared.blocks.Level.TheVariants as levels
use Rattle.scr_sum_tree.proofs.ListedSums.{ends-add_up, or-adds_up, sum-same, sum-tops, total-ends, total-or}
use Rattle.scr_sum_tree.proofs.PartLemmas.{part-map}
use Rattle.scr_sum_tree.proofs.Regrouped.{map-map, total-append}
use Rattle.scr_sheet.specs.Validity.{Valid}
use Rattle.scr_nodes.specs.Sources.{sources_of}
use Rattle.scr_nodes.specs.declared.node.Node.{Node}
use Rattle.scr_block_graph.specs.Graph.{AreRolls, Rolled, block_point, listed, member_point, roll_in, sources_in, tops_of, worth_in}
use Rattle.scr_block_graph.specs.Sums.{first_sum, member_of, names_listed, roll_of, second_sum}
use Rattle.scr_block_graph.specs.declared.sum.Sum.{Sum}
use Rattle.scr_block_graph.specs.declared.point.Point.TheVariants as points
use Rattle.scr_block_graph.proofs.Listed.{sources-listed}
use Rattle.scr_block_graph.proofs.Members.{listed-members, listed-once}

module _ {A : Type 0} (sum : List A → A) (worth : Node → A) (book : Rolled) (of : Sum) where
  abbrev roll : List (List ℕ)
  roll = roll_in book of

  -- a Block is worth what its sources are
  pub block-sources : (level : Level) (i : ℕ) → worth_in sum worth book (block_point of level i)
      ≡ sum (map (worth_in sum worth book) (sources_in book (block_point of level i)))
  block-sources levels.First i = ap sum (sym (
      ap (map (worth_in sum worth book)) (part-map (member_point of) i roll)
      ∙ map-map (worth_in sum worth book) (member_point of) (part i roll)))
  block-sources levels.Second i = ap sum (sym (
      ap (map (worth_in sum worth book)) (part-map (block_point of levels.First) i (range_with_len 0 (parts (length roll))))
      ∙ map-map (worth_in sum worth book) (block_point of levels.First) (part i (range_with_len 0 (parts (length roll))))))

module _ {A : Type 0} (nothing : A) (add : A → A → A) (laws : AddsUp nothing add) (sum : List A → A)
    (is : (xs : List A) → total nothing add xs ≡ sum xs) (worth : Node → A) (book : Rolled) (valid : Valid book.sheet) (rolls : AreRolls book) where
  whole : (of : Sum) → sum (map (worth_in sum worth book) (tops (member_point of) (block_point of) (roll_in book of)))
      ≡ sum (map worth (map (member_of of) (names_listed book.sheet of)))
  whole of =
      sum-tops nothing add laws sum is (worth_in sum worth book) (member_point of) (block_point of) (roll_in book of)
      (λ level i there. block-sources sum worth book of level i)
      ∙ ap sum (map-map (worth_in sum worth book) (member_point of) (roll_in book of))
      ∙ sym (sum-same nothing add laws sum is (λ name. worth (member_of of name)) (names_listed book.sheet of) (roll_in book of)
      (listed-once book.sheet valid of) (rolls.once (roll_of of))
      (λ name. listed-members book.sheet valid of name ∙ sym (rolls.members (roll_of of) name)))
      ∙ sym (ap sum (map-map worth (member_of of) (names_listed book.sheet of)))

  pub tops-worth : (of : Option Sum) → sum (map (worth_in sum worth book) (tops_of book of)) ≡ sum (map worth (listed book.sheet of))
  tops-worth None = refl
  tops-worth (Some of) = whole of

  -- a figure that is reckoned from sums sees the same sum of what its sources are worth as in the graph of the balance sheet
  pub summed-worth : (node : Node) → is_some (first_sum node) ≡ true
      → sum (map (worth_in sum worth book) (sources_in book (points.Figure node))) ≡ sum (map worth (sources_of book.sheet node))
  summed-worth node summed =
      ap (λ t. sum (map (worth_in sum worth book) (cond t (tops_of book (first_sum node) ++ tops_of book (second_sum node)) (map points.Figure (sources_of book.sheet node))))) summed
      ∙ both (worth_in sum worth book) (tops_of book (first_sum node)) (tops_of book (second_sum node))
      ∙ ap₂ add (tops-worth (first_sum node)) (tops-worth (second_sum node))
      ∙ sym (both worth (listed book.sheet (first_sum node)) (listed book.sheet (second_sum node)))
      ∙ sym (ap (λ nodes. sum (map worth nodes)) (sources-listed book.sheet node summed))
    where
      both : {B : Type 0} (f : B → A) (xs ys : List B) → sum (map f (xs ++ ys)) ≡ add (sum (map f xs)) (sum (map f ys))
      both f xs ys =
          ap sum (map-append f xs ys) ∙ sym (is (map f xs ++ map f ys)) ∙ total-append nothing add laws (map f xs) (map f ys)
          ∙ ap₂ add (is (map f xs)) (is (map f ys))

pub ends-tops : (worth : Node → Ends) (book : Rolled) → Valid book.sheet → AreRolls book → (sum : Option Sum)
    → sum_ends (map (worth_in sum_ends worth book) (tops_of book sum)) ≡ sum_ends (map worth (listed book.sheet sum))
ends-tops worth book valid rolls sum =
    tops-worth (exact_ends (pos 0)) add_ends ends-add_up sum_ends total-ends worth book valid rolls sum

pub any-tops : (holds : Node → Bool) (book : Rolled) → Valid book.sheet → AreRolls book → (sum : Option Sum)
    → list_any (λ b. b) (map (worth_in (list_any (λ b. b)) holds book) (tops_of book sum)) ≡ list_any (λ b. b) (map holds (listed book.sheet sum))
any-tops holds book valid rolls sum =
    tops-worth false (λ a b. a || b) or-adds_up (list_any (λ b. b)) total-or holds book valid rolls sum

pub ends-summed : (worth : Node → Ends) (book : Rolled) → Valid book.sheet → AreRolls book → (node : Node) → is_some (first_sum node) ≡ true
    → sum_ends (map (worth_in sum_ends worth book) (sources_in book (points.Figure node))) ≡ sum_ends (map worth (sources_of book.sheet node))
ends-summed worth book valid rolls node summed =
    summed-worth (exact_ends (pos 0)) add_ends ends-add_up sum_ends total-ends worth book valid rolls node summed

pub any-summed : (holds : Node → Bool) (book : Rolled) → Valid book.sheet → AreRolls book → (node : Node) → is_some (first_sum node) ≡ true
    → list_any (λ b. b) (map (worth_in (list_any (λ b. b)) holds book) (sources_in book (points.Figure node)))
    ≡ list_any (λ b. b) (map holds (sources_of book.sheet node))
any-summed holds book valid rolls node summed =
    summed-worth false (λ a b. a || b) or-adds_up (list_any (λ b. b)) total-or holds book valid rolls node summed
