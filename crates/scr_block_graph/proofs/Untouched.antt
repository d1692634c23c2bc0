-- What a record does not touch is the same before it and after it.
use Rattle.std.proofs.Common.{◌≡◌, ℕ, Bool, true, false, eqb, ◌&&◌, ◌||◌, List, [], ◌∷◌, Option, Some, None, length, map, refl, sym, ap, ap₂, ◌∙◌}
use Rattle.std.specs.Prelude.{IsTrue}
use Rattle.std.specs.List.{range_with_len}
use Rattle.std.proofs.lemmas.Bool.{and_parts, eqb-true}
use Rattle.std.proofs.lemmas.Bool.Decides.{Decides-eqb}
use Rattle.scr_factors.specs.Values.{FactorValues}
use Rattle.scr_tables.specs.Names.{same_name}
use Rattle.scr_tables.proofs.TableRows.{same_name-is, same_name-itself}
use Rattle.scr_sum_tree.specs.Blocks.{block_sources, part, parts}
use Rattle.scr_sum_tree.specs.declared.blocks.Level.{Level}
use Rattle.scr_sum_tree.specs.declared.blocks.Level.TheVariants as levels
use Rattle.scr_sum_tree.proofs.PartLemmas.{part-map}
use Rattle.scr_sheet.specs.Records.{applied}
use Rattle.scr_sheet.specs.Validity.{Valid}
use Rattle.scr_sheet.specs.declared.edit.Edit.{Edit}
use Rattle.scr_nodes.specs.Changed.{IsChanged, IsSame}
use Rattle.scr_nodes.specs.Live.{is_live}
use Rattle.scr_nodes.specs.declared.node.Node.{Node}
use Rattle.scr_block_graph.specs.Changed.{IsSameIn}
use Rattle.scr_block_graph.specs.Graph.{AreRolls, Rolled, block_point, is_live_in, member_point, roll_in}
use Rattle.scr_block_graph.specs.Sums.{first_sum, roll_of}
use Rattle.scr_block_graph.specs.Told.{is_kept}
use Rattle.scr_block_graph.specs.Touched.{IsTouchedIn, applied_in}
use Rattle.scr_block_graph.specs.declared.point.Point.{Point}
use Rattle.scr_block_graph.specs.declared.point.Point.TheVariants as points
use Rattle.scr_block_graph.specs.declared.sum.Sum.{Sum}
use Rattle.scr_block_graph.proofs.Apart.{points-apart}
use Rattle.scr_block_graph.proofs.Kept.{plain-in, plain-out, same-still, still-same}

-- ---- what cannot differ is equal, where a test tells it

module _ {X : Type 0} (same : X → X → Bool) (is : (x y : X) → same x y ≡ true → x ≡ y) (itself : (x : X) → same x x ≡ true) where
  same-lists : List X → List X → Bool
  same-lists [] [] = true
  same-lists [] (y ∷ ys) = false
  same-lists (x ∷ xs) [] = false
  same-lists (x ∷ xs) (y ∷ ys) = same x y && same-lists xs ys

  lists-are : (xs ys : List X) → same-lists xs ys ≡ true → xs ≡ ys
  unfolding same-lists
  lists-are [] [] e = refl
  lists-are [] (y ∷ ys) e = absurd (cc)
  lists-are (x ∷ xs) [] e = absurd (cc)
  lists-are (x ∷ xs) (y ∷ ys) e =
      let both = and_parts (same x y) (same-lists xs ys) e in
      ap₂ (λ (z : X) (zs : List X). z ∷ zs) (is x y both.0) (lists-are xs ys both.1)

  lists-themselves : (xs : List X) → same-lists xs xs ≡ true
  unfolding same-lists
  lists-themselves [] = refl
  lists-themselves (x ∷ xs) = ap₂ (λ (a b : Bool). a && b) (itself x) (lists-themselves xs)

  never-other : (xs ys : List X) → ((xs ≡ ys → ⊥) → ⊥) → xs ≡ ys
  never-other xs ys twice = by (same-lists xs ys) refl
    where
      by : (t : Bool) → same-lists xs ys ≡ t → xs ≡ ys
      by true e = lists-are xs ys e
      by false e =
          absurd (twice (λ h. (let never : true ≡ false = sym (lists-themselves ys) ∙ ap (λ zs. same-lists zs ys) (sym h) ∙ e in absurd (cc))))

module _ {X Y : Type 0} (f : X → Y) (apart : (a b : X) → f a ≡ f b → a ≡ b) where
  map-same : (xs ys : List X) → map f xs ≡ map f ys → xs ≡ ys
  map-same [] [] e = refl
  map-same [] (y ∷ ys) e = absurd (cc)
  map-same (x ∷ xs) [] e = absurd (cc)
  map-same (x ∷ xs) (y ∷ ys) e =
      let head : f x ≡ f y = cc in
      let tail : map f xs ≡ map f ys = cc in
      ap₂ (λ (z : X) (zs : List X). z ∷ zs) (apart x y head) (map-same xs ys tail)

  part-never-other : ((xs ys : List X) → ((xs ≡ ys → ⊥) → ⊥) → xs ≡ ys) → (i : ℕ) (xs ys : List X)
      → ((part i (map f xs) ≡ part i (map f ys) → ⊥) → ⊥) → part i (map f xs) ≡ part i (map f ys)
  part-never-other lists i xs ys twice =
      part-map f i xs
      ∙ ap (map f) (lists (part i xs) (part i ys) (λ other. twice (λ e. other (map-same (part i xs) (part i ys) (sym (part-map f i xs) ∙ e ∙ part-map f i ys)))))
      ∙ sym (part-map f i ys)

bool-never-other : (a b : Bool) → ((a ≡ b → ⊥) → ⊥) → a ≡ b
bool-never-other true true twice = refl
bool-never-other false false twice = refl
bool-never-other true false twice = absurd (twice (λ e. absurd (cc)))
bool-never-other false true twice = absurd (twice (λ e. absurd (cc)))

number-itself : (n : ℕ) → eqb n n ≡ true
number-itself n = (Decides-eqb n n).1 refl

sources-never-other : (sum : Sum) (level : Level) (i : ℕ) (before after : List (List ℕ))
    → ((block_sources (member_point sum) (block_point sum) before level i ≡ block_sources (member_point sum) (block_point sum) after level i → ⊥) → ⊥)
    → block_sources (member_point sum) (block_point sum) before level i ≡ block_sources (member_point sum) (block_point sum) after level i
sources-never-other sum levels.First i before after twice =
    part-never-other (member_point sum) (points-apart sum).members (never-other same_name same_name-is same_name-itself) i before after twice
sources-never-other sum levels.Second i before after twice =
    part-never-other (block_point sum levels.First) (points-apart sum).firsts (never-other eqb eqb-true number-itself) i
    (range_with_len 0 (parts (length before))) (range_with_len 0 (parts (length after))) twice

-- ---- points

module _ (factors : FactorValues) (edit : Edit) (book : Rolled) (valid : Valid book.sheet) (now : Valid (applied edit book.sheet)) (rolls : AreRolls book)
    (rest : (node : Node) → (IsChanged factors book.sheet (applied edit book.sheet) node → ⊥)
    → IsTrue (is_live book.sheet node || is_live (applied edit book.sheet) node) → IsSame factors book.sheet (applied edit book.sheet) node) where
  pub untouched-same : (point : Point) → (IsTouchedIn factors book edit point → ⊥)
      → IsTrue (is_live_in book point || is_live_in (applied_in edit book) point) → IsSameIn factors book (applied_in edit book) point
  untouched-same (points.Figure node) apart live = by (first_sum node) refl
    where
      by : (sum : Option Sum) → first_sum node ≡ sum → IsSameIn factors book (applied_in edit book) (points.Figure node)
      by None none =
          plain-in factors edit book node none
          (rest node (λ changed. apart (record { live = changed.live; changed = λ same. changed.changed (plain-out factors edit book node none same) })) live)
      by (Some sum) first = kept (is_kept edit book node) refl
        where
          kept : (t : Bool) → is_kept edit book node ≡ t → IsSameIn factors book (applied_in edit book) (points.Figure node)
          kept false e =
              still-same factors edit book valid now node sum first (λ s h. record { members = rolls.members (roll_of s); once = rolls.once (roll_of s) }) e
          kept true e = absurd (apart (record {
            live = live;
            changed = λ same.
                (let never : true ≡ false = sym e
                ∙ same-still factors edit book valid now node sum first (λ s h. record { members = rolls.members (roll_of s); once = rolls.once (roll_of s) }) same in
                absurd (cc));
          }))
  untouched-same (points.Block block) apart live = record {
    live = bool-never-other (is_live_in book (points.Block block)) (is_live_in (applied_in edit book) (points.Block block))
        (λ other. twice (λ same. other same.live));
    own = refl;
    sources = sources-never-other block.sum block.level block.index (roll_in book block.sum) (roll_in (applied_in edit book) block.sum)
        (λ other. twice (λ same. other same.sources));
  }
    where
      twice : (IsSameIn factors book (applied_in edit book) (points.Block block) → ⊥) → ⊥
      twice other = apart (record { live = live; changed = other })
