-- The figures of large sums in the first reckoning, with the Blocks under them.
use Rattle.std.proofs.Common.{◌≡◌, ◌⊎◌, inl, inr, ℕ, ◌+◌, ◌<◌, ◌≤◌, ◌^◌, ◌||◌, ◌&&◌, ◌++◌, Bool, true, false, List, [], ◌∷◌, Option, Some, None, length, map, pos, slice_get, refl, sym, ap, ap₂, subst, ◌∙◌, arith}
use Rattle.std.specs.Prelude.{is_some}
use Rattle.std.specs.List.{list_any, range_with_len}
use Rattle.std.specs.Option.{option_map, option_map_or}
use Rattle.std.proofs.lemmas.Bool.{and_parts}
use Rattle.std.proofs.lemmas.List.{length-map, map-append}
use Rattle.scr_funds.proofs.Members.{IsMember, Contains-from_IsMember, at_member}
use Rattle.scr_sum_slots.proofs.Views.{no-some, one-some}
use Rattle.scr_sum_tree.specs.Blocks.{blocks_at, is_block, part, parts}
use Rattle.scr_sum_tree.specs.declared.blocks.Level.{Level}
use Rattle.scr_sum_tree.specs.declared.blocks.Level.TheVariants as levels
use Rattle.scr_sum_tree.proofs.PartLemmas.{part-map}
use Rattle.scr_sum_tree.proofs.Regrouped.{map-map}
use Rattle.scr_num.specs.Rounding.{Ends, ends, exact_ends}
use Rattle.scr_num.specs.Sizes.{AreTogether}
use Rattle.scr_num.specs.Sums.{sum_ends}
use Rattle.scr_figure_ids.specs.Families.{family_of, name_of, table_of}
use Rattle.scr_figure_ids.specs.Numbers.{StandsAt, names_in}
use Rattle.scr_member_index.specs.Lists.{first_of}
use Rattle.scr_sheet.specs.Members.{table_of as roll_table}
use Rattle.scr_sheet.specs.Validity.{Valid}
use Rattle.scr_sheet.specs.declared.rows.Class.TheVariants as classes
use Rattle.scr_sheet.specs.declared.sheet.BalanceSheet.{BalanceSheet}
use Rattle.scr_nodes.specs.Live.{is_live}
use Rattle.scr_nodes.specs.Sources.{sources_of}
use Rattle.scr_nodes.specs.declared.node.Direction.TheVariants as directions
use Rattle.scr_nodes.specs.declared.node.Measure.TheVariants as measures
use Rattle.scr_nodes.specs.declared.node.Node.{Node}
use Rattle.scr_nodes.specs.declared.node.Node.TheVariants as nodes
use Rattle.scr_nodes.specs.declared.node.OfCurrency.TheVariants as of_currencies
use Rattle.scr_nodes.specs.declared.node.OfGroup.TheVariants as of_groups
use Rattle.scr_nodes.specs.declared.node.Whole.TheVariants as wholes
use Rattle.scr_factors.specs.Values.{FactorValues}
use Rattle.scr_rules.specs.Close.{close_under, is_open_choice}
use Rattle.scr_rules.specs.Worked.{worked}
use Rattle.scr_rules.proofs.Equations.{close-equation}
use Rattle.scr_block_graph.specs.Books.{rolled_of}
use Rattle.scr_block_graph.specs.Graph.{AreRolls, Rolled, block_point, is_live_in, listed, member_point, reads, roll_in, worth_in}
use Rattle.scr_block_graph.specs.Sums.{first_sum, member_of, names_listed, reader_of, roll_of, second_sum}
use Rattle.scr_block_graph.specs.Told.{is_reader}
use Rattle.scr_block_graph.specs.declared.point.Point.{Point}
use Rattle.scr_block_graph.specs.declared.point.Point.TheVariants as points
use Rattle.scr_block_graph.specs.declared.sum.Sum.{Sum}
use Rattle.scr_block_graph.specs.declared.sum.Sum.TheVariants as sums
use Rattle.scr_block_graph.proofs.Listed.{sources-listed}
use Rattle.scr_block_graph.proofs.Lives.{own-sum}
use Rattle.scr_partial_sums.specs.Figures.{ends_at, member_number, members_ends}
use Rattle.scr_partial_sums.specs.Written.{is_open_at}
use Rattle.scr_partial_sums.specs.declared.figure.Figure.{Figure}
use Rattle.scr_tree.specs.Figures.{AreKnownOf, HasFigure, Worth, reckoning_of, worth_at, worth_of}
use Rattle.scr_tree.specs.First.{AreBlocksThere, AreDoneTo, AreMembersThere, IsBlockBefore, IsBlockOf, IsGround, IsMemberOf, IsSumOf, KeepsOffBlocks, link_ground, numbers_of}
use Rattle.scr_ids.specs.Ranges.{first}
use Rattle.scr_tree.specs.Points.{StandsIn, book_reckoning, point_worth}
use Rattle.scr_tree.specs.Summed.{AreBlocksOn, AreMembersOn, KeepsOffBlocksOn, family_in, firsts_on, spanned_ends}
use Rattle.scr_tree.specs.Turns.{IsBefore, Turn, next, stage_of, turn_of}
use Rattle.scr_tree.specs.declared.making.Ground.{Ground}
use Rattle.scr_tree.proofs.BlockValues.{block-low, block-there, map-range}
use Rattle.scr_tree.proofs.BlocksMade.{blocks-beside, blocks-next, known-off, no-block}
use Rattle.scr_tree.proofs.FirstRows.{got-row}
use Rattle.scr_tree.proofs.FirstSources.{sources-before}
use Rattle.scr_tree.proofs.Grounds.{for-links, its-number}
use Rattle.scr_tree.proofs.Known.{known-weaker}
use Rattle.scr_tree.proofs.Made.{reckoned-next}
use Rattle.scr_tree.proofs.Plain.{is_plain, never-close}
use Rattle.scr_tree.proofs.SumNumbers.{firsts-are, member-live, member-source, member-stands, rolls}
use Rattle.scr_tree.proofs.SumWorth.{members-small}
use Rattle.scr_tree.proofs.SumsRead.{first-reads, second-reads}
use Rattle.scr_tree.proofs.Turns.{TakesTurn, not-before}

-- ---- figures and their sums

pub are-read : (sheet : BalanceSheet) (node : Node) → is_live sheet node ≡ true → (sum : Sum) → IsSumOf node sum → reads sheet sum ≡ true
are-read sheet node live sum (inl e) = sym (ap (λ o. option_map_or (reads sheet) o true) e) ∙ first-reads sheet node live
are-read sheet node live sum (inr e) = sym (ap (λ o. option_map_or (reads sheet) o true) e) ∙ second-reads sheet node live

-- the Blocks under the sums of a figure are written with it, but for those of a currency's fall
first-reader : (node : Node) (sum : Sum) → is_reader node ≡ true → first_sum node ≡ Some sum → reader_of sum ≡ node
first-reader (nodes.Group name of_groups.Total) sum is e = ap reader_of (sym (one-some e))
first-reader (nodes.Currency currency (of_currencies.Loss direction)) sum is e = ap reader_of (sym (one-some e))
first-reader (nodes.Currency currency (of_currencies.Scenario directions.Up measures.Gross)) sum is e = ap reader_of (sym (one-some e))
first-reader (nodes.Currency currency (of_currencies.Scenario directions.Down measures.Gross)) sum is e = absurd (cc)
first-reader (nodes.Whole (wholes.ClassSum class)) sum is e = ap reader_of (sym (one-some e))
first-reader (nodes.Whole wholes.Spread) sum is e = ap reader_of (sym (one-some e))
first-reader (nodes.Whole wholes.Assets) sum is e = ap reader_of (sym (one-some e))
first-reader (nodes.Whole wholes.Concentration) sum is e = ap reader_of (sym (one-some e))
first-reader (nodes.Whole (wholes.BioScenario biometric projection measures.Gross)) sum is e = ap reader_of (sym (one-some e))
first-reader node sum is e = absurd (no-some e)

second-reader : (node : Node) (sum : Sum) → is_reader node ≡ true → second_sum node ≡ Some sum → reader_of sum ≡ node
second-reader (nodes.Currency currency (of_currencies.Loss direction)) sum is e = ap reader_of (sym (one-some e))
second-reader (nodes.Currency currency (of_currencies.Scenario directions.Up measures.Gross)) sum is e = ap reader_of (sym (one-some e))
second-reader (nodes.Currency currency (of_currencies.Scenario directions.Down measures.Gross)) sum is e = absurd (cc)
second-reader (nodes.Whole (wholes.ClassSum classes.Type2Equity)) sum is e = ap reader_of (sym (one-some e))
second-reader node sum is e = absurd (no-some e)

pub its-reader : (node : Node) → is_reader node ≡ true → (sum : Sum) → IsSumOf node sum → reader_of sum ≡ node
its-reader node is sum (inl e) = first-reader node sum is e
its-reader node is sum (inr e) = second-reader node sum is e

readers-are : (sum : Sum) → is_reader (reader_of sum) ≡ true
readers-are (sums.Class class) = refl
readers-are sums.Closed = refl
readers-are sums.Spreads = refl
readers-are sums.Grouped = refl
readers-are (sums.Group name) = refl
readers-are (sums.Assets currency) = refl
readers-are (sums.Rates currency direction) = refl
readers-are (sums.Costs currency direction) = refl
readers-are (sums.Presents currency) = refl
readers-are (sums.Losses biometric projection) = refl
readers-are sums.Squares = refl

pub no-reader : (node : Node) → is_reader node ≡ false → (sum : Sum) → reader_of sum ≡ node → ⊥
no-reader node none sum e = let clash : true ≡ false = sym (readers-are sum) ∙ ap is_reader e ∙ none in absurd (cc)

pub read-own : (node : Node) (sum : Sum) → reader_of sum ≡ node → IsSumOf node sum
read-own node sum e = subst (λ n. IsSumOf n sum) e (own-sum sum)

-- its two sums are two
pub sums-differ : (node : Node) (sum : Sum) → first_sum node ≡ Some sum → second_sum node ≡ Some sum → ⊥
sums-differ (nodes.Currency currency (of_currencies.Loss direction)) sum e d =
    let clash : sums.Rates currency direction ≡ sums.Costs currency direction = one-some (e ∙ sym d) in absurd (cc)
sums-differ (nodes.Currency currency (of_currencies.Scenario direction measures.Gross)) sum e d =
    let clash : sums.Assets currency ≡ sums.Presents currency = one-some (e ∙ sym d) in absurd (cc)
sums-differ (nodes.Whole (wholes.ClassSum classes.Type2Equity)) sum e d =
    let clash : sums.Class classes.Type2Equity ≡ sums.Closed = one-some (e ∙ sym d) in absurd (cc)
sums-differ node sum e d = absurd (no-some d)

-- a sum that another figure reads, too, is read before: by the rise, where the figure is a fall
pub earlier-reader : (sheet : BalanceSheet) (node : Node) (row : ℕ) → slice_get (names_in sheet (table_of node)) row ≡ Some (name_of node)
    → (sum : Sum) → IsSumOf node sum → (reader_of sum ≡ node → ⊥) → IsBefore sheet (turn_of node row) (reader_of sum)
earlier-reader sheet (nodes.Currency currency (of_currencies.Scenario directions.Down measures.Gross)) row named sum (inl e) other =
    subst (λ s. IsBefore sheet (turn_of (nodes.Currency currency (of_currencies.Scenario directions.Down measures.Gross)) row) (reader_of s)) (one-some e)
    (inr (refl, record { k = row; named = named; before = inr (refl, omega arith) }))
earlier-reader sheet (nodes.Currency currency (of_currencies.Scenario directions.Down measures.Gross)) row named sum (inr e) other =
    subst (λ s. IsBefore sheet (turn_of (nodes.Currency currency (of_currencies.Scenario directions.Down measures.Gross)) row) (reader_of s)) (one-some e)
    (inr (refl, record { k = row; named = named; before = inr (refl, omega arith) }))
earlier-reader sheet (nodes.Currency currency (of_currencies.Scenario directions.Down measures.Net)) row named sum (inl e) other = absurd (no-some e)
earlier-reader sheet (nodes.Currency currency (of_currencies.Scenario directions.Down measures.Net)) row named sum (inr e) other = absurd (no-some e)
earlier-reader sheet node row named sum of other = absurd (other (its-reader node refl sum of))

-- ---- they rest on no choice

plain-member : (sum : Sum) (name : List ℕ) → is_plain (member_of sum name) ≡ true
plain-member (sums.Class class) name = refl
plain-member sums.Closed name = refl
plain-member sums.Spreads name = refl
plain-member sums.Grouped name = refl
plain-member (sums.Group group) name = refl
plain-member (sums.Assets currency) name = refl
plain-member (sums.Rates currency direction) name = refl
plain-member (sums.Costs currency direction) name = refl
plain-member (sums.Presents currency) name = refl
plain-member (sums.Losses biometric projection) name = refl
plain-member sums.Squares name = refl

none-of : {X : Type 0} (f : X → Bool) (xs : List X) → ((x : X) → f x ≡ false) → list_any (λ b. b) (map f xs) ≡ false
none-of f [] none = refl
none-of f (x ∷ xs) none = ap (λ b. b || list_any (λ b. b) (map f xs)) (none x) ∙ none-of f xs none

none-both : (xs ys : List Bool) → list_any (λ b. b) xs ≡ false → list_any (λ b. b) ys ≡ false → list_any (λ b. b) (xs ++ ys) ≡ false
none-both [] ys one other = other
none-both (true ∷ xs) ys one other = absurd (cc)
none-both (false ∷ xs) ys one other = none-both xs ys one other

no-choice : (factors : FactorValues) (sheet : BalanceSheet) (node : Node) → is_some (first_sum node) ≡ true → is_open_choice factors sheet node ≡ false
no-choice factors sheet (nodes.Group name of_groups.Total) some = refl
no-choice factors sheet (nodes.Currency currency (of_currencies.Loss direction)) some = refl
no-choice factors sheet (nodes.Currency currency (of_currencies.Scenario direction measures.Gross)) some = refl
no-choice factors sheet (nodes.Whole (wholes.ClassSum class)) some = refl
no-choice factors sheet (nodes.Whole wholes.Spread) some = refl
no-choice factors sheet (nodes.Whole wholes.Assets) some = refl
no-choice factors sheet (nodes.Whole wholes.Concentration) some = refl
no-choice factors sheet (nodes.Whole (wholes.BioScenario biometric projection measures.Gross)) some = refl
no-choice factors sheet node some = absurd (cc)

module _ (factors : FactorValues) (sheet : BalanceSheet) (valid : Valid sheet) where
  member-shut : (sum : Sum) (name : List ℕ) → close_under factors sheet (member_of sum name) ≡ false
  member-shut sum name = never-close factors sheet valid (member_of sum name) (plain-member sum name)

  listed-shut : (found : Option Sum) → list_any (λ b. b) (map (close_under factors sheet) (listed sheet found)) ≡ false
  listed-shut None = refl
  listed-shut (Some sum) =
      ap (list_any (λ b. b)) (map-map (close_under factors sheet) (member_of sum) (names_listed sheet sum))
      ∙ none-of (λ name. close_under factors sheet (member_of sum name)) (names_listed sheet sum) (member-shut sum)

  pub summed-shut : (node : Node) → is_some (first_sum node) ≡ true → close_under factors sheet node ≡ false
  summed-shut node some =
      close-equation factors sheet valid node
      ∙ ap₂ (λ a b. a || b) (no-choice factors sheet node some)
      (ap (λ ns. list_any (λ b. b) (map (close_under factors sheet) ns)) (sources-listed sheet node some)
      ∙ ap (list_any (λ b. b)) (map-append (close_under factors sheet) (listed sheet (first_sum node)) (listed sheet (second_sum node)))
      ∙ none-both (map (close_under factors sheet) (listed sheet (first_sum node))) (map (close_under factors sheet) (listed sheet (second_sum node)))
      (listed-shut (first_sum node)) (listed-shut (second_sum node)))

  block-shut : (book : Rolled) (sum : Sum) (level : Level) (i : ℕ)
      → worth_in (list_any (λ b. b)) (close_under factors sheet) book (block_point sum level i) ≡ false
  block-shut book sum levels.First i =
      none-of (λ name. close_under factors sheet (member_of sum name)) (part i (roll_in book sum)) (member-shut sum)
  block-shut book sum levels.Second i =
      none-of (λ j. list_any (λ b. b) (map (λ name. close_under factors sheet (member_of sum name)) (part j (roll_in book sum))))
      (part i (range_with_len 0 (parts (length (roll_in book sum)))))
      (λ j. none-of (λ name. close_under factors sheet (member_of sum name)) (part j (roll_in book sum)) (member-shut sum))

-- ---- figures that are known

of-option : (found : Option Figure) (worth : Worth) → option_map worth_of found ≡ Some worth
    → (option_map_or (λ (f : Figure). ends f.span) found (exact_ends (pos 0)) ≡ worth.worked) × (option_map_or (λ (f : Figure). f.close) found false ≡ worth.close)
of-option None worth h = absurd (no-some h)
of-option (Some f) worth h =
    let same : worth_of f ≡ worth = one-some h in (ap (λ (w : Worth). w.worked) same, ap (λ (w : Worth). w.close) same)

abbrev as-worth : Ends → Bool → Worth
as-worth a b = record { worked = a; close = b }

to-known : (figures : List Figure) (number : ℕ) (worth : Worth) → number < length figures → ends_at figures number ≡ worth.worked
    → is_open_at figures number ≡ worth.close → option_map worth_of (slice_get figures number) ≡ Some worth
to-known figures number worth low is shut =
    let f = got-row figures number low in
    let own : option_map worth_of (slice_get figures number) ≡ Some (worth_of f.0) = ap (option_map worth_of) f.1 in
    own ∙ ap₂ (λ (a : Ends) (b : Bool). Some (as-worth a b))
    (sym (ap (λ o. option_map_or (λ (f : Figure). ends f.span) o (exact_ends (pos 0))) f.1) ∙ is)
    (sym (ap (λ o. option_map_or (λ (f : Figure). f.close) o false) f.1) ∙ shut)

map-in : {X Y : Type 0} (f g : X → Y) (xs : List X) → ((x : X) → IsMember x xs → f x ≡ g x) → map f xs ≡ map g xs
map-in f g [] each = refl
map-in f g (x ∷ xs) each = ap₂ (λ y ys. y ∷ ys) (each x (inl refl)) (map-in f g xs (λ z h. each z (inr h)))

-- what a Block comes to that spans some of the members
spanned-worth : (worth : Node → Ends) (book : Rolled) (sum : Sum) (level : Level) (i : ℕ)
    → spanned_ends (map (λ name. worth (member_of sum name)) (roll_in book sum)) level i ≡ worth_in sum_ends worth book (block_point sum level i)
spanned-worth worth book sum levels.First i = ap sum_ends (part-map (λ name. worth (member_of sum name)) i (roll_in book sum))
spanned-worth worth book sum levels.Second i =
    ap sum_ends (
    ap (λ n. part i (map (λ j. sum_ends (part j own)) (range_with_len 0 (parts n)))) (length-map names one)
    ∙ ap (part i) (map-range (λ j. sum_ends (part j own)) (λ j. sum_ends (map one (part j names))) 0 (parts (length names))
    (λ j from to. ap sum_ends (part-map one j names)))
    ∙ part-map (λ j. sum_ends (map one (part j names))) i (range_with_len 0 (parts (length names))))
  where
    names : List (List ℕ)
    names = roll_in book sum

    one : List ℕ → Ends
    one name = worth (member_of sum name)

    own : List Ends
    own = map one names

module _ (ground : Ground) (g : IsGround ground) where
  abbrev At : Point → ℕ → Type 0
  At = StandsIn ground.inputs.book.now ground.places.now ground.lists.now

  abbrev Known : List Figure → (Point → Type 0) → Type 0
  Known figures P = AreKnownOf (book_reckoning ground.inputs.factors.now (rolled_of ground.inputs.book.now)) At figures P

  abbrev Has : List Figure → ℕ → Point → Type 0
  Has figures number point = HasFigure (book_reckoning ground.inputs.factors.now (rolled_of ground.inputs.book.now)) figures number point

  abbrev Member : (Sum → Type 0) → Point → Type 0
  Member P point = IsMemberOf (rolled_of ground.inputs.book.now) P point

  abbrev its_rolls : AreRolls (rolled_of ground.inputs.book.now)
  its_rolls = rolls (numbers_of ground) g.points g.valid

  -- ---- members

  pub members-weaker : (figures : List Figure) (P Q : Sum → Type 0) → ((sum : Sum) → Q sum → P sum) → AreMembersThere ground figures P
      → AreMembersThere ground figures Q
  members-weaker figures P Q step known =
      known-weaker (book_reckoning ground.inputs.factors.now (rolled_of ground.inputs.book.now)) At figures (Member P) (Member Q)
      (λ point live q. record { sum = q.sum; kind = step q.sum q.kind; name = q.name; there = q.there; is = q.is }) known

  pub members-kept : (old now : List Figure) (P Q : Sum → Type 0) → KeepsOffBlocks ground Q old now → AreMembersThere ground old P
      → AreMembersThere ground now P
  members-kept old now P Q kept known =
      known-off ground g old now Q (Member P) (λ block q p. no-block (member_of p.sum p.name) block p.is) kept known

  -- no figure of the balance sheet changes with Blocks
  pub figures-off : (old now : List Figure) (Q : Sum → Type 0) (P : Node → Type 0) → KeepsOffBlocks ground Q old now
      → AreKnownOf (reckoning_of ground.inputs.factors.now ground.inputs.book.now.sheet) (StandsAt ground.inputs.book.now.sheet ground.places.now) old P
      → AreKnownOf (reckoning_of ground.inputs.factors.now ground.inputs.book.now.sheet) (StandsAt ground.inputs.book.now.sheet ground.places.now) now P
  unfolding AreKnownOf
  figures-off old now Q P kept known = λ n m at alive p.
      ap (option_map worth_of) (kept.others m (λ block q there. no-block n block (g.points.numbers.exact m (points.Figure n) (points.Block block) at there)))
      ∙ known n m at alive p

  -- those of an earlier stage
  pub members-early : (figures : List Figure) (t : Turn) (P : Sum → Type 0) → ((sum : Sum) (name : List ℕ) → P sum → stage_of (member_of sum name) < t.stage)
      → AreKnownOf (reckoning_of ground.inputs.factors.now ground.inputs.book.now.sheet) (StandsAt ground.inputs.book.now.sheet ground.places.now) figures
      (IsBefore ground.inputs.book.now.sheet t)
      → AreMembersThere ground figures P
  unfolding AreKnownOf
  members-early figures t P early known = λ point m at alive q.
      subst (Has figures m) q.is
      (known (member_of q.sum q.name) m (subst (λ p. At p m) (sym q.is) at)
      (subst (λ p. is_live_in (rolled_of ground.inputs.book.now) p ≡ true) (sym q.is) alive) (inl (early q.sum q.name q.kind)))

  -- those of the sums of a figure whose turn it is
  pub members-there : (node : Node) (row : ℕ) → slice_get (names_in ground.inputs.book.now.sheet (table_of node)) row ≡ Some (name_of node)
      → is_live ground.inputs.book.now.sheet node ≡ true → is_some (first_sum node) ≡ true → 2 ≤ stage_of node → (figures : List Figure)
      → AreKnownOf (reckoning_of ground.inputs.factors.now ground.inputs.book.now.sheet) (StandsAt ground.inputs.book.now.sheet ground.places.now) figures
      (IsBefore ground.inputs.book.now.sheet (turn_of node row))
      → AreMembersThere ground figures (IsSumOf node)
  unfolding AreKnownOf
  members-there node row named live some high figures known = λ point m at alive q.
      subst (Has figures m) q.is
      (known (member_of q.sum q.name) m (subst (λ p. At p m) (sym q.is) at)
      (subst (λ p. is_live_in (rolled_of ground.inputs.book.now) p ≡ true) (sym q.is) alive)
      (at_member (IsBefore ground.inputs.book.now.sheet (turn_of node row)) (sources_of ground.inputs.book.now.sheet node) (member_of q.sum q.name)
      (sources-before ground.inputs.book.now.sheet g.valid node live row named high)
      (member-source (rolled_of ground.inputs.book.now) g.valid its_rolls q.sum q.name q.there node some q.kind)))

  -- ---- one sum

  module _ (sum : Sum) (live : reads ground.inputs.book.now.sheet sum ≡ true) (figures : List Figure)
      (members : AreMembersThere ground figures (λ s. s ≡ sum)) where
    abbrev names : List (List ℕ)
    names = roll_in (rolled_of ground.inputs.book.now) sum

    abbrev first_at : List ℕ → ℕ
    first_at name = first_of ground.inputs.book.now.sheet ground.places.now (roll_table (roll_of sum)) name

    abbrev own : List ℕ → Ends
    own name = worked ground.inputs.factors.now ground.inputs.book.now.sheet (member_of sum name)

    member-known : (name : List ℕ) → IsMember name names → Has figures (first_at name + family_in sum) (member_point sum name)
    unfolding AreKnownOf
    member-known name h =
        let there = Contains-from_IsMember names name h in
        members (member_point sum name) (first_at name + family_in sum) (member-stands (numbers_of ground) g.points g.valid sum live name there)
        (member-live (rolled_of ground.inputs.book.now) g.valid its_rolls sum name there live)
        (record { sum = sum; kind = refl; name = name; there = there; is = refl })

    pub members-worth : members_ends figures (family_in sum) (firsts_on (numbers_of ground) sum) ≡ map own names
    members-worth =
        ap (members_ends figures (family_in sum)) (firsts-are (numbers_of ground) g.points g.valid sum)
        ∙ map-map (λ first. ends_at figures (member_number (family_in sum) first)) first_at names
        ∙ map-in (λ name. ends_at figures (member_number (family_in sum) (first_at name))) own names
        (λ name h. (of-option (slice_get figures (first_at name + family_in sum))
        (point_worth ground.inputs.factors.now (rolled_of ground.inputs.book.now) (member_point sum name)) (member-known name h)).0)

    pub members-on : AreMembersOn (numbers_of ground) sum figures
    members-on =
        subst (AreTogether (2 ^ 124)) (sym members-worth)
        (members-small ground.inputs.factors.now ground.inputs.book.now g.valid its_rolls g.form sum live)

    pub sum-worth : sum_ends (members_ends figures (family_in sum) (firsts_on (numbers_of ground) sum)) ≡ sum_ends (map own names)
    sum-worth = ap sum_ends members-worth

    -- its Blocks come to what they are worth
    block-worth : (level : Level) (i : ℕ) → spanned_ends (members_ends figures (family_in sum) (firsts_on (numbers_of ground) sum)) level i
        ≡ worth_in sum_ends (worked ground.inputs.factors.now ground.inputs.book.now.sheet) (rolled_of ground.inputs.book.now) (block_point sum level i)
    block-worth level i =
        ap (λ es. spanned_ends es level i) members-worth
        ∙ spanned-worth (worked ground.inputs.factors.now ground.inputs.book.now.sheet) (rolled_of ground.inputs.book.now) sum level i

    abbrev shut : (level : Level) (i : ℕ) → worth_in (list_any (λ b. b)) (close_under ground.inputs.factors.now ground.inputs.book.now.sheet)
        (rolled_of ground.inputs.book.now) (block_point sum level i) ≡ false
    shut = block-shut ground.inputs.factors.now ground.inputs.book.now.sheet g.valid (rolled_of ground.inputs.book.now) sum

    -- once they are written they are there
    pub block-known : (now : List Figure) → length now ≡ ground.places.now.size → AreBlocksOn (numbers_of ground) sum figures now
        → (level : Level) (i m : ℕ) → At (block_point sum level i) m → is_live_in (rolled_of ground.inputs.book.now) (block_point sum level i) ≡ true
        → Has now m (block_point sum level i)
    block-known now long written level i m at alive =
        let low = block-low (length names) level i (and_parts _ _ alive).1 in
        to-known now m (point_worth ground.inputs.factors.now (rolled_of ground.inputs.book.now) (block_point sum level i))
        (let within = g.points.numbers.within (block_point sum level i) m at in omega (arith, within, long))
        (written.sums level i m low at ∙ block-worth level i)
        (written.settled level i m low at ∙ sym (shut level i))

    both : (a b : Bool) → a ≡ true → b ≡ true → (a && b) ≡ true
    both true b one other = other
    both false b one other = absurd (cc)

    its-figure : AreBlocksThere ground figures (λ s. s ≡ sum) → (level : Level) (i m : ℕ) → i < blocks_at (length names) level
        → At (block_point sum level i) m → Has figures m (block_point sum level i)
    unfolding AreKnownOf
    its-figure blocks level i m low at =
        blocks (block_point sum level i) m at
        (both (reads ground.inputs.book.now.sheet sum) (is_block (length names) level i) live (block-there (length names) level i low)) refl

    there : AreBlocksThere ground figures (λ s. s ≡ sum) → (level : Level) (i m : ℕ) → i < blocks_at (length names) level → At (block_point sum level i) m
        → (ends_at figures m ≡ worth_in sum_ends (worked ground.inputs.factors.now ground.inputs.book.now.sheet) (rolled_of ground.inputs.book.now) (block_point sum level i))
        × (is_open_at figures m ≡ worth_in (list_any (λ b. b)) (close_under ground.inputs.factors.now ground.inputs.book.now.sheet)
        (rolled_of ground.inputs.book.now) (block_point sum level i))
    there blocks level i m low at =
        of-option (slice_get figures m) (point_worth ground.inputs.factors.now (rolled_of ground.inputs.book.now) (block_point sum level i))
        (its-figure blocks level i m low at)

    -- and where they are there they are as if they had been written
    pub there-on : AreBlocksThere ground figures (λ s. s ≡ sum) → AreBlocksOn (numbers_of ground) sum figures figures
    there-on blocks = record {
      sums = λ level i m low at. (there blocks level i m low at).0 ∙ sym (block-worth level i);
      settled = λ level i m low at. (there blocks level i m low at).1 ∙ shut level i;
      same = refl;
    }

  -- ---- the Blocks of a sum that need not be there

  pub none-there : (figures : List Figure) (found : Option Sum) → found ≡ None → AreBlocksThere ground figures (λ s. found ≡ Some s)
  unfolding AreKnownOf
  none-there figures found none = λ point m at live q. none-of-it point m q
    where
      none-of-it : (point : Point) (m : ℕ) → IsBlockOf (λ s. found ≡ Some s) point → Has figures m point
      none-of-it (points.Figure node) m q = absurd q
      none-of-it (points.Block block) m q = absurd (no-some (sym none ∙ q))

  pub some-there : (old now : List Figure) (found : Option Sum) (sum : Sum) → found ≡ Some sum → reads ground.inputs.book.now.sheet sum ≡ true
      → AreMembersThere ground old (λ s. found ≡ Some s) → length now ≡ ground.places.now.size → AreBlocksOn (numbers_of ground) sum old now
      → AreBlocksThere ground now (λ s. found ≡ Some s)
  unfolding AreKnownOf
  some-there old now found sum is live members long written = λ point m at alive q. by point m at alive q
    where
      of-sum : (level : Level) (i m : ℕ) → At (block_point sum level i) m → is_live_in (rolled_of ground.inputs.book.now) (block_point sum level i) ≡ true
          → Has now m (block_point sum level i)
      of-sum =
          block-known sum live old (members-weaker old (λ s. found ≡ Some s) (λ s. s ≡ sum) (λ s e. is ∙ ap Some (sym e)) members) now long written

      by : (point : Point) (m : ℕ) → At point m → is_live_in (rolled_of ground.inputs.book.now) point ≡ true → IsBlockOf (λ s. found ≡ Some s) point
          → Has now m point
      by (points.Figure node) m at alive q = absurd q
      by (points.Block block) m at alive q =
          let same : sum ≡ block.sum = one-some (sym is ∙ q) in
          let own : block_point sum block.level block.index ≡ points.Block block = ap (λ s. block_point s block.level block.index) same in
          subst (Has now m) own
          (of-sum block.level block.index m (subst (λ p. At p m) (sym own) at)
          (subst (λ p. is_live_in (rolled_of ground.inputs.book.now) p ≡ true) (sym own) alive))

  pub off-found : (old now : List Figure) (found : Option Sum) (sum : Sum) → found ≡ Some sum → KeepsOffBlocksOn (numbers_of ground) sum old now
      → KeepsOffBlocks ground (λ s. found ≡ Some s) old now
  off-found old now found sum is kept = record {
    count = kept.count;
    others = λ number off. kept.others number (λ block same there. off block (is ∙ ap Some (sym same)) there);
  }

  pub off-none : (figures : List Figure) (P : Sum → Type 0) → KeepsOffBlocks ground P figures figures
  off-none figures P = record { count = refl; others = λ number off. refl }

  -- ---- both sums of a figure

  united : (figures : List Figure) (P Q : Sum → Type 0) → AreBlocksThere ground figures P → AreBlocksThere ground figures Q
      → AreBlocksThere ground figures (λ s. P s ⊎ Q s)
  unfolding AreKnownOf
  united figures P Q one other = λ point m at live q. by point m at live q
    where
      by : (point : Point) (m : ℕ) → At point m → is_live_in (rolled_of ground.inputs.book.now) point ≡ true → IsBlockOf (λ s. P s ⊎ Q s) point
          → Has figures m point
      by (points.Figure node) m at live q = absurd q
      by (points.Block block) m at live (inl p) = one (points.Block block) m at live p
      by (points.Block block) m at live (inr p) = other (points.Block block) m at live p

  pub both-there : (between now : List Figure) (node : Node)
      → AreBlocksThere ground between (λ s. first_sum node ≡ Some s) → KeepsOffBlocks ground (λ s. second_sum node ≡ Some s) between now
      → AreBlocksThere ground now (λ s. second_sum node ≡ Some s) → AreBlocksThere ground now (IsSumOf node)
  both-there between now node first kept second = united now (λ s. first_sum node ≡ Some s) (λ s. second_sum node ≡ Some s) still second
    where
      still : AreBlocksThere ground now (λ s. first_sum node ≡ Some s)
      still = known-off ground g between now (λ s. second_sum node ≡ Some s) (IsBlockOf (λ s. first_sum node ≡ Some s))
          (λ block q p. sums-differ node block.sum p q) kept first

  pub both-off : (old between now : List Figure) (node : Node) → is_reader node ≡ true → KeepsOffBlocks ground (λ s. first_sum node ≡ Some s) old between
      → KeepsOffBlocks ground (λ s. second_sum node ≡ Some s) between now → KeepsOffBlocks ground (λ s. reader_of s ≡ node) old now
  both-off old between now node is one other = record {
    count = other.count ∙ one.count;
    others = λ number off.
        other.others number (λ block e there. off block (its-reader node is block.sum (inr e)) there)
        ∙ one.others number (λ block e there. off block (its-reader node is block.sum (inl e)) there);
  }

  pub blocks-weaker : (figures : List Figure) (P Q : Sum → Type 0) → ((sum : Sum) → Q sum → P sum) → AreBlocksThere ground figures P
      → AreBlocksThere ground figures Q
  blocks-weaker figures P Q step known =
      known-weaker (book_reckoning ground.inputs.factors.now (rolled_of ground.inputs.book.now)) At figures (IsBlockOf P) (IsBlockOf Q)
      (λ point live q. by point q) known
    where
      by : (point : Point) → IsBlockOf Q point → IsBlockOf P point
      by (points.Figure node) q = q
      by (points.Block block) q = step block.sum q

  -- the Blocks of sums that another figure has read before
  pub earlier-there : (node : Node) (row : ℕ) (figures : List Figure)
      → Known figures (IsBlockBefore ground.inputs.book.now.sheet (turn_of node row))
      → ((sum : Sum) → IsSumOf node sum → (reader_of sum ≡ node → ⊥) → IsBefore ground.inputs.book.now.sheet (turn_of node row) (reader_of sum))
      → AreBlocksThere ground figures (λ sum. IsSumOf node sum × (reader_of sum ≡ node → ⊥))
  earlier-there node row figures known earlier =
      known-weaker (book_reckoning ground.inputs.factors.now (rolled_of ground.inputs.book.now)) At figures
      (IsBlockBefore ground.inputs.book.now.sheet (turn_of node row)) (IsBlockOf (λ sum. IsSumOf node sum × (reader_of sum ≡ node → ⊥)))
      (λ point alive q. by point q) known
    where
      by : (point : Point) → IsBlockOf (λ sum. IsSumOf node sum × (reader_of sum ≡ node → ⊥)) point
          → IsBlockBefore ground.inputs.book.now.sheet (turn_of node row) point
      by (points.Figure n) q = absurd q
      by (points.Block block) q = earlier block.sum q.0 q.1

  -- ---- the figure that is reckoned from them

  module _ (node : Node) (row number : ℕ)
      (named : slice_get (names_in ground.inputs.book.now.sheet (table_of node)) row ≡ Some (name_of node))
      (own : number ≡ first ground.places.now (table_of node) row + family_of node)
      (live : is_live ground.inputs.book.now.sheet node ≡ true) where
    abbrev t : Turn
    t = turn_of node row

    its_turn : TakesTurn ground.inputs.book.now.sheet t node
    its_turn = record { at = refl; row = named; family = refl }

    module _ (before between now : List Figure) (is : AreDoneTo ground before t t)
        (kept : KeepsOffBlocks ground (λ sum. reader_of sum ≡ node) before between)
        (blocks : AreBlocksThere ground between (IsSumOf node)) (figure : Figure)
        (right : worth_of figure ≡ worth_at ground.inputs.factors.now ground.inputs.book.now.sheet node)
        (count : length now ≡ length between) (put : slice_get now number ≡ Some figure)
        (others : (other : ℕ) → (other ≡ number → ⊥) → slice_get now other ≡ slice_get between other) where
      stood : StandsAt ground.inputs.book.now.sheet ground.places.now node number
      stood = its-number (link_ground ground) (for-links ground g) node row number named own live

      still-known : AreKnownOf (reckoning_of ground.inputs.factors.now ground.inputs.book.now.sheet)
          (StandsAt ground.inputs.book.now.sheet ground.places.now) between (IsBefore ground.inputs.book.now.sheet t)
      still-known =
          figures-off before between (λ sum. reader_of sum ≡ node) (IsBefore ground.inputs.book.now.sheet t) kept is.reckoned.known

      still-blocks : Known between (IsBlockBefore ground.inputs.book.now.sheet t)
      still-blocks =
          known-off ground g before between (λ sum. reader_of sum ≡ node) (IsBlockBefore ground.inputs.book.now.sheet t)
          (λ block reads early. not-before ground.inputs.book.now.sheet g.valid t node its_turn (subst (IsBefore ground.inputs.book.now.sheet t) reads early))
          kept is.blocks_there

      beside : (P : Point → Type 0) → ((n : Node) → P (points.Figure n) → ⊥) → Known between P → Known now P
      beside P none = blocks-beside ground g between now node number P none stood others

      pub summed-done : AreDoneTo ground now (next t) (next t)
      summed-done = record {
        reckoned = record {
          count = count ∙ (kept.count ∙ is.reckoned.count);
          known = reckoned-next ground.inputs.factors.now ground.inputs.book.now.sheet g.valid ground.places.now g.numbered g.numbers
              between now t node number still-known its_turn
              (record { at = stood; there = ap (option_map worth_of) put ∙ ap Some right; others = others });
        };
        blocks_there = blocks-next ground g now t node its_turn live
            (λ sum reads.
            blocks-weaker now (IsSumOf node) (λ s. s ≡ sum) (λ s e. read-own node s (ap reader_of e ∙ reads))
            (beside (IsBlockOf (IsSumOf node)) (λ n q. q) blocks))
            (beside (IsBlockBefore ground.inputs.book.now.sheet t) (λ n q. q) still-blocks);
      }
