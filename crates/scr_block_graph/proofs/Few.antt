-- A record touches at most four Blocks for each pair of a figure and a source that it makes or ends.
use Rattle.std.proofs.Common.{◌≡◌, ◌⊎◌, inl, inr, ℕ, ◌+◌, ◌*◌, ◌<◌, ◌≤◌, Bool, true, false, Contains, List, ◌++◌, Some, length, get_or, slice_get, map, refl, sym, ap, subst, ◌∙◌, arith}
use Rattle.std.specs.List.{IsDistinct, list_any, position_or_len}
use Rattle.std.specs.Option.{option_map}
use Rattle.std.proofs.lemmas.Bool.{cases_lt}
use Rattle.std.proofs.lemmas.List.{length-map}
use Rattle.std.proofs.lemmas.Option.{get_or_from_slice_get, same_Some, slice_get-get_or, slice_get-map, slice_get_within}
use Rattle.scr_factors.specs.Values.{FactorValues}
use Rattle.scr_funds.proofs.Members.{Contains-from_IsMember, IsMember, IsMember-from_Contains}
use Rattle.scr_tables.specs.Names.{same_name}
use Rattle.scr_sum_tree.specs.Blocks.{HasEachOnce, is_block, parts, width}
use Rattle.scr_sum_tree.specs.declared.blocks.Level.{Level}
use Rattle.scr_sum_tree.specs.declared.blocks.Level.TheVariants as levels
use Rattle.scr_sum_tree.proofs.BlockTests.{Decides-is_block_over}
use Rattle.scr_sum_tree.proofs.SameMembers.{names-once}
use Rattle.scr_sheet.specs.Members.{edit_name, is_member}
use Rattle.scr_sheet.specs.Records.{applied}
use Rattle.scr_sheet.specs.Validity.{Valid}
use Rattle.scr_sheet.specs.declared.edit.Edit.{Edit}
use Rattle.scr_nodes.specs.declared.node.Node.{Node}
use Rattle.scr_block_graph.specs.Graph.{AreRolls, IsRoll, Rolled, reads, roll_in}
use Rattle.scr_block_graph.specs.Sums.{member_of, reader_of, roll_of}
use Rattle.scr_block_graph.specs.Touched.{IsGainedOrLost, IsTouchedIn, applied_in}
use Rattle.scr_block_graph.specs.Turns.{changed_at, changed_by, count_after, step_of}
use Rattle.scr_block_graph.specs.declared.point.Block.{Block}
use Rattle.scr_block_graph.specs.declared.point.Point.TheVariants as points
use Rattle.scr_block_graph.specs.declared.sum.Sum.{Sum}
use Rattle.scr_block_graph.specs.declared.turns.Step.{Step}
use Rattle.scr_block_graph.proofs.Apart.{members-apart}
use Rattle.scr_block_graph.proofs.Fewer.{four, four-length, four-member, no-more}
use Rattle.scr_block_graph.proofs.Lives.{is-named}
use Rattle.scr_block_graph.proofs.Once.{at-place, behind, in-front, member-number, table_number}
use Rattle.scr_block_graph.proofs.Pairs.{one-sum, pair-is, pair-of}
use Rattle.scr_block_graph.proofs.Steps.{changed-few}
use Rattle.scr_block_graph.proofs.Turned.{blocks-in, length-after, turned-told}

-- ---- places

-- the first of the places that a Block spans is one of the list's
start-within : (count : ℕ) (level : Level) (i : ℕ) → is_block count level i ≡ true → width level * i < count
start-within count levels.First i there = let within = (Decides-is_block_over count i).0 there in omega (arith, within.1)
start-within count levels.Second i there =
    let within = (Decides-is_block_over (parts count) i).0 there in
    let first : 32 * i < parts count = omega (arith, within.1) in
    omega (arith, first)

-- a name stands at one place
same-place : (names : List (List ℕ)) → IsDistinct same_name names → (j k : ℕ) (name : List ℕ) → slice_get names j ≡ Some name
    → slice_get names k ≡ Some name → j ≡ k
same-place names distinct j k name one two = by (cases_lt j k) (cases_lt k j)
  where
    by : (j < k) ⊎ (k ≤ j) → (k < j) ⊎ (j ≤ k) → j ≡ k
    by (inl before) other = absurd (names-once names distinct j k before (slice_get_within names k name two) (one ∙ sym two))
    by (inr least) (inl before) = absurd (names-once names distinct k j before (slice_get_within names j name one) (two ∙ sym one))
    by (inr least) (inr most) = omega (arith, least, most)

abbrev level_slot : Level → ℕ
level_slot levels.First = 0
level_slot levels.Second = 1

level-few : (level : Level) → level_slot level < 4
level-few levels.First = omega arith
level-few levels.Second = omega arith

-- ---- Blocks told by their level and number, one by one

abbrev slotted : Level → ℕ → Level × ℕ
slotted level i = (level, i)

module _ (count : ℕ) (step : Step) where
  abbrev slots : List (Level × ℕ)
  slots = map (slotted levels.First) (changed_at count step levels.First) ++ map (slotted levels.Second) (changed_at count step levels.Second)

  mapped-at : (level : Level) (list : List ℕ) (k i : ℕ) → k < length list → get_or list k i ≡ i → slice_get (map (slotted level) list) k ≡ Some (slotted level i)
  mapped-at level list k i inside is =
      slice_get-map (slotted level) list k ∙ ap (option_map (slotted level)) (slice_get-get_or list k i inside ∙ ap Some is)

  slot-of : (level : Level) (i : ℕ) → Contains (changed_at count step level) i
      → (n : ℕ) × (n < length (changed_at count step levels.First) + length (changed_at count step levels.Second)) × (slice_get slots n ≡ Some (slotted level i))
  slot-of levels.First i h = (
    h.0,
    omega (arith, h.1),
    in-front (map (slotted levels.First) (changed_at count step levels.First)) (map (slotted levels.Second) (changed_at count step levels.Second)) h.0
        (omega (arith, h.1, length-map (changed_at count step levels.First) (slotted levels.First)))
        ∙ mapped-at levels.First (changed_at count step levels.First) h.0 i h.1 h.2,
  )
  slot-of levels.Second i h = (
    length (changed_at count step levels.First) + h.0,
    omega (arith, h.1),
    ap (λ n. slice_get slots (n + h.0)) (sym (length-map (changed_at count step levels.First) (slotted levels.First)))
        ∙ behind (map (slotted levels.First) (changed_at count step levels.First)) (map (slotted levels.Second) (changed_at count step levels.Second)) h.0
        (omega (arith, h.1, length-map (changed_at count step levels.Second) (slotted levels.Second)))
        ∙ mapped-at levels.Second (changed_at count step levels.Second) h.0 i h.1 h.2,
  )

module _ (edit : Edit) (book : Rolled) (rolls : AreRolls book) (later : AreRolls (applied_in edit book))
    (valid : Valid book.sheet) (valid-now : Valid (applied edit book.sheet)) where
  abbrev after : Rolled
  after = applied_in edit book

  roll-at : (sum : Sum) → IsRoll book (roll_of sum)
  roll-at sum = record { members = rolls.members (roll_of sum); once = rolls.once (roll_of sum) }

  abbrev step_in : Sum → Step
  step_in sum = step_of (is_member (roll_of sum) (edit_name edit) book.sheet) (is_member (roll_of sum) (edit_name edit) after.sheet)
      (position_or_len (same_name (edit_name edit)) (roll_in book sum))

  -- a Block under a sum, told by the name of a member and a number: one of those that change where the sum is read before and after,
  -- and else the one of its level that begins with the member
  abbrev SlotBy : (was is : Bool) → Sum → Level → ℕ → List ℕ → ℕ → Type 0
  SlotBy true true sum level i name n = slice_get (slots (length (roll_in book sum)) (step_in sum)) n ≡ Some (slotted level i)
  SlotBy true false sum level i name n = (n ≡ level_slot level) × (slice_get (roll_in book sum) (width level * i) ≡ Some name)
  SlotBy false true sum level i name n = (n ≡ level_slot level) × (slice_get (roll_in after sum) (width level * i) ≡ Some name)
  SlotBy false false sum level i name n = ⊥

  abbrev Slot : Sum → Level → ℕ → List ℕ → ℕ → Type 0
  Slot sum level i name n = SlotBy (reads book.sheet sum) (reads after.sheet sum) sum level i name n

  begins-alone : (names : List (List ℕ)) → IsDistinct same_name names → (one two : Level) (i j : ℕ) (name : List ℕ) → level_slot one ≡ level_slot two
      → slice_get names (width one * i) ≡ Some name → slice_get names (width two * j) ≡ Some name → slotted one i ≡ slotted two j
  begins-alone names distinct levels.First levels.First i j name same a b =
      let at = same-place names distinct (32 * i) (32 * j) name a b in
      let number : i ≡ j = omega (arith, at) in ap (slotted levels.First) number
  begins-alone names distinct levels.Second levels.Second i j name same a b =
      let at = same-place names distinct (1024 * i) (1024 * j) name a b in
      let number : i ≡ j = omega (arith, at) in ap (slotted levels.Second) number
  begins-alone names distinct levels.First levels.Second i j name same a b = absurd (omega (arith, same))
  begins-alone names distinct levels.Second levels.First i j name same a b = absurd (omega (arith, same))

  slot-alone : (s t : Bool) (sum : Sum) (one two : Level) (i j : ℕ) (name : List ℕ) (n : ℕ) → SlotBy s t sum one i name n → SlotBy s t sum two j name n
      → slotted one i ≡ slotted two j
  slot-alone true true sum one two i j name n a b = same_Some (slotted one i) (slotted two j) (sym a ∙ b)
  slot-alone true false sum one two i j name n a b =
      begins-alone (roll_in book sum) (rolls.once (roll_of sum)) one two i j name (sym a.0 ∙ b.0) a.1 b.1
  slot-alone false true sum one two i j name n a b =
      begins-alone (roll_in after sum) (later.once (roll_of sum)) one two i j name (sym a.0 ∙ b.0) a.1 b.1
  slot-alone false false sum one two i j name n a b = absurd a

  -- a Block by a pair of a figure and a source, and a number
  record At (block : Block) (code : (Node × Node) × ℕ) : Type 0 where
    name : List ℕ
    reader : code.0.0 ≡ reader_of block.sum
    member : code.0.1 ≡ member_of block.sum name
    slot : Slot block.sum block.level block.index name code.1

  alone : (one two : Block) (code : (Node × Node) × ℕ) → At one code → At two code → one ≡ two
  alone one two code a b = λ k. record { sum = sum k; level = (same k).0; index = (same k).1 }
    where
      members : member_of one.sum a.name ≡ member_of two.sum b.name
      members = sym a.member ∙ b.member

      sum : one.sum ≡ two.sum
      sum = one-sum one.sum two.sum (sym a.reader ∙ b.reader)
          (sym (member-number one.sum a.name) ∙ ap table_number members ∙ member-number two.sum b.name)

      name : a.name ≡ b.name
      name = members-apart two.sum a.name b.name (ap points.Figure (subst (λ s. member_of s a.name ≡ member_of two.sum b.name) sum members))

      same : slotted one.level one.index ≡ slotted two.level two.index
      same = slot-alone (reads book.sheet two.sum) (reads after.sheet two.sum) two.sum one.level two.level one.index two.index b.name code.1
          (subst (λ n. Slot two.sum one.level one.index n code.1) name (subst (λ s. Slot s one.level one.index a.name code.1) sum a.slot)) b.slot

  -- ---- each Block that the record touches has such a code

  Coded : Block → Type 0
  Coded block = (name : List ℕ) × IsGainedOrLost book.sheet after.sheet (reader_of block.sum) (member_of block.sum name)
      × (n : ℕ) × (n < 4) × Slot block.sum block.level block.index name n

  at-member : (names : List (List ℕ)) (place : ℕ) (name : List ℕ) → slice_get names place ≡ Some name → list_any (same_name name) names ≡ true
  at-member names place name at =
      is-named name names (IsMember-from_Contains names name (place, slice_get_within names place name at, get_or_from_slice_get names place name name at))

  moved : (w v : Bool) (sum : Sum) (level : Level) (i place : ℕ) → is_member (roll_of sum) (edit_name edit) book.sheet ≡ w
      → is_member (roll_of sum) (edit_name edit) after.sheet ≡ v → reads book.sheet sum ≡ true → reads after.sheet sum ≡ true
      → Contains (changed_at (length (roll_in book sum)) (step_of w v place) level) i
      → IsGainedOrLost book.sheet after.sheet (reader_of sum) (member_of sum (edit_name edit))
  moved true true sum level i place was is e d h = absurd (omega (arith, h.1))
  moved false false sum level i place was is e d h = absurd (omega (arith, h.1))
  moved false true sum level i place was is e d h = inr (
    pair-of after.sheet valid-now sum (edit_name edit) d is,
    λ pair. let never : false ≡ true = sym was ∙ (pair-is book.sheet valid sum (edit_name edit) pair).1 in absurd (cc),
  )
  moved true false sum level i place was is e d h = inl (
    pair-of book.sheet valid sum (edit_name edit) e was,
    λ pair. let never : false ≡ true = sym is ∙ (pair-is after.sheet valid-now sum (edit_name edit) pair).1 in absurd (cc),
  )

  coded : (factors : FactorValues) (block : Block) → IsTouchedIn factors book edit (points.Block block) → Coded block
  unfolding Coded
  coded factors block touched =
      by (reads book.sheet block.sum) refl (reads after.sheet block.sum) refl ((turned-told edit book block.sum (roll-at block.sum) factors block.level block.index).1 touched)
    where
      to-slot : (s t : Bool) → reads book.sheet block.sum ≡ s → reads after.sheet block.sum ≡ t → (name : List ℕ) (n : ℕ)
          → SlotBy s t block.sum block.level block.index name n → Slot block.sum block.level block.index name n
      to-slot s t e d name n slot = subst (λ u. SlotBy u (reads after.sheet block.sum) block.sum block.level block.index name n) (sym e)
          (subst (λ u. SlotBy s u block.sum block.level block.index name n) (sym d) slot)

      by : (s : Bool) → reads book.sheet block.sum ≡ s → (t : Bool) → reads after.sheet block.sum ≡ t
          → Contains (changed_by s t (length (roll_in book block.sum)) (step_in block.sum) block.level) block.index
          → (name : List ℕ) × IsGainedOrLost book.sheet after.sheet (reader_of block.sum) (member_of block.sum name)
          × (n : ℕ) × (n < 4) × Slot block.sum block.level block.index name n
      by true e true d h =
          let slot = slot-of (length (roll_in book block.sum)) (step_in block.sum) block.level block.index h in
          let few = changed-few (length (roll_in book block.sum)) (is_member (roll_of block.sum) (edit_name edit) book.sheet) (is_member (roll_of block.sum) (edit_name edit) after.sheet)
          (position_or_len (same_name (edit_name edit)) (roll_in book block.sum)) in (
            edit_name edit,
            moved (is_member (roll_of block.sum) (edit_name edit) book.sheet) (is_member (roll_of block.sum) (edit_name edit) after.sheet)
                block.sum block.level block.index (position_or_len (same_name (edit_name edit)) (roll_in book block.sum)) refl refl e d h,
            slot.0,
            omega (arith, slot.1, few),
            to-slot true true e d (edit_name edit) slot.0 slot.2,
          )
      by true e false d h =
          let there = (blocks-in (length (roll_in book block.sum)) block.level block.index).0 h in
          let x = at-place (roll_in book block.sum) (width block.level * block.index) (start-within (length (roll_in book block.sum)) block.level block.index there) in (
            x.0,
            inl (
              pair-of book.sheet valid block.sum x.0 e
                  (sym (rolls.members (roll_of block.sum) x.0) ∙ at-member (roll_in book block.sum) (width block.level * block.index) x.0 x.1),
              λ pair. let never : false ≡ true = sym d ∙ (pair-is after.sheet valid-now block.sum x.0 pair).0 in absurd (cc),
            ),
            level_slot block.level,
            level-few block.level,
            to-slot true false e d x.0 (level_slot block.level) (refl, x.1),
          )
      by false e true d h =
          let there = (blocks-in (count_after (length (roll_in book block.sum)) (step_in block.sum)) block.level block.index).0 h in
          let start = start-within (count_after (length (roll_in book block.sum)) (step_in block.sum)) block.level block.index there in
          let x = at-place (roll_in after block.sum) (width block.level * block.index) (omega (arith, start, length-after edit book block.sum (roll-at block.sum))) in (
            x.0,
            inr (
              pair-of after.sheet valid-now block.sum x.0 d
                  (sym (later.members (roll_of block.sum) x.0) ∙ at-member (roll_in after block.sum) (width block.level * block.index) x.0 x.1),
              λ pair. let never : false ≡ true = sym e ∙ (pair-is book.sheet valid block.sum x.0 pair).0 in absurd (cc),
            ),
            level_slot block.level,
            level-few block.level,
            to-slot false true e d x.0 (level_slot block.level) (refl, x.1),
          )
      by false e false d h = absurd (omega (arith, h.1))

  pub few-touched : (factors : FactorValues) (blocks : List Block) → HasEachOnce blocks
      → ((block : Block) → Contains blocks block → IsTouchedIn factors book edit (points.Block block))
      → (pairs : List (Node × Node)) → ((node source : Node) → IsGainedOrLost book.sheet after.sheet node source → Contains pairs (node, source))
      → length blocks ≤ 4 * length pairs
  unfolding Coded
  few-touched factors blocks once touched pairs all =
      omega (arith, four-length pairs, no-more At alone blocks once (four pairs) each)
    where
      each : (block : Block) → IsMember block blocks → (code : (Node × Node) × ℕ) × IsMember code (four pairs) × At block code
      each block h =
          let code = coded factors block (touched block (in-list block h)) in (
            ((reader_of block.sum, member_of block.sum code.0), code.2),
            four-member (reader_of block.sum, member_of block.sum code.0) pairs code.2
                (IsMember-from_Contains pairs (reader_of block.sum, member_of block.sum code.0) (all (reader_of block.sum) (member_of block.sum code.0) code.1)) code.3,
            record { name = code.0; reader = refl; member = refl; slot = code.4 },
          )
        where
          in-list : (block : Block) → IsMember block blocks → Contains blocks block
          in-list block h = Contains-from_IsMember blocks block h
