-- Squares that are still are right as they stand.
use Rattle.std.proofs.Common.{◌≡◌, ◌||◌, inl, inr, ℕ, zero, suc, ◌+◌, ◌-◌, ◌<◌, ◌≤◌, Bool, false, All, List, [], ◌∷◌, length, drop, get_or, set, pos, Some, slice_get, refl, sym, ap, ap₂, subst, ◌∙◌, arith}
use Rattle.std.specs.Prelude.{◌≤ℤ◌, ℤ, negsuc, slice_index}
use Rattle.std.proofs.lemmas.Bool.{cases_lt}
use Rattle.std.proofs.lemmas.Int.{ints}
use Rattle.std.proofs.lemmas.List.{get_or-drop, length-drop}
use Rattle.std.proofs.lemmas.Option.{slice_get-get_or, slice_get_within}
use Rattle.scr_num.specs.Rounding.{ends, exact_ends, or_zero}
use Rattle.scr_factors.specs.Values.{IsInForm}
use Rattle.scr_conc.specs.Scales.{IsFree}
use Rattle.scr_conc.specs.Thresholds.{factor_units, step_of, threshold_units}
use Rattle.scr_conc.specs.ConcentrationEnds.{square_units}
use Rattle.scr_conc.proofs.Scales.{free-square}
use Rattle.scr_sheet.specs.declared.rows.Group.{Group}
use Rattle.scr_ids.specs.Ranges.{first}
use Rattle.scr_ids.specs.declared.table.Table.TheVariants as ranged
use Rattle.scr_nodes.specs.Sources.{concentration_square}
use Rattle.scr_reachability.proofs.Placed.{get-contains}
use Rattle.scr_rules.specs.ByRow.{by_rule}
use Rattle.scr_rules.specs.Rules.{amount_of}
use Rattle.scr_rules.proofs.GroupRows.{square-by-rule, square-fits as group-fits}
use Rattle.scr_partial_sums.specs.Tables.{IsAmountBeforeNothing, nothing}
use Rattle.scr_partial_sums.specs.declared.figure.Figure.{Figure}
use Rattle.scr_block_graph.specs.declared.point.Point.TheVariants as points
use Rattle.scr_tree.specs.AssetScales.{IsScaleOn}
use Rattle.scr_tree.specs.Ready.{AreInTurnOn, AreKnownBut, IsBasis, IsReadyOn, IsRightOn, IsSquareOn, reckoning_on, square_number}
use Rattle.scr_tree.specs.SquareRun.{IsSquareAtOn, IsSquareRunOn}
use Rattle.scr_tree.specs.Still.{AreAllWithin, AreNext, ArePassed, AreStillOn, ComeStill, IsTotalWithin}
use Rattle.scr_tree.specs.declared.basis.Basis.{Basis}
use Rattle.scr_tree.specs.declared.reckoning.AssetScale.{AssetScale}
use Rattle.scr_tree.specs.declared.reckoning.Stillness.{Stillness}
use Rattle.scr_tree.proofs.Journaled.{same-written}
use Rattle.scr_tree.proofs.SquareRow.{square-fits, square-right, square-row, square-stands, total-right}
use Rattle.scr_tree.proofs.SquareRun.{known-more, next-ready, run-over}
use Rattle.scr_tree.proofs.Upright.{book-up}

pub row-group : (groups : List Group) (row : ℕ) → row < length groups → (group : Group) × (slice_get groups row ≡ Some group)
row-group [] row some = absurd (omega (arith, some))
row-group (group ∷ rest) zero some = (group, refl)
row-group (group ∷ rest) (suc row) some = row-group rest row (omega (arith, some))

-- an amount counts as it stands
small-amount : (low : ℤ) (most : ℕ) → pos 0 ≤ℤ low → low ≤ℤ pos most → or_zero low ≤ most
small-amount (pos n) most from upto = omega (arith, ints, upto)
small-amount (negsuc n) most from upto = omega arith

module _ (b : Basis) (is : IsBasis b) (assets : AssetScale) (m : IsScaleOn b assets) (form : IsInForm b.inputs.factors.now)
    (most : ℕ) (free : IsFree assets.scale most) (figures : List Figure) where
  still-right : (row number : ℕ) → assets.close ≡ false → IsSquareOn b row number → IsReadyOn b figures number
      → IsAmountBeforeNothing most figures (number - 1) → IsRightOn b number nothing
  still-right row number settled one ready still = λ point at.
      square-right b is row group got number one figures ready m.assets total m.worth still.here form nothing.span false rule_is rests
      ∙ ap (reckoning_on b).worth (is.graph.numbers_of.numbers.exact number (points.Figure (concentration_square group)) point
      (square-stands b is row group got number one) at)
    where
      found : (group : Group) × (slice_get b.inputs.book.now.sheet.groups row ≡ Some group)
      found = row-group b.inputs.book.now.sheet.groups row one.0

      group : Group
      group = found.0

      got : slice_get b.inputs.book.now.sheet.groups row ≡ Some group
      got = found.1

      total : Figure
      total = still.figure

      low_step : step_of group.step ≤ 6
      low_step = (group-fits b.inputs.book.now.sheet group (square-row b is row group got number one) b.inputs.factors.now (ends m.assets.span ∷ ends total.span ∷ [])
          (square-fits b is row group got number one figures ready m.assets total m.worth still.here form)).at_most_6

      none : 0 ≡ square_units (amount_of (ends m.assets.span)) (amount_of (ends total.span)) (threshold_units group.kind group.step) (factor_units group.kind group.step)
      none = free-square (amount_of (ends m.assets.span)) most (amount_of (ends total.span)) group.kind group.step
          (subst (λ base. IsFree base most) (sym m.cents) free)
          (small-amount total.span.low most still.amount.not_negative still.amount.few) low_step

      rule_is : ends nothing.span ≡ by_rule b.inputs.factors.now b.inputs.book.now.sheet [] (concentration_square group) (ends m.assets.span ∷ ends total.span ∷ [])
      rule_is = square-by-rule b.inputs.book.now.sheet group (square-row b is row group got number one) b.inputs.factors.now (ends m.assets.span) (ends total.span)
          (ends nothing.span) (ap (λ (n : ℕ). exact_ends (pos n)) none)

      rests : false ≡ (m.assets.close || total.close)
      rests = ap₂ (λ (x : Bool) (y : Bool). x || y) (sym settled ∙ m.close) (sym still.amount.settled)

  -- and the group's total is of at most so many cents
  still-total : (row number : ℕ) → IsSquareOn b row number → IsReadyOn b figures number → IsAmountBeforeNothing most figures (number - 1)
      → IsTotalWithin b most row
  still-total row number one ready still =
      let found = row-group b.inputs.book.now.sheet.groups row one.0 in
      let square = one.1 in
      let before : number - 1 ≡ first b.places.now ranged.Group row = omega (arith, square) in (
        still.figure,
        still.amount,
        subst (λ n. IsRightOn b n still.figure) before (total-right b is row found.0 found.1 number one figures ready still.figure still.here),
      )

  -- all are known when so many more are passed over
  still-known : (numbers : List ℕ) → AreInTurnOn b numbers → b.places.now.size ≤ length figures → (next row many : ℕ)
      → ((j : ℕ) → j < many → assets.close ≡ false) → ((j : ℕ) → j < many → IsSquareAtOn b (row + j) numbers (next + j))
      → ((j : ℕ) → j < many → IsAmountBeforeNothing most figures (square_number b (row + j) - 1))
      → AreKnownBut b figures (drop next numbers) → AreKnownBut b figures (drop (next + many) numbers)
  still-known numbers turn room next row zero settled at still known =
      let same : next ≡ next + 0 = omega arith in subst (λ n. AreKnownBut b figures (drop n numbers)) same known
  still-known numbers turn room next row (suc many) settled at still known =
      let before : AreKnownBut b figures (drop (next + many) numbers) =
      still-known numbers turn room next row many (λ j low. settled j (omega (arith, low))) (λ j low. at j (omega (arith, low)))
      (λ j low. still j (omega (arith, low))) known in
      let number = square_number b (row + many) in
      let there = at many (omega arith) in
      let own = still many (omega arith) in
      let right : IsRightOn b number nothing =
      still-right (row + many) number (settled many (omega arith)) (there.0, refl)
      (next-ready b is numbers turn (next + many) figures number there.1 before) own in
      let one_up : number - 1 + 1 ≡ number = omega arith in
      let here : slice_get figures number ≡ Some nothing = subst (λ n. slice_get figures n ≡ Some nothing) one_up own.next in
      let same : next + many + 1 ≡ next + suc many = omega arith in
      subst (λ n. AreKnownBut b figures (drop n numbers)) same
      (subst (λ (now : List Figure). AreKnownBut b now (drop (next + many + 1) numbers)) (same-written figures number nothing here)
      (known-more b is numbers turn (next + many) figures number there.1 nothing right room before))

-- ---- told of all at once

-- fewer cents than such that are above no threshold are above none
pub free-less : (assets most fewer : ℕ) → fewer ≤ most → IsFree assets most → IsFree assets fewer
free-less assets most fewer few free = λ kind step low. let within = free kind step low in omega (arith, few, within)

-- where the squares of all groups come next as many numbers are left
pub next-left : (firsts numbers : List ℕ) → AreNext firsts numbers → length firsts ≤ length numbers
next-left firsts numbers next = elim (cases_lt 0 (length firsts)) [
  | inl some ↦
      (let last = length firsts - 1 in
      let at = next last (omega (arith, some)) in
      let low = slice_get_within numbers last (slice_index firsts last + 1) at in
      omega (arith, some, low))
  | inr none ↦ omega (arith, none)
]

-- so they are still by a ceiling of the totals
pub all-still : (figures : List Figure) (most : ℕ) (firsts numbers : List ℕ) → AreNext firsts numbers
    → AreAllWithin figures firsts most → ComeStill figures most firsts numbers (length firsts)
all-still figures most firsts numbers next each = record {
  few = omega arith;
  left = next-left firsts numbers next;
  come = next;
  each = each;
}

-- ---- a walk over the squares

-- all that are left are within the figures
pub left-within : (b : Basis) → IsBasis b → (numbers : List ℕ) → AreInTurnOn b numbers → (next many : ℕ) → b.places.now.size ≤ many
    → All (λ number. number < many) (drop next numbers)
left-within b is numbers turn next many room = λ i d low.
    let rest = length-drop next numbers in
    let number = get_or numbers (next + i) d in
    let at : slice_get numbers (next + i) ≡ Some number = slice_get-get_or numbers (next + i) d (omega (arith, low, rest)) in
    let live = turn.each number (get-contains numbers (next + i) number at) in
    let within : number < b.places.now.size = (book-up b is).numbers.within live.0 number live.1 in
    subst (λ n. n < many) (sym (get_or-drop next numbers i d)) (omega (arith, within, room))

-- the first numbers from a row on are
pub firsts-low : (firsts : List ℕ) (row many : ℕ) → ((k : ℕ) → k < length firsts → slice_index firsts k + 1 < many)
    → All (λ n. n + 1 < many) (drop row firsts)
firsts-low firsts row many low = λ i d within.
    let rest = length-drop row firsts in
    let in_row : row + i < length firsts = omega (arith, within, rest) in
    subst (λ n. n + 1 < many) (sym (get_or-drop row firsts i d ∙ get_or_default-eq firsts (row + i) d 0 in_row)) (low (row + i) in_row)
  where
    get_or_default-eq : (xs : List ℕ) (i d e : ℕ) → i < length xs → get_or xs i d ≡ get_or xs i e
    get_or_default-eq [] i d e low = absurd (omega (arith, low))
    get_or_default-eq (x ∷ xs) zero d e low = refl
    get_or_default-eq (x ∷ xs) (suc i) d e low = get_or_default-eq xs i d e (omega (arith, low))

-- the squares of the first rows, so many, come from one place of the numbers up to another, and all figures are known but of what is left
pub record IsWalked (b : Basis) (numbers : List ℕ) (start row next : ℕ) (figures : List Figure) : Type 0 where
  pub count : next ≡ start + row
  pub each : (other : ℕ) → other < row → IsSquareAtOn b other numbers (start + other)
  pub known : AreKnownBut b figures (drop next numbers)

-- none so far
pub walked-none : (b : Basis) (numbers : List ℕ) (start : ℕ) (figures : List Figure) → AreKnownBut b figures (drop start numbers)
    → IsWalked b numbers start 0 start figures
walked-none b numbers start figures known = record {
  count = omega arith;
  each = λ other low. absurd (omega (arith, low));
  known = known;
}

get-drop : (k : ℕ) (xs : List ℕ) (i : ℕ) → slice_get (drop k xs) i ≡ slice_get xs (k + i)
get-drop zero xs i = let same : i ≡ 0 + i = omega arith in ap (slice_get xs) same
get-drop (suc k) [] i = refl
get-drop (suc k) (x ∷ xs) i = let same : suc (k + i) ≡ suc k + i = omega arith in get-drop k xs i ∙ ap (slice_get (x ∷ xs)) same

module _ (b : Basis) (is : IsBasis b) (numbers : List ℕ) (turn : AreInTurnOn b numbers) (start row next : ℕ) (figures : List Figure)
    (room : b.places.now.size ≤ length figures) (walked : IsWalked b numbers start row next figures) where
  -- on over squares that are still
  pub walked-on : (assets : AssetScale) → IsScaleOn b assets → IsInForm b.inputs.factors.now → (firsts : List ℕ)
      → length firsts ≡ length b.inputs.book.now.sheet.groups
      → ((k : ℕ) → k < length firsts → slice_index firsts k ≡ first b.places.now ranged.Group k)
      → (stood : Stillness) → ArePassed assets figures (drop row firsts) (drop next numbers) stood
      → IsWalked b numbers start (row + stood.many) (next + stood.many) figures
  walked-on assets m form firsts long of stood passed = record {
    count = omega (arith, walked.count);
    each = λ other low. elim (cases_lt other row) [
      | inl before ↦ walked.each other before
      | inr not ↦
          (let far = walked.count in
          let back : other ≡ row + (other - row) = omega (arith, not) in
          let place : next + (other - row) ≡ start + other = omega (arith, not, far) in
          subst (λ k. IsSquareAtOn b k numbers (start + other)) (sym back)
          (subst (IsSquareAtOn b (row + (other - row)) numbers) place (at (other - row) (omega (arith, low, not)))))
    ];
    known = still-known b is assets m form stood.most passed.free figures numbers turn room next row stood.many passed.settled at still walked.known;
  }
    where
      own : (j : ℕ) → j < stood.many → slice_index (drop row firsts) j + 1 ≡ square_number b (row + j)
      own j low =
          let few = passed.still.few in
          let rest = length-drop row firsts in
          ap (λ n. n + 1) (get_or-drop row firsts j 0 ∙ of (row + j) (omega (arith, low, few, rest)))

      at : (j : ℕ) → j < stood.many → IsSquareAtOn b (row + j) numbers (next + j)
      at j low =
          let few = passed.still.few in
          let rest = length-drop row firsts in (
            omega (arith, low, few, rest, long),
            sym (get-drop next numbers j) ∙ passed.still.come j low ∙ ap Some (own j low),
          )

      still : (j : ℕ) → j < stood.many → IsAmountBeforeNothing stood.most figures (square_number b (row + j) - 1)
      still j low =
          let is_own = own j low in
          subst (IsAmountBeforeNothing stood.most figures) (omega (arith, is_own)) (passed.still.each j low)

  -- on over the next, which is written
  pub walked-more : (number : ℕ) (figure : Figure) → IsSquareAtOn b row numbers next → slice_get numbers next ≡ Some number → IsRightOn b number figure
      → IsWalked b numbers start (row + 1) (next + 1) (set figures number figure)
  walked-more number figure own at right = record {
    count = omega (arith, walked.count);
    each = λ other low. elim (cases_lt other row) [
      | inl before ↦ walked.each other before
      | inr not ↦
          (let far = walked.count in
          let same : row ≡ other = omega (arith, low, not) in
          let place : next ≡ start + other = omega (arith, far, same) in
          subst (λ k. IsSquareAtOn b k numbers (start + other)) same (subst (IsSquareAtOn b row numbers) place own))
    ];
    known = known-more b is numbers turn next figures number at figure right room walked.known;
  }

-- and no further
pub walked-run : (b : Basis) (numbers : List ℕ) (start row next : ℕ) (figures : List Figure) → IsWalked b numbers start row next figures
    → IsSquareAtOn b 0 numbers start → (IsSquareAtOn b row numbers next → ⊥) → IsSquareRunOn b numbers start next
walked-run b numbers start row next figures walked first not = run-over b numbers start next row walked.count first walked.each not

-- where as many squares are still as there are groups, all come to nothing, and no total is above so many cents
module _ (b : Basis) (is : IsBasis b) (assets : AssetScale) (m : IsScaleOn b assets) (form : IsInForm b.inputs.factors.now) (numbers : List ℕ)
    (turn : AreInTurnOn b numbers) (next : ℕ) (figures : List Figure) (room : b.places.now.size ≤ length figures)
    (known : AreKnownBut b figures (drop next numbers)) (firsts : List ℕ) (long : length firsts ≡ length b.inputs.book.now.sheet.groups)
    (of : (k : ℕ) → k < length firsts → slice_index firsts k ≡ first b.places.now ranged.Group k) where
  pub still-all : (stood : Stillness) → ArePassed assets figures firsts (drop next numbers) stood → stood.many ≡ length firsts → AreStillOn b stood.most
  still-all stood passed all = record {
    totals = λ row within.
        let low : row < stood.many = omega (arith, within, all, long) in
        still-total b is assets m form stood.most passed.free figures row (square_number b row) (within, refl) (ready row low) (amount row low);
    squares = λ row number one.
        let within = one.0 in
        let low : row < stood.many = omega (arith, within, all, long) in
        subst (λ n. IsRightOn b n nothing) one.1
        (still-right b is assets m form stood.most passed.free figures row (square_number b row) (passed.settled row low) (within, refl) (ready row low)
        (amount row low));
  }
    where
      known-at : (row : ℕ) → row < stood.many → AreKnownBut b figures (drop (next + row) numbers)
      known-at row low =
          still-known b is assets m form stood.most passed.free figures numbers turn room next 0 row
          (λ j less. passed.settled j (omega (arith, less, low)))
          (λ j less. at j (omega (arith, less, low)))
          (λ j less. subst (IsAmountBeforeNothing stood.most figures)
          (let is_own = own j (omega (arith, less, low)) in omega (arith, is_own)) (passed.still.each j (omega (arith, less, low)))) known
        where
          own : (j : ℕ) → j < stood.many → slice_index firsts j + 1 ≡ square_number b (0 + j)
          own j less = ap (λ n. n + 1) (of j (omega (arith, less, all)) ∙ (let same : j ≡ 0 + j = omega arith in ap (first b.places.now ranged.Group) same))

          at : (j : ℕ) → j < stood.many → IsSquareAtOn b (0 + j) numbers (next + j)
          at j less = (
            omega (arith, less, all, long),
            sym (get-drop next numbers j) ∙ passed.still.come j less ∙ ap Some (own j less),
          )

      square-at : (row : ℕ) → row < stood.many → slice_get numbers (next + row) ≡ Some (square_number b row)
      square-at row low =
          sym (get-drop next numbers row) ∙ passed.still.come row low ∙ ap (λ n. Some (n + 1)) (of row (omega (arith, low, all)))

      ready : (row : ℕ) → row < stood.many → IsReadyOn b figures (square_number b row)
      ready row low =
          next-ready b is numbers turn (next + row) figures (square_number b row) (square-at row low) (known-at row low)

      amount : (row : ℕ) → row < stood.many → IsAmountBeforeNothing stood.most figures (square_number b row - 1)
      amount row low =
          let own = of row (omega (arith, low, all)) in
          subst (IsAmountBeforeNothing stood.most figures) (omega (arith, own)) (passed.still.each row low)
