-- The families of figures in an order in which the sources of a figure stand in earlier families than it.
use Rattle.std.proofs.Common.{◌≡◌, ◌⊎◌, inl, inr, ℕ, zero, suc, ◌+◌, ◌*◌, ◌<◌, ◌≤◌, ◌==◌, Bool, true, false, not, ◌&&◌, List, [], ◌∷◌, ◌++◌, map, Some, slice_get, refl, sym, ap, subst, ◌∙◌, arith}
use Rattle.std.specs.List.{AllByRecursion, list_all}
use Rattle.std.proofs.lemmas.Bool.{eqb-true, eq-eqb}
use Rattle.scr_funds.proofs.Members.{IsMember, IsMember-cases, at_member, each_weaker}
use Rattle.scr_profile.specs.declared.segment.Segment.TheVariants as segments
use Rattle.scr_sheet.specs.declared.{keys.Projection.Projection}
use Rattle.scr_sheet.specs.declared.keys.Projection.TheVariants as projections
use Rattle.scr_nodes.specs.declared.{node.Node.Node}
use Rattle.scr_nodes.specs.declared.node.Alternatives.TheVariants as alternatives
use Rattle.scr_nodes.specs.declared.node.Biometric.TheVariants as biometrics
use Rattle.scr_nodes.specs.declared.node.Node.TheVariants as nodes
use Rattle.scr_nodes.specs.declared.node.OfFund.TheVariants as of_funds
use Rattle.scr_nodes.specs.declared.node.OfSecurity.TheVariants as of_securities
use Rattle.scr_nodes.specs.declared.node.OfLiability.TheVariants as of_liabilities
use Rattle.scr_nodes.specs.declared.node.OfCurrency.TheVariants as of_currencies
use Rattle.scr_nodes.specs.declared.node.OfGroup.TheVariants as of_groups
use Rattle.scr_nodes.specs.declared.node.Whole.TheVariants as wholes
use Rattle.scr_nodes.specs.declared.node.Risk.TheVariants as risks
use Rattle.scr_nodes.specs.Numbers.{direction_place, measure_place, number_of_whole}
use Rattle.scr_nodes.proofs.Apart.{AreApart, member-at}
use Rattle.scr_nodes.proofs.Numbers.{direction-place-most, measure-place-most, number-most}

-- ---- the families in their order: of rows, and from 32 on each figure that every balance sheet has

-- among the losses of liabilities
abbrev pub loss_place : Projection → ℕ
loss_place projections.Base = 0
loss_place projections.Mortality = 0
loss_place projections.Longevity = 1
loss_place projections.Disability = 2
loss_place projections.Expense = 3
loss_place projections.Revision = 4
loss_place projections.LapseUp = 5
loss_place projections.LapseDown = 6
loss_place projections.LapseMass = 7
loss_place projections.Catastrophe = 8

abbrev pub part_of : Node → ℕ
part_of (nodes.Fund name of_funds.Total) = 0
part_of (nodes.Security name of_securities.Total) = 1
part_of (nodes.Security name (of_securities.UnitLoss direction)) = 2 + direction_place direction
part_of (nodes.Security name (of_securities.Rate direction)) = 4 + direction_place direction
part_of (nodes.Liability name (of_liabilities.Rate direction)) = 6 + direction_place direction
part_of (nodes.Liability name of_liabilities.Present) = 8
part_of (nodes.Liability name (of_liabilities.Loss projection)) = 9 + loss_place projection
part_of (nodes.Currency currency (of_currencies.Loss direction)) = 18 + direction_place direction
part_of (nodes.Currency currency (of_currencies.Scenario direction measure)) = 20 + 2 * direction_place direction + measure_place measure
part_of (nodes.Currency currency of_currencies.Choice) = 24
part_of (nodes.Currency currency (of_currencies.Picked measure)) = 25 + measure_place measure
part_of (nodes.Security name of_securities.Spread) = 27
part_of (nodes.Group name of_groups.Total) = 28
part_of (nodes.Whole wholes.Assets) = 29
part_of (nodes.Group name of_groups.ConcentrationSquare) = 30
part_of (nodes.Group name of_groups.Loss) = 31
part_of (nodes.Whole what) = 32 + number_of_whole what

-- ---- none is beyond the last

loss-place-most : (x : Projection) → loss_place x ≤ 8
loss-place-most projections.Base = omega arith
loss-place-most x = omega arith

-- the last part
pub last-part : (node : Node) → part_of node ≤ 185
last-part (nodes.Fund name of_funds.Total) = omega arith
last-part (nodes.Security name of_securities.Total) = omega arith
last-part (nodes.Liability name of_liabilities.Present) = omega arith
last-part (nodes.Currency currency of_currencies.Choice) = omega arith
last-part (nodes.Group name of_groups.Total) = omega arith
last-part (nodes.Whole wholes.Assets) = omega arith
last-part (nodes.Whole what) = let most : number_of_whole what ≤ 153 = number-most what in omega (arith, most)
last-part node = omega (arith, direction-place-most, measure-place-most, loss-place-most)

-- all of one part, and all of this part or a later one
abbrev pub AllAt : ℕ → List Node → Type 0
AllAt part list = AllByRecursion (λ n. part_of n ≡ part) list

abbrev pub AllFrom : ℕ → List Node → Type 0
AllFrom part list = AllByRecursion (λ n. part ≤ part_of n) list

-- no part comes before an earlier one
abbrev pub IsSorted : List Node → Type 0
IsSorted [] = Unit {0}
IsSorted (x ∷ xs) = AllFrom (part_of x) xs × IsSorted xs

pub record IsArranged (part : ℕ) (list : List Node) : Type 0 where
  pub apart : AreApart list
  pub sorted : IsSorted list
  pub from : AllFrom part list

pub arranged-none : (part : ℕ) → IsArranged part []
arranged-none part = record { apart = tt; sorted = tt; from = tt }

later : (part : ℕ) (list : List Node) → AllFrom (suc part) list → AllFrom part list
later part list from = each_weaker (λ n. suc part ≤ part_of n) (λ n. part ≤ part_of n) (λ n h. omega arith) list from

not-later : (part : ℕ) (node : Node) (list : List Node) → part_of node ≡ part → AllFrom (suc part) list
    → IsMember node list → ⊥
not-later part node list own from m =
    let less : suc part ≤ part_of node = at_member (λ n. suc part ≤ part_of n) list node from m in
    omega arith

-- one part, and then later ones
pub arranged-part : (part : ℕ) (xs ys : List Node) → AllAt part xs → AreApart xs → IsArranged (suc part) ys
    → IsArranged part (xs ++ ys)
arranged-part part [] ys own apart rest =
    record { apart = rest.apart; sorted = rest.sorted; from = later part ys rest.from }
arranged-part part (x ∷ xs) ys own apart rest =
    let behind : IsArranged part (xs ++ ys) = arranged-part part xs ys own.1 apart.1 rest in
    record {
      apart = ((λ m. by (IsMember-cases xs ys x m)), behind.apart);
      sorted = (subst (λ p. AllFrom p (xs ++ ys)) (sym own.0) behind.from, behind.sorted);
      from = (subst (λ p. p ≤ part_of x) own.0 (omega arith), behind.from);
    }
  where
    by : IsMember x xs ⊎ IsMember x ys → ⊥
    by (inl m) = apart.0 m
    by (inr m) = not-later part x ys own.0 rest.from m

pub arranged-word : (part : ℕ) (word : Node) (ys : List Node) → part_of word ≡ part → IsArranged (suc part) ys
    → IsArranged part (word ∷ ys)
arranged-word part word ys own rest = arranged-part part (word ∷ []) ys (own, tt) ((λ m. m), tt) rest

-- a node of an earlier part stands at an earlier place
pub sorted-before : (list : List Node) → IsSorted list → (k j : ℕ) (x y : Node) → slice_get list k ≡ Some x
    → slice_get list j ≡ Some y → part_of y < part_of x → j < k
sorted-before [] sorted k j x y first second less = absurd (cc)
sorted-before (z ∷ zs) sorted zero zero x y first second less =
    let one : x ≡ y = cc in
    let same : part_of x ≡ part_of y = ap part_of one in
    absurd (omega arith)
sorted-before (z ∷ zs) sorted zero (suc j) x y first second less =
    let own : z ≡ x = cc in
    let same : part_of z ≡ part_of x = ap part_of own in
    let least : part_of z ≤ part_of y = at_member (λ n. part_of z ≤ part_of n) zs y sorted.0
    (member-at zs j y second) in
    absurd (omega arith)
sorted-before (z ∷ zs) sorted (suc k) zero x y first second less = omega arith
sorted-before (z ∷ zs) sorted (suc k) (suc j) x y first second less =
    let before : j < k = sorted-before zs sorted.1 k j x y first second less in omega arith

-- ---- words, by what their parts tell

pub both : (a b : Bool) → (a && b) ≡ true → (a ≡ true) × (b ≡ true)
both true b h = (refl, h)
both false b h = absurd (cc)

-- each of the part that follows that of the one before it
abbrev pub is_numbered : ℕ → List Node → Bool
is_numbered part [] = true
is_numbered part (x ∷ xs) = (part_of x == part) && is_numbered (suc part) xs

pub arranged-numbered : (part : ℕ) (list : List Node) → is_numbered part list ≡ true → IsArranged part list
arranged-numbered part [] h = arranged-none part
arranged-numbered part (x ∷ xs) h =
    let two = both (part_of x == part) (is_numbered (suc part) xs) h in
    arranged-word part x xs (eqb-true (part_of x) part two.0) (arranged-numbered (suc part) xs two.1)

-- no number stands twice
abbrev pub is_none_of : ℕ → List ℕ → Bool
is_none_of n list = list_all (λ m. not (n == m)) list

abbrev pub differ : List ℕ → Bool
differ [] = true
differ (n ∷ list) = is_none_of n list && differ list

not-member : (x : Node) (xs : List Node) → is_none_of (part_of x) (map part_of xs) ≡ true → IsMember x xs → ⊥
not-member x [] h m = m
not-member x (y ∷ ys) h (inl e) =
    let two = both (not (part_of x == part_of y)) (is_none_of (part_of x) (map part_of ys)) h in
    let same : (part_of x == part_of y) ≡ true = eq-eqb (part_of x) (part_of y) (ap part_of e) in
    let clash : false ≡ true = sym (ap not same) ∙ two.0 in
    absurd (cc)
not-member x (y ∷ ys) h (inr m) =
    not-member x ys (both (not (part_of x == part_of y)) (is_none_of (part_of x) (map part_of ys)) h).1 m

pub apart-by_parts : (list : List Node) → differ (map part_of list) ≡ true → AreApart list
apart-by_parts [] h = tt
apart-by_parts (x ∷ xs) h =
    let two = both (is_none_of (part_of x) (map part_of xs)) (differ (map part_of xs)) h in
    (not-member x xs two.0, apart-by_parts xs two.1)

-- a fund, or of a part above the first
pub fund-or-above : (node : Node) → ((name : List ℕ) × (node ≡ nodes.Fund name of_funds.Total)) ⊎ (0 < part_of node)
fund-or-above (nodes.Fund name of_funds.Total) = inl (name, refl)
fund-or-above (nodes.Security name of_securities.Total) = inr (omega arith)
fund-or-above (nodes.Liability name of_liabilities.Present) = inr (omega arith)
fund-or-above (nodes.Currency currency of_currencies.Choice) = inr (omega arith)
fund-or-above (nodes.Group name of_groups.Total) = inr (omega arith)
fund-or-above (nodes.Whole (wholes.Choice alternatives.Interest)) = inr (omega arith)
fund-or-above (nodes.Whole (wholes.NetPart risks.Equity)) = inr (omega arith)
fund-or-above (nodes.Whole (wholes.BioScenario biometrics.Life projection measure)) = inr (omega arith)
fund-or-above (nodes.Whole (wholes.Segment segments.MotorLiability)) = inr (omega arith)
fund-or-above node = inr (omega arith)
