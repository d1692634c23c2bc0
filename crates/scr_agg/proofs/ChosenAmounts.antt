-- What is left of an amount, and the amount chosen among several, are amounts.
use Rattle.std.proofs.Common.{ℕ, zero, suc, ◌*◌, List, [], ◌∷◌, map, fold, pos, ◌≤ℤ◌, arith}
use Rattle.std.specs.List.{AllByRecursion}
use Rattle.std.proofs.lemmas.Int.{ints}
use Rattle.scr_num.specs.Rounding.{Ends, exact_ends, sub_ends, hull_ends, max_ends}
use Rattle.scr_num.specs.Fraction.{Fraction, zero_fraction, greater}
use Rattle.scr_num.specs.Figure.{Frac}
use Rattle.scr_num.specs.Enclosure.{Encloses}
use Rattle.scr_num.specs.Amounts.{IsAmount}
use Rattle.scr_num.proofs.AmountBounds.{amount-exact, amount-hull, amount-max, amount-cut}
use Rattle.scr_num.proofs.SumLemmas.{Encloses-cut_last}
use Rattle.scr_agg.specs.Absorbed.{net_ends, net_exact}
use Rattle.scr_agg.specs.Unbeaten.{Alternative, alternative_at, unbeaten, hull_of, greatest_of, chosen_gross}
use Rattle.scr_agg.specs.Unbeaten.{chosen_net}
use Rattle.scr_agg.proofs.NetAmounts.{Encloses-net}
use Rattle.scr_agg.proofs.ExactAmounts.{Encloses-greater, Encloses-net_exact}

pub amount-net : (most : ℕ) (gross : Ends) (absorb : ℕ) → gross.low ≤ℤ gross.high → gross.high ≤ℤ pos most
    → IsAmount most (net_ends gross absorb)
amount-net most gross absorb order high =
    amount-cut most (sub_ends gross (exact_ends (pos (1000 * absorb)))) (omega (arith, ints)) (omega (arith, ints))

pub Encloses-left : (gross : Ends) (absorb : ℕ) (p : Fraction) → Encloses 1000 gross.low gross.high (Frac p)
    → Encloses 1000 (net_ends gross absorb).low (net_ends gross absorb).high (Frac (net_exact p absorb))
Encloses-left gross absorb p h =
    let e = net_ends gross absorb in
    Encloses-net_exact 1000 e.low e.high p absorb (Encloses-net gross absorb (Frac p) h)

pub Encloses-counted : (unit : ℕ) (e : Ends) (p : Fraction) → Encloses unit e.low e.high (Frac p)
    → let cut = max_ends e (exact_ends (pos 0)) in Encloses unit cut.low cut.high (Frac (greater p zero_fraction))
Encloses-counted unit e p h =
    let cut = max_ends e (exact_ends (pos 0)) in
    Encloses-greater unit cut.low cut.high p zero_fraction (Encloses-cut_last unit e (Frac p) h)

-- ---- the choice
hull-amount : (most : ℕ) (e : Ends) (es : List Ends) → IsAmount most e → AllByRecursion (IsAmount most) es
    → IsAmount most (fold hull_ends e es)
hull-amount most e [] h all = h
hull-amount most e (next ∷ es) h all = hull-amount most (hull_ends e next) es (amount-hull most e next h all.0) all.1

hull_of-amount : (most : ℕ) (es : List Ends) → AllByRecursion (IsAmount most) es → IsAmount most (hull_of es)
hull_of-amount most [] all = amount-exact most 0 (omega arith)
hull_of-amount most (e ∷ es) all = hull-amount most e es all.0 all.1

greatest-amount : (most : ℕ) (e : Ends) (es : List Ends) → IsAmount most e → AllByRecursion (IsAmount most) es
    → IsAmount most (fold max_ends e es)
greatest-amount most e [] h all = h
greatest-amount most e (next ∷ es) h all =
    greatest-amount most (max_ends e next) es (amount-max most e next h all.0) all.1

greatest_of-amount : (most : ℕ) (es : List Ends) → AllByRecursion (IsAmount most) es → IsAmount most (greatest_of es)
greatest_of-amount most [] all = amount-exact most 0 (omega arith)
greatest_of-amount most (e ∷ es) all = greatest-amount most e es all.0 all.1

at_place : (most : ℕ) (list : List Alternative) (k : ℕ) → AllByRecursion (λ a. IsAmount most a.gross) list
    → IsAmount most (alternative_at list k).gross
at_place most [] k all = amount-exact most 0 (omega arith)
at_place most (a ∷ rest) zero all = all.0
at_place most (a ∷ rest) (suc k) all = at_place most rest k all.1

at_places : (most : ℕ) (list : List Alternative) (places : List ℕ) → AllByRecursion (λ a. IsAmount most a.gross) list
    → AllByRecursion (IsAmount most) (map (λ k. (alternative_at list k).gross) places)
at_places most list [] all = tt
at_places most list (k ∷ places) all = (at_place most list k all, at_places most list places all)

pub amount-chosen_gross : (most : ℕ) (list : List Alternative) → AllByRecursion (λ a. IsAmount most a.gross) list
    → IsAmount most (chosen_gross list)
amount-chosen_gross most list all = hull_of-amount most _ (at_places most list (unbeaten list) all)

nets_of : (most : ℕ) (list : List Alternative) → AllByRecursion (λ a. IsAmount most a.net) list
    → AllByRecursion (IsAmount most) (map (λ (a : Alternative). a.net) list)
nets_of most [] all = tt
nets_of most (a ∷ rest) all = (all.0, nets_of most rest all.1)

pub amount-chosen_net : (most : ℕ) (list : List Alternative) → AllByRecursion (λ a. IsAmount most a.net) list
    → IsAmount most (chosen_net list)
amount-chosen_net most list all = greatest_of-amount most _ (nets_of most list all)
