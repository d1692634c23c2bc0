-- What a rise and a fall cost lies within their ends.
use Rattle.std.proofs.Common.{ℕ, pos, List, [], ◌∷◌, arith, lit<}
use Rattle.std.proofs.lemmas.Int.{ints}
use Rattle.scr_num.specs.Fraction.{Fraction, zero_fraction}
use Rattle.scr_num.specs.Figure.{Frac}
use Rattle.scr_num.specs.Rounding.{Ends}
use Rattle.scr_num.specs.Enclosure.{Encloses}
use Rattle.scr_num.proofs.Enclosing.{Encloses-exact, Encloses-add, Encloses-plus, Encloses-divided}
use Rattle.scr_agg.specs.Unbeaten.{EncloseOutcome, EncloseOutcomes}
use Rattle.scr_agg.proofs.NetAmounts.{Encloses-net}
use Rattle.scr_agg.proofs.ExactAmounts.{Encloses-net_exact}
use Rattle.scr_rate.specs.Interest.{counted, gross_exact, scenario_outcome, interest_outcomes}
use Rattle.scr_num.specs.Sums.{sum_ends}
use Rattle.scr_rate.specs.InterestEnds.{gross_ends, scenario_ends, interest_ends, EncloseLosses}

sum_encloses : (es : List Ends) (losses : List Fraction) → EncloseLosses es losses
    → Encloses 1000000000000000000 (sum_ends es).low (sum_ends es).high (Frac (gross_exact losses))
sum_encloses [] [] h = Encloses-exact 1000000000000000000 (pos 0) zero_fraction (record { positive = lit< tt; equal = omega (arith, ints) })
sum_encloses [] (loss ∷ losses) h = absurd h
sum_encloses (e ∷ es) [] h = absurd h
sum_encloses (e ∷ es) (loss ∷ losses) h =
    let rest = sum_ends es in
    let whole = sum_ends (e ∷ es) in
    Encloses-plus 1000000000000000000 whole.low whole.high (counted loss) (gross_exact losses)
    (Encloses-add 1000000000000000000 e.low e.high rest.low rest.high (Frac (counted loss)) (Frac (gross_exact losses)) h.0 (sum_encloses es losses h.1))

pub gross_encloses : (es : List Ends) (losses : List Fraction) → EncloseLosses es losses
    → Encloses 1000 (gross_ends es).low (gross_ends es).high (Frac (gross_exact losses))
gross_encloses es losses h =
    Encloses-divided 1000 1000000000000000 (sum_ends es) (Frac (gross_exact losses)) (lit< tt) (sum_encloses es losses h)

pub scenario_encloses : (es : List Ends) (losses : List Fraction) (absorb : ℕ) → EncloseLosses es losses → EncloseOutcome 1000 (scenario_ends es absorb) (scenario_outcome losses absorb)
scenario_encloses es losses absorb h = record {
  gross = gross_encloses es losses h;
  net = let e = (scenario_ends es absorb).net in
      Encloses-net_exact 1000 e.low e.high (gross_exact losses) absorb (Encloses-net (gross_ends es) absorb (Frac (gross_exact losses)) (gross_encloses es losses h));
}

pub outcomes_enclosed : (up down : List Ends) (ups downs : List Fraction) (absorb_up absorb_down : ℕ) → EncloseLosses up ups → EncloseLosses down downs
    → EncloseOutcomes 1000 (interest_ends up down absorb_up absorb_down) (interest_outcomes ups downs absorb_up absorb_down)
outcomes_enclosed up down ups downs absorb_up absorb_down h k = (scenario_encloses up ups absorb_up h, (scenario_encloses down downs absorb_down k, tt))
