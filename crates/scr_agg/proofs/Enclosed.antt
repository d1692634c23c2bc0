-- What is chosen of exact requirements that lie within the ends known of them: nothing beats it, and its gross and net
-- requirements lie within those answered.
use Rattle.std.proofs.Common.{◌≡◌, ℕ, zero, suc, ◌<◌, ◌≤◌, ℤ, pos, ◌≤ℤ◌, Bool, true, false, ◌&&◌, ltb, int_lt, inl, inr}
use Rattle.std.proofs.Common.{List, [], ◌∷◌, map, length, get_or, refl, sym, ap, ◌∙◌, arith, lit<}
use Rattle.std.specs.Ordering.{int_eq}
use Rattle.std.proofs.lemmas.Int.{ints}
use Rattle.std.proofs.lemmas.Bool.{false_from_ne_true, true≢false, or_cases, and_parts, le-ltb}
use Rattle.std.proofs.lemmas.List.{length-map, get_or-map}
use Rattle.scr_num.specs.declared.span.Span.{Span}
use Rattle.scr_num.specs.Fraction.{Fraction, ◌≼◌, over, whole}
use Rattle.scr_num.specs.Figure.{Frac, AtMost}
use Rattle.scr_num.specs.Rounding.{Ends, exact_ends}
use Rattle.scr_num.specs.Enclosure.{Encloses}
use Rattle.scr_num.proofs.Fractions.{≼_refl, ≼_trans, over_mono}
use Rattle.scr_num.proofs.Quotients.{times_cancel}
use Rattle.scr_num.proofs.Enclosing.{Encloses-wider}
use Rattle.scr_agg.specs.declared.scenario.Scenario.{Scenario}
use Rattle.scr_agg.specs.Choice.{Outcome, outcome_at, IsChosen, chosen}
use Rattle.scr_agg.specs.Unbeaten.{Alternative, alternatives, alternative_at, are_one, outweighs, beats, is_beaten}
use Rattle.scr_agg.specs.Unbeaten.{unbeaten, EncloseOutcome, EncloseOutcomes, chosen_gross, chosen_net}
use Rattle.scr_agg.proofs.Alternatives.{is_beaten-none, length-alternatives}
use Rattle.scr_agg.proofs.Chosen.{chosen-is}
use Rattle.scr_agg.proofs.Hulls.{hull_covers, some_unbeaten, greatest_above, greatest_below}
use Rattle.scr_agg.proofs.Nets.{nets}

-- ---- exact numbers within ends
pub low_below : (unit : ℕ) (low high : ℤ) (p : Fraction) (h : Encloses unit low high (Frac p))
    → over low unit h.positive ≼ p
unfolding AtMost
low_below unit low high p h = h.at_most

pub high_above : (unit : ℕ) (low high : ℤ) (p : Fraction) (h : Encloses unit low high (Frac p))
    → p ≼ over high unit h.positive
unfolding AtMost
high_above unit low high p h = h.at_least

-- ends of numbers in order cannot be apart the other way round
ordered : (unit : ℕ) (a b : Ends) (p q : Fraction) → Encloses unit a.low a.high (Frac p)
    → Encloses unit b.low b.high (Frac q) → p ≼ q → a.low ≤ℤ b.high
ordered unit a b p q h k order =
    let low = over a.low unit h.positive in
    let high = over b.high unit k.positive in
    let along = ≼_trans low p high (low_below unit a.low a.high p h)
    (≼_trans p q high order (high_above unit b.low b.high q k)) in
    times_cancel a.low b.high unit h.positive along.cross

-- where the high end of one is the low end of the other
touching : (unit : ℕ) (a b : Ends) (p q : Fraction) → Encloses unit a.low a.high (Frac p)
    → Encloses unit b.low b.high (Frac q) → a.high ≡ b.low → p ≼ q
touching unit a b p q h k e =
    let high = over a.high unit h.positive in
    let low = over b.low unit k.positive in
    ≼_trans p high q (high_above unit a.low a.high p h)
    (≼_trans high low q (≼_refl high low e refl) (low_below unit b.low b.high q k))

int_eq-true : (a b : ℤ) → int_eq a b ≡ true → a ≡ b
int_eq-true a b e = grind (arith, ints)

not_above : (a b : ℤ) → int_lt b a ≡ true → a ≤ℤ b → ⊥
not_above a b e h = grind (arith, ints)

-- the first one's high end is the second one's low end
one_number : (a b : Ends) → are_one b a ≡ true → a.high ≡ b.low
one_number a b e =
    let (b_one, rest) = and_parts (int_eq b.low b.high) (int_eq a.low a.high && int_eq b.low a.low) e in
    let (a_one, both) = and_parts (int_eq a.low a.high) (int_eq b.low a.low) rest in
    sym (int_eq-true a.low a.high a_one) ∙ sym (int_eq-true b.low a.low both)

-- ---- nothing beats the one chosen
module _ (unit : ℕ) (a b : Alternative) (o p : Outcome) (in_a : EncloseOutcome unit a o)
    (in_b : EncloseOutcome unit b p) (earlier : Bool)
    (net : o.net ≼ p.net) (gross : p.net ≼ o.net → o.gross ≼ p.gross)
    (first : p.net ≼ o.net → p.gross ≼ o.gross → earlier ≡ false) where
  no_outweighing : p.net ≼ o.net → outweighs earlier a.gross b.gross ≡ true → ⊥
  no_outweighing same e =
      elim (or_cases (int_lt b.gross.high a.gross.low) (are_one a.gross b.gross && earlier) e) [
        | inl above ↦ not_above a.gross.low b.gross.high above
            (ordered unit a.gross b.gross o.gross p.gross in_a.gross in_b.gross (gross same))
        | inr both ↦
            let parts = and_parts (are_one a.gross b.gross) earlier both in
            true≢false
            (sym parts.1
            ∙ first same
            (touching unit b.gross a.gross p.gross o.gross in_b.gross in_a.gross
            (one_number b.gross a.gross parts.0)))
      ]

  no_beating : beats earlier a b ≡ true → ⊥
  no_beating e =
      elim (or_cases (int_lt b.net.high a.net.low) (are_one a.net b.net && outweighs earlier a.gross b.gross) e) [
        | inl above ↦ not_above a.net.low b.net.high above (ordered unit a.net b.net o.net p.net in_a.net in_b.net net)
        | inr both ↦
            let parts = and_parts (are_one a.net b.net) (outweighs earlier a.gross b.gross) both in
            no_outweighing (touching unit b.net a.net p.net o.net in_b.net in_a.net (one_number b.net a.net parts.0))
            parts.1
      ]

pub same_length : (unit : ℕ) (list : List Alternative) (outcomes : List Outcome) → EncloseOutcomes unit list outcomes
    → length list ≡ length outcomes
same_length unit [] [] h = refl
same_length unit (a ∷ list) (o ∷ outcomes) h = ap suc (same_length unit list outcomes h.1)
same_length unit [] (o ∷ outcomes) h = absurd h
same_length unit (a ∷ list) [] h = absurd h

pub enclosed_at : (unit : ℕ) (list : List Alternative) (outcomes : List Outcome) → EncloseOutcomes unit list outcomes
    → (k : ℕ) → k < length list
    → EncloseOutcome unit (alternative_at list k) (outcome_at outcomes k)
enclosed_at unit [] outcomes h k lt = absurd (omega arith)
enclosed_at unit (a ∷ list) [] h k lt = absurd h
enclosed_at unit (a ∷ list) (o ∷ outcomes) h zero lt = h.0
enclosed_at unit (a ∷ list) (o ∷ outcomes) h (suc k) lt = enclosed_at unit list outcomes h.1 k (omega arith)

pub chosen_unbeaten : (unit : ℕ) (list : List Alternative) (outcomes : List Outcome) (place : ℕ)
    → EncloseOutcomes unit list outcomes → IsChosen outcomes place
    → is_beaten list place ≡ false
chosen_unbeaten unit list outcomes place h chosen =
    let count = same_length unit list outcomes h in
    let listed = chosen.listed in
    is_beaten-none list place
    (λ j lt. false_from_ne_true (beats (ltb j place) (alternative_at list j) (alternative_at list place))
    (no_beating unit (alternative_at list j) (alternative_at list place) (outcome_at outcomes j)
    (outcome_at outcomes place)
    (enclosed_at unit list outcomes h j lt) (enclosed_at unit list outcomes h place (omega arith)) (ltb j place)
    (chosen.greatest_net j (omega arith)) (chosen.greatest_gross j (omega arith))
    (λ same both. le-ltb j place (chosen.first j (omega arith) same both))))

-- ---- its gross and its net
pub gross_encloses : (unit : ℕ) (list : List Alternative) (outcomes : List Outcome) (place : ℕ)
    → EncloseOutcomes unit list outcomes → IsChosen outcomes place
    → Encloses unit (chosen_gross list).low (chosen_gross list).high (Frac (outcome_at outcomes place).gross)
gross_encloses unit list outcomes place h chosen =
    let count = same_length unit list outcomes h in
    let listed = chosen.listed in
    let within : place < length list = omega arith in
    let a = (alternative_at list place).gross in
    let wide = chosen_gross list in
    let holds = hull_covers list (length list) place within (chosen_unbeaten unit list outcomes place h chosen) in
    let inside = enclosed_at unit list outcomes h place within in
    Encloses-wider unit a.low wide.low a.high wide.high (Frac (outcome_at outcomes place).gross) holds.low holds.high
    inside.gross

net_below : (unit : ℕ) (list : List Alternative) (outcomes : List Outcome) (place : ℕ) (positive : 0 < unit)
    → EncloseOutcomes unit list outcomes → IsChosen outcomes place
    → (k : ℕ) → k < length list → over (alternative_at list k).net.low unit positive ≼ (outcome_at outcomes place).net
net_below unit list outcomes place positive h chosen k lt =
    let count = same_length unit list outcomes h in
    let inside = enclosed_at unit list outcomes h k lt in
    let a = (alternative_at list k).net in
    let low = over a.low unit positive in
    let mine = over a.low unit inside.net.positive in
    let o = (outcome_at outcomes k).net in
    let p = (outcome_at outcomes place).net in
    ≼_trans low mine p (≼_refl low mine refl refl)
    (≼_trans mine o p (low_below unit a.low a.high o inside.net) (chosen.greatest_net k (omega arith)))

net_at : (list : List Alternative) (k : ℕ) (d : Ends) → k < length list
    → get_or (nets list) k d ≡ (alternative_at list k).net
net_at list k d lt = get_or-map (λ (a : Alternative). a.net) list k
    (record { gross = exact_ends (pos 0); net = exact_ends (pos 0) }) d lt

highest : (a : Alternative) (list : List Alternative) (place : ℕ) → place < length (a ∷ list)
    → (alternative_at (a ∷ list) place).net.high ≤ℤ (chosen_net (a ∷ list)).high
highest a list zero lt = (greatest_above a.net (nets list)).0
highest a list (suc k) lt =
    let there : k < length list = omega arith in
    let d = (alternative_at list k).net in
    rw (← net_at list k d there) ((greatest_above a.net (nets list)).1 k d (rw length-map there))

pub net_encloses : (unit : ℕ) (list : List Alternative) (outcomes : List Outcome) (place : ℕ)
    → EncloseOutcomes unit list outcomes → IsChosen outcomes place
    → Encloses unit (chosen_net list).low (chosen_net list).high (Frac (outcome_at outcomes place).net)
unfolding AtMost
net_encloses unit [] outcomes place h chosen =
    let count = same_length unit [] outcomes h in let listed = chosen.listed in absurd (omega arith)
net_encloses unit (a ∷ list) outcomes place h chosen =
    let count = same_length unit (a ∷ list) outcomes h in
    let listed = chosen.listed in
    let within : place < length (a ∷ list) = omega arith in
    let inside = enclosed_at unit (a ∷ list) outcomes h place within in
    let p = (outcome_at outcomes place).net in
    let top = chosen_net (a ∷ list) in
    let mine = (alternative_at (a ∷ list) place).net in
    record {
      positive = inside.net.positive;
      at_most = greatest_below unit inside.net.positive p a.net (nets list)
          (net_below unit (a ∷ list) outcomes place inside.net.positive h chosen 0 (omega arith))
          (λ k d lt. let there : k < length list = rw length-map at lt in
          rw (net_at list k d there)
          (net_below unit (a ∷ list) outcomes place inside.net.positive h chosen (suc k) (omega arith)));
      at_least = ≼_trans p (over mine.high unit inside.net.positive) (over top.high unit inside.net.positive)
          (high_above unit mine.low mine.high p inside.net)
          (over_mono mine.high top.high unit inside.net.positive inside.net.positive (highest a list place within));
    }

-- ---- nothing beats one of any scenarios
-- the low ends, as exact requirements
lows : List Scenario → List Outcome
lows list = map (λ (s : Scenario). let o : Outcome = record { gross = whole s.gross.low; net = whole s.net.low } in o)
    list

low_within : (span : Span) → Encloses 1 span.low span.high (Frac (whole span.low))
unfolding AtMost
low_within span = record {
  positive = lit< tt;
  at_most = ≼_refl (over span.low 1 (lit< tt)) (whole span.low) refl refl;
  at_least = over_mono span.low span.high 1 (lit< tt) (lit< tt) span.ordered;
}

lows_enclosed : (list : List Scenario) → EncloseOutcomes 1 (alternatives list) (lows list)
unfolding lows
lows_enclosed [] = tt
lows_enclosed (s ∷ list) = (record { gross = low_within s.gross; net = low_within s.net }, lows_enclosed list)

pub one_unbeaten : (list : List Scenario) → 1 ≤ length list → 0 < length (unbeaten (alternatives list))
one_unbeaten list some =
    let count = same_length 1 (alternatives list) (lows list) (lows_enclosed list) in
    let all = length-alternatives list in
    let is = chosen-is (lows list) (omega arith) in
    let listed = is.listed in
    some_unbeaten (alternatives list) (length (alternatives list)) (chosen (lows list)) (omega arith)
    (chosen_unbeaten 1 (alternatives list) (lows list) (chosen (lows list)) (lows_enclosed list) is)
