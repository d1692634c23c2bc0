-- The greatest net requirement, as the code goes.
use Rattle.std.proofs.Common.{◌≡◌, ℕ, ◌+◌, ◌<◌, ◌≤◌, List, [], ◌∷◌, map, fold, length, get_or, drop, refl, sym, ap, ap₂}
use Rattle.std.proofs.Common.{◌∙◌, arith}
use Rattle.std.proofs.lemmas.List.{drop_more, drop_all, length-map, get_or-map}
use Rattle.scr_num.specs.declared.span.Span.{Span}
use Rattle.scr_num.specs.Rounding.{Ends, ends, max_ends, exact_ends}
use Rattle.std.specs.Prelude.{pos}
use Rattle.scr_agg.specs.declared.scenario.Scenario.{Scenario}
use Rattle.scr_agg.specs.Unbeaten.{Alternative, alternatives, chosen_net}
use Rattle.scr_agg.proofs.Alternatives.{length-alternatives, alternative_of}

abbrev pub nets : List Alternative → List Ends
nets list = map (λ (a : Alternative). a.net) list

pub net_start : (list : List Scenario) (d : Scenario) → 1 ≤ length list
    → fold max_ends (ends (get_or list 0 d).net) (drop 1 (nets (alternatives list))) ≡ chosen_net (alternatives list)
net_start [] d some = absurd (omega arith)
net_start (s ∷ rest) d some = refl

net_at : (list : List Scenario) (i : ℕ) (s : Scenario) → i < length list → s ≡ get_or list i s
    → get_or (nets (alternatives list)) i (ends s.net) ≡ ends s.net
net_at list i s lt e =
    get_or-map (λ (a : Alternative). a.net) (alternatives list) i
    (record { gross = exact_ends (pos 0); net = exact_ends (pos 0) }) (ends s.net) (rw length-alternatives lt)
    ∙ ap (λ (a : Alternative). a.net) (alternative_of list i s lt e)

length-nets : (list : List Scenario) → length (nets (alternatives list)) ≡ length list
length-nets list = rw (length-map, length-alternatives) refl

pub net_step : (list : List Scenario) (i : ℕ) (net : Span) (s : Scenario) (next : Span) → i < length list
    → s ≡ get_or list i s → ends next ≡ max_ends (ends net) (ends s.net)
    → fold max_ends (ends next) (drop (i + 1) (nets (alternatives list)))
    ≡ fold max_ends (ends net) (drop i (nets (alternatives list)))
net_step list i net s next lt at e =
    sym (ap (fold max_ends (ends net)) (drop_more (nets (alternatives list)) i (ends s.net) (rw length-nets lt))
    ∙ ap₂ (λ (a : Ends) (b : Ends). fold max_ends (max_ends a b) (drop (i + 1) (nets (alternatives list)))) refl
    (net_at list i s lt at)
    ∙ ap (λ (a : Ends). fold max_ends a (drop (i + 1) (nets (alternatives list)))) (sym e))

pub net_end : (list : List Scenario) (i : ℕ) (net : Span) → length list ≤ i
    → fold max_ends (ends net) (drop i (nets (alternatives list))) ≡ ends net
net_end list i net most = ap (fold max_ends (ends net)) (drop_all i (nets (alternatives list)) (rw length-nets most))
